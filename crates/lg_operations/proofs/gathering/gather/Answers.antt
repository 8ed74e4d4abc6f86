use Rattle.std.proofs.Common.{◌≡◌, ℕ, List, subst, ap, ◌∙◌, arith, rules}
use Rattle.lg_space.specs.Rectangle.{IsIn, volume_of}
use Rattle.lg_shape.specs.Shapes.{whole}
use Rattle.lg_tile.specs.Tiles.{number_at}
use Rattle.lg_operations.specs.Gathering.{seen_at}
use Rattle.lg_operations.proofs.Windows.{whole_copied, whole_numbers, whole_rect, if_ok_both, if_ok_one}
use Rattle.lg_operations.proofs.gathering.gather.Goals as goal

pub returns-clause-numbers : goal.returns-clause-numbers
returns-clause-numbers c =
    let chain = c.args.chain.now in
    let all = c.whole-all.ensures ∙ ap whole c.shape.ensures.value in
    if_ok_both c.gather_part.result _ _ _ (λ out rect same. whole_numbers c.args.tile.now out chain (rect ∙ all)
    (subst (λ r. (index : List ℕ) → IsIn r index → number_at out index ≡ seen_at c.args.tile.now chain index) all same))
    c.gather_part.ensures.rect c.gather_part.ensures.numbers

pub is_whole-requires : goal.is_whole-requires
is_whole-requires c = omega (arith, c.ranges-limits.ensures.storable.volume, ap volume_of c.rect.ensures.value, ap volume_of c.requires.root)

pub returns-then-is_whole-clause-rect : goal.returns-then-is_whole-clause-rect
returns-then-is_whole-clause-rect c =
    let is = c.is_whole.ensures (search rules) in
    if_ok_one c.copied.result _ _ (λ out rect. whole_rect c.args.tile.now out c.args.chain.now c.requires.root is rect) c.copied.ensures.rect

pub returns-then-is_whole-clause-numbers : goal.returns-then-is_whole-clause-numbers
returns-then-is_whole-clause-numbers c =
    let is = c.is_whole.ensures (search rules) in
    if_ok_one c.copied.result _ _ (λ out same. whole_copied c.args.tile.now out c.args.chain.now c.requires.root is same) c.copied.ensures.numbers
