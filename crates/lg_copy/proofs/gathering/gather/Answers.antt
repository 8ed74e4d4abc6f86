use Rattle.std.proofs.Common.{◌≡◌, ℕ, List, Some, slice_get, subst, sym, ap, ◌∙◌}
use Rattle.std.proofs.lemmas.Result.{IfOk-weaker}
use Rattle.std.proofs.lemmas.Option.{slice_get_within}
use Rattle.lg_space.specs.Rectangle.{IsIn}
use Rattle.lg_tile.specs.declared.any_tile.AnyTile.{AnyTile}
use Rattle.lg_tile.specs.Tiles.{number_at, rect_of}
use Rattle.lg_xform.specs.Chains.{mapped}
use Rattle.lg_copy.proofs.Shares.{same_part}
use Rattle.lg_copy.proofs.gathering.gather.Goals as goal

pub returns-in-Some-clause-numbers : goal.returns-in-Some-clause-numbers
returns-in-Some-clause-numbers c =
    let parts = c.args.parts.now in
    let chain = c.args.chain.now in
    let rect = c.args.rect.now in
    let holder = c.in-Some.part.now in
    IfOk-weaker c.gather_from.result (λ out. (index : List ℕ) → IsIn rect index → number_at out index ≡ number_at holder (mapped chain index))
    (λ out. (index : List ℕ) (k : ℕ) (part : AnyTile) → IsIn rect index → slice_get parts k ≡ Some part → IsIn (rect_of part) (mapped chain index) → number_at out index ≡ number_at part (mapped chain index))
    (λ out has index k part inside at in_part. has index inside
    ∙ ap (λ p. number_at p (mapped chain index))
    (same_part parts c.in-Some.ensures.part.0 k holder part (mapped chain index) c.requires.disjoint c.in-Some.ensures.part.1 at (c.in-Some.ensures.holds (mapped chain index) (c.footprint-footprint.ensures.holds index inside)) in_part))
    c.gather_from.ensures.numbers

pub returns-clause-numbers : goal.returns-clause-numbers
returns-clause-numbers c =
    let parts = c.args.parts.now in
    let chain = c.args.chain.now in
    let rect = c.args.rect.now in
    let joined = c.in_ok-joined.joined in
    IfOk-weaker c.gather_from-2.result (λ out. (index : List ℕ) → IsIn rect index → number_at out index ≡ number_at joined (mapped chain index))
    (λ out. (index : List ℕ) (k : ℕ) (part : AnyTile) → IsIn rect index → slice_get parts k ≡ Some part → IsIn (rect_of part) (mapped chain index) → number_at out index ≡ number_at part (mapped chain index))
    (λ out has index k part inside at in_part. has index inside
    ∙ c.in_ok-joined.ensures.numbers k part (mapped chain index) (slice_get_within parts k part at) at
    (subst (λ r. IsIn r (mapped chain index)) (sym c.in_ok-joined.ensures.rect) (c.footprint-footprint.ensures.holds index inside)) in_part)
    c.gather_from-2.ensures.numbers
