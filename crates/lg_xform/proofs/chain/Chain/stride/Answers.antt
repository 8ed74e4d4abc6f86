use Rattle.std.proofs.Common.{◌≡◌, ℕ, ◌+◌, ◌-◌, ◌<◌, List, length, get_or, set, sym, ap, subst, ◌∙◌, arith, rules}
use Rattle.std.proofs.lemmas.Int.{ints}
use Rattle.std.proofs.lemmas.Option.{get_or_from_slice_get}
use Rattle.lg_space.specs.Rectangle.{IsIn, place_in}
use Rattle.lg_shape.specs.Shapes.{whole}
use Rattle.lg_xform.specs.Chains.{shape_of, mapped}
use Rattle.lg_xform.specs.Copies.{next_of}
use Rattle.lg_xform.proofs.Corners.{range_some}
use Rattle.lg_xform.proofs.Linear.{next_there}
use Rattle.lg_xform.proofs.chain.Chain.stride.Goals as goal

pub overflow_sub-end : goal.overflow_sub-end
overflow_sub-end c =
    let some = range_some c.args.rect.now c.args.axis c.range-low.result c.requires.some c.requires.axis in
    let range = get_or_from_slice_get c.args.rect.now c.args.axis c.range-low.result c.range-low.result c.range-low.ensures in
    let there = subst (λ (r : ℕ × ℕ). r.0 < r.1) range some in
    omega (arith, there)

pub place_in_tile-requires-clause-within : goal.place_in_tile-requires-clause-within
place_in_tile-requires-clause-within c =
    let self = c.args.self.now in
    let rect = c.args.rect.now in
    let wide : length self.from ≡ 4 = search rules in
    let range = sym (get_or_from_slice_get rect c.args.axis c.range-low.result (0, 0) c.range-low.ensures) in
    let more = subst (λ (r : ℕ × ℕ). 1 < r.1 - r.0) range c.if-end-low-le1.false in
    let next : c.next_along-next.result ≡ next_of rect c.args.axis = c.next_along-next.ensures ∙ ap (λ (l : List ℕ). set l c.args.axis (get_or l c.args.axis 0 + 1)) c.first_index.ensures.value in
    subst (IsIn (whole (shape_of self))) (sym next)
    (c.requires.within (next_of rect c.args.axis) (next_there self c.args.tile.now rect wide c.requires.within c.requires.held c.requires.some c.args.axis c.requires.axis more))

pub place_in_tile-requires-clause-held : goal.place_in_tile-requires-clause-held
place_in_tile-requires-clause-held c =
    let self = c.args.self.now in
    let rect = c.args.rect.now in
    let wide : length self.from ≡ 4 = search rules in
    let range = sym (get_or_from_slice_get rect c.args.axis c.range-low.result (0, 0) c.range-low.ensures) in
    let more = subst (λ (r : ℕ × ℕ). 1 < r.1 - r.0) range c.if-end-low-le1.false in
    let next : c.next_along-next.result ≡ next_of rect c.args.axis = c.next_along-next.ensures ∙ ap (λ (l : List ℕ). set l c.args.axis (get_or l c.args.axis 0 + 1)) c.first_index.ensures.value in
    subst (λ (i : List ℕ). IsIn c.args.tile.now (mapped self i)) (sym next)
    (c.requires.held (next_of rect c.args.axis) (next_there self c.args.tile.now rect wide c.requires.within c.requires.held c.requires.some c.args.axis c.requires.axis more))

pub returns : goal.returns
returns c =
    let self = c.args.self.now in
    let rect = c.args.rect.now in
    let tile = c.args.tile.now in
    let range = sym (get_or_from_slice_get rect c.args.axis c.range-low.result (0, 0) c.range-low.ensures) in
    let more = subst (λ (r : ℕ × ℕ). 1 < r.1 - r.0) range c.if-end-low-le1.false in
    let next : c.next_along-next.result ≡ next_of rect c.args.axis = c.next_along-next.ensures ∙ ap (λ (l : List ℕ). set l c.args.axis (get_or l c.args.axis 0 + 1)) c.first_index.ensures.value in
    let there : c.place_in_tile.result ≡ place_in tile (mapped self (next_of rect c.args.axis)) = c.place_in_tile.ensures.value ∙ ap (λ (i : List ℕ). place_in tile (mapped self i)) next in
    let small = c.place_in_tile.ensures.small in
    record {
      next = λ wide. omega (arith, ints, there, small, c.requires.base, c.requires.small);
      still = λ narrow. absurd (omega (arith, more));
    }
