use Rattle.std.proofs.Common.{◌≡◌, ℕ, List, pos, ◌+ℤ◌, length, sym, ap, subst, ◌∙◌, arith, rules}
use Rattle.lg_space.specs.Rectangle.{IsIn, place_in}
use Rattle.lg_shape.specs.Shapes.{whole}
use Rattle.lg_xform.specs.Chains.{shape_of, mapped}
use Rattle.lg_xform.specs.Copies.{along, first_of}
use Rattle.lg_xform.proofs.Linear.{first_there, places_along}
use Rattle.lg_xform.proofs.chain.Chain.strides.Goals as goal

pub place_in_tile-base-requires-clause-within : goal.place_in_tile-base-requires-clause-within
place_in_tile-base-requires-clause-within c =
    let self = c.args.self.now in
    let rect = c.args.rect.now in
    let wide : length self.from ≡ 4 = search rules in
    subst (IsIn (whole (shape_of self))) (sym c.first_index.ensures.value)
    (c.requires.within (first_of rect) (first_there self c.args.tile.now rect wide c.requires.within c.requires.held c.requires.some))

pub place_in_tile-base-requires-clause-held : goal.place_in_tile-base-requires-clause-held
place_in_tile-base-requires-clause-held c =
    let self = c.args.self.now in
    let rect = c.args.rect.now in
    let wide : length self.from ≡ 4 = search rules in
    subst (λ (i : List ℕ). IsIn c.args.tile.now (mapped self i)) (sym c.first_index.ensures.value)
    (c.requires.held (first_of rect) (first_there self c.args.tile.now rect wide c.requires.within c.requires.held c.requires.some))

pub returns-clause-places : goal.returns-clause-places
returns-clause-places c = λ index h.
    let self = c.args.self.now in
    let rect = c.args.rect.now in
    let tile = c.args.tile.now in
    let wide : length self.from ≡ 4 = search rules in
    let axes : c.axes-axis-end.result ≡ length rect = c.axes-axis-end.ensures in
    let base : c.place_in_tile-base.result ≡ place_in tile (mapped self (first_of rect)) =
    c.place_in_tile-base.ensures.value ∙ ap (λ (i : List ℕ). place_in tile (mapped self i)) c.first_index.ensures.value in
    places_along self tile rect wide c.requires.within c.requires.held c.requires.some c.loop-axis.axes
    (omega (arith, axes, c.first_index.ensures.storable.axes, c.loop-axis.invariant.room))
    (λ axis lt. c.loop-axis.invariant.so_far axis (omega (arith, lt, axes, c.loop-axis-test.false))) index h
    ∙ ap (λ b. pos b +ℤ along c.loop-axis.axes rect index) (sym base)
