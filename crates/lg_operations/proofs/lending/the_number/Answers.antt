use Rattle.std.proofs.Common.{◌≡◌, pos, get_or, sym, ap, ◌∙◌, arith}
use Rattle.std.proofs.lemmas.Option.{get_or_from_slice_get}
use Rattle.lg_space.specs.Rectangle.{volume_of, place_in}
use Rattle.lg_shape.specs.Shapes.{size_of, place_of}
use Rattle.lg_tile.specs.Tiles.{dtype_of, numbers}
use Rattle.lg_xform.specs.Chains.{root_of, shape_of, layout_of}
use Rattle.lg_operations.proofs.Spreads.{one_element}
use Rattle.lg_operations.proofs.Lendings.{kept, number_constant}
use Rattle.lg_operations.proofs.lending.the_number.Goals as goal

pub whole-requires : goal.whole-requires
whole-requires c = omega (arith, one_element (shape_of c.args.chain.now) c.requires.one, ap size_of c.shape.ensures.value)

pub unravel-first-requires : goal.unravel-first-requires
unravel-first-requires c =
    omega (arith, one_element (shape_of c.args.chain.now) c.requires.one, ap size_of c.shape.ensures.value, ap volume_of c.whole.ensures)

pub returns-clause-value : goal.returns-clause-value
returns-clause-value c =
    let chain = c.args.chain.now in
    let tile = c.args.tile.now in
    let first = c.unravel-first.result in
    let place = place_of (root_of chain) c.map_point.result in
    let zero : place_of (shape_of chain) first ≡ 0 =
    ap (λ s. place_of s first) (sym c.shape.ensures.value) ∙ ap (λ r. place_in r first) (sym c.whole.ensures) ∙ c.unravel-first.ensures.value in
    let lies : get_or (layout_of chain).places 0 0 ≡ place =
    ap (λ k. get_or (layout_of chain).places k 0) (sym zero) ∙ get_or_from_slice_get (layout_of chain).places (place_of (shape_of chain) first) place 0 c.map_point.ensures.place in
    kept c.at.result (number_constant (dtype_of tile) c.at.result c.at.ensures.fits)
    ∙ sym (ap (λ k. get_or (numbers tile) k (pos 0)) lies ∙ ap (λ r. get_or (numbers tile) (place_in r c.map_point.result) (pos 0)) (sym c.requires.root)
    ∙ get_or_from_slice_get (numbers tile) _ c.at.result (pos 0) c.at.ensures.value)
