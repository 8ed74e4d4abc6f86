use Rattle.std.proofs.Common.{◌≡◌, rules, sym, ap, subst, ◌∙◌, arith}
use Rattle.std.specs.List.{All}
use Rattle.std.proofs.lemmas.Slice.Eq.{slice_eq-Decides}
use Rattle.std.proofs.lemmas.Bool.Decides.{Decides-eqb}
use Rattle.lg_space.specs.Rectangle.{IsIn, volume_of}
use Rattle.lg_shape.specs.Shapes.{whole}
use Rattle.lg_tile.specs.Tiles.{dtype_of, rect_of}
use Rattle.lg_xform.specs.Chains.{shape_of}
use Rattle.lg_map.specs.Mapping.{IsConstant}
use Rattle.lg_operations.proofs.Lendings.{kept, number_constant, seen_fits, whole_spread, one_spread, repeated_spread}
use Rattle.lg_operations.proofs.lending.lend_view.Goals as goal

pub is_whole-requires : goal.is_whole-requires
is_whole-requires c = omega (arith, c.ranges-limits.ensures.storable.volume, ap volume_of c.rect.ensures.value, ap volume_of c.requires.root)

pub returns-then-is_whole-clause-lends : goal.returns-then-is_whole-clause-lends
returns-then-is_whole-clause-lends c =
    let chain = c.args.chain.now in
    let tile = c.args.tile.now in
    let same : shape_of chain ≡ c.args.shape.now =
    sym c.shape-own.ensures.value ∙ sym c.extents.ensures.value ∙ (slice_eq-Decides Decides-eqb _ _ _ c.eq.ensures).0 c.if-eq.true ∙ c.extents-2.ensures.value in
    let is = c.is_whole.ensures (search rules) in
    let rect : rect_of tile ≡ whole c.args.shape.now = c.requires.root ∙ ap whole (sym (ap (λ l. l.shape) is) ∙ same) in
    record {
      over = λ index inside. subst (λ r. IsIn r index) (sym rect) inside;
      same = λ index inside. whole_spread tile chain index c.requires.root is (subst (λ s. IsIn (whole s) index) (sym same) inside);
    }

pub returns-then-is_whole-clause-fits : goal.returns-then-is_whole-clause-fits
returns-then-is_whole-clause-fits c = seen_fits c.args.tile.now c.args.chain.now c.numbers_fit.ensures

pub the_number-requires-clause-one : goal.the_number-requires-clause-one
the_number-requires-clause-one c = subst (All (λ extent. extent ≡ 1)) c.shape-own.ensures.value (c.is_one.ensures.0 (search rules))

pub returns-then-is_one-clause-lends : goal.returns-then-is_one-clause-lends
returns-then-is_one-clause-lends c =
    let ones : All (λ extent. extent ≡ 1) (shape_of c.args.chain.now) = subst (All (λ extent. extent ≡ 1)) c.shape-own.ensures.value (c.is_one.ensures.0 (search rules)) in
    let constant = number_constant (dtype_of c.args.tile.now) c.the_number.result c.the_number.ensures.fits in
    let same = kept c.the_number.result constant in
    record {
      over = subst IsConstant (sym same) constant;
      same = λ index inside. same ∙ c.the_number.ensures.value ∙ one_spread c.args.tile.now c.args.chain.now index ones;
    }

pub returns-then-is_one-clause-fits : goal.returns-then-is_one-clause-fits
returns-then-is_one-clause-fits c = seen_fits c.args.tile.now c.args.chain.now c.numbers_fit.ensures

pub returns-clause-lends : goal.returns-clause-lends
returns-clause-lends c =
    let e = c.broadcast.ensures in
    record {
      over = (c.requires.root ∙ ap whole (sym e.root), λ index inside. subst (λ s. IsIn (whole s) index) (sym e.shape) inside);
      same = λ index inside. repeated_spread c.args.tile.now c.args.chain.now c.broadcast.result c.args.shape.now index c.requires.spreads e.layout inside;
    }

pub returns-clause-fits : goal.returns-clause-fits
returns-clause-fits c = seen_fits c.args.tile.now c.args.chain.now c.numbers_fit.ensures
