use Rattle.std.proofs.Common.{◌≡◌, ℕ, List, map, refl, sym, ap, subst, ◌∙◌, arith}
use Rattle.lg_shape.specs.Shapes.{whole}
use Rattle.lg_tile.specs.Tiles.{dtype_of, numbers, rect_of}
use Rattle.lg_map.specs.declared.operation.MapOp.TheVariants as ops
use Rattle.lg_elem.specs.Operations.{unary_of}
use Rattle.lg_shape.specs.Shapes.{size_of}
use Rattle.lg_meaning.specs.Static.{right_of}
use Rattle.lg_meaning.specs.Operators.{unary_static, unary_value}
use Rattle.lg_operations.specs.Operations.{operand_static, operand_value}
use Rattle.lg_operations.specs.Lending.{Evaluates, SpreadsTo, Takes, spread_at, operand_in}
use Rattle.lg_operations.proofs.Joins.{same_spreads}
use Rattle.lg_operations.proofs.Lendings.{operand_full}
use Rattle.lg_operations.proofs.Statics.{unary_ok, fits_alone, kind_with}
use Rattle.lg_operations.proofs.Spreadings.{inputs_of, nothing, nothing_over, reads, unary_same, spread_self}
use Rattle.lg_operations.proofs.Made.{array_made, value_of_parts}
use Rattle.lg_operations.proofs.elementwise.unary.Goals as goal

pub lend-first-requires-clause-spreads : goal.lend-first-requires-clause-spreads
lend-first-requires-clause-spreads c =
    let ok = unary_ok c.args.op (operand_static c.args.a.now) c.in_ok-t.t c.in_ok-t.shape c.in_ok-t.ensures in subst (λ s. SpreadsTo s c.in_ok-t.shape) (sym ok.same) (same_spreads c.in_ok-t.shape)

pub evaluate-requires-clause-small : goal.evaluate-requires-clause-small
evaluate-requires-clause-small c = omega (arith, (unary_ok c.args.op (operand_static c.args.a.now) c.in_ok-t.t c.in_ok-t.shape c.in_ok-t.ensures).small)

pub evaluate-requires-clause-lent : goal.evaluate-requires-clause-lent
evaluate-requires-clause-lent c = record {
  first = c.lend-first.ensures.lends.over;
  second = nothing_over (whole c.in_ok-t.shape);
  third = nothing_over (whole c.in_ok-t.shape);
}

pub evaluate-requires-clause-takes : goal.evaluate-requires-clause-takes
evaluate-requires-clause-takes c =
    let x = c.lend-first.result in
    let rect = whole c.in_ok-t.shape in
    let inputs = inputs_of x nothing nothing in
    let same : ops.Unary c.args.op (operand_in x 0) ≡ ops.Unary c.args.op c.operand.result = λ i. ops.Unary c.args.op (sym c.operand.ensures i) in
    subst (λ op. Takes op inputs rect c.in_ok-t.t) same (reads inputs rect x 0 refl c.lend-first.ensures.lends.over).is

pub returns : goal.returns
returns c =
    let ok = unary_ok c.args.op (operand_static c.args.a.now) c.in_ok-t.t c.in_ok-t.shape c.in_ok-t.ensures in
    let t = c.in_ok-t.t in
    let shape = c.in_ok-t.shape in
    let x = c.lend-first.result in
    let a = operand_value c.args.a.now in
    let inputs = inputs_of x nothing nothing in
    let fits_a = λ (index : List ℕ). fits_alone (operand_static c.args.a.now) t (spread_at a index) ok.alone ok.fitting (c.lend-first.ensures.fits index) in
    let lends_x = c.lend-first.ensures.lends in
    let reads_x = reads inputs (whole shape) x 0 refl lends_x.over in
    let same : ops.Unary c.args.op c.operand.result ≡ ops.Unary c.args.op (operand_in x 0) = λ i. ops.Unary c.args.op (c.operand.ensures i) in
    let given = subst (λ op. Evaluates op t inputs (whole shape) (c.in_ok-tile.tile, c.in_ok-tile.field-0-1)) same c.in_ok-tile.ensures in
    let f = c.result_of.result in
    let self = operand_full c.args.a.now c.requires.ready in
    let values : numbers f.tile ≡ (unary_value c.args.op a (kind_with t shape (right_of shape))).numbers =
    ap numbers c.result_of.ensures.tile ∙ given.2 ∙ unary_same inputs shape t a x lends_x reads_x c.args.op fits_a
    ∙ ap (map (unary_of c.args.op t)) (spread_self a shape (self.0 ∙ ok.same) (self.1 ∙ ap size_of ok.same)) in
    array_made (unary_static c.args.op (operand_static c.args.a.now)) (unary_value c.args.op a) f t shape (right_of shape) c.in_ok-t.ensures
    (ap dtype_of c.result_of.ensures.tile ∙ given.0) (ap rect_of c.result_of.ensures.tile ∙ given.1) c.result_of.ensures.right
    (λ i. value_of_parts shape (values i) ((c.result_of.ensures.fault ∙ c.fault.ensures) i))
