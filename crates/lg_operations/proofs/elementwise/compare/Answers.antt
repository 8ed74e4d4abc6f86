use Rattle.std.proofs.Common.{◌≡◌, refl, sym, ap, subst, ◌∙◌, arith}
use Rattle.lg_shape.specs.Shapes.{whole}
use Rattle.lg_tile.specs.Tiles.{dtype_of, numbers, rect_of}
use Rattle.lg_map.specs.declared.operation.MapOp.TheVariants as ops
use Rattle.lg_meaning.specs.Static.{right_of}
use Rattle.lg_meaning.specs.Operators.{compare_static, compare_value}
use Rattle.lg_operations.specs.Operations.{operand_static, operand_value}
use Rattle.lg_operations.specs.Lending.{Evaluates, Takes, operand_in}
use Rattle.lg_operations.proofs.Statics.{compare_ok, kind_with}
use Rattle.lg_operations.proofs.Spreadings.{inputs_of, nothing, nothing_over, reads, compare_same}
use Rattle.lg_operations.proofs.Made.{array_made, value_of_parts, fault_of_two}
use Rattle.lg_operations.proofs.elementwise.compare.Goals as goal

pub lend-first-requires-clause-spreads : goal.lend-first-requires-clause-spreads
lend-first-requires-clause-spreads c = (compare_ok c.args.op (operand_static c.args.a.now) (operand_static c.args.b.now) c.in_ok-t.t c.in_ok-t.shape c.in_ok-t.ensures).spreads_a

pub lend-second-requires-clause-spreads : goal.lend-second-requires-clause-spreads
lend-second-requires-clause-spreads c = (compare_ok c.args.op (operand_static c.args.a.now) (operand_static c.args.b.now) c.in_ok-t.t c.in_ok-t.shape c.in_ok-t.ensures).spreads_b

pub evaluate-requires-clause-small : goal.evaluate-requires-clause-small
evaluate-requires-clause-small c = omega (arith, (compare_ok c.args.op (operand_static c.args.a.now) (operand_static c.args.b.now) c.in_ok-t.t c.in_ok-t.shape c.in_ok-t.ensures).small)

pub evaluate-requires-clause-lent : goal.evaluate-requires-clause-lent
evaluate-requires-clause-lent c = record {
  first = c.lend-first.ensures.lends.over;
  second = c.lend-second.ensures.lends.over;
  third = nothing_over (whole c.in_ok-t.shape);
}

pub evaluate-requires-clause-takes : goal.evaluate-requires-clause-takes
evaluate-requires-clause-takes c =
    let ok = compare_ok c.args.op (operand_static c.args.a.now) (operand_static c.args.b.now) c.in_ok-t.t c.in_ok-t.shape c.in_ok-t.ensures in
    let x = c.lend-first.result in
    let y = c.lend-second.result in
    let rect = whole c.in_ok-t.shape in
    let inputs = inputs_of x y nothing in
    let same : ops.Compare c.args.op (operand_in x 0) (operand_in y 1) ≡ ops.Compare c.args.op c.operand.result c.operand-2.result = λ i. ops.Compare c.args.op (sym c.operand.ensures i) (sym c.operand-2.ensures i) in
    subst (λ op. Takes op inputs rect c.in_ok-t.t) same
    (ok.truths, (reads inputs rect x 0 refl c.lend-first.ensures.lends.over).is, (reads inputs rect y 1 refl c.lend-second.ensures.lends.over).is)

pub returns : goal.returns
returns c =
    let t = c.in_ok-t.t in
    let shape = c.in_ok-t.shape in
    let x = c.lend-first.result in
    let y = c.lend-second.result in
    let a = operand_value c.args.a.now in
    let b = operand_value c.args.b.now in
    let inputs = inputs_of x y nothing in
    let lends_x = c.lend-first.ensures.lends in
    let lends_y = c.lend-second.ensures.lends in
    let reads_x = reads inputs (whole shape) x 0 refl lends_x.over in
    let reads_y = reads inputs (whole shape) y 1 refl lends_y.over in
    let same : ops.Compare c.args.op c.operand.result c.operand-2.result ≡ ops.Compare c.args.op (operand_in x 0) (operand_in y 1) = λ i. ops.Compare c.args.op (c.operand.ensures i) (c.operand-2.ensures i) in
    let given = subst (λ op. Evaluates op t inputs (whole shape) (c.in_ok-tile.tile, c.in_ok-tile.field-0-1)) same c.in_ok-tile.ensures in
    let f = c.result_of.result in
    let values : numbers f.tile ≡ (compare_value c.args.op a b (kind_with t shape (right_of shape))).numbers =
    ap numbers c.result_of.ensures.tile ∙ given.2 ∙ compare_same inputs shape t a b x y lends_x lends_y reads_x reads_y c.args.op in
    let faults : f.fault ≡ (compare_value c.args.op a b (kind_with t shape (right_of shape))).fault =
    c.result_of.ensures.fault ∙ c.first_fault.ensures ∙ fault_of_two a.fault b.fault in
    array_made (compare_static c.args.op (operand_static c.args.a.now) (operand_static c.args.b.now)) (compare_value c.args.op a b) f t shape (right_of shape) c.in_ok-t.ensures
    (ap dtype_of c.result_of.ensures.tile ∙ given.0) (ap rect_of c.result_of.ensures.tile ∙ given.1) c.result_of.ensures.right (λ i. value_of_parts shape (values i) (faults i))
