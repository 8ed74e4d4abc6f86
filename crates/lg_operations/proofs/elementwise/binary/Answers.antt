use Rattle.std.proofs.Common.{◌≡◌, ℕ, List, [], ◌∷◌, refl, sym, ap, subst, ◌∙◌, arith}
use Rattle.lg_shape.specs.Shapes.{whole}
use Rattle.lg_tile.specs.Tiles.{dtype_of, numbers, rect_of}
use Rattle.lg_map.specs.declared.operation.MapOp.TheVariants as ops
use Rattle.lg_meaning.specs.Faults.{first_fault}
use Rattle.lg_meaning.specs.Static.{right_of}
use Rattle.lg_meaning.specs.Operators.{binary_static, binary_value, flagged}
use Rattle.lg_operations.specs.Operations.{operand_static, operand_value}
use Rattle.lg_operations.specs.Lending.{Evaluates, Takes, spread_at, operand_in}
use Rattle.lg_operations.proofs.Statics.{binary_ok, fits_common, kind_with}
use Rattle.lg_operations.proofs.Spreadings.{inputs_of, nothing, nothing_over, reads, binary_same, binary_flags}
use Rattle.lg_operations.proofs.Made.{array_made, value_of_parts}
use Rattle.lg_operations.proofs.elementwise.binary.Goals as goal

pub lend-first-requires-clause-spreads : goal.lend-first-requires-clause-spreads
lend-first-requires-clause-spreads c = (binary_ok c.args.op (operand_static c.args.a.now) (operand_static c.args.b.now) c.in_ok-t.t c.in_ok-t.shape c.in_ok-t.ensures).spreads_a

pub lend-second-requires-clause-spreads : goal.lend-second-requires-clause-spreads
lend-second-requires-clause-spreads c = (binary_ok c.args.op (operand_static c.args.a.now) (operand_static c.args.b.now) c.in_ok-t.t c.in_ok-t.shape c.in_ok-t.ensures).spreads_b

pub evaluate-requires-clause-small : goal.evaluate-requires-clause-small
evaluate-requires-clause-small c = omega (arith, (binary_ok c.args.op (operand_static c.args.a.now) (operand_static c.args.b.now) c.in_ok-t.t c.in_ok-t.shape c.in_ok-t.ensures).small)

pub evaluate-requires-clause-lent : goal.evaluate-requires-clause-lent
evaluate-requires-clause-lent c = record {
  first = c.lend-first.ensures.lends.over;
  second = c.lend-second.ensures.lends.over;
  third = nothing_over (whole c.in_ok-t.shape);
}

pub evaluate-requires-clause-takes : goal.evaluate-requires-clause-takes
evaluate-requires-clause-takes c =
    let x = c.lend-first.result in
    let y = c.lend-second.result in
    let rect = whole c.in_ok-t.shape in
    let inputs = inputs_of x y nothing in
    let same : ops.Binary c.args.op (operand_in x 0) (operand_in y 1) ≡ ops.Binary c.args.op c.operand.result c.operand-2.result = λ i. ops.Binary c.args.op (sym c.operand.ensures i) (sym c.operand-2.ensures i) in
    subst (λ op. Takes op inputs rect c.in_ok-t.t) same ((reads inputs rect x 0 refl c.lend-first.ensures.lends.over).is, (reads inputs rect y 1 refl c.lend-second.ensures.lends.over).is)

pub returns : goal.returns
returns c =
    let ok = binary_ok c.args.op (operand_static c.args.a.now) (operand_static c.args.b.now) c.in_ok-t.t c.in_ok-t.shape c.in_ok-t.ensures in
    let t = c.in_ok-t.t in
    let shape = c.in_ok-t.shape in
    let x = c.lend-first.result in
    let y = c.lend-second.result in
    let a = operand_value c.args.a.now in
    let b = operand_value c.args.b.now in
    let inputs = inputs_of x y nothing in
    let holds = fits_common (operand_static c.args.a.now) (operand_static c.args.b.now) t c.common_is_least.ensures.both ok.common_is ok.fitting in
    let fits_a = λ (index : List ℕ). holds.0 (spread_at a index) (c.lend-first.ensures.fits index) in
    let fits_b = λ (index : List ℕ). holds.1 (spread_at b index) (c.lend-second.ensures.fits index) in
    let lends_x = c.lend-first.ensures.lends in
    let lends_y = c.lend-second.ensures.lends in
    let reads_x = reads inputs (whole shape) x 0 refl lends_x.over in
    let reads_y = reads inputs (whole shape) y 1 refl lends_y.over in
    let same : ops.Binary c.args.op c.operand.result c.operand-2.result ≡ ops.Binary c.args.op (operand_in x 0) (operand_in y 1) = λ i. ops.Binary c.args.op (c.operand.ensures i) (c.operand-2.ensures i) in
    let given = subst (λ op. Evaluates op t inputs (whole shape) (c.in_ok-tile.tile, c.in_ok-tile.flag)) same c.in_ok-tile.ensures in
    let f = c.result_of.result in
    let values : numbers f.tile ≡ (binary_value c.args.op a b (kind_with t shape (right_of shape))).numbers =
    ap numbers c.result_of.ensures.tile ∙ given.2 ∙ binary_same inputs shape t a b x y lends_x lends_y reads_x reads_y c.args.op fits_a fits_b in
    let faults : f.fault ≡ (binary_value c.args.op a b (kind_with t shape (right_of shape))).fault =
    c.result_of.ensures.fault ∙ c.first_fault.ensures ∙ ap (λ k. first_fault (a.fault ∷ b.fault ∷ k ∷ []))
    (c.fault_of.ensures ∙ ap flagged given.3 ∙ binary_flags inputs shape t a b x y lends_x lends_y reads_x reads_y c.args.op fits_b) in
    array_made (binary_static c.args.op (operand_static c.args.a.now) (operand_static c.args.b.now)) (binary_value c.args.op a b) f t shape (right_of shape) c.in_ok-t.ensures
    (ap dtype_of c.result_of.ensures.tile ∙ given.0) (ap rect_of c.result_of.ensures.tile ∙ given.1) c.result_of.ensures.right (λ i. value_of_parts shape (values i) (faults i))
