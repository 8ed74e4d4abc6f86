use Rattle.std.proofs.Common.{◌≡◌, refl, subst, ◌∙◌}
use Rattle.lg_shape.specs.Shapes.{whole}
use Rattle.lg_map.specs.declared.operation.MapOp.TheVariants as ops
use Rattle.lg_operations.specs.Operations.{operand_value}
use Rattle.lg_operations.specs.Lending.{Evaluates, operand_in}
use Rattle.lg_operations.proofs.Spreadings.{inputs_of, nothing, reads, cast_same}
use Rattle.lg_operations.proofs.filling.cast.Goals as goal

pub returns-clause-numbers : goal.returns-clause-numbers
returns-clause-numbers c =
    let t = c.args.t in
    let shape = c.args.shape.now in
    let x = c.lend-first.result in
    let inputs = inputs_of x nothing nothing in
    let lends_x = c.lend-first.ensures.lends in
    let reads_x = reads inputs (whole shape) x 0 refl lends_x.over in
    let same : ops.Cast c.operand.result ≡ ops.Cast (operand_in x 0) = λ i. ops.Cast (c.operand.ensures i) in
    let given = subst (λ op. Evaluates op t inputs (whole shape) (c.in_ok-tile.tile, c.in_ok-tile.field-0-1)) same c.in_ok-tile.ensures in
    given.2 ∙ cast_same inputs shape t (operand_value c.args.a.now) x lends_x reads_x
