use Rattle.std.proofs.Common.{None, pos, ap, ◌∙◌}
use Rattle.lg_elem.specs.declared.dtype.DType.TheVariants.{Int64}
use Rattle.lg_map.specs.declared.operation.MapOp.TheVariants as ops
use Rattle.lg_meaning.specs.Creation.{shaped, type_or, filled}
use Rattle.lg_operations.proofs.Made.{value_of_parts}
use Rattle.lg_operations.proofs.Literals.{filled_same, new_answer}
use Rattle.lg_operations.proofs.making.zeros.Goals as goal

pub evaluate_new-requires-clause-small : goal.evaluate_new-requires-clause-small
evaluate_new-requires-clause-small c = c.in_ok-t.ensures.small

pub returns : goal.returns
returns c =
    let t = c.in_ok-t.t in
    let shape = c.in_ok-t.shape in
    let numbers = filled_same (pos 0) t shape in
    let rule = c.in_ok-t.ensures.rule ∙ ap (λ u. shaped u c.args.extents.now) c.type_or.ensures in
    new_answer (shaped (type_or c.args.dtype Int64) c.args.extents.now) (filled (pos 0)) (ops.Fill (pos 0)) t shape c.evaluate_new.result
    c.evaluate_new.ensures rule (λ i. value_of_parts shape (numbers i) None)
