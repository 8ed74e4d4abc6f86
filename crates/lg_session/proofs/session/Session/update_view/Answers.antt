use Rattle.std.proofs.Common.{Err, sym, subst}
use Rattle.std.proofs.lemmas.Result.{err_from_is_err_and}
use Rattle.lg_tree.specs.View.{tree_of}
use Rattle.lg_meaning.specs.Operators.{binary_static, binary_value}
use Rattle.lg_meaning.specs.Static.{array_value}
use Rattle.lg_meaning.specs.Step.{update_answer}
use Rattle.lg_operations.specs.Operations.{fresh_kind, fresh_value, operand_static, operand_value, IsArrayOf}
use Rattle.lg_operations.specs.Taking.{taking, HasTaken, IsTakenBy}
use Rattle.lg_session.proofs.WriteSteps.{write_done, update_rule_fault, update_taken_end, update_numbers, update_is}
use Rattle.lg_session.proofs.session.Session.update_view.Goals as goal

pub returns-in_err-rule_of_update-clause-outcome : goal.returns-in_err-rule_of_update-clause-outcome
returns-in_err-rule_of_update-clause-outcome c = λ state target stands t.
    let old = c.args.self.now in
    let a = c.read_view-a in
    let b = c.read-b in
    let made = c.in_ok-made.made in
    let p = err_from_is_err_and c.from_residual-in_err-rule_of_update.result c.from_residual-in_err-rule_of_update.ensures.1 in
    let h = subst (λ o. IsArrayOf (binary_static o (operand_static a.result) (operand_static b.result)) (binary_value o (operand_value a.result) (operand_value b.result)) made) c.operation.ensures c.in_ok-made.ensures in
    rw (p.1, p.2)
    (update_rule_fault state old old c.args.op (tree_of c.args.value.now) target c.args.view.now t c.in_ok-value.value (c.in_ok-value.ensures.outcome state stands) a.result b.result
    a.ensures.kind b.ensures.kind a.ensures.same b.ensures.same stands made h c.in_err-rule_of_update.field-0.0 (sym c.in_err-rule_of_update.ensures))

pub returns-in_err-taken-clause-outcome : goal.returns-in_err-taken-clause-outcome
returns-in_err-taken-clause-outcome c = λ state target stands t.
    let old = c.args.self.now in
    let view = c.args.view.now in
    let a = c.read_view-a in
    let b = c.read-b in
    let made = c.in_ok-made.made in
    let end = c.in_err-taken.field-0.0 in
    let p = err_from_is_err_and c.from_residual-in_err-taken.result c.from_residual-in_err-taken.ensures.1 in
    let h = subst (λ o. IsArrayOf (binary_static o (operand_static a.result) (operand_static b.result)) (binary_value o (operand_value a.result) (operand_value b.result)) made) c.operation.ensures c.in_ok-made.ensures in
    rw (p.1, p.2)
    (update_taken_end state old old c.args.op (tree_of c.args.value.now) target view t c.in_ok-value.value (c.in_ok-value.ensures.outcome state stands) a.result b.result
    a.ensures.kind b.ensures.kind a.ensures.same b.ensures.same stands made h (sym c.in_ok-rule_of_update.ensures) end
    (subst (λ s. IsTakenBy (taking view.dtype s (array_value (fresh_kind made))) view.dtype s (fresh_value made) (Err end)) c.shape.ensures.value c.in_err-taken.ensures))

pub returns-clause-outcome : goal.returns-clause-outcome
returns-clause-outcome c = λ state target stands t.
    let old = c.args.self.now in
    let view = c.args.view.now in
    let e = tree_of c.args.value.now in
    let a = c.read_view-a in
    let b = c.read-b in
    let value = c.in_ok-value.value in
    let m = c.in_ok-value.ensures.outcome state stands in
    let made = c.in_ok-made.made in
    let taken = c.in_ok-taken.taken in
    let rule = sym c.in_ok-rule_of_update.ensures in
    let h = subst (λ o. IsArrayOf (binary_static o (operand_static a.result) (operand_static b.result)) (binary_value o (operand_value a.result) (operand_value b.result)) made) c.operation.ensures c.in_ok-made.ensures in
    let has = subst (λ s. HasTaken view.dtype s (fresh_value made) taken) c.shape.ensures.value c.in_ok-taken.ensures.1 in
    write_done state c.write.new.self (update_answer c.args.op e state target) _ c.write.result
    (update_is state old c.write.new.self c.args.op e target view t value m a.result b.result a.ensures.kind b.ensures.kind a.ensures.same b.ensures.same stands made h rule taken has)
    (c.write.ensures.outcome state t.there (fresh_value made).numbers stands t.inside t.shown
    (update_numbers state old c.write.new.self c.args.op e target view t value m a.result b.result a.ensures.kind b.ensures.kind a.ensures.same b.ensures.same stands made h rule taken has))
