use Rattle.std.proofs.Common.{Some, ap, sym, ◌∙◌}
use Rattle.lg_operations.specs.Operations.{weak_answer}
use Rattle.lg_session.proofs.RangeLemmas.{arith_within}
use Rattle.lg_session.proofs.weak_values.weak_operation.Goals as goal

pub returns-in-Some-Ok-clause-ranged : goal.returns-in-Some-Ok-clause-ranged
returns-in-Some-Ok-clause-ranged c = arith_within c.args.op _ _ _ (sym c.in-Some-Ok.ensures ∙ ap (λ x. Some (weak_answer x)) c.in-Some-Ok.field-0-is)
