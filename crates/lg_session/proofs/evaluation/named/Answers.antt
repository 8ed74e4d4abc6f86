use Rattle.std.proofs.Common.{Some, ap, sym, ◌∙◌}
use Rattle.lg_session.proofs.FormLemmas.{named_means}
use Rattle.lg_session.proofs.evaluation.named.Goals as goal

pub returns-in-Some-Weak-clause-usable : goal.returns-in-Some-Weak-clause-usable
returns-in-Some-Weak-clause-usable c =
    c.args.session.now.ranged c.args.word.now c.in-Some-Weak.w (sym c.in-Some-Weak.ensures ∙ ap Some c.in-Some-Weak.field-0-is)

pub returns-in-Some-Array-clause-outcome : goal.returns-in-Some-Array-clause-outcome
returns-in-Some-Array-clause-outcome c = λ state stands.
    named_means state c.args.session.now c.args.word.now c.in-Some-Array.view stands (sym c.in-Some-Array.ensures ∙ ap Some c.in-Some-Array.field-0-is)
