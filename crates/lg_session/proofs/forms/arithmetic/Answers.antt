use Rattle.std.proofs.Common.{Some, ap, sym, ◌∙◌}
use Rattle.lg_session.proofs.RangeLemmas.{arith_within}
use Rattle.lg_session.proofs.forms.arithmetic.Goals as goal

pub returns-in-Some-clause-usable : goal.returns-in-Some-clause-usable
returns-in-Some-clause-usable c = arith_within c.args.op _ _ _ (sym c.in-Some.ensures ∙ ap Some c.in_ok-known.ensures)
