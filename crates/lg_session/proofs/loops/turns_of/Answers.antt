use Rattle.std.proofs.lemmas.Result.{err_from_is_err_and}
use Rattle.lg_tree.specs.View.{tree_of, maybe_of}
use Rattle.lg_meaning.specs.Loops.{bounds_of}
use Rattle.lg_session.proofs.LoopLemmas.{first_no_integer, no_turns}
use Rattle.lg_session.proofs.loops.turns_of.Goals as goal

pub returns-in_err-from-2-clause-outcome : goal.returns-in_err-from-2-clause-outcome
returns-in_err-from-2-clause-outcome c = λ state stands.
    let p = err_from_is_err_and c.from_residual-in_err-from-2.result c.from_residual-in_err-from-2.ensures.1 in
    let from = maybe_of c.args.from.now in
    let to = tree_of c.args.to.now in
    let h = c.in_err-from-2.ensures.value in
    rw (p.1, p.2) (no_turns (bounds_of from to state.names) c.in_err-from-2.field-0.0 h.0
    (first_no_integer state c.args.session.now from to c.in_ok-from.from c.in_ok-to.to (c.in_ok-from.ensures.outcome state stands) (c.in_ok-to.ensures.outcome state stands) h.1))
