use Rattle.std.proofs.lemmas.Result.{err_from_is_err_and}
use Rattle.lg_tree.specs.View.{tree_of}
use Rattle.lg_session.proofs.StatementLemmas.{ends_bind}
use Rattle.lg_session.proofs.session.Session.assign.Goals as goal

pub returns-in_err-value-clause-outcome : goal.returns-in_err-value-clause-outcome
returns-in_err-value-clause-outcome c = λ state stands.
    let p = err_from_is_err_and c.from_residual.result c.from_residual.ensures.1 in
    rw (p.1, p.2) (ends_bind state (tree_of c.args.value.now) c.args.word.now c.args.self.now c.args.self.now c.in_err-value.field-0.0 (c.in_err-value.ensures.outcome state stands))

pub returns-clause-outcome : goal.returns-clause-outcome
returns-clause-outcome c = λ state stands.
    c.bind_value-2.ensures.outcome state (tree_of c.args.value.now) stands (c.in_ok-value.ensures.outcome state stands)
