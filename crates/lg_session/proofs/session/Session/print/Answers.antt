use Rattle.std.proofs.lemmas.Result.{err_from_is_err_and}
use Rattle.lg_tree.specs.View.{tree_of}
use Rattle.lg_session.proofs.StatementLemmas.{ends_print, prints}
use Rattle.lg_session.proofs.session.Session.print.Goals as goal

pub returns-in_err-value : goal.returns-in_err-value
returns-in_err-value c = λ state stands.
    let p = err_from_is_err_and c.from_residual.result c.from_residual.ensures.1 in
    rw (p.1, p.2) (ends_print state (tree_of c.args.value.now) c.args.self.now c.in_err-value.field-0.0 (c.in_err-value.ensures.outcome state stands))

pub returns : goal.returns
returns c = λ state stands.
    prints state (tree_of c.args.value.now) c.args.self.now c.in_ok-value.value _ _ c.printed_operand.result (c.in_ok-value.ensures.outcome state stands)
    c.read.ensures.kind c.read.ensures.same c.printed_operand.ensures
