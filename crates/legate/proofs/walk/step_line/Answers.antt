use Rattle.std.proofs.lemmas.Result.{err_from_is_err_and}
use Rattle.lg_tree.specs.View.{line_of}
use Rattle.legate.proofs.Lines.{halts_step}
use Rattle.legate.proofs.walk.step_line.Goals as goal

pub returns-in_err-perform-clause-stopped : goal.returns-in_err-perform-clause-stopped
returns-in_err-perform-clause-stopped g c =
    let p = err_from_is_err_and c.from_residual.result c.from_residual.ensures.1 in
    rw (p.1, p.2) (halts_step (line_of c.args.line.now) c.args.count.now _ _ c.args.session.now c.requires.built c.requires.few c.in_err-perform.field-0.0 c.in_err-perform.ensures.stopped)
