use Rattle.lg_tree.specs.View.{line_of}
use Rattle.legate.proofs.Lines.{stops_unwritten}
use Rattle.legate.proofs.walk.perform.Goals as goal

pub returns-in-Err-clause-stopped : goal.returns-in-Err-clause-stopped
returns-in-Err-clause-stopped g c = λ state stands.
    stops_unwritten _ c.in-Err.stop.end (line_of c.args.line.now) state _ c.from.ensures (c.in-Err.ensures.stopped state stands)
