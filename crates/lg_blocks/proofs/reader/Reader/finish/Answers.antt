use Rattle.lg_tree.specs.View.{lines_of}
use Rattle.lg_blocks.proofs.States.{state_ordered}
use Rattle.lg_blocks.proofs.reader.Reader.finish.Goals as goal

pub returns-clause-ordered : goal.returns-clause-ordered
returns-clause-ordered c =
    let r = c.args.self in
    state_ordered r.read.loops.items (lines_of r.read.lines) r.full.0 r.full.1
