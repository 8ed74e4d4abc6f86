use Rattle.lg_tree.specs.View.{lines_of}
use Rattle.lg_blocks.proofs.States.{state_ordered}
use Rattle.lg_blocks.proofs.reader.Reader.push.Goals as goal

pub returns-then-not-may_follow-clause-ordered : goal.returns-then-not-may_follow-clause-ordered
returns-then-not-may_follow-clause-ordered c =
    let r = c.args.self.now in
    state_ordered r.read.loops.items (lines_of r.read.lines) r.full.0 r.full.1

pub returns-in-Ok-clause-ordered : goal.returns-in-Ok-clause-ordered
returns-in-Ok-clause-ordered c =
    let u = c.add.new.self in
    let full = c.in-Ok.ensures.full in
    state_ordered u.loops.items (lines_of u.lines) full.0 full.1
