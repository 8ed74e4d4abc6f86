use Rattle.lg_blocks.proofs.Pushed.{pushed}
use Rattle.lg_blocks.proofs.unfinished.push_line.Goals as goal

pub returns : goal.returns
returns c = pushed c.args.lines.now c.push.new.self c.args.number c.args.statement c.in_ok-push.ensures.ok
