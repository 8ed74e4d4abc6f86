use Rattle.std.proofs.Common.{◌≡◌, drop}
use Rattle.lg_tree.specs.View.{lines_of}
use Rattle.lg_session.specs.Built.{unbuilt_in}
use Rattle.lg_session.proofs.built.+lines.Given as goal

abbrev pub invariant-unbuilt_in-loop-line : goal.invariant-unbuilt_in-loop-line
invariant-unbuilt_in-loop-line l = unbuilt_in (lines_of (drop l.line-index l.lines)) ≡ unbuilt_in (lines_of l.lines)
