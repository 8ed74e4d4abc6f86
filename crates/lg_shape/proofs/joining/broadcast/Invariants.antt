use Rattle.lg_shape.proofs.Broadcasts.{Joins}
use Rattle.lg_shape.proofs.joining.broadcast.Given as goal

abbrev pub invariant-loop-axis : goal.invariant-loop-axis
invariant-loop-axis l = Joins l.first l.second l.joined l.axes l.axis
