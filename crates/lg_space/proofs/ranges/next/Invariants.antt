use Rattle.lg_space.proofs.Next.{Carried}
use Rattle.lg_space.proofs.ranges.next.Given as goal

-- from this axis on the coordinates begin anew
abbrev pub invariant-loop-axis : goal.invariant-loop-axis
invariant-loop-axis l = Carried l.ranges l.index l.at l.axis
