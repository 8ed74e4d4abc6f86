use Rattle.std.proofs.Common.{◌≡◌, length, take}
use Rattle.lg_space.proofs.Meeting.{meeting}
use Rattle.lg_space.proofs.ranges.intersect.Given as goal

abbrev pub invariant-loop-axis : goal.invariant-loop-axis
invariant-loop-axis l = record { room : length l.ranges ≡ 4; so_far : take l.axis l.ranges ≡ take l.axis (meeting l.first l.second) }
