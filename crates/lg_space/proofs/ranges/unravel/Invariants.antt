use Rattle.std.proofs.Common.{◌≡◌, length}
use Rattle.lg_space.proofs.Unravel.{Unravels}
use Rattle.lg_space.proofs.ranges.unravel.Given as goal

abbrev pub invariant-loop-axis : goal.invariant-loop-axis
invariant-loop-axis l = record { room : length l.at ≡ 4; unravels : Unravels l.ranges l.at l.k l.axis l.rest l.stride }
