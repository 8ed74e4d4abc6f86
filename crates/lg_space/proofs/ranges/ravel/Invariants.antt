use Rattle.std.proofs.Common.{◌≡◌}
use Rattle.lg_space.specs.Rectangle.{place_in}
use Rattle.lg_space.proofs.Inside.{at_axis}
use Rattle.lg_space.proofs.ranges.ravel.Given as goal

abbrev pub invariant-loop-axis : goal.invariant-loop-axis
invariant-loop-axis l = at_axis l.ranges l.index l.axis l.place ≡ place_in l.ranges l.index
