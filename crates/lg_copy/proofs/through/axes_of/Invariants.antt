use Rattle.std.proofs.Common.{◌≡◌, length, take}
use Rattle.lg_copy.specs.Copying.{axes_over}
use Rattle.lg_copy.proofs.through.axes_of.Given as goal

abbrev pub invariant-loop-axis : goal.invariant-loop-axis
invariant-loop-axis l = record {
  room : length l.axes ≡ 4;
  so_far : take l.axis l.axes ≡ axes_over (take l.axis l.ranges) l.from l.to;
}
