use Rattle.std.proofs.Common.{◌≡◌, length, take, map}
use Rattle.lg_operations.proofs.rules.shape_in.Given as goal

abbrev pub invariant-loop-axis : goal.invariant-loop-axis
invariant-loop-axis l = record {
  room : length l.extents ≡ 4;
  so_far : take l.axis l.extents ≡ map (λ range. range.1) (take l.axis l.ranges);
}
