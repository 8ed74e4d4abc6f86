use Rattle.std.proofs.Common.{◌≡◌, ◌-◌, length, take, map}
use Rattle.lg_operations.proofs.gathering.sizes_of.Given as goal

abbrev pub invariant-loop-axis : goal.invariant-loop-axis
invariant-loop-axis l = record {
  room : length l.sizes ≡ 4;
  so_far : take l.axis l.sizes ≡ map (λ range. range.1 - range.0) (take l.axis l.ranges);
}
