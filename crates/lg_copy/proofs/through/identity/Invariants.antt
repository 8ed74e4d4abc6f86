use Rattle.std.proofs.Common.{◌≡◌, length, take, map}
use Rattle.lg_copy.proofs.through.identity.Given as goal

abbrev pub invariant-loop-axis : goal.invariant-loop-axis
invariant-loop-axis l = record {
  room : length l.ends ≡ 4;
  so_far : take l.axis l.ends ≡ map (λ range. range.1) (take l.axis l.ranges);
}
