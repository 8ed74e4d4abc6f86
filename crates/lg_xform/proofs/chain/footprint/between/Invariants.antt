use Rattle.std.proofs.Common.{◌≡◌, length, take}
use Rattle.lg_xform.specs.Corners.{boxed}
use Rattle.lg_xform.proofs.chain.footprint.between.Given as goal

abbrev pub invariant-loop-axis : goal.invariant-loop-axis
invariant-loop-axis l = record {
  room : length l.ranges ≡ 4;
  so_far : take l.axis l.ranges ≡ take l.axis (boxed l.low l.high);
}
