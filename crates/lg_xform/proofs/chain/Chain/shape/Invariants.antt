use Rattle.std.proofs.Common.{◌≡◌, length, take}
use Rattle.lg_xform.specs.Chains.{shape_of}
use Rattle.lg_xform.proofs.chain.Chain.shape.Given as goal

abbrev pub invariant-loop-axis : goal.invariant-loop-axis
invariant-loop-axis l = record {
  room : length l.extents ≡ 4;
  so_far : take l.axis l.extents ≡ take l.axis (shape_of l.self);
}
