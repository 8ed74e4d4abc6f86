use Rattle.std.proofs.Common.{◌≡◌, false, length, min, take}
use Rattle.lg_shape.specs.Shapes.{size_of}
use Rattle.lg_xform.specs.Moves.{rows_of}
use Rattle.lg_xform.proofs.chain.steps.rows.Given as goal

abbrev pub invariant-loop-axis : goal.invariant-loop-axis
invariant-loop-axis l = record {
  room : length l.axes ≡ 4;
  so_far : take l.axis l.axes ≡ take l.axis (rows_of (min 1 (size_of l.sizes)) false l.sizes);
}
