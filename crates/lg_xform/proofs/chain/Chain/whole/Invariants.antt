use Rattle.std.proofs.Common.{◌≡◌, length, take}
use Rattle.lg_xform.proofs.Wholes.{axes_from}
use Rattle.lg_xform.proofs.chain.Chain.whole.Given as goal

abbrev pub invariant-loop-axis : goal.invariant-loop-axis
invariant-loop-axis l = record {
  room : length l.axes ≡ 4;
  so_far : take l.axis l.axes ≡ take l.axis (axes_from 0 l.shape);
}
