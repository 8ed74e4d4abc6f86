use Rattle.std.proofs.Common.{◌≡◌, length, take}
use Rattle.lg_xform.specs.Copies.{first_of}
use Rattle.lg_xform.proofs.chain.strides.first_index.Given as goal

abbrev pub invariant-loop-axis : goal.invariant-loop-axis
invariant-loop-axis l = record {
  room : length l.lows ≡ 4;
  so_far : take l.axis l.lows ≡ take l.axis (first_of l.rect);
}
