use Rattle.std.proofs.Common.{◌≡◌, length, take}
use Rattle.lg_xform.specs.Chains.{axes_of}
use Rattle.lg_xform.proofs.Repeats.{stretched_axes}
use Rattle.lg_xform.proofs.chain.Chain.broadcast.Given as goal

abbrev pub invariant-loop-k : goal.invariant-loop-k
invariant-loop-k l = record {
  room : length l.axes ≡ 4;
  so_far : take l.k l.axes ≡ take l.k (stretched_axes l.ahead (axes_of l.self) l.extents);
}
