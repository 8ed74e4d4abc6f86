use Rattle.std.proofs.Common.{◌≡◌, length, take}
use Rattle.lg_xform.specs.Corners.{corner_of}
use Rattle.lg_xform.specs.Chains.{axes_of}
use Rattle.lg_xform.proofs.chain.Chain.corner.Given as goal

abbrev pub invariant-loop-k : goal.invariant-loop-k
invariant-loop-k l = record {
  room : length l.at ≡ 4;
  so_far : take l.k l.at ≡ take l.k (corner_of l.far (axes_of l.self) l.tile);
}
