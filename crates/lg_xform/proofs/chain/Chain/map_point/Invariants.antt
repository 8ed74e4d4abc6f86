use Rattle.std.proofs.Common.{◌≡◌, length, drop}
use Rattle.lg_xform.specs.Moves.{moved}
use Rattle.lg_xform.specs.Chains.{axes_of}
use Rattle.lg_xform.proofs.chain.Chain.map_point.Given as goal

-- the axes that are left lead on to the root index
abbrev pub invariant-loop-k : goal.invariant-loop-k
invariant-loop-k l = record {
  room : length l.at ≡ 4;
  leads : moved l.at (drop l.k (axes_of l.self)) (drop l.k l.p) ≡ moved l.self.from (axes_of l.self) l.p;
}
