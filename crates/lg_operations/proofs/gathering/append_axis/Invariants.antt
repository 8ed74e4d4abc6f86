use Rattle.std.proofs.Common.{[], ◌∷◌}
use Rattle.lg_operations.specs.Gathering.{IsGathered}
use Rattle.lg_operations.proofs.gathering.append_axis.Given as goal

abbrev pub invariant-loop-k : goal.invariant-loop-k
invariant-loop-k g l = IsGathered l.items l.base (l.stride ∷ []) (l.k ∷ []) l.fn.out.items l.out.items
