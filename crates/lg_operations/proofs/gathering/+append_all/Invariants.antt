use Rattle.std.proofs.Common.{length, ◌∷◌}
use Rattle.lg_operations.specs.Gathering.{IsGathered}
use Rattle.lg_operations.proofs.gathering.+append_all.Given as goal

abbrev pub decreases-append_all : goal.decreases-append_all
decreases-append_all g l = length l.strides.now

abbrev pub invariant-loop-k : goal.invariant-loop-k
invariant-loop-k g l = IsGathered l.items l.base (l.stride ∷ l.strides) (l.k ∷ l.extents) l.fn.out.items l.out.items
