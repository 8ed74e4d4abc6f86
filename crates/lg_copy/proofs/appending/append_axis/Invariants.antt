use Rattle.std.proofs.Common.{[], ◌∷◌}
use Rattle.lg_copy.specs.Appending.{IsAppended}
use Rattle.lg_copy.proofs.appending.append_axis.Given as goal

abbrev pub invariant-loop-k : goal.invariant-loop-k
invariant-loop-k g l = IsAppended l.items l.base (l.stride ∷ []) (l.k ∷ []) l.fn.out.items l.out.items
