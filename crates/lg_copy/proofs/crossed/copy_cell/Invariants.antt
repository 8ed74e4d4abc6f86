use Rattle.std.proofs.Common.{[], ◌∷◌}
use Rattle.lg_copy.specs.Copying.{Copied, Goes}
use Rattle.lg_copy.proofs.crossed.copy_cell.Given as goal

abbrev pub invariant-loop-k : goal.invariant-loop-k
invariant-loop-k g l = Copied l.source l.fn.target l.target (λ s q. Goes l.from l.to (record l.outer { count = l.k } ∷ l.inner ∷ []) s q)
