use Rattle.std.proofs.Common.{◌≤◌, ◌-◌, [], ◌∷◌}
use Rattle.lg_copy.specs.Copying.{Copied, Goes}
use Rattle.lg_copy.proofs.crossed.copy_band.Given as goal

abbrev pub invariant-loop-done : goal.invariant-loop-done
invariant-loop-done g l = record {
  within : l.done ≤ l.inner.count;
  copied : Copied l.source l.fn.target l.target (λ s q. Goes l.from l.to (record l.inner { count = l.done } ∷ l.outer ∷ []) s q);
}

abbrev pub decreases-loop-done : goal.decreases-loop-done
decreases-loop-done g l = l.inner.count - l.done
