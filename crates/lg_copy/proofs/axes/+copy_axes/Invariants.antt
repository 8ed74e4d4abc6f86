use Rattle.std.proofs.Common.{length, ◌∷◌}
use Rattle.lg_copy.specs.Copying.{Copied, Goes}
use Rattle.lg_copy.proofs.axes.+copy_axes.Given as goal

abbrev pub invariant-loop-k : goal.invariant-loop-k
invariant-loop-k g l = Copied l.source l.fn.target l.target (λ s q. Goes l.from l.to (record l.axis { count = l.k } ∷ l.inner) s q)

abbrev pub decreases-copy_axes : goal.decreases-copy_axes
decreases-copy_axes g l = length l.axes.now
