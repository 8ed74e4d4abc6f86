use Rattle.lg_copy.specs.Copying.{Copied, GoesAlong}
use Rattle.lg_copy.proofs.runs.copy_steps.Given as goal

abbrev pub invariant-loop-k : goal.invariant-loop-k
invariant-loop-k g l = Copied l.source l.fn.target l.target (λ s q. GoesAlong l.from l.to l.k l.axis.from l.axis.to s q)
