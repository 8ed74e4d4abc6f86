use Rattle.std.proofs.Common.{pos}
use Rattle.lg_copy.specs.Copying.{Copied, GoesAlong}
use Rattle.lg_copy.proofs.runs.copy_apart.Given as goal

abbrev pub invariant-loop-k : goal.invariant-loop-k
invariant-loop-k g l = Copied l.source l.fn.target l.target (λ s q. GoesAlong l.from l.to l.k l.stride (pos 1) s q)
