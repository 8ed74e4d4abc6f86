use Rattle.std.proofs.Common.{◌≡◌, map, take}
use Rattle.lg_meaning.specs.Creation.{are_truths}
use Rattle.lg_operations.specs.Operations.{weak_of}
use Rattle.lg_operations.proofs.written.are_truths.Given as goal

abbrev pub invariant-loop-w : goal.invariant-loop-w
invariant-loop-w l = l.all ≡ are_truths (map weak_of (take l.w-index l.weaks))
