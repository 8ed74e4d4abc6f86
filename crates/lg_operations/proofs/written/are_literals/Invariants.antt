use Rattle.std.proofs.Common.{◌≡◌, map, take}
use Rattle.lg_meaning.specs.Creation.{are_literals}
use Rattle.lg_operations.specs.Operations.{weak_of}
use Rattle.lg_operations.proofs.written.are_literals.Given as goal

abbrev pub invariant-loop-w : goal.invariant-loop-w
invariant-loop-w l = l.all ≡ are_literals l.t (map weak_of (take l.w-index l.weaks))
