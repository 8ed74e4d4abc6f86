use Rattle.std.proofs.Common.{◌++◌}
use Rattle.lg_shape.specs.IndexSteps.{promote_steps}
use Rattle.lg_shape.proofs.Promoting.{Promoting}
use Rattle.lg_shape.proofs.indexing.add_promotes.Given as goal

abbrev pub invariant-loop-item : goal.invariant-loop-item
invariant-loop-item l =
    Promoting l.items l.missing l.fn.steps.capacity (l.fn.steps.items ++ promote_steps 0 l.missing l.items) l.item-index l.axis l.steps.items l.steps.capacity
