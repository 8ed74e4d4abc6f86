use Rattle.std.proofs.Common.{◌++◌}
use Rattle.lg_shape.specs.Indexing.{item_fault}
use Rattle.lg_shape.specs.IndexSteps.{cut_steps}
use Rattle.lg_shape.proofs.Cutting.{Cutting}
use Rattle.lg_shape.proofs.indexing.add_cuts.Given as goal

abbrev pub invariant-loop-place : goal.invariant-loop-place
invariant-loop-place l =
    Cutting l.items l.missing l.fn.steps.capacity (l.fn.steps.items ++ cut_steps 0 l.missing l.extents l.items)
    (item_fault 0 l.missing l.extents l.items) l.place l.axis l.rest l.steps.items l.steps.capacity
