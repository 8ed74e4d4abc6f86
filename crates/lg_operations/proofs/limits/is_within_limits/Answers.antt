use Rattle.std.proofs.Common.{ap, ◌∙◌}
use Rattle.lg_shape.specs.Shapes.{size_of as size_of_shape}
use Rattle.std.proofs.Common.{min}
use Rattle.lg_operations.proofs.LimitLemmas.{within_is}
use Rattle.lg_operations.proofs.limits.is_within_limits.Goals as goal

pub returns : goal.returns
returns c = within_is c.args.shape.now c.size_of.result c.extents.ensures.shape
    (c.size_of.ensures ∙ ap (λ shape. min (size_of_shape shape) 18446744073709551615) c.extents.ensures.value)
