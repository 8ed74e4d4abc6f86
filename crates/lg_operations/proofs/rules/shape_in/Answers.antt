use Rattle.std.proofs.Common.{sym, subst, arith}
use Rattle.lg_space.specs.Stored.{IsStorable}
use Rattle.lg_shape.specs.Stored.{IsShape}
use Rattle.lg_operations.proofs.Shapes.{ends_all, ends_shape}
use Rattle.lg_operations.proofs.rules.shape_in.Goals as goal

pub new-requires : goal.new-requires
new-requires c =
    subst IsShape
    (sym (ends_all c.ranges-ranges.result.now c.loop-axis.extents c.loop-axis.axis (omega (arith, c.loop-axis-test.false)) (omega (arith, c.loop-axis.auto.axis-end)) c.loop-axis.invariant.so_far))
    (ends_shape c.ranges-ranges.result.now (subst IsStorable (sym c.ranges-ranges.ensures.value) c.ranges-ranges.ensures.storable))
