use Rattle.std.proofs.Common.{sym, ap, subst, ◌∙◌, arith}
use Rattle.lg_space.specs.Rectangle.{volume_of}
use Rattle.lg_space.specs.Stored.{IsStorable}
use Rattle.lg_shape.specs.Stored.{IsShape}
use Rattle.lg_shape.specs.Shapes.{size_of}
use Rattle.lg_operations.proofs.Windows.{sizes_all, sizes_shape, sizes_volume}
use Rattle.lg_operations.proofs.gathering.sizes_of.Goals as goal

pub new-requires : goal.new-requires
new-requires c =
    subst IsShape
    (sym (sizes_all c.ranges-ranges.result.now c.loop-axis.sizes c.loop-axis.axis (omega (arith, c.loop-axis-test.false)) (omega (arith, c.loop-axis.auto.axis-end)) c.loop-axis.invariant.so_far))
    (sizes_shape c.ranges-ranges.result.now (subst IsStorable (sym c.ranges-ranges.ensures.value) c.ranges-ranges.ensures.storable))

pub returns-clause-small : goal.returns-clause-small
returns-clause-small c =
    let is = sizes_all c.ranges-ranges.result.now c.loop-axis.sizes c.loop-axis.axis (omega (arith, c.loop-axis-test.false)) (omega (arith, c.loop-axis.auto.axis-end)) c.loop-axis.invariant.so_far in
    omega (arith, ap size_of (c.new.ensures ∙ is), sizes_volume c.ranges-ranges.result.now, ap volume_of c.ranges-ranges.ensures.value, c.ranges-ranges.ensures.storable.volume)
