use Rattle.std.proofs.Common.{sym, subst, ◌∙◌, arith}
use Rattle.lg_space.specs.Rectangle.{IsIn}
use Rattle.lg_space.specs.Stored.{IsStorable}
use Rattle.lg_shape.specs.Shapes.{whole}
use Rattle.lg_shape.specs.Stored.{IsShape}
use Rattle.lg_copy.proofs.Bridge.{ends_shape, ends_within, ends_all}
use Rattle.lg_copy.proofs.through.identity.Goals as goal

pub new-requires : goal.new-requires
new-requires c =
    subst IsShape
    (sym (ends_all c.ranges-ranges.result.now c.loop-axis.ends c.loop-axis.axis (omega (arith, c.loop-axis-test.false)) (omega (arith, c.loop-axis.auto.axis-end)) c.loop-axis.invariant.so_far))
    (ends_shape c.ranges-ranges.result.now (subst IsStorable (sym c.ranges-ranges.ensures.value) c.ranges-ranges.ensures.storable))

pub returns-clause-within : goal.returns-clause-within
returns-clause-within c = λ index inside.
    let is = ends_all c.ranges-ranges.result.now c.loop-axis.ends c.loop-axis.axis (omega (arith, c.loop-axis-test.false)) (omega (arith, c.loop-axis.auto.axis-end)) c.loop-axis.invariant.so_far in
    subst (λ shape. IsIn (whole shape) index) (sym (c.whole.ensures.shape ∙ c.new.ensures ∙ is))
    (ends_within c.ranges-ranges.result.now index (subst (λ r. IsIn r index) (sym c.ranges-ranges.ensures.value) inside))

pub returns-clause-mapped : goal.returns-clause-mapped
returns-clause-mapped c = λ index inside.
    let is = ends_all c.ranges-ranges.result.now c.loop-axis.ends c.loop-axis.axis (omega (arith, c.loop-axis-test.false)) (omega (arith, c.loop-axis.auto.axis-end)) c.loop-axis.invariant.so_far in
    c.whole.ensures.mapped index
    (subst (λ shape. IsIn (whole shape) index) (sym (c.new.ensures ∙ is))
    (ends_within c.ranges-ranges.result.now index (subst (λ r. IsIn r index) (sym c.ranges-ranges.ensures.value) inside)))
