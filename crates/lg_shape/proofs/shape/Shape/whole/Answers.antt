use Rattle.std.proofs.Common.{◌≡◌, ◌∙◌, sym, ap, subst, length, take, arith}
use Rattle.lg_space.specs.Stored.{IsStorable}
use Rattle.lg_shape.proofs.Wholes.{storable-whole, whole_all}
use Rattle.lg_shape.proofs.shape.Shape.whole.Goals as goal

pub new-requires : goal.new-requires
new-requires c =
    let axes : length c.extents-extents.result.now ≡ length c.args.self.now = ap length c.extents-extents.ensures.value in
    let same = ap (λ n. take n c.loop-axis.ranges) axes ∙ whole_all c.args.self.now c.loop-axis.ranges c.loop-axis.axis (omega (arith, axes, c.loop-axis-test.false))
    (omega (arith, axes, c.loop-axis.auto.axis-end)) c.loop-axis.invariant.so_far in
    subst IsStorable (sym same) (storable-whole c.args.self.now c.extents-extents.ensures.shape c.requires)
