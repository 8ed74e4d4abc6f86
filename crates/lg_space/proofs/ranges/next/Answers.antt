use Rattle.std.proofs.Common.{◌≡◌, ◌+◌, ◌-◌, refl, subst, arith, length-take}
use Rattle.lg_space.proofs.Inside.{same_axes}
use Rattle.lg_space.proofs.Next.{Carried, carried_more, went_up, at_the_end}
use Rattle.lg_space.proofs.ranges.next.Goals as goal
use Rattle.lg_space.proofs.ranges.next.Goals.{In-loop-axis}

pub slice_bounds-at-end : goal.slice_bounds-at-end
slice_bounds-at-end c = omega (arith, same_axes c.args.ranges.now c.args.index.now c.requires.inside, c.requires.storable.axes)

pub slice_bounds-copy_from_slice-end : goal.slice_bounds-copy_from_slice-end
slice_bounds-copy_from_slice-end c =
    simp length-take (omega (arith, same_axes c.args.ranges.now c.args.index.now c.requires.inside, c.requires.storable.axes))

pub copy_from_slice-requires : goal.copy_from_slice-requires
copy_from_slice-requires c =
    simp length-take (omega (arith, same_axes c.args.ranges.now c.args.index.now c.requires.inside, c.requires.storable.axes))

-- behind the axis that is reached, which is counted from 1 on
behind : (c : In-loop-axis) → Carried c.args.ranges.now c.args.index.now c.loop-axis.at (c.loop-axis.axis - 1 + 1)
behind c =
    let same : c.loop-axis.axis ≡ c.loop-axis.axis - 1 + 1 = omega arith in
    subst (Carried c.args.ranges.now c.args.index.now c.loop-axis.at) same c.loop-axis.invariant

pub returns-then-up-high : goal.returns-then-up-high
returns-then-up-high c =
    went_up c.args.ranges.now c.args.index.now c.loop-axis.at (c.loop-axis.axis - 1) c.requires.inside c.requires.storable.axes (omega arith)
    (behind (goal.at.returns-then-up-high c).In-loop-axis) c.new.result _ refl c.if-up-high.true c.new.ensures

pub loop-axis-preserved : goal.loop-axis-preserved
loop-axis-preserved c =
    carried_more c.args.ranges.now c.args.index.now c.loop-axis.at (c.loop-axis.axis - 1) c.requires.inside c.requires.storable.axes (omega arith)
    (behind (goal.at.loop-axis-preserved c).In-loop-axis) c.if-up-high.false

pub returns : goal.returns
returns c =
    let none : c.loop-axis.axis ≡ 0 = omega arith in
    at_the_end c.args.ranges.now c.args.index.now c.loop-axis.at c.requires.inside
    (subst (Carried c.args.ranges.now c.args.index.now c.loop-axis.at) none c.loop-axis.invariant)
