use Rattle.std.proofs.Common.{◌∙◌, sym, arith}
use Rattle.lg_space.proofs.Inside.{AtAxis, known_at, past_axes}
use Rattle.lg_space.proofs.ranges.ravel.Goals as goal
use Rattle.lg_space.proofs.ranges.ravel.Goals.{In-loop-axis}

-- what is known of an axis in the loop
here : (c : In-loop-axis) → AtAxis c.args.ranges.now c.args.index.now c.loop-axis.axis c.loop-axis.place
here c = known_at c.args.ranges.now c.args.index.now c.loop-axis.axis c.loop-axis.place c.requires.inside c.loop-axis-test.true c.loop-axis.invariant

pub overflow_sub-place : goal.overflow_sub-place
overflow_sub-place c = let h = here (goal.at.overflow_sub-place c).In-loop-axis in omega (arith, h.between.from, h.between.below)

pub overflow_mul-place : goal.overflow_mul-place
overflow_mul-place c = omega (arith, (here (goal.at.overflow_mul-place c).In-loop-axis).small, c.requires.small)

pub bounds-index-axis : goal.bounds-index-axis
bounds-index-axis c = (here (goal.at.bounds-index-axis c).In-loop-axis).reached

pub overflow_sub-place-in-loop-axis : goal.overflow_sub-place-in-loop-axis
overflow_sub-place-in-loop-axis c = (here (goal.at.overflow_sub-place-in-loop-axis c).In-loop-axis).between.from

pub overflow_add-place : goal.overflow_add-place
overflow_add-place c = omega (arith, (here (goal.at.overflow_add-place c).In-loop-axis).small, c.requires.small)

pub loop-axis-preserved : goal.loop-axis-preserved
loop-axis-preserved c = (here (goal.at.loop-axis-preserved c).In-loop-axis).next

pub returns : goal.returns
returns c =
    sym (past_axes c.args.ranges.now c.args.index.now c.loop-axis.axis c.loop-axis.place c.requires.inside c.loop-axis-test.false) ∙ c.loop-axis.invariant
