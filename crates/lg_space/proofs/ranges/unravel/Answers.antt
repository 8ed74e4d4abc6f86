use Rattle.std.proofs.Common.{ℕ, ◌≡◌, ◌-◌, ◌/◌, ◌≤◌, get_or, refl, arith}
use Rattle.std.proofs.lemmas.List.{length-set}
use Rattle.std.proofs.lemmas.List.Elements.{All-get_or}
use Rattle.lg_space.specs.Stored.{MAX_END}
use Rattle.lg_space.specs.Rectangle.{IsIn, place_in}
use Rattle.lg_space.proofs.Unravel.{Turn, turn, unravels_none, unraveled}
use Rattle.lg_space.proofs.ranges.unravel.Goals as goal
use Rattle.lg_space.proofs.ranges.unravel.Goals.{In-loop-axis, After-new}

pub loop-axis-init : goal.loop-axis-init
loop-axis-init c = record { room = refl; unravels = rw c.volume-stride.ensures (unravels_none c.args.ranges.now _ c.args.k c.requires.below) }

-- what is known of an axis in the loop
here : (c : In-loop-axis) → Turn c.args.ranges.now c.loop-axis.at c.args.k c.loop-axis.axis c.loop-axis.rest c.loop-axis.stride
    c.loop-axis-test.true c.loop-axis.invariant.unravels (c.loop-axis.stride / ((get_or c.args.ranges.now c.loop-axis.axis (0, 0)).1 - (get_or c.args.ranges.now c.loop-axis.axis (0, 0)).0))
here c = turn c.args.ranges.now c.loop-axis.at c.args.k c.loop-axis.axis c.loop-axis.rest c.loop-axis.stride c.loop-axis-test.true c.loop-axis.invariant.unravels

pub overflow_sub-stride : goal.overflow_sub-stride
overflow_sub-stride c = omega (arith, (here (goal.at.overflow_sub-stride c).In-loop-axis).extent)

pub nonzero_div-stride : goal.nonzero_div-stride
nonzero_div-stride c = (here (goal.at.nonzero_div-stride c).In-loop-axis).extent

pub nonzero_div-at : goal.nonzero_div-at
nonzero_div-at c = (here (goal.at.nonzero_div-at c).In-loop-axis).positive

pub overflow_add-at : goal.overflow_add-at
overflow_add-at c =
    let end = All-get_or (λ (range : ℕ × ℕ). range.1 ≤ MAX_END) c.args.ranges.now c.loop-axis.axis (0, 0) c.loop-axis-test.true c.requires.storable.ends in
    omega (arith, (here (goal.at.overflow_add-at c).In-loop-axis).below, end)

pub nonzero_rem-rest : goal.nonzero_rem-rest
nonzero_rem-rest c = (here (goal.at.nonzero_rem-rest c).In-loop-axis).positive

pub loop-axis-preserved : goal.loop-axis-preserved
loop-axis-preserved c = record {
  room = simp length-set c.loop-axis.invariant.room;
  unravels = (here (goal.at.loop-axis-preserved c).In-loop-axis).next (omega (arith, c.loop-axis.invariant.room, c.loop-axis-test.true, c.requires.storable.axes));
}

-- what was written is the index
all : (c : After-new) → IsIn c.args.ranges.now c.new.result × (place_in c.args.ranges.now c.new.result ≡ c.args.k)
all c = unraveled c.args.ranges.now c.loop-axis.at c.new.result c.args.k c.loop-axis.axis c.loop-axis.rest c.loop-axis.stride
    c.loop-axis-test.false c.loop-axis.auto.axis-end c.new.ensures c.loop-axis.invariant.unravels

pub returns-clause-inside : goal.returns-clause-inside
returns-clause-inside c = (all (goal.at.returns-clause-inside c).After-new).0

pub returns-clause-value : goal.returns-clause-value
returns-clause-value c = (all (goal.at.returns-clause-value c).After-new).1
