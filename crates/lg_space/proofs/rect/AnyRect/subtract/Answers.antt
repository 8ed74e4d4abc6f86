use Rattle.std.proofs.Common.{length, get_or, sym, ap, ◌∙◌, arith}
use Rattle.lg_space.proofs.Parting.{cut_none, cut_more, cut_all}
use Rattle.lg_space.proofs.rect.AnyRect.subtract.Goals as goal

pub loop-axis-init : goal.loop-axis-init
loop-axis-init c = record {
  room = c.new-parts.ensures.capacity;
  so_far = rw c.new-parts.ensures.items (cut_none c.args.self.now c.args.other.now);
}

pub loop-axis-preserved : goal.loop-axis-preserved
loop-axis-preserved c = record {
  room = c.push_filled-in-loop-axis.ensures.capacity ∙ c.push_filled.ensures.capacity ∙ c.loop-axis.invariant.room;
  so_far = cut_more c.args.self.now c.args.other.now c.loop-axis.axis c.loop-axis.rest c.loop-axis.parts.items (get_or c.ranges-range-items.result.now c.loop-axis.axis (0, 0))
      c.split-below.result.0 c.split-below.result.1 c.split-within.result.0 c.split-within.result.1
      c.push_filled.new.parts.items c.push_filled-in-loop-axis.new.parts.items
      c.loop-axis.invariant.so_far (ap (λ rs. get_or rs c.loop-axis.axis (0, 0)) (sym c.ranges-range-items.ensures.value))
      (record {
        same_below = c.split-below.ensures.axes.0;
        same_above = c.split-below.ensures.axes.1;
        is_below = c.split-below.ensures.below;
        is_above = c.split-below.ensures.above;
      })
      (record {
        same_below = c.split-within.ensures.axes.0;
        same_above = c.split-within.ensures.axes.1;
        is_below = c.split-within.ensures.below;
        is_above = c.split-within.ensures.above;
      })
      c.push_filled.ensures.empty c.push_filled.ensures.filled
      c.push_filled-in-loop-axis.ensures.empty c.push_filled-in-loop-axis.ensures.filled;
}

pub returns-clause-parts : goal.returns-clause-parts
returns-clause-parts c =
    cut_all c.args.self.now c.args.other.now c.loop-axis.axis c.loop-axis.rest c.loop-axis.parts.items c.requires
    (omega (arith, c.loop-axis-test.false, ap length c.ranges-range-items.ensures.value)) c.loop-axis.invariant.so_far

pub returns-clause-few : goal.returns-clause-few
returns-clause-few c = omega (arith, c.loop-axis.invariant.so_far.few, ap length c.ranges-range-items.ensures.value, c.ranges-range-items.ensures.storable.axes)
