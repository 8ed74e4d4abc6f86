use Rattle.std.proofs.Common.{◌+◌, sym, subst}
use Rattle.lg_shape.proofs.Counting.{Counted, front_item, counted_integer, counted_slice, counted_new_axis, counted_ellipsis}
use Rattle.lg_shape.specs.declared.indexing.Counts.{Counts}
use Rattle.lg_shape.proofs.indexing.counts_of.Goals as goal
use Rattle.lg_shape.proofs.indexing.counts_of.Goals.{in-At, in-Slice, in-NewAxis, in-Ellipsis}

pub loop-item-preserved : goal.loop-item-preserved
loop-item-preserved c =
    let items = c.args.items.now in
    let index = c.loop-item.item-index in
    let within = c.loop-item-test.true in
    let P : Counts → Type 0 = λ n. Counted items (index + 1) n.integers n.slices n.new_axes n.ellipses in
    let known = c.loop-item.invariant in
    elim c.match-item.branch [
      | in-At w ↦ subst P (sym w.counts-is) (counted_integer items index _ _ _ _ known w.in-At.field-0 (front_item items index _ _ within w.in-At.is))
      | in-Slice w ↦ subst P (sym w.counts-is) (counted_slice items index _ _ _ _ known w.in-Slice.start w.in-Slice.stop w.in-Slice.step (front_item items index _ _ within w.in-Slice.is))
      | in-NewAxis w ↦ subst P (sym w.counts-is) (counted_new_axis items index _ _ _ _ known (front_item items index _ _ within w.in-NewAxis.is))
      | in-Ellipsis w ↦ subst P (sym w.counts-is) (counted_ellipsis items index _ _ _ _ known (front_item items index _ _ within w.in-Ellipsis.is))
    ]
