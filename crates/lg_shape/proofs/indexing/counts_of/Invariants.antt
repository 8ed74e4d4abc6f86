use Rattle.lg_shape.proofs.Counting.{Counted}
use Rattle.lg_shape.proofs.indexing.counts_of.Given as goal

abbrev pub invariant-loop-item : goal.invariant-loop-item
invariant-loop-item l =
    Counted l.items l.item-index l.counts.integers l.counts.slices l.counts.new_axes l.counts.ellipses
