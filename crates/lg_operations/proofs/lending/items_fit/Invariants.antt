use Rattle.std.proofs.Common.{ℕ, ◌<◌, map, slice_index_or, pos}
use Rattle.lg_elem.specs.Types.{IsNumber}
use Rattle.lg_operations.proofs.lending.items_fit.Given as goal

abbrev pub invariant-loop-item : goal.invariant-loop-item
invariant-loop-item g l = (place : ℕ) → place < l.item-index → IsNumber g.T.Elem.DTYPE (slice_index_or (map g.T.Elem.number l.item-items) place (pos 0))
