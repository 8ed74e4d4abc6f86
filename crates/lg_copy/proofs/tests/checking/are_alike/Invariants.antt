use Rattle.std.proofs.Common.{◌≡◌, ℕ, ◌<◌, Some, slice_get}
use Rattle.lg_tile.specs.declared.any_tile.AnyTile.{AnyTile}
use Rattle.lg_tile.specs.Tiles.{dtype_of}
use Rattle.lg_copy.proofs.tests.checking.are_alike.Given as goal

abbrev pub invariant-loop-part : goal.invariant-loop-part
invariant-loop-part l = (k : ℕ) (part first : AnyTile) → k < l.part-index → slice_get l.parts k ≡ Some part → slice_get l.parts 0 ≡ Some first → dtype_of part ≡ dtype_of first
