use Rattle.std.proofs.Common.{◌≡◌, ℕ, ◌<◌, List, Some, slice_get}
use Rattle.lg_space.specs.Rectangle.{IsIn, place_in}
use Rattle.lg_tile.specs.declared.any_tile.AnyTile.{AnyTile}
use Rattle.lg_tile.specs.Tiles.{rect_of}
use Rattle.lg_xform.specs.Chains.{mapped}
use Rattle.lg_copy.proofs.tests.checking.are_held.Given as goal

abbrev pub invariant-loop-k : goal.invariant-loop-k
invariant-loop-k l = (index : List ℕ) → IsIn l.rect index → place_in l.rect index < l.k
    → (n : ℕ) × (part : AnyTile) × (slice_get l.parts n ≡ Some part) × IsIn (rect_of part) (mapped l.chain index)
