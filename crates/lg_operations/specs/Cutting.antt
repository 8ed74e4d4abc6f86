-- Tiles that follow one another. Only private functions speak of it.
use Rattle.std.specs.Prelude.{◌≡◌, ℕ, List, length, flat_map, Some, slice_get}
use Rattle.lg_space.specs.Rectangle.{IsIn, indices}
use Rattle.lg_space.specs.Partition.{LieWithin}

-- the indices of the tiles, tile after tile, are those of the whole rectangle
pub record InOrder (tiles : List (List (ℕ × ℕ))) (all : List (ℕ × ℕ)) : Type 0 where
  pub within : LieWithin tiles (IsIn all)
  pub axes : (k : ℕ) (tile : List (ℕ × ℕ)) → slice_get tiles k ≡ Some tile → length tile ≡ length all
  pub order : flat_map indices tiles ≡ indices all
