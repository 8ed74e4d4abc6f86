-- Laws of the tiles of a shape, over lists of any length.
use Rattle.std.specs.Prelude.{◌≡◌, ℕ, ◌<◌, ◌≤◌, Bool, List, length, Some, slice_get}
use Rattle.lg_space.specs.Rectangle.{IsIn}
use Rattle.lg_space.specs.Partition.{Partitions}
use Rattle.lg_shape.specs.Shapes.{whole}
use Rattle.lg_shape.specs.Tiling.{parts, tiles}

-- the tiles are in the shape, and each index of it is in exactly one of them
abbrev pub TilesPartition : Type 0
TilesPartition =
    (pieces : ℕ) (shape : List ℕ) (whole_axes : List Bool) → 1 ≤ pieces
    → Partitions (tiles pieces shape whole_axes) (IsIn (whole shape))

-- there is a tile, and there are at most as many as pieces are wanted
abbrev pub TilesCount : Type 0
TilesCount =
    (pieces : ℕ) (shape : List ℕ) (whole_axes : List Bool) → 1 ≤ pieces
    → (1 ≤ length (tiles pieces shape whole_axes))
    × (length (tiles pieces shape whole_axes) ≤ pieces)

-- a part of an axis that is not empty is not empty
abbrev pub PartsFilled : Type 0
PartsFilled =
    (pieces extent number : ℕ) (range : ℕ × ℕ) → 1 ≤ pieces → 1 ≤ extent
    → slice_get (parts pieces extent) number ≡ Some range → range.0 < range.1
