-- What contracts see of a tile of any element type: the type, the rectangle and the whole numbers
-- of its elements. The order of the elements is NumPy's C order (NumPy's reference, "Internal
-- memory layout of an ndarray").
use Rattle.std.specs.Prelude.{◌≡◌, ℕ, List, map, ℤ, pos, slice_index_or}
use Rattle.std.specs.Int.{from_bool}
use Rattle.lg_elem.specs.declared.dtype.DType.{DType}
use Rattle.lg_elem.specs.declared.dtype.DType.TheVariants as types
use Rattle.lg_space.specs.Rectangle.{place_in}
use Rattle.lg_tile.specs.declared.any_tile.AnyTile.{AnyTile}
use Rattle.lg_tile.specs.declared.any_tile.AnyTile.TheVariants.{Bool as Truth, Int8, Int16, Int32, Int64, UInt8, UInt16, UInt32, UInt64}
use Rattle.lg_tile.specs.declared.tile.Tile.{Tile}
use Rattle.lg_tile.specs.Tile.{tile_rect, tile_items}

-- the element type
abbrev pub dtype_of : AnyTile → DType
dtype_of (Truth _) = types.Bool
dtype_of (Int8 _) = types.Int8
dtype_of (Int16 _) = types.Int16
dtype_of (Int32 _) = types.Int32
dtype_of (Int64 _) = types.Int64
dtype_of (UInt8 _) = types.UInt8
dtype_of (UInt16 _) = types.UInt16
dtype_of (UInt32 _) = types.UInt32
dtype_of (UInt64 _) = types.UInt64

-- the rectangle, as the list of its ranges
abbrev pub rect_of : AnyTile → List (ℕ × ℕ)
rect_of (Truth tile) = tile_rect tile
rect_of (Int8 tile) = tile_rect tile
rect_of (Int16 tile) = tile_rect tile
rect_of (Int32 tile) = tile_rect tile
rect_of (Int64 tile) = tile_rect tile
rect_of (UInt8 tile) = tile_rect tile
rect_of (UInt16 tile) = tile_rect tile
rect_of (UInt32 tile) = tile_rect tile
rect_of (UInt64 tile) = tile_rect tile

-- the numbers of the elements, in row-major order of the rectangle: 1 for true and 0 for false
abbrev pub numbers : AnyTile → List ℤ
numbers (Truth tile) = map (λ b. pos (from_bool b)) (tile_items tile)
numbers (Int8 tile) = map (λ x. x) (tile_items tile)
numbers (Int16 tile) = map (λ x. x) (tile_items tile)
numbers (Int32 tile) = map (λ x. x) (tile_items tile)
numbers (Int64 tile) = map (λ x. x) (tile_items tile)
numbers (UInt8 tile) = map (λ x. pos x) (tile_items tile)
numbers (UInt16 tile) = map (λ x. pos x) (tile_items tile)
numbers (UInt32 tile) = map (λ x. pos x) (tile_items tile)
numbers (UInt64 tile) = map (λ x. pos x) (tile_items tile)

-- the tile of any type is this tile of a known type, whose elements have these numbers
abbrev pub IsTyped : {T : Type 0} → DType → (T → ℤ) → Tile T → AnyTile → Type 0
IsTyped dtype number tile any =
    (dtype_of any ≡ dtype) × (rect_of any ≡ tile_rect tile)
    × (numbers any ≡ map number (tile_items tile))

-- the number of the element at an index of the rectangle
abbrev pub number_at : AnyTile → List ℕ → ℤ
number_at tile index = slice_index_or (numbers tile) (place_in (rect_of tile) index) (pos 0)
