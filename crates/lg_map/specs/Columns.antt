-- What a loop over elements reads: the elements of a part of a tile, or one number at each place.
-- Only private functions speak of it.
use Rattle.std.specs.Prelude.{◌≡◌, ℕ, ◌<◌, Bool, List, [], length, map, slice_index_or, ℤ, pos}
use Rattle.std.specs.Int.{from_bool}
use Rattle.std.specs.List.{range_with_len}
use Rattle.lg_elem.specs.declared.dtype.DType.{DType}
use Rattle.lg_elem.specs.declared.kinds.Compare.{Compare}
use Rattle.lg_elem.specs.Operations.{compare_of}
use Rattle.lg_elem.specs.Types.{wrap}
use Rattle.lg_space.specs.Rectangle.{indices, place_in, volume_of}
use Rattle.lg_elem.specs.declared.kinds.Flag.{Flag}
use Rattle.lg_elem.specs.declared.kinds.Flag.TheVariants.{Clear}
use Rattle.lg_shape.specs.Shapes.{place_of}
use Rattle.lg_tile.specs.declared.any_tile.AnyTile.{AnyTile}
use Rattle.lg_tile.specs.Tiles.{dtype_of, numbers, rect_of}
use Rattle.lg_tile.specs.declared.section.Section.{Section}
use Rattle.lg_tile.specs.declared.tile.Tile.{Tile}
use Rattle.lg_tile.specs.Sections.{section_items}
use Rattle.lg_tile.specs.Tile.{tile_items, tile_rect}
use Rattle.lg_map.specs.declared.columns.Values.{Values}
use Rattle.lg_map.specs.declared.columns.Values.TheVariants.{Items, Constant}

-- a list of a number for each place below n
abbrev pub listed : {A : Type 0} → (ℕ → A) → ℕ → List A
listed f n = map f (range_with_len 0 n)

-- the number at a place of a list of elements
abbrev pub item_at : {T : Type 0} → (T → ℤ) → List T → ℕ → ℤ
item_at number items place = slice_index_or (map number items) place (pos 0)

-- the number at a place
abbrev pub number_in : {T : Type 0} → (T → ℤ) → Values T → ℕ → ℤ
number_in number (Items section) place = item_at number (section_items section) place
number_in number (Constant x) place = number x

-- the number of a typed tile's element at an index
abbrev pub typed_at : {T : Type 0} → (T → ℤ) → Tile T → List ℕ → ℤ
typed_at number tile index = item_at number (tile_items tile) (place_in (tile_rect tile) index)

-- there is an element for each place below n
abbrev pub Fills : {T : Type 0} → Values T → ℕ → Type 0
Fills (Items section) n = length (section_items section) ≡ n
Fills (Constant x) n = Unit {0}

-- the index at a place of a rectangle
abbrev pub index_in : List (ℕ × ℕ) → ℕ → List ℕ
index_in rect place = slice_index_or (indices rect) place []

-- the values are, at each place of the rectangle, the number of its index, as an element of type t
abbrev pub Stands : {T : Type 0} → DType → (T → ℤ) → Values T → List (ℕ × ℕ) → (List ℕ → ℤ) → Type 0
Stands t number values rect f =
    Fills values (volume_of rect)
    × ((place : ℕ) → place < volume_of rect
    → wrap t (number_in number values place) ≡ wrap t (f (index_in rect place)))

-- the section has, at each place of the rectangle, the number of its index
abbrev pub IsPartOf : {T : Type 0} → (T → ℤ) → Section T → List (ℕ × ℕ) → (List ℕ → ℤ) → Type 0
IsPartOf number part rect f =
    (length (section_items part) ≡ volume_of rect)
    × ((place : ℕ) → place < volume_of rect
    → item_at number (section_items part) place ≡ f (index_in rect place))

-- the tile has this rectangle, and at each index a number wrapped to type t
abbrev pub IsCast : {T : Type 0} → DType → (T → ℤ) → Tile T → List (ℕ × ℕ) → (List ℕ → ℤ) → Type 0
IsCast t number tile rect f =
    (tile_rect tile ≡ rect)
    × (map number (tile_items tile) ≡ map (λ index. wrap t (f index)) (indices rect))

-- tile and flag are those of a list of numbers in row-major order of its shape
abbrev pub IsListed : DType → List ℕ → List ℤ → List (ℕ × ℕ) → AnyTile × Flag → Type 0
IsListed t shape list rect answer =
    (dtype_of answer.0 ≡ t) × (rect_of answer.0 ≡ rect)
    × (numbers answer.0
    ≡ map (λ index. wrap t (slice_index_or list (place_of shape index) (pos 0))) (indices rect))
    × (answer.1 ≡ Clear)

-- the tile has this rectangle, and at each index whether two numbers compare so
abbrev pub IsTruths : Tile Bool → List (ℕ × ℕ) → Compare → (List ℕ → ℤ) → (List ℕ → ℤ) → Type 0
IsTruths tile rect op f g =
    (tile_rect tile ≡ rect)
    × (map (λ b. pos (from_bool b)) (tile_items tile)
    ≡ map (λ index. pos (from_bool (compare_of op (f index) (g index)))) (indices rect))
