-- Copies between tiles by index.
use Rattle.std.specs.Prelude.{◌≡◌, ℕ, ◌<◌, List, Option, Some, slice_get, ℤ}
use Rattle.lg_space.specs.Rectangle.{IsIn, place_in}
use Rattle.lg_shape.specs.Shapes.{whole}
use Rattle.lg_tile.specs.declared.any_tile.AnyTile.{AnyTile}
use Rattle.lg_tile.specs.declared.tile.Tile.{Tile}
use Rattle.lg_tile.specs.Tile.{tile_items, tile_rect}
use Rattle.lg_tile.specs.Tiles.{dtype_of, number_at, rect_of}
use Rattle.lg_xform.specs.declared.chain.Chain.{Chain}
use Rattle.lg_xform.specs.Chains.{shape_of, mapped}
use Rattle.lg_copy.specs.Copying.{Copied}

-- the element of a tile at an index
abbrev pub element_at : {T : Type 0} → Tile T → List ℕ → Option T
element_at tile index = slice_get (tile_items tile) (place_in (tile_rect tile) index)

-- the indices of a rectangle are indices of the view, and lead into a tile of this rectangle
pub record LeadsInto (chain : Chain) (rect tile : List (ℕ × ℕ)) : Type 0 where
  pub within : (index : List ℕ) → IsIn rect index → IsIn (whole (shape_of chain)) index
  pub inside : (index : List ℕ) → IsIn rect index → IsIn tile (mapped chain index)

-- some index of a rectangle leads by one view to this place of the source, and by another one to
-- that place of the target
pub record LeadsBoth (source : List (ℕ × ℕ)) (first : Chain) (target : List (ℕ × ℕ))
    (second : Chain) (rect : List (ℕ × ℕ)) (s q : ℕ) : Type 0 where
  pub index : List ℕ
  pub inside : IsIn rect index
  pub from : place_in source (mapped first index) ≡ s
  pub to : place_in target (mapped second index) ≡ q

-- no two indices of a rectangle lead to one index
abbrev pub RepeatsNone : (List ℕ → List ℕ) → List (ℕ × ℕ) → Type 0
RepeatsNone lead rect = (a b : List ℕ) → IsIn rect a → IsIn rect b → lead a ≡ lead b → a ≡ b

-- all parts have one element type
abbrev pub AreAlike : List AnyTile → Type 0
AreAlike parts = (j k : ℕ) (a b : AnyTile) → slice_get parts j ≡ Some a
    → slice_get parts k ≡ Some b → dtype_of a ≡ dtype_of b

-- a tile has the element type of all parts
abbrev pub IsOfType : List AnyTile → AnyTile → Type 0
IsOfType parts tile = (k : ℕ) (part : AnyTile) → slice_get parts k ≡ Some part
    → dtype_of tile ≡ dtype_of part

-- at each index that it has in common with one of the first parts, a tile has the number of that
-- part
abbrev pub HasParts : List AnyTile → ℕ → AnyTile → Type 0
HasParts parts count tile = (k : ℕ) (part : AnyTile) (index : List ℕ) → k < count
    → slice_get parts k ≡ Some part → IsIn (rect_of tile) index → IsIn (rect_of part) index
    → number_at tile index ≡ number_at part index

-- the numbers of a tile after a copy from another one, with a view at either side
pub record CopiedThrough (source : List (ℕ × ℕ)) (first : Chain) (target : List (ℕ × ℕ))
    (second : Chain) (rect : List (ℕ × ℕ)) (given old new : List ℤ) : Type 0 where
  pub copied : Copied given old new (λ s q. LeadsBoth source first target second rect s q)
