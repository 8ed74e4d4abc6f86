-- How the elements of a view are gathered, axis after axis. Only private functions speak of it.
use Rattle.std.specs.Prelude.{◌≡◌, ℕ, ◌+◌, ◌-◌, ◌<◌, List, [], ◌∷◌, length, map, slice_get, slice_index_or, ℤ, pos, ◌+ℤ◌, ◌*ℤ◌}
use Rattle.lg_space.specs.Rectangle.{IsIn}
use Rattle.lg_shape.specs.Shapes.{whole, place_of, size_of}
use Rattle.lg_shape.specs.Views.{place_at}
use Rattle.lg_tile.specs.declared.any_tile.AnyTile.{AnyTile}
use Rattle.lg_tile.specs.Tiles.{numbers}
use Rattle.lg_xform.specs.declared.chain.Chain.{Chain}
use Rattle.lg_xform.specs.Chains.{layout_of}

-- the number that a view has at one of its indices, where these are the numbers of its root
abbrev pub number_through : List ℤ → Chain → List ℕ → ℤ
number_through numbers chain index =
    slice_index_or numbers (place_at (layout_of chain) index) (pos 0)

abbrev pub seen_at : AnyTile → Chain → List ℕ → ℤ
seen_at tile chain index = number_through (numbers tile) chain index

-- how many coordinates each axis of a rectangle has
abbrev pub sizes_in : List (ℕ × ℕ) → List ℕ
sizes_in rect = map (λ range. range.1 - range.0) rect

-- how far an index is from the first one: for each axis its coordinate, times the stride
abbrev pub distance : List ℕ → List ℤ → ℤ
distance [] strides = pos 0
distance (i ∷ index) [] = pos 0
distance (i ∷ index) (stride ∷ strides) = (pos i *ℤ stride) +ℤ distance index strides

-- an index lies at a place, of which there are so many
pub record LiesAt (base : ℕ) (strides : List ℤ) (index : List ℕ) (count : ℕ) : Type 0 where
  pub place : ℕ
  pub below : place < count
  pub is : pos place ≡ pos base +ℤ distance index strides

-- so does each index of a shape
abbrev pub AllLie : ℕ → List ℤ → List ℕ → ℕ → Type 0
AllLie base strides extents count =
    (index : List ℕ) → IsIn (whole extents) index → LiesAt base strides index count

-- behind what there was stand the elements of all indices of the shape, in row-major order
pub record IsGathered {T : Type 0} (source : List T) (base : ℕ) (strides : List ℤ)
    (extents : List ℕ) (old new : List T) : Type 0 where
  pub count : length new ≡ length old + size_of extents
  pub kept : (k : ℕ) → k < length old → slice_get new k ≡ slice_get old k
  pub each : (index : List ℕ) (place : ℕ) → IsIn (whole extents) index
      → pos place ≡ pos base +ℤ distance index strides
      → slice_get new (length old + place_of extents index) ≡ slice_get source place

-- each index of the shape lies at its place in row-major order
abbrev pub AreRows : List ℤ → List ℕ → Type 0
AreRows strides extents = (index : List ℕ) → IsIn (whole extents) index
    → distance index strides ≡ pos (place_of extents index)
