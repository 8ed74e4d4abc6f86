-- Shapes, the places of their elements, and broadcasting. After NumPy's reference, "Broadcasting"
-- and "Internal memory layout of an ndarray". A shape is the list of its extents.
use Rattle.std.specs.Prelude.{ℕ, ◌-◌, ◌==◌, List, [], ◌∷◌, length, drop, map, reverse, Option, Some, None, option_map, option_and_then, if◌then◌else◌, ℤ, pos, slice_index_or}
use Rattle.lg_space.specs.Rectangle.{indices, volume_of, place_in}

-- the rectangle of all indices
abbrev pub whole : List ℕ → List (ℕ × ℕ)
whole shape = map (λ extent. (0, extent)) shape

-- the number of elements
abbrev pub size_of : List ℕ → ℕ
size_of shape = volume_of (whole shape)

-- all indices, in row-major order: the last axis runs fastest
abbrev pub places : List ℕ → List (List ℕ)
places shape = indices (whole shape)

-- the place of an index in that order
abbrev pub place_of : List ℕ → List ℕ → ℕ
place_of shape index = place_in (whole shape) index

-- the index with 0 on the axes whose extent is 1
abbrev pub pinned : List ℕ → List ℕ → List ℕ
pinned [] index = []
pinned (extent ∷ extents) [] = []
pinned (extent ∷ extents) (i ∷ index) = (if extent == 1 then 0 else i) ∷ pinned extents index

-- the index of a value of this shape that belongs to an index of a shape with as many axes or more:
-- aligned at the last axis
abbrev pub aligned : List ℕ → List ℕ → List ℕ
aligned shape index = pinned shape (drop (length index - length shape) index)

-- the numbers of a value of one shape, repeated so that they fill another one
abbrev pub broadcast : List ℕ → List ℤ → List ℕ → List ℤ
broadcast shape numbers to =
    map (λ index. slice_index_or numbers (place_of shape (aligned shape index)) (pos 0)) (places to)

-- the extent of an axis on which two values go together: the extents are equal, or one of them is 1
abbrev pub joined_extent : ℕ → ℕ → Option ℕ
joined_extent a b =
    if a == b then Some a else (if a == 1 then Some b else (if b == 1 then Some a else None))

-- the same for all axes, from the last to the first; a missing axis counts as 1
abbrev pub joined_axes : List ℕ → List ℕ → Option (List ℕ)
joined_axes [] b = Some b
joined_axes (x ∷ a) [] = Some (x ∷ a)
joined_axes (x ∷ a) (y ∷ b) =
    option_and_then (λ extent. option_map (λ extents. extent ∷ extents) (joined_axes a b))
    (joined_extent x y)

-- the shape to which two shapes broadcast, if they do
abbrev pub joined_shape : List ℕ → List ℕ → Option (List ℕ)
joined_shape a b = option_map reverse (joined_axes (reverse a) (reverse b))
