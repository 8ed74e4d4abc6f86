-- Places in a tile of a root as a sum over the axes of a view. After NumPy's reference, "Internal
-- memory layout of an ndarray": a stride for each axis, which may be negative.
use Rattle.std.specs.Prelude.{◌≡◌, ℕ, ◌+◌, ◌-◌, ◌<◌, ◌≤◌, List, [], ◌∷◌, map, slice_set, slice_index_or, ℤ, pos, ◌+ℤ◌, ◌*ℤ◌}

-- how far an index is from the first index of the rectangle: for each axis its distance, times the
-- stride
abbrev pub along : List ℤ → List (ℕ × ℕ) → List ℕ → ℤ
along [] rect index = pos 0
along (stride ∷ strides) [] index = pos 0
along (stride ∷ strides) (range ∷ rect) [] = pos 0
along (stride ∷ strides) (range ∷ rect) (i ∷ index) =
    (pos (i - range.0) *ℤ stride) +ℤ along strides rect index

-- the first index of a rectangle
abbrev pub first_of : List (ℕ × ℕ) → List ℕ
first_of rect = map (λ (range : ℕ × ℕ). range.0) rect

-- the first index of a rectangle, and one further on one axis
abbrev pub next_of : List (ℕ × ℕ) → ℕ → List ℕ
next_of rect axis =
    slice_set (first_of rect) axis (slice_index_or (first_of rect) axis 0 + 1)

-- the stride of an axis: how far the next index is from the first. An axis of one coordinate has 0
pub record IsStride (place : List ℕ → ℕ) (rect : List (ℕ × ℕ)) (axis : ℕ) (stride : ℤ)
    : Type 0 where
  pub next : 1 < (slice_index_or rect axis (0, 0)).1 - (slice_index_or rect axis (0, 0)).0
      → pos (place (next_of rect axis)) ≡ pos (place (first_of rect)) +ℤ stride
  pub still : (slice_index_or rect axis (0, 0)).1 - (slice_index_or rect axis (0, 0)).0 ≤ 1
      → stride ≡ pos 0
