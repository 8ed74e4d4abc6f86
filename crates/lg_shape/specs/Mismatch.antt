-- Where two shapes do not broadcast, and what the extents are where they do. After NumPy's
-- reference, "Broadcasting". Axes are counted from the last one, from 0 on.
use Rattle.std.specs.Prelude.{◌≡◌, ◌≢◌, ℕ, ◌<◌, ◌⊎◌, List, length, reverse, Some, slice_get, slice_index_or}

-- both shapes have the axis, the extents differ, and neither of them is 1
abbrev pub IsMismatch : List ℕ → List ℕ → ℕ → Type 0
IsMismatch a b axis = (x y : ℕ) × (slice_get (reverse a) axis ≡ Some x)
    × (slice_get (reverse b) axis ≡ Some y) × (x ≢ y) × (x ≢ 1) × (y ≢ 1)

-- and on no axis behind it is it so
pub record IsFirstMismatch (a b : List ℕ) (axis : ℕ) : Type 0 where
  pub here : IsMismatch a b axis
  pub first : (behind : ℕ) → behind < axis → ¬ IsMismatch a b behind

-- the extent of an axis; a missing axis counts as 1
abbrev pub extent_from_last : List ℕ → ℕ → ℕ
extent_from_last shape axis = slice_index_or (reverse shape) axis 1

-- each extent is that of one of two shapes
abbrev pub EachIsOfEither : List ℕ → List ℕ → List ℕ → Type 0
EachIsOfEither a b shape = (axis : ℕ) → axis < length shape
    → (extent_from_last shape axis ≡ extent_from_last a axis)
    ⊎ (extent_from_last shape axis ≡ extent_from_last b axis)
