-- Laws of rectangles, over lists of any length.
use Rattle.std.specs.Prelude.{◌≡◌, ℕ, ◌+◌, ◌-◌, List, [], ◌∷◌, ◌++◌, length, Some, slice_get}
use Rattle.lg_space.specs.Rectangle.{indices, IsIn, volume_of, place_in}

-- the volume is the length of the list of all indices
abbrev pub VolumeCounts : Type 0
VolumeCounts = (rect : List (ℕ × ℕ)) → length (indices rect) ≡ volume_of rect

-- an index of the rectangle stands at its place in the list
abbrev pub StandsAtPlace : Type 0
StandsAtPlace =
    (rect : List (ℕ × ℕ)) (index : List ℕ) → IsIn rect index
    → slice_get (indices rect) (place_in rect index) ≡ Some index

-- what stands in the list is an index of the rectangle, and stands at its place alone
abbrev pub StandsOnce : Type 0
StandsOnce =
    (rect : List (ℕ × ℕ)) (k : ℕ) (index : List ℕ) → slice_get (indices rect) k ≡ Some index
    → IsIn rect index × (place_in rect index ≡ k)

-- indices that differ on the last axis alone stand side by side, in the order of that coordinate
abbrev pub SideBySide : Type 0
SideBySide =
    (rect : List (ℕ × ℕ)) (last : ℕ × ℕ) (index : List ℕ) (k : ℕ) → length index ≡ length rect
    → place_in (rect ++ last ∷ []) (index ++ k ∷ [])
    ≡ place_in (rect ++ last ∷ []) (index ++ last.0 ∷ []) + (k - last.0)
