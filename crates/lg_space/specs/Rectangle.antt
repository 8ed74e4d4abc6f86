-- Rectangles of indices. A rectangle is the list of its ranges, one for each axis: the low end, and
-- the high end, which is no longer in it. An index is the list of its coordinates. After NumPy's
-- reference, "numpy.ndindex" and "Internal memory layout of an ndarray".
use Rattle.std.specs.Prelude.{ℕ, ◌+◌, ◌*◌, ◌-◌, ◌<◌, ◌≤◌, List, [], ◌∷◌, map, flat_map}
use Rattle.std.specs.List.{range_with_len}

-- all ways to take one member of each list, in row-major order: the last list runs fastest
abbrev pub combinations : {A : Type 0} → List (List A) → List (List A)
combinations [] = [] ∷ []
combinations (choices ∷ others) =
    flat_map (λ choice. map (λ rest. choice ∷ rest) (combinations others)) choices

-- the numbers of a range, upwards
abbrev pub numbers_in : ℕ × ℕ → List ℕ
numbers_in range = range_with_len range.0 (range.1 - range.0)

-- all indices of a rectangle, in row-major order
abbrev pub indices : List (ℕ × ℕ) → List (List ℕ)
indices rect = combinations (map numbers_in rect)

-- the index has as many coordinates as the rectangle has axes, each of them in the range of its
-- axis
abbrev pub IsIn : List (ℕ × ℕ) → List ℕ → Type 0
IsIn [] [] = Unit {0}
IsIn [] (i ∷ index) = ⊥
IsIn (range ∷ rect) [] = ⊥
IsIn (range ∷ rect) (i ∷ index) = (range.0 ≤ i) × (i < range.1) × IsIn rect index

-- how many indices there are
abbrev pub volume_of : List (ℕ × ℕ) → ℕ
volume_of [] = 1
volume_of (range ∷ rect) = (range.1 - range.0) * volume_of rect

-- how many indices come before one in row-major order
abbrev pub place_in : List (ℕ × ℕ) → List ℕ → ℕ
place_in [] index = 0
place_in (range ∷ rect) [] = 0
place_in (range ∷ rect) (i ∷ index) = (i - range.0) * volume_of rect + place_in rect index
