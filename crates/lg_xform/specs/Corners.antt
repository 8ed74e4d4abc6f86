-- The nearest and the farthest index of a tile, by where they lead. This project's own.
use Rattle.std.specs.Prelude.{ℕ, ◌+◌, ◌-◌, Bool, true, false, List, [], ◌∷◌, map}
use Rattle.lg_xform.specs.declared.axis.ViewAxis.{ViewAxis}

-- the end of a range that is nearest or farthest, on an axis that runs up or down
abbrev pub end_of : Bool → Bool → ℕ × ℕ → ℕ
end_of false false range = range.0
end_of false true range = range.1 - 1
end_of true false range = range.1 - 1
end_of true true range = range.0

-- the same on all axes
abbrev pub corner_of : Bool → List ViewAxis → List (ℕ × ℕ) → List ℕ
corner_of far [] tile = []
corner_of far (axis ∷ axes) [] = []
corner_of far (axis ∷ axes) (range ∷ tile) = end_of far axis.down range ∷ corner_of far axes tile

-- the rectangle from one index to another, with both
abbrev pub boxed : List ℕ → List ℕ → List (ℕ × ℕ)
boxed [] highs = []
boxed (low ∷ lows) [] = []
boxed (low ∷ lows) (high ∷ highs) = (low, high + 1) ∷ boxed lows highs

-- a rectangle without indices, with as many axes as the shape. One without axes would have an
-- index, so for no axes it has one
abbrev pub empty_of : List ℕ → List (ℕ × ℕ)
empty_of [] = (0, 0) ∷ []
empty_of (extent ∷ shape) = (0, 0) ∷ map (λ extent. (0, 0)) shape
