-- How the axes of a view move the coordinates of a root. This project's own; the form is that of
-- NumPy's reference, "Internal memory layout of an ndarray", with a stride for each axis, but the
-- strides count coordinates of the root and not bytes, and none is negative.
use Rattle.std.specs.Prelude.{ℕ, zero, suc, ◌+◌, ◌-◌, ◌*◌, ◌<◌, ◌≤◌, Bool, true, false, List, [], ◌∷◌, map, All, slice_index_or}
use Rattle.lg_space.specs.declared.point.TheConstants.{MAX_AXES}
use Rattle.lg_shape.specs.Shapes.{size_of}
use Rattle.lg_xform.specs.declared.axis.ViewAxis.{ViewAxis}

-- how many strides a coordinate is from the lowest place of its axis. An axis that runs down is
-- there at its last coordinate
abbrev pub steps : Bool → ℕ → ℕ → ℕ
steps true extent i = extent - 1 - i
steps false extent i = i

-- the extents of axes
abbrev pub extents_of : List ViewAxis → List ℕ
extents_of axes = map (λ (axis : ViewAxis). axis.extent) axes

-- a coordinate grows
abbrev pub add_at : List ℕ → ℕ → ℕ → List ℕ
add_at [] k n = []
add_at (x ∷ xs) zero n = (x + n) ∷ xs
add_at (x ∷ xs) (suc k) n = x ∷ add_at xs k n

-- the root index of an index: from where the view begins, each of its axes moves one coordinate
abbrev pub moved : List ℕ → List ViewAxis → List ℕ → List ℕ
moved from [] index = from
moved from (axis ∷ axes) [] = from
moved from (axis ∷ axes) (i ∷ index) =
    moved (add_at from axis.root (steps axis.down axis.extent i * axis.stride)) axes index

-- n, if both numbers are the same, else nothing
abbrev pub hit : ℕ → ℕ → ℕ → ℕ
hit zero zero n = n
hit zero (suc a) n = 0
hit (suc k) zero n = 0
hit (suc k) (suc a) n = hit k a n

-- by how much axes move a coordinate at most
abbrev pub reach : ℕ → List ViewAxis → ℕ
reach k [] = 0
reach k (axis ∷ axes) = hit k axis.root ((axis.extent - 1) * axis.stride) + reach k axes

-- no axis leaves the root: each coordinate of the farthest corner is one of its axis. An empty axis
-- counts as having coordinate 0
abbrev pub IsHeld : List ℕ → List ℕ → List ViewAxis → Type 0
IsHeld root from axes =
    (k : ℕ) → slice_index_or from k 0 + reach k axes ≤ slice_index_or root k 0 - 1

-- each axis names an axis that a root may have
abbrev pub AreRooted : List ViewAxis → Type 0
AreRooted axes = All (λ (axis : ViewAxis). axis.root < MAX_AXES) axes

-- the axes into which the one axis of a root is split: each moves it by as many coordinates as
-- there are indices of the axes behind it. `unit` is 1, or 0 where there is no index at all;
-- `inner` says whether the first of them is an inner one
abbrev pub rows_of : ℕ → Bool → List ℕ → List ViewAxis
rows_of unit inner [] = []
rows_of unit inner (extent ∷ sizes) = record {
  extent = extent;
  root = 0;
  stride = unit * size_of sizes;
  down = false;
  inner = inner;
} ∷ rows_of unit true sizes
