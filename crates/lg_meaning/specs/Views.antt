-- Views: `transpose`, `broadcast_to`, and what all views have in common. A view form says which
-- members it picks out of a layout; so it is defined once, for the view of a root and for a value
-- that no root holds. After NumPy's reference, "numpy.transpose", "numpy.broadcast_to" and
-- "Broadcasting". The rights and the order of faults are this project's own.
use Rattle.std.specs.Prelude.{ℕ, ◌==◌, Bool, true, false, not, ◌&&◌, List, [], ◌∷◌, length, map, reverse, Option, Some, None, Result, Ok, ℤ, pos, slice_index_or, bytes_eq}
use Rattle.std.specs.List.{range_with_len, list_all, list_any}
use Rattle.lg_shape.specs.Shapes.{places, aligned, joined_shape}
use Rattle.lg_shape.specs.Views.{Layout, whole_layout, place_at, stepped, shape_after}
use Rattle.lg_shape.specs.Indexing.{has_coordinate, coordinate}
use Rattle.lg_shape.specs.declared.step.Step.TheVariants.{Transpose}
use Rattle.lg_meaning.specs.declared.fault.FaultKind.{FaultKind}
use Rattle.lg_meaning.specs.declared.fault.FaultKind.TheVariants.{Shape, Index, Limit}
use Rattle.lg_meaning.specs.Faults.{from_part, needing}
use Rattle.lg_meaning.specs.Memory.{Right, writable, read_only, scalar, ArrayKind, View}
use Rattle.lg_meaning.specs.Static.{Static, as_array, array_result, integers, is_within}
use Rattle.lg_meaning.specs.Creation.{is_shape, extents}
use Rattle.lg_meaning.specs.Value.{Value}

-- ---- what all views have in common

-- a view of what may be written may be written; any other view, a view of a scalar too, is read
-- alone
abbrev pub view_right : Right → Right
view_right writable = writable
view_right read_only = read_only
view_right scalar = read_only

-- a view of this shape
abbrev pub view_kind : ArrayKind → List ℕ → ArrayKind
view_kind kind shape =
    record { dtype = kind.dtype; shape = shape; right = view_right kind.right }

-- shape and places of a view
abbrev pub layout_in : View → Layout
layout_in view = record { shape = view.kind.shape; places = view.places }

-- what a view form makes of a value: the numbers that it picks
abbrev pub picked : (Layout → Layout) → Value → ArrayKind → Value
picked form v kind = record {
  shape = kind.shape;
  numbers =
      map (λ place. slice_index_or v.numbers place (pos 0)) (form (whole_layout v.shape)).places;
  fault = v.fault;
}

-- what a view form makes of a view: another view of its root
abbrev pub view_by : (Layout → Layout) → View → ArrayKind → View
view_by form view kind =
    record { root = view.root; kind = kind; places = (form (layout_in view)).places }

-- ---- axes

-- an axis by its number, which counts from the end where it is below 0
abbrev pub axis_of : ℕ → ℤ → Result ℕ FaultKind
axis_of count x = needing (has_coordinate count x) Index (Ok (coordinate count x))

-- one that may be left out
abbrev pub optional_axis : ℕ → Option ℤ → Result (Option ℕ) FaultKind
optional_axis count None = Ok None
optional_axis count (Some x) = from_part (axis_of count x) (λ axis. Ok (Some axis))

-- ---- `transpose`

abbrev pub are_distinct : List ℕ → Bool
are_distinct [] = true
are_distinct (axis ∷ axes) = not (list_any (λ other. axis == other) axes) && are_distinct axes

-- axis j of the view is axis `axes[j]`, without axes from the last to the first. Each axis stands
-- there once: a wrong number of them is a fault, then one that is out of range, then a repeated one
abbrev pub transpose_axes : ℕ → Option (List ℤ) → Result (List ℕ) FaultKind
transpose_axes count None = Ok (reverse (range_with_len 0 count))
transpose_axes count (Some xs) =
    needing (length xs == count) Shape
    (needing (list_all (has_coordinate count) xs) Index
    (needing (are_distinct (map (coordinate count) xs)) Shape (Ok (map (coordinate count) xs))))

abbrev pub transposed : List ℕ → Layout → Layout
transposed axes = stepped (Transpose axes)

abbrev pub transpose_kind : ArrayKind → Option (List ℤ) → Result ArrayKind FaultKind
transpose_kind kind xs = from_part (transpose_axes (length kind.shape) xs)
    (λ axes. Ok (view_kind kind (shape_after (Transpose axes) kind.shape)))

-- the axes as written
abbrev pub optional_integers : Option (List Static) → Result (Option (List ℤ)) FaultKind
optional_integers None = Ok None
optional_integers (Some parts) = from_part (integers parts) (λ xs. Ok (Some xs))

abbrev pub transpose_static : Static → Option (List Static) → Result Static FaultKind
transpose_static a parts = from_part (optional_integers parts)
    (λ xs. from_part (as_array a) (λ kind. array_result (transpose_kind kind xs)))

-- ---- `broadcast_to`

-- a value of the one shape is repeated to exactly the other one
abbrev pub is_exactly : Option (List ℕ) → List ℕ → Bool
is_exactly None shape = false
is_exactly (Some other) shape = bytes_eq other shape

abbrev pub broadcasts_to : List ℕ → List ℕ → Bool
broadcasts_to shape to = is_exactly (joined_shape shape to) to

-- at each index the view has the place that belongs to the index where the shapes are aligned
abbrev pub repeated : List ℕ → Layout → Layout
repeated to layout = record {
  shape = to;
  places = map (λ index. place_at layout (aligned layout.shape index)) (places to);
}

-- the view may be read alone, since it may have a place several times
abbrev pub repeated_kind : ArrayKind → List ℕ → ArrayKind
repeated_kind kind shape = record { dtype = kind.dtype; shape = shape; right = read_only }

-- what is written is a shape, and the value broadcasts to it; then it is within the limits
abbrev pub broadcast_kind : ArrayKind → List ℤ → Result ArrayKind FaultKind
broadcast_kind kind xs =
    needing (is_shape xs && broadcasts_to kind.shape (extents xs)) Shape
    (needing (is_within (extents xs)) Limit (Ok (repeated_kind kind (extents xs))))

abbrev pub broadcast_static : Static → List Static → Result Static FaultKind
broadcast_static a parts = from_part (integers parts)
    (λ xs. from_part (as_array a) (λ kind. array_result (broadcast_kind kind xs)))
