-- Which view of a root an index picks, and which faults it may have. After NumPy's reference,
-- "Indexing on ndarrays". That no slice has a step but 1, and the order of the faults, are this
-- project's own.
use Rattle.std.specs.Prelude.{◌≡◌, ℕ, suc, ◌-◌, min, Bool, true, nat_lt, if◌then◌else◌, List, [], ◌∷◌, ◌++◌, length, take, drop, map, Option, Some, None, ℤ, pos, negsuc}
use Rattle.std.specs.Option.{option_or}
use Rattle.std.specs.Ordering.{int_eq}
use Rattle.lg_space.specs.Rectangle.{combinations, numbers_in}
use Rattle.lg_space.specs.declared.point.TheConstants.{MAX_AXES}
use Rattle.lg_shape.specs.Shapes.{size_of, whole}
use Rattle.lg_shape.specs.Views.{Layout, place_at, all_stepped}
use Rattle.lg_shape.specs.declared.step.Step.{Step}
use Rattle.lg_shape.specs.declared.index.IndexItem.{IndexItem}
use Rattle.lg_shape.specs.declared.index.IndexItem.TheVariants.{At, Slice, NewAxis, Ellipsis}
use Rattle.lg_shape.specs.declared.index.IndexFault.{IndexFault}
use Rattle.lg_shape.specs.declared.index.IndexFault.TheVariants.{TwoEllipses, TooMany, OutOfRange, Step as BadStep, TooManyAxes}

-- ---- one axis

-- whether an integer names a coordinate of an axis of this extent: from -extent to extent - 1
abbrev pub has_coordinate : ℕ → ℤ → Bool
has_coordinate extent (pos k) = nat_lt k extent
has_coordinate extent (negsuc k) = nat_lt k extent

-- that coordinate: below 0 the integer counts from the end
abbrev pub coordinate : ℕ → ℤ → ℕ
coordinate extent (pos k) = k
coordinate extent (negsuc k) = extent - suc k

-- a bound of a slice, counted likewise and clipped to the axis, or what stands for an absent one
abbrev pub bound : ℕ → ℕ → Option ℤ → ℕ
bound extent absent None = absent
bound extent absent (Some (pos k)) = min k extent
bound extent absent (Some (negsuc k)) = extent - suc k

-- the range of the coordinates that a slice keeps
abbrev pub kept_range : ℕ → Option ℤ → Option ℤ → ℕ × ℕ
kept_range extent start stop = (bound extent 0 start, bound extent extent stop)

-- whether a slice may have this step: none, or 1
abbrev pub is_plain : Option ℤ → Bool
is_plain None = true
is_plain (Some step) = int_eq step (pos 1)

-- ---- the axes from left to right. `...` stands for so many whole axes, and those behind the last
-- item are whole too

-- the coordinates that are chosen on each axis of the old view
abbrev pub choices : ℕ → List ℕ → List IndexItem → List (List ℕ)
choices missing shape [] = map numbers_in (whole shape)
choices missing shape (NewAxis ∷ items) = choices missing shape items
choices missing shape (Ellipsis ∷ items) =
    map numbers_in (whole (take missing shape)) ++ choices missing (drop missing shape) items
choices missing [] (At k ∷ items) = []
choices missing (extent ∷ shape) (At k ∷ items) =
    (coordinate extent k ∷ []) ∷ choices missing shape items
choices missing [] (Slice start stop step ∷ items) = []
choices missing (extent ∷ shape) (Slice start stop step ∷ items) =
    numbers_in (kept_range extent start stop) ∷ choices missing shape items

-- the shape of the new view: for a slice or a whole axis how many coordinates are chosen, and 1 for
-- a new axis
abbrev pub new_shape : ℕ → List ℕ → List IndexItem → List ℕ
new_shape missing shape [] = shape
new_shape missing shape (NewAxis ∷ items) = 1 ∷ new_shape missing shape items
new_shape missing shape (Ellipsis ∷ items) =
    take missing shape ++ new_shape missing (drop missing shape) items
new_shape missing [] (At k ∷ items) = []
new_shape missing (extent ∷ shape) (At k ∷ items) = new_shape missing shape items
new_shape missing [] (Slice start stop step ∷ items) = []
new_shape missing (extent ∷ shape) (Slice start stop step ∷ items) =
    length (numbers_in (kept_range extent start stop)) ∷ new_shape missing shape items

-- the first fault of an item, if there is one. The first of these items has this place among all
abbrev pub item_fault : ℕ → ℕ → List ℕ → List IndexItem → Option IndexFault
item_fault place missing shape [] = None
item_fault place missing shape (NewAxis ∷ items) = item_fault (suc place) missing shape items
item_fault place missing shape (Ellipsis ∷ items) =
    item_fault (suc place) missing (drop missing shape) items
item_fault place missing [] (At k ∷ items) = None
item_fault place missing (extent ∷ shape) (At k ∷ items) =
    if has_coordinate extent k then item_fault (suc place) missing shape items
    else Some (OutOfRange place)
item_fault place missing [] (Slice start stop step ∷ items) = None
item_fault place missing (extent ∷ shape) (Slice start stop step ∷ items) =
    if is_plain step then item_fault (suc place) missing shape items else Some (BadStep place)

-- ---- the whole index

-- how many of the items are integers or slices
abbrev pub named_axes : List IndexItem → ℕ
named_axes [] = 0
named_axes (At k ∷ items) = suc (named_axes items)
named_axes (Slice start stop step ∷ items) = suc (named_axes items)
named_axes (NewAxis ∷ items) = named_axes items
named_axes (Ellipsis ∷ items) = named_axes items

-- how many are `...`
abbrev pub ellipses : List IndexItem → ℕ
ellipses [] = 0
ellipses (At k ∷ items) = ellipses items
ellipses (Slice start stop step ∷ items) = ellipses items
ellipses (NewAxis ∷ items) = ellipses items
ellipses (Ellipsis ∷ items) = suc (ellipses items)

-- how many axes no integer and no slice names
abbrev pub missing_axes : List ℕ → List IndexItem → ℕ
missing_axes shape items = length shape - named_axes items

-- the shape of the view that an index picks
abbrev pub indexed_shape : List ℕ → List IndexItem → List ℕ
indexed_shape shape items = new_shape (missing_axes shape items) shape items

-- the first fault of an index of a view of this shape, if it has one
abbrev pub index_fault : List ℕ → List IndexItem → Option IndexFault
index_fault shape items =
    if nat_lt 1 (ellipses items) then Some TwoEllipses
    else (if nat_lt (length shape) (named_axes items) then Some TooMany
    else option_or (item_fault 0 (missing_axes shape items) shape items)
    (if nat_lt MAX_AXES (length (indexed_shape shape items)) then Some TooManyAxes else None))

-- the view that an index picks: its members are those at all combinations of chosen coordinates, in
-- row-major order. An integer leaves no choice, and a new axis adds none
abbrev pub indexed : Layout → List IndexItem → Layout
indexed layout items = record {
  shape = indexed_shape layout.shape items;
  places = map (place_at layout)
      (combinations (choices (missing_axes layout.shape items) layout.shape items));
}

-- from each view of this shape the steps lead to the view that the index picks
abbrev pub Picks : List ℕ → List IndexItem → List Step → Type 0
Picks shape items steps = (places : List ℕ) → length places ≡ size_of shape
    → all_stepped steps (record { shape = shape; places = places })
    ≡ indexed (record { shape = shape; places = places }) items
