-- Indices, `a[item, item, ..]`. After NumPy's reference, "Indexing on ndarrays". Which view an
-- index picks, and the order of its faults, stand in `Indexing`; what is said here is how an index
-- is read off a script, which is this project's own.
use Rattle.std.specs.Prelude.{ℕ, ◌==◌, Bool, true, false, ◌&&◌, List, [], ◌∷◌, length, Option, Some, None, Result, Ok, Err}
use Rattle.lg_shape.specs.Views.{Layout}
use Rattle.lg_shape.specs.Indexing.{index_fault, indexed, indexed_shape}
use Rattle.lg_shape.specs.declared.index.IndexItem.{IndexItem}
use Rattle.lg_shape.specs.declared.index.IndexItem.TheVariants.{At, Slice, NewAxis, Ellipsis}
use Rattle.lg_shape.specs.declared.index.IndexFault.{IndexFault}
use Rattle.lg_shape.specs.declared.index.IndexFault.TheVariants.{TwoEllipses, TooMany, OutOfRange, Step as BadStep, TooManyAxes}
use Rattle.lg_meaning.specs.declared.fault.FaultKind.{FaultKind}
use Rattle.lg_meaning.specs.declared.fault.FaultKind.TheVariants.{Shape, Index, Step}
use Rattle.lg_meaning.specs.Faults.{from_part, from_both}
use Rattle.lg_meaning.specs.Memory.{ArrayKind}
use Rattle.lg_meaning.specs.Static.{Static, as_array, array_result, integer_of, optional_integer, scalar_of}
use Rattle.lg_meaning.specs.Views.{view_kind}

-- an item, with what is known of the expressions in it
pub data ItemStatic : Type 0 where
  at : Static → ItemStatic
  slice : Option Static → Option Static → Option Static → ItemStatic
  new_axis : ItemStatic
  ellipsis : ItemStatic

-- the expressions are weak integers
abbrev pub index_item : ItemStatic → Result IndexItem FaultKind
index_item (at a) = from_part (integer_of a) (λ x. Ok (At x))
index_item (slice start stop step) =
    from_part (optional_integer start)
    (λ x. from_both (optional_integer stop) (optional_integer step) (λ y z. Ok (Slice x y z)))
index_item new_axis = Ok NewAxis
index_item ellipsis = Ok Ellipsis

abbrev pub index_items : List ItemStatic → Result (List IndexItem) FaultKind
index_items [] = Ok []
index_items (part ∷ parts) =
    from_both (index_item part) (index_items parts) (λ item items. Ok (item ∷ items))

-- the kind of an index's fault
abbrev pub index_fault_kind : IndexFault → FaultKind
index_fault_kind TwoEllipses = Index
index_fault_kind TooMany = Index
index_fault_kind (OutOfRange item) = Index
index_fault_kind (BadStep item) = Step
index_fault_kind TooManyAxes = Shape

-- what an index makes, where it has no fault
abbrev pub unless_faulty : {A : Type 0} → Option IndexFault → A → Result A FaultKind
unless_faulty None a = Ok a
unless_faulty (Some fault) a = Err (index_fault_kind fault)

-- integers alone, one for each axis: the index picks one element, which is copied
abbrev pub are_integers : List IndexItem → Bool
are_integers [] = true
are_integers (At x ∷ items) = are_integers items
are_integers (Slice start stop step ∷ items) = false
are_integers (NewAxis ∷ items) = false
are_integers (Ellipsis ∷ items) = false

abbrev pub is_element : List ℕ → List IndexItem → Bool
is_element shape items = are_integers items && length items == length shape

-- a scalar or a view
abbrev pub picked_kind : Bool → ArrayKind → List ℕ → ArrayKind
picked_kind true kind shape = scalar_of kind.dtype
picked_kind false kind shape = view_kind kind shape

abbrev pub index_kind : ArrayKind → List IndexItem → Result ArrayKind FaultKind
index_kind kind items = unless_faulty (index_fault kind.shape items)
    (picked_kind (is_element kind.shape items) kind (indexed_shape kind.shape items))

abbrev pub index_static : Static → List ItemStatic → Result Static FaultKind
index_static a parts = from_part (index_items parts)
    (λ items. from_part (as_array a) (λ kind. array_result (index_kind kind items)))

-- which members an index picks
abbrev pub index_form : List IndexItem → Layout → Layout
index_form items layout = indexed layout items
