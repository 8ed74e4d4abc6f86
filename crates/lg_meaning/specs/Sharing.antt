-- Which expressions are views of a root that a name reaches: a name itself, and each index,
-- transpose and `broadcast_to` of such a view. They share the root's elements; any other array is
-- new. After NumPy's reference, "Copies and views" and "Indexing on ndarrays": an index of integers
-- alone, one for each axis, is a copy.
use Rattle.std.specs.Prelude.{if◌then◌else◌, List, length, Option, Some, None, option_and_then, Result, Ok, Err}
use Rattle.std.specs.FinMap.{get}
use Rattle.lg_shape.specs.Views.{Layout}
use Rattle.lg_shape.specs.declared.index.IndexItem.{IndexItem}
use Rattle.lg_tree.specs.Tree.{Tree, name, index, transpose, broadcast_to}
use Rattle.lg_meaning.specs.declared.fault.FaultKind.{FaultKind}
use Rattle.lg_meaning.specs.Memory.{ArrayKind, Bound, Names, View}
use Rattle.lg_meaning.specs.Memory as bound
use Rattle.lg_meaning.specs.Static.{Static, weak_value, array_value}
use Rattle.lg_meaning.specs.Views.{view_by, transposed, repeated}
use Rattle.lg_meaning.specs.Indices.{is_element, index_form}
use Rattle.lg_meaning.specs.Expressions.{static_of, written_items, written_axes}

-- what a name stands for, where this is an array
abbrev pub named_view : Option Bound → Option View
named_view None = None
named_view (Some (bound.weak w)) = None
named_view (Some (bound.array view)) = Some view

-- what a view form makes of a view, where the kind of the whole is known
abbrev pub formed : Result Static FaultKind → (ArrayKind → Layout → Layout) → View → Option View
formed (Ok (array_value kind)) form view = Some (view_by (form kind) view kind)
formed (Ok (weak_value w)) form view = None
formed (Err fault) form view = None

-- an element is copied
abbrev pub indexed_view : Result Static FaultKind → List IndexItem → View → Option View
indexed_view s items view =
    if is_element view.kind.shape items then None else formed s (λ kind. index_form items) view

abbrev pub shared_view : Tree → Names → Option View
shared_view (name w) names = named_view (get names w)
shared_view (index a is) names =
    option_and_then (indexed_view (static_of (index a is) names) (written_items is names))
    (shared_view a names)
shared_view (transpose a s) names =
    option_and_then (λ view. formed (static_of (transpose a s) names)
    (λ kind. transposed (written_axes s (length view.kind.shape) names)) view)
    (shared_view a names)
shared_view (broadcast_to a s) names =
    option_and_then (formed (static_of (broadcast_to a s) names) (λ kind. repeated kind.shape))
    (shared_view a names)
shared_view e names = None
