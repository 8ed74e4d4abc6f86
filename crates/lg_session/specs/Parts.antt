-- What is known of the items of an index and of the axes of a transpose, when their expressions were
-- evaluated: the whole numbers, or that one of them is none.
use Rattle.std.specs.Prelude.{◌≡◌, Bool, false, List, [], ◌∷◌, map, Option, None, Some, option_map, Result, Ok, Err, ⊤, ℤ, Vec}
use Rattle.std.specs.declared.alloc.Global.{Global}
use Rattle.lg_shape.specs.declared.index.IndexItem.{IndexItem}
use Rattle.lg_tree.specs.Tree.{MaybeTree, MaybeShape, ItemTree, ItemTrees}
use Rattle.lg_meaning.specs.declared.fault.FaultKind.TheVariants.{TypeKind}
use Rattle.lg_meaning.specs.Faults.{or_fault}
use Rattle.lg_meaning.specs.Memory.{State}
use Rattle.lg_meaning.specs.Static.{Static, optional_integer}
use Rattle.lg_meaning.specs.Indices.{ItemStatic, index_item, index_items}
use Rattle.lg_meaning.specs.Expressions.{optional_static, optional_shape_static, item_static, items_static}
use Rattle.lg_session.specs.Values.{value_static}
use Rattle.lg_operations.specs.declared.end.EvaluateEnd.{EvaluateEnd}
use Rattle.lg_operations.specs.declared.end.EvaluateEnd.TheVariants.{Fault, NoMemory}
use Rattle.lg_session.specs.declared.value.Value.{Value}

-- the part has no static fault, and is this number or is left out
pub record IsRead (part : MaybeTree) (state : State) (number : Option (Option ℤ)) : Type 0 where
  pub static : Option Static
  pub kind : optional_static part state.names ≡ Ok static
  pub same : optional_integer static ≡ or_fault number TypeKind

abbrev pub IsPart : MaybeTree → State → Result (Option (Option ℤ)) EvaluateEnd → Type 0
IsPart part state (Ok number) = IsRead part state number
IsPart part state (Err (Fault kind)) = optional_static part state.names ≡ Err kind
IsPart part state (Err NoMemory) = ⊤

-- no expression in the item has a static fault, and it is this one
pub record IsItemRead (i : ItemTree) (state : State) (item : Option IndexItem) : Type 0 where
  pub static : ItemStatic
  pub kind : item_static i state.names ≡ Ok static
  pub same : index_item static ≡ or_fault item TypeKind

abbrev pub IsItem : ItemTree → State → Result (Option IndexItem) EvaluateEnd → Type 0
IsItem i state (Ok item) = IsItemRead i state item
IsItem i state (Err (Fault kind)) = item_static i state.names ≡ Err kind
IsItem i state (Err NoMemory) = ⊤

-- the same of all items of an index
pub record AreItemsRead (is : ItemTrees) (state : State) (items : Option (List IndexItem))
    : Type 0 where
  pub statics : List ItemStatic
  pub kind : items_static is state.names ≡ Ok statics
  pub same : index_items statics ≡ or_fault items TypeKind

abbrev pub AreItems : ItemTrees → State → Result (Option (Vec IndexItem Global)) EvaluateEnd
    → Type 0
AreItems is state (Ok items) = AreItemsRead is state (option_map (λ v. v.items) items)
AreItems is state (Err (Fault kind)) = items_static is state.names ≡ Err kind
AreItems is state (Err NoMemory) = ⊤

-- the axes of a transpose
abbrev pub axes_static : Option (Vec Value Global) → Option (List Static)
axes_static axes = option_map (λ v. map value_static v.items) axes

abbrev pub AreAxes : MaybeShape → State → Result (Option (Vec Value Global)) EvaluateEnd → Type 0
AreAxes s state (Ok axes) = optional_shape_static s state.names ≡ Ok (axes_static axes)
AreAxes s state (Err (Fault kind)) = optional_shape_static s state.names ≡ Err kind
AreAxes s state (Err NoMemory) = ⊤

-- ---- items one after another

-- the item that was read, if it is one
abbrev pub item_list : Option IndexItem → List IndexItem
item_list None = []
item_list (Some item) = item ∷ []

-- whether each item so far was one, with one more
abbrev pub is_typed_with : Bool → Option IndexItem → Bool
is_typed_with typed None = false
is_typed_with typed (Some item) = typed
