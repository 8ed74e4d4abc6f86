-- What the evaluation of an expression answers.
use Rattle.std.specs.Prelude.{◌≡◌, List, [], ◌∷◌, map, None, Some, Result, Ok, Err, ⊤, ℤ, pos, Vec}
use Rattle.std.specs.declared.alloc.Global.{Global}
use Rattle.lg_tree.specs.Tree.{Tree, MaybeTree, no_tree, some_tree, ShapeTree}
use Rattle.lg_meaning.specs.declared.fault.FaultKind.{FaultKind}
use Rattle.lg_meaning.specs.Weak as meaning_weak
use Rattle.lg_meaning.specs.Weak.{number_of}
use Rattle.lg_meaning.specs.Memory.{ArrayKind, View, State}
use Rattle.lg_meaning.specs.Static.{Static, weak_value, array_value, integers}
use Rattle.lg_meaning.specs.Expressions.{static_of, shape_static, evaluated}
use Rattle.lg_meaning.specs.Sharing.{shared_view}
use Rattle.lg_meaning.specs.Value as meaning
use Rattle.lg_meaning.specs.Value.{plain}
use Rattle.lg_operations.specs.Operations.{weak_of, fresh_kind, fresh_value, IsRanged, IsWhole, IsArrayOf}
use Rattle.lg_session.specs.Worlds.{Roots, Names, shown_in, IsShown, IsInside}
use Rattle.lg_operations.specs.Views.{view_of}
use Rattle.lg_session.specs.Names.{environment}
use Rattle.lg_session.specs.Roots.{contents}
use Rattle.lg_session.specs.Stored.{IsHeld}
use Rattle.lg_session.specs.Standing.{roots_in, names_in}
use Rattle.lg_operations.specs.declared.end.EvaluateEnd.{EvaluateEnd}
use Rattle.lg_operations.specs.declared.end.EvaluateEnd.TheVariants.{Fault, NoMemory}
use Rattle.lg_operations.specs.declared.values.Weak.{Weak as CodeWeak}
use Rattle.lg_operations.specs.declared.values.Weak.TheVariants.{Integer}
use Rattle.lg_session.specs.declared.session.Session.{Session}
use Rattle.lg_session.specs.declared.value.Value.{Value}
use Rattle.lg_session.specs.declared.value.Value.TheVariants.{Weak, Shown, Fresh}

-- ---- a value by itself

abbrev pub value_static : Value → Static
value_static (Weak w) = weak_value (weak_of w)
value_static (Shown view) = array_value (view_of view).kind
value_static (Fresh fresh) = array_value (fresh_kind fresh)

abbrev pub value_in : Roots → Value → meaning.Value
value_in roots (Weak w) = plain [] (number_of (weak_of w) ∷ [])
value_in roots (Shown view) = plain (view_of view).kind.shape (shown_in roots (view_of view))
value_in roots (Fresh fresh) = fresh_value fresh

-- the value can be read where it lies
abbrev pub IsUsable : Roots → Value → Type 0
IsUsable roots (Weak w) = IsRanged (weak_of w)
IsUsable roots (Shown view) = IsHeld roots view
IsUsable roots (Fresh fresh) = IsWhole fresh.tile

-- ---- the value of an operation on values

-- the answer is the weak number, or the array, or the first static fault
abbrev pub IsComputed : Result Static FaultKind → (ArrayKind → meaning.Value)
    → Result Value EvaluateEnd → Type 0
IsComputed static value (Ok (Weak w)) = static ≡ Ok (weak_value (weak_of w))
IsComputed static value (Ok (Shown view)) = ⊥
IsComputed static value (Ok (Fresh fresh)) = IsArrayOf static value fresh
IsComputed static value (Err (Fault kind)) = static ≡ Err kind
IsComputed static value (Err NoMemory) = ⊤

-- the same for a weak number alone
abbrev pub IsWeakAnswer : Result meaning_weak.Weak FaultKind → Result CodeWeak EvaluateEnd → Type 0
IsWeakAnswer weak (Ok w) = weak ≡ Ok (weak_of w)
IsWeakAnswer weak (Err (Fault kind)) = weak ≡ Err kind
IsWeakAnswer weak (Err NoMemory) = ⊥

-- ---- the value of an expression

-- the expression is a view of a root that a name reaches, and this one shows what that one shows
pub record IsShared (e : Tree) (state : State) (names : Names) (view : View) : Type 0 where
  pub there : View
  pub is : shared_view e state.names ≡ Some there
  pub inside : IsInside (roots_in state) there
  pub shown : IsShown names (names_in state) view there

-- a view is shared with a name, and any other value with none
abbrev pub ComesFrom : Tree → State → Names → Value → Type 0
ComesFrom e state names (Weak w) = shared_view e state.names ≡ None
ComesFrom e state names (Shown view) = IsShared e state names (view_of view)
ComesFrom e state names (Fresh fresh) = shared_view e state.names ≡ None

-- the expression has no static fault and this value
pub record Means (e : Tree) (state : State) (session : Session) (value : Value) : Type 0 where
  pub kind : static_of e state.names ≡ Ok (value_static value)
  pub same : evaluated e state.memory state.names ≡ value_in (contents session.roots) value
  pub source : ComesFrom e state (environment session.names) value

-- the answer is the expression's value or its first static fault
abbrev pub IsOutcome : Tree → State → Session → Result Value EvaluateEnd → Type 0
IsOutcome e state session (Ok value) = Means e state session value
IsOutcome e state session (Err (Fault kind)) = static_of e state.names ≡ Err kind
IsOutcome e state session (Err NoMemory) = ⊤

-- the same of a bound that may be left out
abbrev pub IsFirstBound : MaybeTree → State → Session → Result Value EvaluateEnd → Type 0
IsFirstBound no_tree state session (Ok value) = value ≡ Weak (Integer (pos 0))
IsFirstBound no_tree state session (Err (Fault kind)) = ⊥
IsFirstBound no_tree state session (Err NoMemory) = ⊤
IsFirstBound (some_tree e) state session result = IsOutcome e state session result

-- the answer is the extents of a shape, or its first static fault
abbrev pub AreExtents : ShapeTree → State → Result (Vec Value Global) EvaluateEnd → Type 0
AreExtents s state (Ok values) = shape_static s state.names ≡ Ok (map value_static values.items)
AreExtents s state (Err (Fault kind)) = shape_static s state.names ≡ Err kind
AreExtents s state (Err NoMemory) = ⊤

-- the answer is these values as whole numbers, or the fault that one of them is none
abbrev pub AreIntegers : List Value → Result (Vec ℤ Global) EvaluateEnd → Type 0
AreIntegers values (Ok numbers) = integers (map value_static values) ≡ Ok numbers.items
AreIntegers values (Err (Fault kind)) = integers (map value_static values) ≡ Err kind
AreIntegers values (Err NoMemory) = ⊤
