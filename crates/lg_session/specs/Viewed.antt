-- What a view form makes of a value: of a view another view of its root, of a new array or a weak
-- number a new array. An element of a view is copied.
use Rattle.std.specs.Prelude.{◌≡◌, ℕ, Bool, true, false, List, Result, Ok, Err, ⊤}
use Rattle.lg_shape.specs.Views.{Layout}
use Rattle.lg_store.specs.declared.view.View.{View as CodeView}
use Rattle.lg_meaning.specs.declared.fault.FaultKind.{FaultKind}
use Rattle.lg_meaning.specs.Memory.{ArrayKind}
use Rattle.lg_meaning.specs.Static.{Static, array_value}
use Rattle.lg_meaning.specs.Value as meaning
use Rattle.lg_meaning.specs.Views.{picked, view_by}
use Rattle.lg_operations.specs.Views.{view_of}
use Rattle.lg_operations.specs.Operations.{IsArrayOf}
use Rattle.lg_session.specs.Values.{value_in}
use Rattle.lg_session.specs.Worlds.{Roots}
use Rattle.lg_operations.specs.declared.end.EvaluateEnd.{EvaluateEnd}
use Rattle.lg_operations.specs.declared.end.EvaluateEnd.TheVariants.{Fault, NoMemory}
use Rattle.lg_session.specs.declared.value.Value.{Value}
use Rattle.lg_session.specs.declared.value.Value.TheVariants.{Weak, Shown, Fresh}

-- a rule of picking, by the kind of the whole
abbrev pub Form : Type 0
Form = ArrayKind → Layout → Layout

-- the numbers that the rule picks of a value
abbrev pub picked_by : Form → meaning.Value → ArrayKind → meaning.Value
picked_by form v kind = picked (form kind) v kind

-- there is no static fault, and the new view is what the rule makes of the old one
pub record IsViewMade (static : Result Static FaultKind) (form : Form) (old new : CodeView)
    : Type 0 where
  pub kind : static ≡ Ok (array_value (view_of new).kind)
  pub is : view_of new ≡ view_by (form (view_of new).kind) (view_of old) (view_of new).kind

-- whether the form copies what it picks of an array of this shape
abbrev pub Copies : Type 0
Copies = List ℕ → Bool

abbrev pub MakesView : Result Static FaultKind → Form → Copies → Value → CodeView → Type 0
MakesView static form copies (Shown old) new =
    IsViewMade static form old new × (copies (view_of old).kind.shape ≡ false)
MakesView static form copies (Weak w) new = ⊥
MakesView static form copies (Fresh fresh) new = ⊥

-- of a view a new array is made only where the form copies
abbrev pub MayCopy : Copies → Value → Type 0
MayCopy copies (Shown old) = copies (view_of old).kind.shape ≡ true
MayCopy copies (Weak w) = ⊤
MayCopy copies (Fresh fresh) = ⊤

abbrev pub IsViewed : Result Static FaultKind → Form → Copies → Roots → Value
    → Result Value EvaluateEnd → Type 0
IsViewed static form copies roots a (Ok (Weak w)) = ⊥
IsViewed static form copies roots a (Ok (Shown new)) = MakesView static form copies a new
IsViewed static form copies roots a (Ok (Fresh fresh)) =
    IsArrayOf static (picked_by form (value_in roots a)) fresh × MayCopy copies a
IsViewed static form copies roots a (Err (Fault kind)) = static ≡ Err kind
IsViewed static form copies roots a (Err NoMemory) = ⊤
