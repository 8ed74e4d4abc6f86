-- What a copying form makes of a value: a new array of the same numbers.
use Rattle.std.specs.Prelude.{◌≡◌, ℕ, List, Result, Ok, Err, ⊤}
use Rattle.lg_shape.specs.Shapes.{whole}
use Rattle.lg_tile.specs.Tiles.{dtype_of, numbers, rect_of}
use Rattle.lg_meaning.specs.Memory.{writable}
use Rattle.lg_meaning.specs.Static.{as_array, type_alone}
use Rattle.lg_operations.specs.Operations.{right_for}
use Rattle.lg_session.specs.Values.{value_static, value_in}
use Rattle.lg_session.specs.Worlds.{Roots}
use Rattle.lg_operations.specs.declared.end.EvaluateEnd.{EvaluateEnd}
use Rattle.lg_operations.specs.declared.end.EvaluateEnd.TheVariants.{Fault, NoMemory}
use Rattle.lg_operations.specs.declared.values.Fresh.{Fresh}
use Rattle.lg_session.specs.declared.value.Value.{Value}

-- the array has the value's type, numbers and fault
pub record HasElementsOf (roots : Roots) (a : Value) (fresh : Fresh) : Type 0 where
  pub dtype : dtype_of fresh.tile ≡ type_alone (value_static a)
  pub same : numbers fresh.tile ≡ (value_in roots a).numbers
  pub fault : fresh.fault ≡ (value_in roots a).fault

-- and it lies over all indices of this shape, and may be written
pub record IsAnew (roots : Roots) (a : Value) (shape : List ℕ) (fresh : Fresh) : Type 0 where
  pub elements : HasElementsOf roots a fresh
  pub rect : rect_of fresh.tile ≡ whole shape
  pub right : right_for fresh.right ≡ writable

-- the answer is such an array, or the fault that a weak number does not fit
abbrev pub IsOwned : Roots → Value → Result Fresh EvaluateEnd → Type 0
IsOwned roots a (Ok fresh) = HasElementsOf roots a fresh
IsOwned roots a (Err (Fault kind)) = as_array (value_static a) ≡ Err kind
IsOwned roots a (Err NoMemory) = ⊤

abbrev pub IsMadeAnew : Roots → Value → List ℕ → Result Fresh EvaluateEnd → Type 0
IsMadeAnew roots a shape (Ok fresh) = IsAnew roots a shape fresh
IsMadeAnew roots a shape (Err (Fault kind)) = as_array (value_static a) ≡ Err kind
IsMadeAnew roots a shape (Err NoMemory) = ⊤
