-- The numbers of a value, and the first fault of its elements. An element with a fault is 0, which
-- is this project's own.
use Rattle.std.specs.Prelude.{ℕ, List, [], ◌∷◌, Option, Some, None, Result, Ok, Err, ℤ, pos, slice_index_or}
use Rattle.lg_shape.specs.Shapes.{size_of, place_of, broadcast}
use Rattle.lg_meaning.specs.declared.fault.FaultKind.{FaultKind}
use Rattle.lg_meaning.specs.Weak.{number_of}
use Rattle.lg_meaning.specs.Memory.{ArrayKind, Bound, Memory, viewed}
use Rattle.lg_meaning.specs.Memory as bound
use Rattle.lg_meaning.specs.Static.{Static, weak_value, array_value}

-- the numbers in row-major order of the shape
pub record Value : Type 0 where
  pub shape : List ℕ
  pub numbers : List ℤ
  pub fault : Option FaultKind

-- numbers without a fault
abbrev pub plain : List ℕ → List ℤ → Value
plain shape numbers = record { shape = shape; numbers = numbers; fault = None }

-- the number of a value without axes
abbrev pub only : Value → ℤ
only v = slice_index_or v.numbers 0 (pos 0)

-- the number at an index
abbrev pub number_at : Value → List ℕ → ℤ
number_at v index = slice_index_or v.numbers (place_of v.shape index) (pos 0)

-- the numbers of a value, repeated to a shape
abbrev pub spread : List ℕ → Value → List ℤ
spread shape v = broadcast v.shape v.numbers shape

-- the value with all elements on one axis, in row-major order
abbrev pub flat : Value → Value
flat v = record { shape = size_of v.shape ∷ []; numbers = v.numbers; fault = v.fault }

-- a weak value is its number; of an array this is the value; where there is a static fault nothing
-- is asked
abbrev pub valued : Result Static FaultKind → (ArrayKind → Value) → Value
valued (Ok (weak_value w)) value = plain [] (number_of w ∷ [])
valued (Ok (array_value kind)) value = value kind
valued (Err fault) value = plain [] []

-- what a name stands for
abbrev pub shown : Memory → Option Bound → ArrayKind → Value
shown memory (Some (bound.array view)) kind = plain kind.shape (viewed memory view)
shown memory (Some (bound.weak w)) kind = plain [] []
shown memory None kind = plain [] []
