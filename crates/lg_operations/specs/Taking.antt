-- Which numbers a target takes of a value, and whether it may be written. After NumPy's reference,
-- "Assigning values to indexed arrays". The order of faults is this project's own.
use Rattle.std.specs.Prelude.{◌≡◌, List, ℕ, map, Result, Ok, Err, ⊤, ℤ, bytes_eq}
use Rattle.lg_elem.specs.declared.dtype.DType.{DType}
use Rattle.lg_elem.specs.Types.{wrap}
use Rattle.lg_promote.specs.Kinds.{is_same_kind}
use Rattle.lg_shape.specs.Shapes.{broadcast, whole}
use Rattle.lg_tile.specs.Tiles.{dtype_of, numbers, rect_of}
use Rattle.lg_meaning.specs.declared.fault.FaultKind.{FaultKind}
use Rattle.lg_meaning.specs.declared.fault.FaultKind.TheVariants.{Range, Shape, ReadOnly, TypeKind}
use Rattle.lg_meaning.specs.Assignments.{is_taken, is_writable, fills, without_surplus}
use Rattle.lg_meaning.specs.Faults.{needing}
use Rattle.lg_meaning.specs.Memory.{ArrayKind}
use Rattle.lg_meaning.specs.Static.{Static, shape_of}
use Rattle.lg_meaning.specs.Value.{Value}
use Rattle.lg_operations.specs.declared.end.EvaluateEnd.{EvaluateEnd}
use Rattle.lg_operations.specs.declared.end.EvaluateEnd.TheVariants.{Fault, NoMemory}
use Rattle.lg_operations.specs.declared.values.Fresh.{Fresh}

-- whether a target of this type and shape takes the value, and else the first fault
abbrev pub taking : DType → List ℕ → Static → Result (Unit {0}) FaultKind
taking t shape s =
    needing (is_taken t s) Range (needing (fills (shape_of s) shape) Shape (Ok tt))

-- the value's numbers, repeated to the target's shape, each as its type has it
abbrev pub taken_numbers : DType → List ℕ → Value → List ℤ
taken_numbers t shape v =
    map (wrap t) (broadcast (without_surplus v.shape shape) v.numbers shape)

-- the array is of the target's type and shape, and has these numbers
pub record HasTaken (t : DType) (shape : List ℕ) (v : Value) (fresh : Fresh) : Type 0 where
  pub dtype : dtype_of fresh.tile ≡ t
  pub rect : rect_of fresh.tile ≡ whole shape
  pub same : numbers fresh.tile ≡ taken_numbers t shape v
  pub fault : fresh.fault ≡ v.fault

-- the answer is that array, or the first fault
abbrev pub IsTakenBy : Result (Unit {0}) FaultKind → DType → List ℕ → Value
    → Result Fresh EvaluateEnd → Type 0
IsTakenBy rule t shape v (Ok fresh) = (rule ≡ Ok tt) × HasTaken t shape v fresh
IsTakenBy rule t shape v (Err (Fault kind)) = rule ≡ Err kind
IsTakenBy rule t shape v (Err NoMemory) = ⊤

-- whether an array may be written with the value, and else the first fault
abbrev pub put_rule : ArrayKind → Static → Result (Unit {0}) FaultKind
put_rule kind s = needing (is_writable kind.right) ReadOnly (taking kind.dtype kind.shape s)

-- the same where an operation made the value of the array itself
abbrev pub update_rule : ArrayKind → ArrayKind → Result (Unit {0}) FaultKind
update_rule target made =
    needing (is_writable target.right) ReadOnly
    (needing (is_same_kind made.dtype target.dtype) TypeKind
    (needing (bytes_eq made.shape target.shape) Shape (Ok tt)))
