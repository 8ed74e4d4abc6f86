-- What the rules of operations answer. Only private functions speak of it.
use Rattle.std.specs.Prelude.{◌≡◌, ℕ, List, [], None, Result, Ok, Err, ⊤}
use Rattle.lg_elem.specs.declared.dtype.DType.{DType}
use Rattle.lg_meaning.specs.declared.fault.FaultKind.{FaultKind}
use Rattle.lg_meaning.specs.Faults.{from_part}
use Rattle.lg_meaning.specs.Memory.{ArrayKind, writable}
use Rattle.lg_meaning.specs.Static.{Static, array_value, right_of}
use Rattle.lg_shape.specs.Shapes.{whole}
use Rattle.lg_tile.specs.Tiles.{dtype_of, numbers, rect_of}
use Rattle.lg_map.specs.declared.operation.MapOp.{MapOp}
use Rattle.lg_map.specs.Mapping.{map_values}
use Rattle.lg_operations.specs.declared.end.EvaluateEnd.{EvaluateEnd}
use Rattle.lg_operations.specs.declared.end.EvaluateEnd.TheVariants.{Fault, NoMemory}
use Rattle.lg_operations.specs.declared.values.Fresh.{Fresh}
use Rattle.lg_operations.specs.Operations.{right_for}

-- type and shape of what an operation makes
abbrev pub ruled : Result (DType × List ℕ) FaultKind → Result Static FaultKind
ruled (Ok made) =
    Ok (array_value (record { dtype = made.0; shape = made.1; right = right_of made.1 }))
ruled (Err kind) = Err kind

-- type and shape of an array that is made
abbrev pub ruled_new : Result (DType × List ℕ) FaultKind → Result Static FaultKind
ruled_new (Ok made) =
    Ok (array_value (record { dtype = made.0; shape = made.1; right = writable }))
ruled_new (Err kind) = Err kind

-- type and shape of an array
abbrev pub typed : Result ArrayKind FaultKind → Result (DType × List ℕ) FaultKind
typed kind = from_part kind (λ k. Ok (k.dtype, k.shape))

-- a new array has this type and shape and the numbers of an operation without operands; only memory
-- may be wanting
pub record IsArrayBy (op : MapOp) (t : DType) (shape : List ℕ) (fresh : Fresh) : Type 0 where
  pub dtype : dtype_of fresh.tile ≡ t
  pub rect : rect_of fresh.tile ≡ whole shape
  pub same : numbers fresh.tile ≡ map_values op t [] (whole shape)
  pub right : right_for fresh.right ≡ writable
  pub fault : fresh.fault ≡ None

abbrev pub IsNew : MapOp → DType → List ℕ → Result Fresh EvaluateEnd → Type 0
IsNew op t shape (Ok fresh) = IsArrayBy op t shape fresh
IsNew op t shape (Err (Fault kind)) = ⊥
IsNew op t shape (Err NoMemory) = ⊤
