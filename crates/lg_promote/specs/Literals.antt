-- The number of a literal at a type. After NumPy's reference, "Data type promotion in NumPy", on
-- Python's integers.
use Rattle.std.specs.Prelude.{Bool, ◌&&◌, ℤ, int_le, Option, Some, None, if◌then◌else◌}
use Rattle.lg_elem.specs.declared.dtype.DType.{DType}
use Rattle.lg_elem.specs.declared.dtype.DType.TheVariants.{Bool as TruthValues}
use Rattle.lg_elem.specs.Types.{least, greatest, wrap}

-- the type has this number
abbrev pub is_number : DType → ℤ → Bool
is_number t x = int_le (least t) x && int_le x (greatest t)

-- at bool 0 or 1, by whether it is 0; at an integer type itself, where the type has it
abbrev pub literal_of : ℤ → DType → Option ℤ
literal_of x TruthValues = Some (wrap TruthValues x)
literal_of x t = if is_number t x then Some x else None
