-- Weak numbers: the numbers and truth values that a script writes, and what arithmetic on them
-- alone makes. They take the type of an array that they meet, after NumPy's "NEP 50"; that they
-- have a range, and which operations keep them weak, is this project's own.
use Rattle.std.specs.Prelude.{Bool, ◌&&◌, ℤ, pos, ◌+ℤ◌, ◌-ℤ◌, ◌*ℤ◌, int_le, if◌then◌else◌, Option, Some, None, Result, Ok, Err}
use Rattle.std.specs.Int.{from_bool}
use Rattle.lg_elem.specs.declared.dtype.DType.TheVariants.{Int64, UInt64}
use Rattle.lg_elem.specs.Types.{least, greatest}
use Rattle.lg_elem.specs.Operations.{is_zero, floor_div}
use Rattle.lg_tree.specs.declared.kinds.Arith.{Arith}
use Rattle.lg_tree.specs.declared.kinds.Arith.TheVariants.{Add, Sub, Mul, FloorDiv, Rem}
use Rattle.lg_meaning.specs.declared.fault.FaultKind.{FaultKind}
use Rattle.lg_meaning.specs.declared.fault.FaultKind.TheVariants.{Range, Divisor}

pub data Weak : Type 0 where
  integer : ℤ → Weak
  truth : Bool → Weak

-- a truth value counts as 0 or 1
abbrev pub number_of : Weak → ℤ
number_of (integer x) = x
number_of (truth b) = pos (from_bool b)

-- the weak integer of a number that int64 or uint64 has
abbrev pub ranged : ℤ → Result Weak FaultKind
ranged x =
    if int_le (least Int64) x && int_le x (greatest UInt64) then Ok (integer x) else Err Range

-- over whole numbers, where the divisor is not 0
abbrev pub divided : ℤ → ℤ → Result Weak FaultKind
divided y x = if is_zero y then Err Divisor else ranged x

-- what sum, difference, product, quotient and remainder of two weak numbers are, over whole
-- numbers. Any other operation makes arrays of them
abbrev pub weak_arith : Arith → ℤ → ℤ → Option (Result Weak FaultKind)
weak_arith Add x y = Some (ranged (x +ℤ y))
weak_arith Sub x y = Some (ranged (x -ℤ y))
weak_arith Mul x y = Some (ranged (x *ℤ y))
weak_arith FloorDiv x y = Some (divided y (floor_div x y))
weak_arith Rem x y = Some (divided y (x -ℤ (y *ℤ floor_div x y)))
weak_arith op x y = None
