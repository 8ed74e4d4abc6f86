-- The element types, and how a whole number is wrapped to one. After NumPy's reference, "Data
-- types" and "Overflow errors".
use Rattle.std.specs.Prelude.{ℕ, ◌-◌, ◌^◌, Bool, true, false, ℤ, pos, neg_ℤ, ◌-ℤ◌, ◌≤ℤ◌, int_lt, if◌then◌else◌}
use Rattle.std.specs.Int.{int_rem_euclid}
use Rattle.lg_elem.specs.declared.dtype.DType.{DType}
use Rattle.lg_elem.specs.declared.dtype.DType.TheVariants.{Bool as Truth, Int8, Int16, Int32, Int64, UInt8, UInt16, UInt32, UInt64}

-- how many bits a number of the type has
abbrev pub bits : DType → ℕ
bits Truth = 1
bits Int8 = 8
bits Int16 = 16
bits Int32 = 32
bits Int64 = 64
bits UInt8 = 8
bits UInt16 = 16
bits UInt32 = 32
bits UInt64 = 64

-- whether the type has numbers below 0
abbrev pub is_signed : DType → Bool
is_signed Truth = false
is_signed Int8 = true
is_signed Int16 = true
is_signed Int32 = true
is_signed Int64 = true
is_signed UInt8 = false
is_signed UInt16 = false
is_signed UInt32 = false
is_signed UInt64 = false

-- the least number of so many bits, with a sign or without
abbrev pub least_of : Bool → ℕ → ℤ
least_of true n = neg_ℤ (pos (2 ^ (n - 1)))
least_of false n = pos 0

-- the greatest number of so many bits, with a sign or without
abbrev pub greatest_of : Bool → ℕ → ℤ
greatest_of true n = pos (2 ^ (n - 1) - 1)
greatest_of false n = pos (2 ^ n - 1)

-- the least and the greatest number of the type
abbrev pub least : DType → ℤ
least t = least_of (is_signed t) (bits t)

abbrev pub greatest : DType → ℤ
greatest t = greatest_of (is_signed t) (bits t)

-- the type has this number
abbrev pub IsNumber : DType → ℤ → Type 0
IsNumber t x = (least t ≤ℤ x) × (x ≤ℤ greatest t)

-- the number of so many bits, with a sign or without, that differs from x by a multiple of 2 ^ n
abbrev pub wrap_to : Bool → ℕ → ℤ → ℤ
wrap_to false n x = int_rem_euclid x (pos (2 ^ n))
wrap_to true n x =
    if int_lt (int_rem_euclid x (pos (2 ^ n))) (pos (2 ^ (n - 1)))
    then int_rem_euclid x (pos (2 ^ n))
    else int_rem_euclid x (pos (2 ^ n)) -ℤ pos (2 ^ n)

-- 0 for 0, and 1 for any other number
abbrev pub truth_of : ℤ → ℤ
truth_of x = if int_lt x (pos 0) then pos 1 else (if int_lt (pos 0) x then pos 1 else pos 0)

-- the number of type t for x: modulo 2 to the number of bits; for bool by whether x is 0
abbrev pub wrap : DType → ℤ → ℤ
wrap Truth x = truth_of x
wrap Int8 x = wrap_to true 8 x
wrap Int16 x = wrap_to true 16 x
wrap Int32 x = wrap_to true 32 x
wrap Int64 x = wrap_to true 64 x
wrap UInt8 x = wrap_to false 8 x
wrap UInt16 x = wrap_to false 16 x
wrap UInt32 x = wrap_to false 32 x
wrap UInt64 x = wrap_to false 64 x
