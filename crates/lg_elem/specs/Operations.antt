-- What an operation on elements gives: a number, and for two elements a flag. After NumPy's
-- reference, "Math operations", "Bit-wise operations" and "Comparison functions".
use Rattle.std.specs.Prelude.{ℕ, zero, suc, ◌^◌, Bool, true, false, not, ◌&&◌, ℤ, pos, negsuc, neg_ℤ, ◌+ℤ◌, ◌-ℤ◌, ◌*ℤ◌, int_lt, int_le, unsigned_abs, bit_and, bit_or, bit_xor, if◌then◌else◌}
use Rattle.std.specs.Int.{int_min, int_max, int_div_euclid, int_rem_euclid}
use Rattle.lg_elem.specs.declared.dtype.DType.{DType}
use Rattle.lg_elem.specs.declared.dtype.DType.TheVariants.{Bool as Truth}
use Rattle.lg_elem.specs.declared.kinds.Unary.{Unary}
use Rattle.lg_elem.specs.declared.kinds.Unary.TheVariants.{Neg, Invert, Abs}
use Rattle.lg_elem.specs.declared.kinds.Binary.{Binary}
use Rattle.lg_elem.specs.declared.kinds.Binary.TheVariants.{Add, Sub, Mul, FloorDiv, Rem, Pow, BitAnd, BitOr, BitXor, Shl, Shr, Min, Max}
use Rattle.lg_elem.specs.declared.kinds.Compare.{Compare}
use Rattle.lg_elem.specs.declared.kinds.Compare.TheVariants.{Eq, Ne, Lt, Le, Gt, Ge}
use Rattle.lg_elem.specs.declared.kinds.Flag.{Flag}
use Rattle.lg_elem.specs.declared.kinds.Flag.TheVariants.{Clear, Divisor, Power}
use Rattle.lg_elem.specs.Types.{bits, wrap}

-- x is 0
abbrev pub is_zero : ℤ → Bool
is_zero (pos zero) = true
is_zero (pos (suc n)) = false
is_zero (negsuc n) = false

-- x is below 0
abbrev pub is_negative : ℤ → Bool
is_negative x = int_lt x (pos 0)

-- the quotient rounded down, of a divisor that is not 0. By a divisor above 0 it is the one whose
-- rest is not negative; the quotient of -x by -y is that of x by y
abbrev pub floor_div : ℤ → ℤ → ℤ
floor_div x y = if is_negative y then int_div_euclid (neg_ℤ x) (neg_ℤ y) else int_div_euclid x y

-- x to the n; x to the 0 is 1, also where x is 0
abbrev pub power_of : ℤ → ℕ → ℤ
power_of x zero = pos 1
power_of x (suc n) = x *ℤ power_of x n

-- the bits of x in two's complement, as many as the type has
abbrev pub bits_in : DType → ℤ → ℕ
bits_in t x = unsigned_abs (int_rem_euclid x (pos (2 ^ bits t)))

-- a number by which the bits of the type can be shifted: from 0 to below their number
abbrev pub is_shift : DType → ℤ → Bool
is_shift t y = not (is_negative y) && int_lt y (pos (bits t))

-- an operation on one element. All bits of -1 are set, so what is left of it without those of x are
-- the others; so it is also of bool, whose -1 is 1
abbrev pub unary_of : Unary → DType → ℤ → ℤ
unary_of Neg t x = wrap t (neg_ℤ x)
unary_of Invert t x = wrap t (wrap t (negsuc 0) -ℤ x)
unary_of Abs t x = wrap t (pos (unsigned_abs x))

-- the number of an operation on two elements: that of the whole numbers, wrapped to the type, or 0
-- where the flag is set. For bool, whose numbers are 0 and 1, sum and greater are the or, product
-- and lesser the and
abbrev pub value_of : Binary → DType → ℤ → ℤ → ℤ
value_of Add t x y = wrap t (x +ℤ y)
value_of Sub t x y = wrap t (x -ℤ y)
value_of Mul t x y = wrap t (x *ℤ y)
value_of FloorDiv t x y = if is_zero y then pos 0 else wrap t (floor_div x y)
value_of Rem t x y = if is_zero y then pos 0 else wrap t (x -ℤ (y *ℤ floor_div x y))
value_of Pow t x y = if is_negative y then pos 0 else wrap t (power_of x (unsigned_abs y))
value_of BitAnd t x y = wrap t (pos (bit_and (bits_in t x) (bits_in t y)))
value_of BitOr t x y = wrap t (pos (bit_or (bits_in t x) (bits_in t y)))
value_of BitXor t x y = wrap t (pos (bit_xor (bits_in t x) (bits_in t y)))
value_of Shl t x y = if is_shift t y then wrap t (x *ℤ pos (2 ^ unsigned_abs y)) else pos 0
value_of Shr t x y =
    if is_shift t y then wrap t (floor_div x (pos (2 ^ unsigned_abs y)))
    else (if is_negative x then negsuc 0 else pos 0)
value_of Min t x y = int_min x y
value_of Max t x y = int_max x y

-- the flag of a division by y, and of a power to the y
abbrev pub divisor_flag_of : ℤ → Flag
divisor_flag_of y = if is_zero y then Divisor else Clear

abbrev pub power_flag_of : ℤ → Flag
power_flag_of y = if is_negative y then Power else Clear

-- the flag of an operation on two elements, of which y is the second
abbrev pub flag_of : Binary → ℤ → Flag
flag_of FloorDiv y = divisor_flag_of y
flag_of Rem y = divisor_flag_of y
flag_of Pow y = power_flag_of y
flag_of op y = Clear

-- number and flag
abbrev pub binary_of : Binary → DType → ℤ → ℤ → ℤ × Flag
binary_of op t x y = (value_of op t x y, flag_of op y)

-- a comparison, by the whole numbers, of whatever types
abbrev pub compare_of : Compare → ℤ → ℤ → Bool
compare_of Eq x y = int_le x y && int_le y x
compare_of Ne x y = not (int_le x y && int_le y x)
compare_of Lt x y = int_lt x y
compare_of Le x y = int_le x y
compare_of Gt x y = int_lt y x
compare_of Ge x y = int_le y x

-- the type has the operation: all types have all, but that bool has no negative,
abbrev pub is_allowed_unary : Unary → DType → Bool
is_allowed_unary Neg Truth = false
is_allowed_unary op t = true

-- and no difference, quotient, remainder, power or shift
abbrev pub is_allowed_binary : Binary → DType → Bool
is_allowed_binary Sub Truth = false
is_allowed_binary FloorDiv Truth = false
is_allowed_binary Rem Truth = false
is_allowed_binary Pow Truth = false
is_allowed_binary Shl Truth = false
is_allowed_binary Shr Truth = false
is_allowed_binary op t = true
