-- A type by what it is. After NumPy's reference, "Data types" and "Array types and conversions
-- between types".
use Rattle.std.specs.Prelude.{ℕ, Bool, nat_le}
use Rattle.lg_elem.specs.declared.dtype.DType.{DType}
use Rattle.lg_elem.specs.declared.dtype.DType.TheVariants.{Bool as TruthValues, Int8, Int16, Int32, Int64, UInt8, UInt16, UInt32, UInt64}
use Rattle.lg_promote.specs.declared.kind.Kind.{Kind}
use Rattle.lg_promote.specs.declared.kind.Kind.TheVariants.{Truth, Unsigned, Signed}

-- truth values, or numbers of so many bits without or with a sign
abbrev pub kind_of : DType → Kind
kind_of TruthValues = Truth
kind_of Int8 = Signed 8
kind_of Int16 = Signed 16
kind_of Int32 = Signed 32
kind_of Int64 = Signed 64
kind_of UInt8 = Unsigned 8
kind_of UInt16 = Unsigned 16
kind_of UInt32 = Unsigned 32
kind_of UInt64 = Unsigned 64

-- how many bits a number of the kind has
abbrev pub bits_of : Kind → ℕ
bits_of Truth = 1
bits_of (Unsigned n) = n
bits_of (Signed n) = n

-- the place of a kind in the order bool, unsigned, signed
abbrev pub place_of : Kind → ℕ
place_of Truth = 0
place_of (Unsigned n) = 1
place_of (Signed n) = 2

-- going from a type to another is same kind: the place does not fall
abbrev pub is_same_kind : DType → DType → Bool
is_same_kind from to = nat_le (place_of (kind_of from)) (place_of (kind_of to))
