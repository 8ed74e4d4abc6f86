-- The type that two types have in common. After NumPy's reference, "Data type promotion in NumPy",
-- but that there are no floats: signed numbers and those of uint64 have no type in common.
use Rattle.std.specs.Prelude.{◌≡◌, ◌*◌, nat_lt, max, IsTrue, ◌⊎◌, Option, Some, None, if◌then◌else◌, ◌==◌}
use Rattle.lg_elem.specs.declared.dtype.DType.{DType}
use Rattle.lg_elem.specs.declared.dtype.DType.TheVariants.{Bool as TruthValues, Int8, Int16, Int32, Int64, UInt8, UInt16, UInt32, UInt64}
use Rattle.lg_elem.specs.Types.{is_signed}
use Rattle.lg_promote.specs.declared.kind.Kind.{Kind}
use Rattle.lg_promote.specs.declared.kind.Kind.TheVariants.{Truth, Unsigned, Signed}
use Rattle.lg_promote.specs.Kinds.{kind_of}

-- the type of a kind, where there is one
abbrev pub type_of : Kind → Option DType
type_of Truth = Some TruthValues
type_of (Signed n) =
    if n == 8 then Some Int8 else (if n == 16 then Some Int16 else
    (if n == 32 then Some Int32 else (if n == 64 then Some Int64 else None)))
type_of (Unsigned n) =
    if n == 8 then Some UInt8 else (if n == 16 then Some UInt16 else
    (if n == 32 then Some UInt32 else (if n == 64 then Some UInt64 else None)))

-- truth values go with each kind; of two with the same sign the wider is taken; n bits with a sign
-- and m without one give n bits with a sign where n is above m, else twice m
abbrev pub joined : Kind → Kind → Kind
joined Truth b = b
joined a Truth = a
joined (Signed n) (Signed m) = Signed (max n m)
joined (Unsigned n) (Unsigned m) = Unsigned (max n m)
joined (Signed n) (Unsigned m) = Signed (if nat_lt m n then n else 2 * m)
joined (Unsigned m) (Signed n) = Signed (if nat_lt m n then n else 2 * m)

-- the common type, where there is one
abbrev pub common_type : DType → DType → Option DType
common_type a b = type_of (joined (kind_of a) (kind_of b))

-- one is uint64 and the other is signed
abbrev pub IsApart : DType → DType → Type 0
IsApart a b = ((a ≡ UInt64) × IsTrue (is_signed b)) ⊎ (IsTrue (is_signed a) × (b ≡ UInt64))
