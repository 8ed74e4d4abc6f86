-- What is known of a value before an element is computed: the weak number that it is, or type,
-- shape and right of the array. After NumPy's reference, "Data type promotion in NumPy". That a
-- weak number has to fit, the rights and the limits are this project's own.
use Rattle.std.specs.Prelude.{ℕ, ◌^◌, nat_lt, Bool, true, not, ◌&&◌, List, [], ◌∷◌, Option, Some, None, Result, Ok, Err, ℤ}
use Rattle.lg_elem.specs.declared.dtype.DType.{DType}
use Rattle.lg_elem.specs.declared.dtype.DType.TheVariants.{Bool as Truth, Int64}
use Rattle.lg_promote.specs.Literals.{is_number}
use Rattle.lg_promote.specs.Promotion.{common_type}
use Rattle.lg_shape.specs.Shapes.{size_of}
use Rattle.lg_meaning.specs.declared.fault.FaultKind.{FaultKind}
use Rattle.lg_meaning.specs.declared.fault.FaultKind.TheVariants.{TypeKind, Range, Shape, Limit}
use Rattle.lg_meaning.specs.Weak as weak
use Rattle.lg_meaning.specs.Weak.{Weak}
use Rattle.lg_meaning.specs.Faults.{from_part, from_both, needing, or_fault}
use Rattle.lg_meaning.specs.Memory.{Right, writable, scalar, ArrayKind}

pub data Static : Type 0 where
  weak_value : Weak → Static
  array_value : ArrayKind → Static

-- ---- operands

-- the integer type beside an array of this type
abbrev pub integer_beside : DType → DType
integer_beside Truth = Int64
integer_beside t = t

-- the type that an operand has beside another one: an array has its own, without axes too, and a
-- weak truth value bool. A weak integer takes the integer type of an array, and is int64 beside
-- bool and beside a weak number
abbrev pub type_beside : Static → Static → DType
type_beside other (array_value a) = a.dtype
type_beside other (weak_value (weak.truth b)) = Truth
type_beside (array_value a) (weak_value (weak.integer x)) = integer_beside a.dtype
type_beside (weak_value w) (weak_value (weak.integer x)) = Int64

-- a weak integer fits the type that it takes
abbrev pub fits : DType → Static → Bool
fits t (weak_value (weak.integer x)) = is_number t x
fits t (weak_value (weak.truth b)) = true
fits t (array_value a) = true

-- both operands fit
abbrev pub both_fit : Static → Static → Bool
both_fit a b = fits (type_beside b a) a && fits (type_beside a b) b

-- the type to which two operands are cast
abbrev pub common : Static → Static → Result DType FaultKind
common a b = or_fault (common_type (type_beside b a) (type_beside a b)) TypeKind

-- the type of an operand by itself
abbrev pub type_alone : Static → DType
type_alone a = type_beside a a

-- a weak number has no axes
abbrev pub shape_of : Static → List ℕ
shape_of (weak_value w) = []
shape_of (array_value a) = a.shape

-- where an array is asked for, a weak number counts as a scalar: an integer as one of int64, which
-- it has to fit, and a truth value as one of bool. This project's own
abbrev pub scalar_of : DType → ArrayKind
scalar_of t = record { dtype = t; shape = []; right = scalar }

abbrev pub as_array : Static → Result ArrayKind FaultKind
as_array (array_value a) = Ok a
as_array (weak_value w) =
    needing (fits (type_alone (weak_value w)) (weak_value w)) Range
    (Ok (scalar_of (type_alone (weak_value w))))

-- ---- numbers that are written: extents, axes, bounds and the members of lists

abbrev pub weak_of : Static → Result Weak FaultKind
weak_of (weak_value w) = Ok w
weak_of (array_value a) = Err TypeKind

-- a number as an extent, a bound or an axis: no truth value
abbrev pub integer_of : Static → Result ℤ FaultKind
integer_of (weak_value (weak.integer x)) = Ok x
integer_of (weak_value (weak.truth b)) = Err TypeKind
integer_of (array_value a) = Err TypeKind

-- one that may be left out
abbrev pub optional_integer : Option Static → Result (Option ℤ) FaultKind
optional_integer None = Ok None
optional_integer (Some a) = from_part (integer_of a) (λ x. Ok (Some x))

-- the same of each
abbrev pub integers : List Static → Result (List ℤ) FaultKind
integers [] = Ok []
integers (a ∷ parts) = from_both (integer_of a) (integers parts) (λ x xs. Ok (x ∷ xs))

abbrev pub weaks : List Static → Result (List Weak) FaultKind
weaks [] = Ok []
weaks (a ∷ parts) = from_both (weak_of a) (weaks parts) (λ w ws. Ok (w ∷ ws))

-- ---- results

-- the greatest extent of an axis, and the greatest number of elements
abbrev pub MAX_SIZE : ℕ
MAX_SIZE = 2 ^ 24

abbrev pub are_within : List ℕ → Bool
are_within [] = true
are_within (extent ∷ shape) = not (nat_lt MAX_SIZE extent) && are_within shape

-- each extent is within the limit, also beside an extent of 0, and so is the number of elements
abbrev pub is_within : List ℕ → Bool
is_within shape = are_within shape && not (nat_lt MAX_SIZE (size_of shape))

-- a new array, which may be written; too many elements are a fault
abbrev pub made : DType → List ℕ → Result Static FaultKind
made t shape = needing (is_within shape) Limit
    (Ok (array_value (record { dtype = t; shape = shape; right = writable })))

-- what an operation makes is a scalar where it has no axes
abbrev pub right_of : List ℕ → Right
right_of [] = scalar
right_of (extent ∷ shape) = writable

abbrev pub with_right : Static → Static
with_right (weak_value w) = weak_value w
with_right (array_value a) =
    array_value (record { dtype = a.dtype; shape = a.shape; right = right_of a.shape })

-- the result of an operation on elements; shapes that do not go together are a fault
abbrev pub elementwise : DType → Option (List ℕ) → Result Static FaultKind
elementwise t None = Err Shape
elementwise t (Some shape) = from_part (made t shape) (λ s. Ok (with_right s))

-- an array, or the fault of it
abbrev pub array_result : Result ArrayKind FaultKind → Result Static FaultKind
array_result kind = from_part kind (λ k. Ok (array_value k))

abbrev pub weak_result : Result Weak FaultKind → Result Static FaultKind
weak_result w = from_part w (λ x. Ok (weak_value x))
