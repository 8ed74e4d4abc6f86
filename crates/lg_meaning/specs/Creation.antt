-- Arrays that are made: `full`, `zeros`, `ones`, `arange` and `array`. After NumPy's reference,
-- "numpy.full", "numpy.arange" and "numpy.array". That the numbers are weak and have to fit, the
-- limits and the order of faults are this project's own.
use Rattle.std.specs.Prelude.{ℕ, suc, nat_le, Bool, true, false, not, ◌&&◌, if◌then◌else◌, List, [], ◌∷◌, length, map, replicate, is_some, option_map, Option, Some, None, Result, Err, ℤ, pos, ◌+ℤ◌, ◌-ℤ◌, int_lt, unsigned_abs, bytes_eq}
use Rattle.std.specs.List.{range_with_len}
use Rattle.lg_elem.specs.declared.dtype.DType.{DType}
use Rattle.lg_elem.specs.declared.dtype.DType.TheVariants.{Bool as Truth, Int64}
use Rattle.lg_elem.specs.Types.{wrap}
use Rattle.lg_elem.specs.Operations.{is_negative}
use Rattle.lg_promote.specs.Literals.{is_number, literal_of}
use Rattle.lg_space.specs.declared.point.TheConstants.{MAX_AXES}
use Rattle.lg_shape.specs.Shapes.{size_of}
use Rattle.lg_tree.specs.Tree.{ListTree, leaf, list, ListTrees, no_lists, more_lists}
use Rattle.lg_meaning.specs.declared.fault.FaultKind.{FaultKind}
use Rattle.lg_meaning.specs.declared.fault.FaultKind.TheVariants.{TypeKind, Range, Shape}
use Rattle.lg_meaning.specs.Weak as weak
use Rattle.lg_meaning.specs.Weak.{Weak, number_of}
use Rattle.lg_meaning.specs.Faults.{from_part, needing, or_fault}
use Rattle.lg_meaning.specs.Memory.{ArrayKind}
use Rattle.lg_meaning.specs.Static.{Static, made}
use Rattle.lg_meaning.specs.Value.{Value, plain}

-- the type that is written, and else this one
abbrev pub type_or : Option DType → DType → DType
type_or None t = t
type_or (Some t) default = t

-- the type of a weak number in an array whose type is not written
abbrev pub weak_type : Weak → DType
weak_type (weak.integer x) = Int64
weak_type (weak.truth b) = Truth

-- the type has a number for this one
abbrev pub is_literal : DType → ℤ → Bool
is_literal t x = is_some (literal_of x t)

-- extents as written: none is below 0
abbrev pub are_extents : List ℤ → Bool
are_extents [] = true
are_extents (x ∷ xs) = not (is_negative x) && are_extents xs

abbrev pub extents : List ℤ → List ℕ
extents [] = []
extents (x ∷ xs) = unsigned_abs x ∷ extents xs

-- a shape as written: these are extents, and four at most
abbrev pub is_shape : List ℤ → Bool
is_shape xs = are_extents xs && nat_le (length xs) MAX_AXES

-- an array of a written shape
abbrev pub shaped : DType → List ℤ → Result Static FaultKind
shaped t xs = needing (is_shape xs) Shape (made t (extents xs))

-- `full`: the number is weak, and fits the type
abbrev pub full_static : List ℤ → Weak → Option DType → Result Static FaultKind
full_static xs w t =
    needing (is_literal (type_or t (weak_type w)) (number_of w)) Range
    (shaped (type_or t (weak_type w)) xs)

-- every element this number, as the type has it
abbrev pub filled : ℤ → ArrayKind → Value
filled x kind = plain kind.shape (replicate (size_of kind.shape) (wrap kind.dtype x))

-- ---- `arange`

-- an integer type, which has the first and the last number. There is none where the first bound is
-- not below the second
abbrev pub arange_static : ℤ → ℤ → DType → Result Static FaultKind
arange_static from to Truth = Err TypeKind
arange_static from to t =
    if int_lt from to
    then needing (is_number t from && is_number t (to -ℤ pos 1)) Range
    (made t (unsigned_abs (to -ℤ from) ∷ []))
    else made t (0 ∷ [])

-- each number one more than the one before it
abbrev pub counted : ℤ → ArrayKind → Value
counted from kind =
    plain kind.shape (map (λ k. from +ℤ pos k) (range_with_len 0 (size_of kind.shape)))

-- ---- nested lists

-- a shape that two lists share
abbrev pub same_shape : Option (List ℕ) → Option (List ℕ) → Option (List ℕ)
same_shape None b = None
same_shape (Some s) None = None
same_shape (Some s) (Some r) = if bytes_eq s r then Some s else None

abbrev pub count_of : ListTrees → ℕ
count_of no_lists = 0
count_of (more_lists l ls) = suc (count_of ls)

-- the shape of nested lists: an axis for each depth, where all lists of one depth are alike
abbrev mutual
  pub list_shape : ListTree → Option (List ℕ)
  list_shape (leaf e) = Some []
  list_shape (list ls) = option_map (λ shape. count_of ls ∷ shape) (row_shape ls)

  -- the one shape of all these
  pub row_shape : ListTrees → Option (List ℕ)
  row_shape no_lists = Some []
  row_shape (more_lists l no_lists) = list_shape l
  row_shape (more_lists l (more_lists next ls)) =
      same_shape (list_shape l) (row_shape (more_lists next ls))

-- bool where all are truth values and there is one
abbrev pub are_truths : List Weak → Bool
are_truths [] = true
are_truths (weak.truth b ∷ ws) = are_truths ws
are_truths (weak.integer x ∷ ws) = false

abbrev pub list_type : List Weak → DType
list_type [] = Int64
list_type (w ∷ ws) = if are_truths (w ∷ ws) then Truth else Int64

abbrev pub are_literals : DType → List Weak → Bool
are_literals t [] = true
are_literals t (w ∷ ws) = is_literal t (number_of w) && are_literals t ws

-- `array`: all numbers fit the type, before the form of the lists is looked at
abbrev pub array_static : Option (List ℕ) → List Weak → DType → Result Static FaultKind
array_static shape ws t =
    needing (are_literals t ws) Range
    (from_part (or_fault shape Shape)
    (λ s. needing (nat_le (length s) MAX_AXES) Shape (made t s)))

abbrev pub listed : List ℤ → ArrayKind → Value
listed xs kind = plain kind.shape (map (wrap kind.dtype) xs)
