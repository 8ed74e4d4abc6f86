-- Operators, comparisons, `abs`, `minimum`, `maximum` and `where`: element by element. After
-- NumPy's reference, "Math operations", "Bit-wise operations", "Comparison functions",
-- "numpy.where" and "Broadcasting". The order of faults is this project's own: type, range, shape,
-- limit, and those of elements behind those of the parts.
use Rattle.std.specs.Prelude.{Bool, true, ◌&&◌, List, ◌∷◌, [], map, zip, Option, Some, None, Result, Ok, ℤ, pos, neg_ℤ, if◌then◌else◌}
use Rattle.std.specs.Int.{from_bool}
use Rattle.lg_elem.specs.declared.dtype.DType.TheVariants.{Bool as Truth}
use Rattle.lg_elem.specs.declared.kinds.Binary.{Binary}
use Rattle.lg_elem.specs.declared.kinds.Binary.TheVariants as binary
use Rattle.lg_elem.specs.declared.kinds.Unary.{Unary}
use Rattle.lg_elem.specs.declared.kinds.Unary.TheVariants.{Neg}
use Rattle.lg_elem.specs.declared.kinds.Compare.{Compare}
use Rattle.lg_elem.specs.declared.kinds.Flag.{Flag}
use Rattle.lg_elem.specs.declared.kinds.Flag.TheVariants.{Clear, Divisor as NoQuotient, Power as NoPower}
use Rattle.lg_elem.specs.Operations.{is_zero, unary_of, value_of, flag_of, compare_of, is_allowed_unary, is_allowed_binary}
use Rattle.lg_shape.specs.Shapes.{joined_shape}
use Rattle.lg_tree.specs.declared.kinds.Arith.{Arith}
use Rattle.lg_tree.specs.declared.kinds.Arith.TheVariants.{Add, Sub, Mul, FloorDiv, Rem, Pow, BitAnd, BitOr, BitXor, Shl, Shr}
use Rattle.lg_meaning.specs.declared.fault.FaultKind.{FaultKind}
use Rattle.lg_meaning.specs.declared.fault.FaultKind.TheVariants.{TypeKind, Range, Shape, Divisor, Power}
use Rattle.lg_meaning.specs.Weak as weak
use Rattle.lg_meaning.specs.Weak.{Weak, number_of, ranged, weak_arith}
use Rattle.lg_meaning.specs.Faults.{from_part, needing, or_fault, first_fault}
use Rattle.lg_meaning.specs.Memory.{ArrayKind}
use Rattle.lg_meaning.specs.Static.{Static, weak_value, array_value, fits, both_fit, common, type_alone, shape_of, elementwise, weak_result}
use Rattle.lg_meaning.specs.Value.{Value, spread}

-- ---- two operands

-- an operation on two operands, of their common type
abbrev pub binary_static : Binary → Static → Static → Result Static FaultKind
binary_static op a b = from_part (common a b) (λ t.
    needing (is_allowed_binary op t) TypeKind
    (needing (both_fit a b) Range
    (elementwise t (joined_shape (shape_of a) (shape_of b)))))

-- the operation on elements that an operator stands for
abbrev pub operation : Arith → Binary
operation Add = binary.Add
operation Sub = binary.Sub
operation Mul = binary.Mul
operation FloorDiv = binary.FloorDiv
operation Rem = binary.Rem
operation Pow = binary.Pow
operation BitAnd = binary.BitAnd
operation BitOr = binary.BitOr
operation BitXor = binary.BitXor
operation Shl = binary.Shl
operation Shr = binary.Shr

-- what stays weak, and else the array
abbrev pub weak_or : Option (Result Weak FaultKind) → Result Static FaultKind
    → Result Static FaultKind
weak_or None a = a
weak_or (Some w) a = weak_result w

abbrev pub arith_static : Arith → Static → Static → Result Static FaultKind
arith_static op (weak_value v) (weak_value w) =
    weak_or (weak_arith op (number_of v) (number_of w))
    (binary_static (operation op) (weak_value v) (weak_value w))
arith_static op (weak_value v) (array_value b) =
    binary_static (operation op) (weak_value v) (array_value b)
arith_static op (array_value a) b = binary_static (operation op) (array_value a) b

abbrev pub flagged : Flag → Option FaultKind
flagged Clear = None
flagged NoQuotient = Some Divisor
flagged NoPower = Some Power

-- the numbers for each two operands, and the first fault of the divisors or exponents
abbrev pub binary_numbers : Binary → ArrayKind → List ℤ → List ℤ → List ℤ
binary_numbers op kind xs ys = map (λ p. value_of op kind.dtype p.0 p.1) (zip xs ys)

abbrev pub binary_fault : Binary → List ℤ → Option FaultKind
binary_fault op ys = first_fault (map (λ y. flagged (flag_of op y)) ys)

abbrev pub binary_value : Binary → Value → Value → ArrayKind → Value
binary_value op a b kind = record {
  shape = kind.shape;
  numbers = binary_numbers op kind (spread kind.shape a) (spread kind.shape b);
  fault = first_fault
      (a.fault ∷ b.fault ∷ binary_fault op (spread kind.shape b) ∷ []);
}

-- ---- comparisons

-- a comparison is of bool, and of whole numbers: it has no common type and no range
abbrev pub compare_static : Compare → Static → Static → Result Static FaultKind
compare_static op (weak_value v) (weak_value w) =
    Ok (weak_value (weak.truth (compare_of op (number_of v) (number_of w))))
compare_static op (weak_value v) (array_value b) = elementwise Truth (Some b.shape)
compare_static op (array_value a) b = elementwise Truth (joined_shape a.shape (shape_of b))

abbrev pub compare_value : Compare → Value → Value → ArrayKind → Value
compare_value op a b kind = record {
  shape = kind.shape;
  numbers = map (λ p. pos (from_bool (compare_of op p.0 p.1)))
      (zip (spread kind.shape a) (spread kind.shape b));
  fault = first_fault (a.fault ∷ b.fault ∷ []);
}

-- ---- one operand

-- an operation on one operand, which makes an array
abbrev pub unary_static : Unary → Static → Result Static FaultKind
unary_static op a =
    needing (is_allowed_unary op (type_alone a)) TypeKind
    (needing (fits (type_alone a) a) Range
    (elementwise (type_alone a) (Some (shape_of a))))

-- the negative of a weak number is a weak integer
abbrev pub neg_static : Static → Result Static FaultKind
neg_static (weak_value w) = weak_result (ranged (neg_ℤ (number_of w)))
neg_static (array_value a) = unary_static Neg (array_value a)

abbrev pub unary_value : Unary → Value → ArrayKind → Value
unary_value op a kind =
    record { shape = kind.shape; numbers = map (unary_of op kind.dtype) a.numbers; fault = a.fault }

-- ---- `where`

-- a condition fits by its own value, but without any array it counts as a scalar, as the others do
abbrev pub condition_fits : Static → Static → Static → Bool
condition_fits c (weak_value v) (weak_value w) = fits (type_alone c) c
condition_fits c a b = true

-- the type is the common one of the two from which elements are taken
abbrev pub choose_static : Static → Static → Static → Result Static FaultKind
choose_static c a b = from_part (common a b) (λ t.
    needing (condition_fits c a b && both_fit a b) Range
    (from_part (or_fault (joined_shape (shape_of c) (shape_of a)) Shape)
    (λ shape. elementwise t (joined_shape shape (shape_of b)))))

-- the one number where the condition is not 0, and the other where it is
abbrev pub chosen : ℤ → ℤ × ℤ → ℤ
chosen c p = if is_zero c then p.1 else p.0

abbrev pub choose_value : Value → Value → Value → ArrayKind → Value
choose_value c a b kind = record {
  shape = kind.shape;
  numbers = map (λ p. chosen p.0 p.1)
      (zip (spread kind.shape c) (zip (spread kind.shape a) (spread kind.shape b)));
  fault = first_fault (c.fault ∷ a.fault ∷ b.fault ∷ []);
}
