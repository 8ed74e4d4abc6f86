-- Reductions over one axis or over all: `sum`, `prod`, `min`, `max`, `any` and `all`. After NumPy's
-- reference, "numpy.sum", "numpy.prod", "numpy.min", "numpy.max", "numpy.any" and "numpy.all". That
-- the least of nothing is a fault exactly where an element asks for it, and the order of faults,
-- are this project's own.
use Rattle.std.specs.Prelude.{ℕ, ◌==◌, Bool, true, not, ◌||◌, List, [], ◌∷◌, length, map, fold, insert, remove, Option, Some, None, Result, ℤ, pos, ◌+ℤ◌, ◌*ℤ◌, slice_index_or}
use Rattle.std.specs.List.{range_with_len, list_all, list_any}
use Rattle.std.specs.Int.{from_bool, int_min, int_max}
use Rattle.lg_elem.specs.declared.dtype.DType.{DType}
use Rattle.lg_elem.specs.declared.dtype.DType.TheVariants.{Bool as Truth, Int64, UInt64}
use Rattle.lg_elem.specs.Types.{wrap}
use Rattle.lg_elem.specs.Operations.{is_zero}
use Rattle.lg_promote.specs.declared.kind.Kind.{Kind}
use Rattle.lg_promote.specs.declared.kind.Kind.TheVariants as kinds
use Rattle.lg_promote.specs.Kinds.{kind_of}
use Rattle.lg_shape.specs.Shapes.{size_of, places}
use Rattle.lg_tree.specs.declared.kinds.Red.{Red}
use Rattle.lg_tree.specs.declared.kinds.Red.TheVariants.{Sum, Prod, Min, Max, Any, All}
use Rattle.lg_meaning.specs.declared.fault.FaultKind.{FaultKind}
use Rattle.lg_meaning.specs.declared.fault.FaultKind.TheVariants.{Shape}
use Rattle.lg_meaning.specs.Faults.{from_part, needing}
use Rattle.lg_meaning.specs.Memory.{ArrayKind}
use Rattle.lg_meaning.specs.Static.{Static, as_array, optional_integer, elementwise}
use Rattle.lg_meaning.specs.Views.{optional_axis}
use Rattle.lg_meaning.specs.Value.{Value, number_at}

-- ---- type and shape

-- a sum or product has 64 bits, without a sign where the elements are of a type without one
abbrev pub wide : Kind → DType
wide kinds.Truth = Int64
wide (kinds.Signed n) = Int64
wide (kinds.Unsigned n) = UInt64

abbrev pub reduced_type : Red → DType → DType
reduced_type Sum t = wide (kind_of t)
reduced_type Prod t = wide (kind_of t)
reduced_type Min t = t
reduced_type Max t = t
reduced_type Any t = Truth
reduced_type All t = Truth

-- the axis is taken away, or each one
abbrev pub reduced_shape : List ℕ → Option ℕ → List ℕ
reduced_shape shape None = []
reduced_shape shape (Some axis) = remove shape axis

-- nothing has no least and no greatest number
abbrev pub has_result : Red → List ℕ → List ℕ → Bool
has_result Min shape result = not (size_of shape == 0) || size_of result == 0
has_result Max shape result = not (size_of shape == 0) || size_of result == 0
has_result r shape result = true

abbrev pub reduce_static : Red → Static → Option Static → Result Static FaultKind
reduce_static r a part = from_part (optional_integer part)
    (λ x. from_part (as_array a)
    (λ kind. from_part (optional_axis (length kind.shape) x)
    (λ axis. needing (has_result r kind.shape (reduced_shape kind.shape axis)) Shape
    (elementwise (reduced_type r kind.dtype) (Some (reduced_shape kind.shape axis))))))

-- ---- numbers

-- sum and product of whole numbers
abbrev pub total : List ℤ → ℤ
total xs = fold (λ s x. s +ℤ x) (pos 0) xs

abbrev pub product : List ℤ → ℤ
product xs = fold (λ s x. s *ℤ x) (pos 1) xs

-- the least and the greatest one of some numbers. Of none nothing is asked
abbrev pub least_in : List ℤ → ℤ
least_in [] = pos 0
least_in (x ∷ xs) = fold int_min x xs

abbrev pub greatest_in : List ℤ → ℤ
greatest_in [] = pos 0
greatest_in (x ∷ xs) = fold int_max x xs

abbrev pub reduced : Red → DType → List ℤ → ℤ
reduced Sum t xs = wrap t (total xs)
reduced Prod t xs = wrap t (product xs)
reduced Min t xs = least_in xs
reduced Max t xs = greatest_in xs
reduced Any t xs = pos (from_bool (list_any (λ x. not (is_zero x)) xs))
reduced All t xs = pos (from_bool (list_all (λ x. not (is_zero x)) xs))

-- the numbers on an axis, at an index of the other axes
abbrev pub line : Value → ℕ → List ℕ → List ℤ
line v axis index = map (λ k. number_at v (insert index axis k))
    (range_with_len 0 (slice_index_or v.shape axis 0))

-- what is reduced to each element of the result: a line for each index of the other axes, or all
-- numbers to the one element
abbrev pub lines : Value → Option ℕ → List (List ℤ)
lines v None = v.numbers ∷ []
lines v (Some axis) = map (line v axis) (places (remove v.shape axis))

abbrev pub reduce_value : Red → Value → Option ℕ → ArrayKind → Value
reduce_value r v axis kind = record {
  shape = kind.shape;
  numbers = map (reduced r kind.dtype) (lines v axis);
  fault = v.fault;
}
