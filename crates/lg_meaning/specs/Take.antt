-- `take(a, i, axis)`: the elements of an array at an array of indices. After NumPy's reference,
-- "numpy.take". Which types indices may have, that an index out of range is a fault of the
-- elements, with 0 in its place, and the order of faults are this project's own.
use Rattle.std.specs.Prelude.{ℕ, suc, ◌+◌, nat_le, ◌==◌, Bool, true, false, if◌then◌else◌, List, [], ◌∷◌, ◌++◌, length, map, take, drop, Option, Some, None, Result, ℤ, pos, slice_index_or}
use Rattle.std.specs.List.{list_all}
use Rattle.lg_elem.specs.declared.dtype.DType.{DType}
use Rattle.lg_elem.specs.declared.dtype.DType.TheVariants.{Bool as Truth}
use Rattle.lg_space.specs.declared.point.TheConstants.{MAX_AXES}
use Rattle.lg_shape.specs.Shapes.{size_of, places}
use Rattle.lg_shape.specs.Indexing.{has_coordinate, coordinate}
use Rattle.lg_meaning.specs.declared.fault.FaultKind.{FaultKind}
use Rattle.lg_meaning.specs.declared.fault.FaultKind.TheVariants.{TypeKind, Shape, Index}
use Rattle.lg_meaning.specs.Faults.{from_part, from_both, needing, first_fault}
use Rattle.lg_meaning.specs.Memory.{ArrayKind}
use Rattle.lg_meaning.specs.Static.{Static, as_array, optional_integer, type_alone, elementwise}
use Rattle.lg_meaning.specs.Views.{optional_axis}
use Rattle.lg_meaning.specs.Value.{Value, number_at, flat}

-- ---- type and shape

-- no truth values
abbrev pub is_integer_type : DType → Bool
is_integer_type Truth = false
is_integer_type t = true

-- the axis makes way for those of the indices; without an axis the array counts as flat
abbrev pub taken_shape : List ℕ → List ℕ → Option ℕ → List ℕ
taken_shape shape indices None = indices
taken_shape shape indices (Some axis) = take axis shape ++ (indices ++ drop (suc axis) shape)

abbrev pub take_kind : ArrayKind → ArrayKind → Option ℕ → Result Static FaultKind
take_kind a i axis =
    needing (nat_le (length (taken_shape a.shape i.shape axis)) MAX_AXES) Shape
    (elementwise a.dtype (Some (taken_shape a.shape i.shape axis)))

abbrev pub take_static : Static → Static → Option Static → Result Static FaultKind
take_static a i part = needing (is_integer_type (type_alone i)) TypeKind
    (from_part (optional_integer part)
    (λ x. from_both (as_array a) (as_array i)
    (λ kind indices. from_part (optional_axis (length kind.shape) x) (take_kind kind indices))))

-- ---- numbers

-- the number at a coordinate of the axis, which counts from the end where it is below 0; 0 where it
-- is out of range
abbrev pub taken_at : Value → ℕ → List ℕ → ℤ → List ℕ → ℤ
taken_at v axis before k behind =
    if has_coordinate (slice_index_or v.shape axis 0) k
    then number_at v (before ++ (coordinate (slice_index_or v.shape axis 0) k ∷ behind))
    else pos 0

-- an index of the result: first the coordinates before the axis, then an index of the indices, then
-- the coordinates behind the axis
abbrev pub taken : Value → Value → ℕ → List ℕ → ℤ
taken v i axis index =
    taken_at v axis (take axis index) (number_at i (take (length i.shape) (drop axis index)))
    (drop (axis + length i.shape) index)

-- some index is out of range, where the result has an element
abbrev pub are_in_range : Value → ℕ → List ℤ → Bool
are_in_range v axis indices = list_all (has_coordinate (slice_index_or v.shape axis 0)) indices

abbrev pub take_fault : Bool → List ℕ → Option FaultKind
take_fault in_range shape =
    if in_range then None else (if size_of shape == 0 then None else Some Index)

abbrev pub taken_value : Value → Value → ℕ → ArrayKind → Value
taken_value v i axis kind = record {
  shape = kind.shape;
  numbers = map (taken v i axis) (places kind.shape);
  fault = first_fault
      (v.fault ∷ i.fault ∷ take_fault (are_in_range v axis i.numbers) kind.shape ∷ []);
}

abbrev pub take_value : Value → Value → Option ℕ → ArrayKind → Value
take_value v i None kind = taken_value (flat v) i 0 kind
take_value v i (Some axis) kind = taken_value v i axis kind
