-- `a @ b`. After NumPy's reference, "numpy.matmul", for operands with one or two axes.
use Rattle.std.specs.Prelude.{ℕ, ◌-◌, ◌==◌, if◌then◌else◌, List, [], ◌∷◌, ◌++◌, length, map, take, drop, Option, Some, None, Result, ℤ, ◌*ℤ◌, slice_index_or}
use Rattle.std.specs.List.{range_with_len}
use Rattle.lg_elem.specs.Types.{wrap}
use Rattle.lg_shape.specs.Shapes.{places}
use Rattle.lg_meaning.specs.declared.fault.FaultKind.{FaultKind}
use Rattle.lg_meaning.specs.declared.fault.FaultKind.TheVariants.{Range}
use Rattle.lg_meaning.specs.Faults.{from_part, needing, first_fault}
use Rattle.lg_meaning.specs.Memory.{ArrayKind}
use Rattle.lg_meaning.specs.Static.{Static, both_fit, common, shape_of, elementwise}
use Rattle.lg_meaning.specs.Reductions.{total}
use Rattle.lg_meaning.specs.Value.{Value, number_at}

-- the inner extents, of the last axis of the left and the first axis of the right operand, are
-- equal; the outer axes stay, where there are some
abbrev pub product_shape : List ℕ → List ℕ → Option (List ℕ)
product_shape (k ∷ []) (l ∷ []) = if k == l then Some [] else None
product_shape (k ∷ []) (l ∷ n ∷ []) = if k == l then Some (n ∷ []) else None
product_shape (m ∷ k ∷ []) (l ∷ []) = if k == l then Some (m ∷ []) else None
product_shape (m ∷ k ∷ []) (l ∷ n ∷ []) = if k == l then Some (m ∷ n ∷ []) else None
product_shape a b = None

-- the common type, as for `*`
abbrev pub matmul_static : Static → Static → Result Static FaultKind
matmul_static a b = from_part (common a b)
    (λ t. needing (both_fit a b) Range (elementwise t (product_shape (shape_of a) (shape_of b))))

-- how many axes of the left operand stay
abbrev pub outer : Value → ℕ
outer a = length a.shape - 1

-- the inner extent
abbrev pub inner : Value → ℕ
inner a = slice_index_or a.shape (outer a) 0

-- the sum of products over the inner axis, as the type has it; for bool, whose numbers are 0 and 1,
-- this is the or of ands
abbrev pub multiplied : Value → Value → ArrayKind → List ℕ → ℤ
multiplied a b kind index = wrap kind.dtype (total (map
    (λ k. number_at a (take (outer a) index ++ (k ∷ [])) *ℤ number_at b (k ∷ drop (outer a) index))
    (range_with_len 0 (inner a))))

abbrev pub matmul_value : Value → Value → ArrayKind → Value
matmul_value a b kind = record {
  shape = kind.shape;
  numbers = map (multiplied a b kind) (places kind.shape);
  fault = first_fault (a.fault ∷ b.fault ∷ []);
}
