-- `stencil(a, weights)`: at each element the weighted sum of those around it. This project's own.
use Rattle.std.specs.Prelude.{ℕ, ◌+◌, ◌-◌, ◌/◌, ◌%◌, nat_lt, nat_le, ◌==◌, Bool, true, ◌&&◌, if◌then◌else◌, List, [], ◌∷◌, length, map, Option, Result, ℤ, pos, ◌*ℤ◌, slice_index_or}
use Rattle.std.specs.List.{list_all}
use Rattle.lg_elem.specs.Types.{wrap}
use Rattle.lg_shape.specs.Shapes.{places, place_of}
use Rattle.lg_meaning.specs.declared.fault.FaultKind.{FaultKind}
use Rattle.lg_meaning.specs.declared.fault.FaultKind.TheVariants.{TypeKind, Range, Shape}
use Rattle.lg_meaning.specs.Faults.{from_part, needing, or_fault}
use Rattle.lg_meaning.specs.Memory.{ArrayKind}
use Rattle.lg_meaning.specs.Static.{Static, as_array, type_alone, weaks, made}
use Rattle.lg_meaning.specs.Creation.{are_literals}
use Rattle.lg_meaning.specs.Reductions.{total}
use Rattle.lg_meaning.specs.Take.{is_integer_type}
use Rattle.lg_meaning.specs.Value.{Value, number_at}

-- the weights have as many axes as the array, one at least, with odd extents
abbrev pub is_stencil : List ℕ → List ℕ → Bool
is_stencil weights shape =
    nat_lt 0 (length shape) && length weights == length shape
    && list_all (λ extent. extent % 2 == 1) weights

-- of an integer type, which has all weights; a truth value among these counts as 0 or 1
abbrev pub stencil_static : Static → Option (List ℕ) → List Static → Result Static FaultKind
stencil_static a weights parts = needing (is_integer_type (type_alone a)) TypeKind
    (from_part (weaks parts)
    (λ ws. from_part (as_array a)
    (λ kind. needing (are_literals kind.dtype ws) Range
    (from_part (or_fault weights Shape)
    (λ extents. needing (is_stencil extents kind.shape) Shape (made kind.dtype kind.shape))))))

-- the middle of the weights lies at the element: a weight's index is that far from it, where this
-- is an index of the array
abbrev pub is_inside : List ℕ → List ℕ → List ℕ → List ℕ → Bool
is_inside [] weights index at = true
is_inside (extent ∷ shape) [] index at = true
is_inside (extent ∷ shape) (w ∷ weights) [] at = true
is_inside (extent ∷ shape) (w ∷ weights) (i ∷ index) [] = true
is_inside (extent ∷ shape) (w ∷ weights) (i ∷ index) (k ∷ at) =
    nat_le (w / 2) (i + k) && nat_lt ((i + k) - w / 2) extent && is_inside shape weights index at

abbrev pub moved : List ℕ → List ℕ → List ℕ → List ℕ
moved [] index at = []
moved (w ∷ weights) [] at = []
moved (w ∷ weights) (i ∷ index) [] = []
moved (w ∷ weights) (i ∷ index) (k ∷ at) = ((i + k) - w / 2) ∷ moved weights index at

-- the element that the weight at an index belongs to, 0 outside of the array
abbrev pub neighbour : Value → List ℕ → List ℕ → List ℕ → ℤ
neighbour v weights index at =
    if is_inside v.shape weights index at then number_at v (moved weights index at) else pos 0

-- the sum of whole numbers, as the type has it
abbrev pub stencilled : Value → List ℕ → List ℤ → ArrayKind → List ℕ → ℤ
stencilled v weights ws kind index = wrap kind.dtype (total (map
    (λ at. slice_index_or ws (place_of weights at) (pos 0) *ℤ neighbour v weights index at)
    (places weights)))

abbrev pub stencil_value : Value → List ℕ → List ℤ → ArrayKind → Value
stencil_value v weights ws kind = record {
  shape = kind.shape;
  numbers = map (stencilled v weights ws kind) (places kind.shape);
  fault = v.fault;
}
