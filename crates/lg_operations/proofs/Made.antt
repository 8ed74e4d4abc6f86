-- When what was evaluated is the new array of the definition.
use Rattle.std.proofs.Common.{◌≡◌, ℕ, List, [], ◌∷◌, Option, None, Some, Result, Ok, ℤ, refl, sym, ap, ◌∙◌}
use Rattle.std.specs.Option.{option_or}
use Rattle.lg_elem.specs.declared.dtype.DType.{DType}
use Rattle.lg_shape.specs.Shapes.{whole}
use Rattle.lg_tile.specs.Tiles.{dtype_of, numbers, rect_of}
use Rattle.lg_meaning.specs.declared.fault.FaultKind.{FaultKind}
use Rattle.lg_meaning.specs.Faults.{first_fault}
use Rattle.lg_meaning.specs.Memory.{ArrayKind, Right}
use Rattle.lg_meaning.specs.Static.{Static, array_value}
use Rattle.lg_meaning.specs.Value.{Value}
use Rattle.lg_operations.specs.declared.values.Fresh.{Fresh}
use Rattle.lg_operations.specs.Operations.{extents_of, fresh_kind, right_for, IsArrayOf}
use Rattle.lg_operations.proofs.Shapes.{ends_of, ends-whole}
use Rattle.lg_operations.proofs.Statics.{kind_with}

abbrev pub value_of_parts : List ℕ → List ℤ → Option FaultKind → Value
value_of_parts shape numbers fault = record { shape = shape; numbers = numbers; fault = fault }

pub array_made : (static : Result Static FaultKind) (value : ArrayKind → Value) (fresh : Fresh) (t : DType) (shape : List ℕ) (right : Right)
    → Ok (array_value (kind_with t shape right)) ≡ static → dtype_of fresh.tile ≡ t → rect_of fresh.tile ≡ whole shape → right_for fresh.right ≡ right
    → value_of_parts shape (numbers fresh.tile) fresh.fault ≡ value (kind_with t shape right) → IsArrayOf static value fresh
array_made static value fresh t shape right rule type rect has same =
    let extents : extents_of fresh.tile ≡ shape = ap ends_of rect ∙ ends-whole shape in
    let kinds : fresh_kind fresh ≡ kind_with t shape right = λ i. kind_with (type i) (extents i) (has i) in
    record {
      kind = sym rule ∙ ap (λ k. Ok (array_value k)) (sym kinds);
      same = ap (λ s. value_of_parts s (numbers fresh.tile) fresh.fault) extents ∙ same ∙ ap value (sym kinds);
      whole = rect ∙ ap whole (sym extents);
    }

-- the first of three faults, the last of which may be none
pub first_of_three : (a b c : Option FaultKind) → option_or (option_or a b) c ≡ first_fault (a ∷ b ∷ c ∷ [])
first_of_three None None None = refl
first_of_three None None (Some kind) = refl
first_of_three None (Some kind) c = refl
first_of_three (Some kind) b c = refl

pub fault_of_two : (a b : Option FaultKind) → first_fault (a ∷ b ∷ None ∷ []) ≡ first_fault (a ∷ b ∷ [])
fault_of_two None None = refl
fault_of_two None (Some kind) = refl
fault_of_two (Some kind) b = refl
