-- When a new array is the copy of the definition.
use Rattle.std.proofs.Common.{◌≡◌, ℕ, List, length, Result, Ok, ℤ, refl, sym, ap, ◌∙◌}
use Rattle.std.proofs.lemmas.List.{length-map}
use Rattle.lg_elem.specs.declared.dtype.DType.{DType}
use Rattle.lg_space.specs.Rectangle.{volume_of}
use Rattle.lg_shape.specs.Shapes.{size_of}
use Rattle.lg_tile.proofs.NumberLemmas.{numbers_full}
use Rattle.lg_xform.proofs.Picks.{all_places}
use Rattle.lg_meaning.specs.declared.fault.FaultKind.{FaultKind}
use Rattle.lg_meaning.specs.declared.fault.FaultKind.TheVariants.{Shape}
use Rattle.lg_meaning.specs.Copies.{inferred, is_reshape, same_numbers}
use Rattle.lg_meaning.specs.Faults.{from_part}
use Rattle.lg_meaning.specs.Memory.{ArrayKind, writable}
use Rattle.lg_meaning.specs.Static.{Static, array_value, as_array, made, shape_of, type_alone}
use Rattle.lg_session.specs.Copying.{IsAnew}
use Rattle.lg_operations.specs.Views.{view_of}
use Rattle.lg_operations.specs.Operations.{IsArrayOf}
use Rattle.lg_operations.specs.Reshaping.{reshape_kind}
use Rattle.lg_session.specs.Values.{value_static, value_in, IsUsable}
use Rattle.lg_session.specs.Worlds.{Roots, number_at}
use Rattle.lg_operations.proofs.Made.{array_made, value_of_parts}
use Rattle.lg_operations.proofs.Statics.{kind_with, made_ok, needing_ok, the_kind}
use Rattle.lg_session.proofs.ViewedLemmas.{array_type, part_before}
use Rattle.lg_operations.specs.declared.values.Fresh.{Fresh}
use Rattle.lg_session.specs.declared.value.Value.{Value}
use Rattle.lg_session.specs.declared.value.Value.TheVariants.{Weak, Shown, Fresh as NewArray}

-- a value has as many numbers as its shape has indices
pub value_full : (roots : Roots) (a : Value) → IsUsable roots a → length (value_in roots a).numbers ≡ size_of (shape_of (value_static a))
value_full roots (Weak w) h = refl
value_full roots (Shown view) h = length-map (view_of view).places (λ place. number_at roots (view.root, place)) ∙ all_places view.chain
value_full roots (NewArray fresh) h = numbers_full fresh.tile ∙ ap volume_of h

-- what is made has the type that was asked for
pub made_type : (t u : DType) (s shape : List ℕ) → made t s ≡ Ok (array_value (kind_with u shape writable)) → t ≡ u
made_type t u s shape e = ap (λ (k : ArrayKind). k.dtype) (the_kind _ _ (ap Ok (made_ok t s writable u shape (array_value (kind_with u shape writable)) e).1))

pub reshaped_type : (xs : List ℤ) (k : ArrayKind) (u : DType) (shape : List ℕ) → reshape_kind xs k ≡ Ok (array_value (kind_with u shape writable)) → k.dtype ≡ u
reshaped_type xs k u shape e =
    let made_so = needing_ok (is_reshape (size_of k.shape) xs) Shape (made k.dtype (inferred (size_of k.shape) xs)) (array_value (kind_with u shape writable)) e in
    made_type k.dtype u (inferred (size_of k.shape) xs) shape made_so.1

-- a form that makes of an array one of the same type
pub array_anew : (roots : Roots) (a : Value) (f : ArrayKind → Result Static FaultKind) (t : DType) (shape : List ℕ)
    → Ok (array_value (kind_with t shape writable)) ≡ from_part (as_array (value_static a)) f
    → ((k : ArrayKind) → f k ≡ Ok (array_value (kind_with t shape writable)) → k.dtype ≡ t)
    → (fresh : Fresh) → IsAnew roots a shape fresh → IsArrayOf (from_part (as_array (value_static a)) f) (same_numbers (value_in roots a)) fresh
array_anew roots a f t shape rule types fresh new =
    let p = part_before (as_array (value_static a)) f (array_value (kind_with t shape writable)) (sym rule) in
    let type : type_alone (value_static a) ≡ t = sym (array_type (value_static a) p.0 p.1) ∙ types p.0 p.2 in
    array_made (from_part (as_array (value_static a)) f) (same_numbers (value_in roots a)) fresh t shape writable rule (new.elements.dtype ∙ type) new.rect new.right
    (λ i. value_of_parts shape (new.elements.same i) (new.elements.fault i))
