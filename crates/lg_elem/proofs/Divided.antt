-- Division of elements, by that of a machine integer which holds their numbers.
use Rattle.std.proofs.Common.{◌≡◌, zero, suc, ◌≤◌, refl, sym, ap, subst, ◌∙◌, ◌⊎◌, ⊎_elim, arith, ℤ, pos, negsuc}
use Rattle.std.proofs.lemmas.Int.{ints, to_z-of_z, fits_signed_from_abs}
use Rattle.std.proofs.Math.Nat.{div-le_self}
use Rattle.std.specs.Int.{Width, w32, w64, w128}
use Rattle.std.specs.Prelude.{FitsSigned}
use mir.Val.{to_z, of_z}
use mir.Val as values
use Rattle.lg_elem.specs.declared.dtype.DType.{DType}
use Rattle.lg_elem.specs.declared.dtype.DType.TheVariants.{Bool as Truth, Int8, Int16, Int32, Int64, UInt8, UInt16, UInt32, UInt64}
use Rattle.lg_elem.specs.declared.kinds.Binary.TheVariants.{FloorDiv, Rem}
use Rattle.lg_elem.specs.Types.{IsNumber, wrap, bits}
use Rattle.lg_elem.specs.Operations.{floor_div, value_of}
use Rattle.lg_elem.specs.Division.{quotient_of, remainder_of}
use Rattle.lg_elem.proofs.WrapLemmas.{wrap_same}
use Rattle.lg_elem.proofs.Congruence.{wrapped_first}
use Rattle.lg_elem.proofs.Bitwise.{number_fits}
use Rattle.lg_elem.proofs.Floors.{above}

-- ---- which machine integer holds the numbers of a type

pub record Holds (w : Width) (t : DType) : Type 0 where
  pub most : bits t ≤ values.bits w
  pub fits : (x : ℤ) → IsNumber t x → FitsSigned w x

int64_fits : (x : ℤ) → IsNumber Int64 x → FitsSigned w64 x
int64_fits (pos n) f = record { sfits = omega (arith, ints) }
int64_fits (negsuc n) f = record { sfits = omega (arith, ints) }

int32_fits : (x : ℤ) → IsNumber Int32 x → FitsSigned w32 x
int32_fits (pos n) f = record { sfits = omega (arith, ints) }
int32_fits (negsuc n) f = record { sfits = omega (arith, ints) }

pub holds_64 : (t : DType) → (t ≡ Int64) ⊎ (t ≡ UInt32) → Holds w64 t
holds_64 t h = ⊎_elim
    (λ e. subst (Holds w64) (sym e) (record { most = omega arith; fits = int64_fits }))
    (λ e. subst (Holds w64) (sym e) (record { most = omega arith; fits = λ x f. fits_signed_from_abs w64 x (grind (arith, ints)) }))
    h

pub holds_32 : (t : DType) → ¬ (t ≡ Int64) → ¬ (t ≡ UInt32) → ¬ (t ≡ UInt64) → Holds w32 t
holds_32 Truth a b c = record { most = omega arith; fits = λ x f. fits_signed_from_abs w32 x (grind (arith, ints)) }
holds_32 Int8 a b c = record { most = omega arith; fits = λ x f. fits_signed_from_abs w32 x (grind (arith, ints)) }
holds_32 Int16 a b c = record { most = omega arith; fits = λ x f. fits_signed_from_abs w32 x (grind (arith, ints)) }
holds_32 Int32 a b c = record { most = omega arith; fits = int32_fits }
holds_32 Int64 a b c = absurd (a refl)
holds_32 UInt8 a b c = record { most = omega arith; fits = λ x f. fits_signed_from_abs w32 x (grind (arith, ints)) }
holds_32 UInt16 a b c = record { most = omega arith; fits = λ x f. fits_signed_from_abs w32 x (grind (arith, ints)) }
holds_32 UInt32 a b c = absurd (b refl)
holds_32 UInt64 a b c = absurd (c refl)

-- ---- what is kept by wrapping to that integer first

quotient_kept : (w : Width) (t : DType) (x y : ℤ) → Holds w t → IsNumber t x → IsNumber t y → wrap t (quotient_of w x y) ≡ value_of FloorDiv t x y
quotient_kept w t x (pos zero) h f g = wrap_same t (pos 0) g
quotient_kept w t x (pos (suc b)) h f g = wrapped_first t w (floor_div x (pos (suc b))) h.most truth
  where
    of_truth : (x : ℤ) → IsNumber Truth x → FitsSigned w x → FitsSigned w (floor_div x (pos (suc b)))
    of_truth (pos a) i k = subst (FitsSigned w) (sym (above (pos a) (suc b))) (record { sfits = omega (arith, k.sfits, div-le_self a (suc b)) })
    of_truth (negsuc a) i k = absurd (omega (arith, ints))

    truth : t ≡ Truth → FitsSigned w (floor_div x (pos (suc b)))
    truth e = of_truth x (subst (λ t. IsNumber t x) e f) (h.fits x f)
quotient_kept w t x (negsuc b) h f g = wrapped_first t w (floor_div x (negsuc b)) h.most (λ e. absurd (below (subst (λ t. IsNumber t (negsuc b)) e g)))
  where
    below : IsNumber Truth (negsuc b) → ⊥
    below i = omega (arith, ints)

remainder_kept : (t : DType) (x y : ℤ) → IsNumber t y → wrap t (remainder_of x y) ≡ value_of Rem t x y
remainder_kept t x (pos zero) g = wrap_same t (pos 0) g
remainder_kept t x (pos (suc b)) g = refl
remainder_kept t x (negsuc b) g = refl

-- ---- as the code has it: the operands x and y pass through 128 bits to the width w, and the
-- answer a back

narrowed : (w : Width) (t : DType) (x : ℤ) → Holds w t → IsNumber t x → to_z w (of_z w (to_z w128 (of_z w128 x))) ≡ x
narrowed w t x h f = ap (λ z. to_z w (of_z w z)) (to_z-of_z w128 x (number_fits t x f)) ∙ to_z-of_z w x (h.fits x f)

-- the operands, which are the numbers p and q
pub record Operands (t : DType) (x y p q : ℤ) : Type 0 where
  pub left : IsNumber t x
  pub right : IsNumber t y
  pub is_left : x ≡ p
  pub is_right : y ≡ q

-- the answer a, as a number b of 128 bits
pub record Answer (w : Width) (a b : ℤ) : Type 0 where
  pub narrow : FitsSigned w a
  pub wide : FitsSigned w128 b
  pub same : b ≡ to_z w (of_z w a)

answered : (w : Width) (a b : ℤ) → Answer w a b → to_z w128 (of_z w128 b) ≡ a
answered w a b h = (to_z-of_z w128 b h.wide ∙ h.same) ∙ to_z-of_z w a h.narrow

pub quotient_wrapped : (w : Width) (t : DType) (x y p q a b : ℤ) → Holds w t → Operands t x y p q → Answer w a b → a ≡ quotient_of w (to_z w (of_z w (to_z w128 (of_z w128 x)))) (to_z w (of_z w (to_z w128 (of_z w128 y)))) → wrap t (to_z w128 (of_z w128 b)) ≡ value_of FloorDiv t p q
quotient_wrapped w t x y p q a b h o n e =
    let clean = (e ∙ ap (λ x. quotient_of w x (to_z w (of_z w (to_z w128 (of_z w128 y))))) (narrowed w t x h o.left)) ∙ ap (quotient_of w x) (narrowed w t y h o.right) in
    let here = ap (wrap t) (answered w a b n ∙ clean) ∙ quotient_kept w t x y h o.left o.right in
    here ∙ (ap (λ x. value_of FloorDiv t x y) o.is_left ∙ ap (value_of FloorDiv t p) o.is_right)

pub remainder_wrapped : (w : Width) (t : DType) (x y p q a b : ℤ) → Holds w t → Operands t x y p q → Answer w a b → a ≡ remainder_of (to_z w (of_z w (to_z w128 (of_z w128 x)))) (to_z w (of_z w (to_z w128 (of_z w128 y)))) → wrap t (to_z w128 (of_z w128 b)) ≡ value_of Rem t p q
remainder_wrapped w t x y p q a b h o n e =
    let clean = (e ∙ ap (λ x. remainder_of x (to_z w (of_z w (to_z w128 (of_z w128 y))))) (narrowed w t x h o.left)) ∙ ap (remainder_of x) (narrowed w t y h o.right) in
    let here = ap (wrap t) (answered w a b n ∙ clean) ∙ remainder_kept t x y o.right in
    here ∙ (ap (λ x. value_of Rem t x y) o.is_left ∙ ap (value_of Rem t p) o.is_right)
