-- Shifts of elements, which the code computes at 128 bits.
use Rattle.std.proofs.Common.{◌≡◌, ℕ, ◌-◌, ◌*◌, ◌%◌, ◌^◌, ◌<◌, ◌≤◌, true, refl, sym, ap, subst, ◌∙◌, arith, ℤ, pos, negsuc, ◌*ℤ◌}
use Rattle.std.proofs.lemmas.Int.{wrapping_mul_is, fits_signed_mul, fits_signed_from_abs, to_z_pos, to_z-of_z}
use Rattle.std.proofs.lemmas.Bool.Decides.{nat_tests}
use Rattle.std.proofs.lemmas.Nat.{pow_pos}
use Rattle.std.proofs.Math.Nat.{mod-eq_of_lt, pow-le-pow_right}
use Rattle.std.specs.Int.{w128}
use Rattle.std.specs.Prelude.{unsigned_abs, FitsSigned, int_lt, int_le}
use lib.Signed.{shr_z, mag_shr}
use mir.Val.{to_z, of_z}
use Rattle.lg_elem.specs.declared.dtype.DType.{DType}
use Rattle.lg_elem.specs.declared.kinds.Binary.TheVariants.{Shl, Shr}
use Rattle.lg_elem.specs.Types.{IsNumber, wrap, bits}
use Rattle.lg_elem.specs.Operations.{is_shift, floor_div, value_of}
use Rattle.lg_elem.proofs.Congruence.{bits_most, wrapped_first}
use Rattle.lg_elem.proofs.Bitwise.{abs_most, number_fits}

-- 2 to a number of places
power_most : (k : ℕ) → k < 64 → 2 ^ k ≤ 2 ^ 63
power_most k h = pow-le-pow_right {n = 2} (omega arith) {i = k} {j = 63} (omega arith)

left_wrapped : (t : DType) (x : ℤ) (k : ℕ) → IsNumber t x → k < 64 → wrap t (to_z w128 ((of_z w128 x * 2 ^ k) % 2 ^ 128)) ≡ wrap t (x *ℤ pos (2 ^ k))
left_wrapped t x k f h =
    let fits = fits_signed_mul w128 x (pos (2 ^ k)) (2 ^ 64 - 1) (2 ^ 63) (omega (arith, abs_most t x f)) (power_most k h) (omega arith) in
    ap (wrap t) (wrapping_mul_is w128 x (pos (2 ^ k)) (number_fits t x f) (fits_signed_from_abs w128 (pos (2 ^ k)) (omega (arith, power_most k h)))) ∙ wrapped_first t w128 (x *ℤ pos (2 ^ k)) (omega (arith, bits_most t)) (λ e. fits)

-- as the code has it: the operands are the numbers p and q, and k is the number of places
pub shifted_left : (t : DType) (x p q : ℤ) (k : ℕ) → IsNumber t x → x ≡ p → is_shift t q ≡ true → pos k ≡ q → k < 64
    → wrap t (to_z w128 ((of_z w128 x * 2 ^ k) % 2 ^ 128)) ≡ value_of Shl t p q
shifted_left t x p q k f i shift e few =
    let at : is_shift t (pos k) ≡ true = ap (is_shift t) e ∙ shift in
    let here : wrap t (to_z w128 ((of_z w128 x * 2 ^ k) % 2 ^ 128)) ≡ value_of Shl t x (pos k) = rw at (left_wrapped t x k f few) in
    here ∙ (ap (λ x. value_of Shl t x (pos k)) i ∙ ap (value_of Shl t p) e)

right_is : (x : ℤ) (m : ℕ) → 0 < m → shr_z x m ≡ floor_div x (pos m)
right_is (pos a) m h = grind (arith, nat_tests)
right_is (negsuc a) m h = grind (arith, nat_tests)

pub shifted_right : (t : DType) (x p q : ℤ) (k : ℕ) → IsNumber t x → x ≡ p → is_shift t q ≡ true → pos k ≡ q
    → wrap t (to_z w128 (of_z w128 (shr_z (to_z w128 (of_z w128 x)) (2 ^ k)))) ≡ value_of Shr t p q
shifted_right t x p q k f i shift e =
    let at : is_shift t (pos k) ≡ true = ap (is_shift t) e ∙ shift in
    let fits = number_fits t x f in
    let small : FitsSigned w128 (shr_z x (2 ^ k)) = record { sfits = omega (arith, mag_shr x (2 ^ k), fits.sfits) } in
    let here : wrap t (to_z w128 (of_z w128 (shr_z (to_z w128 (of_z w128 x)) (2 ^ k)))) ≡ value_of Shr t x (pos k)
    = rw (to_z-of_z w128 x fits, to_z-of_z w128 (shr_z x (2 ^ k)) small, right_is x (2 ^ k) (pow_pos k), at) refl in
    here ∙ (ap (λ x. value_of Shr t x (pos k)) i ∙ ap (value_of Shr t p) e)
