-- Division of machine integers of some width, as the code's tests and the machine's quotient and
-- rest say it.
use Rattle.std.proofs.Common.{◌≡◌, zero, suc, ◌%◌, ◌^◌, ◌<◌, ◌≤◌, true, false, refl, sym, ap, subst, ◌∙◌, arith, ℤ, pos, negsuc, ◌+ℤ◌, ◌-ℤ◌, ◌<ℤ◌}
use Rattle.std.proofs.lemmas.Int.{ints, to_z-of_z, wrapping_sub_is, int_wrap-add_left}
use Rattle.std.proofs.Math.Nat.{mod-eq_of_lt, div-le_self}
use Rattle.std.specs.Int.{Width, int_wrap, int_rem_euclid, int_wrapping_sub, int_wrapping_div}
use Rattle.std.specs.Prelude.{unsigned_abs, FitsSigned, int_lt, int_div, int_rem}
use mir.Val.{to_z, of_z, hbits}
use mir.Val as values
use Rattle.lg_elem.specs.Operations.{is_zero}
use Rattle.lg_elem.specs.Division.{quotient_of, remainder_of}
use Rattle.lg_elem.proofs.Congruence.{half}
use Rattle.lg_elem.proofs.Floors.{IsExact, IsLess, floor_exact, floor_less, rest_exact, rest_less}

-- ---- the code's tests

nonzero : (w : Width) (y : ℤ) → ¬ (of_z w y ≡ 0) → is_zero y ≡ false
nonzero w (pos zero) h = absurd (h refl)
nonzero w (pos (suc n)) h = refl
nonzero w (negsuc n) h = refl

clean : (w : Width) (z : ℤ) (P : ℤ → Type 0) → FitsSigned w z → P (to_z w (of_z w z)) → P z
clean w z P f p = subst P (to_z-of_z w z f) p

rest_clean : (w : Width) (x y r : ℤ) → FitsSigned w x → FitsSigned w y → r ≡ int_rem (to_z w (of_z w x)) (to_z w (of_z w y)) → r ≡ int_rem x y
rest_clean w x y r f g e = clean w x (λ a. r ≡ int_rem a y) f (clean w y (λ b. r ≡ int_rem (to_z w (of_z w x)) b) g e)

-- what the code knows of the rest r
pub record Rest (w : Width) (x y r : ℤ) : Type 0 where
  pub left : FitsSigned w x
  pub right : FitsSigned w y
  pub fits : FitsSigned w r
  pub nonzero : ¬ (of_z w y ≡ 0)
  pub rest : r ≡ int_rem (to_z w (of_z w x)) (to_z w (of_z w y))

pub less_below : (w : Width) (x y r : ℤ) → Rest w x y r → int_lt (to_z w (of_z w y)) (pos 0) ≡ true → int_lt (pos 0) (to_z w (of_z w r)) ≡ true → IsLess x y
less_below w x y r h s u =
    let e = rest_clean w x y r h.left h.right h.rest in
    let t = clean w y (λ y. int_lt y (pos 0) ≡ true) h.right s in
    let v = clean w r (λ r. int_lt (pos 0) r ≡ true) h.fits u in
    (λ k. grind (arith, ints), λ k. grind (arith, ints))

pub exact_below : (w : Width) (x y r : ℤ) → Rest w x y r → int_lt (to_z w (of_z w y)) (pos 0) ≡ true → int_lt (pos 0) (to_z w (of_z w r)) ≡ false → IsExact x y
exact_below w x y r h s u =
    let e = rest_clean w x y r h.left h.right h.rest in
    let t = clean w y (λ y. int_lt y (pos 0) ≡ true) h.right s in
    let v = clean w r (λ r. int_lt (pos 0) r ≡ false) h.fits u in
    (λ k. grind (arith, ints), λ k. grind (arith, ints))

pub less_above : (w : Width) (x y r : ℤ) → Rest w x y r → int_lt (to_z w (of_z w y)) (pos 0) ≡ false → int_lt (to_z w (of_z w r)) (pos 0) ≡ true → IsLess x y
less_above w x y r h s u =
    let e = rest_clean w x y r h.left h.right h.rest in
    let t = clean w y (λ y. int_lt y (pos 0) ≡ false) h.right s in
    let v = clean w r (λ r. int_lt r (pos 0) ≡ true) h.fits u in
    (λ k. grind (arith, ints), λ k. grind (arith, ints))

pub exact_above : (w : Width) (x y r : ℤ) → Rest w x y r → int_lt (to_z w (of_z w y)) (pos 0) ≡ false → int_lt (to_z w (of_z w r)) (pos 0) ≡ false → IsExact x y
exact_above w x y r h s u =
    let e = rest_clean w x y r h.left h.right h.rest in
    let t = clean w y (λ y. int_lt y (pos 0) ≡ false) h.right s in
    let v = clean w r (λ r. int_lt r (pos 0) ≡ false) h.fits u in
    (λ k. grind (arith, ints), λ k. grind (arith, ints))

-- ---- the machine's quotient

quotient_most : (x y : ℤ) → unsigned_abs (int_div x y) ≤ unsigned_abs x
quotient_most (pos a) (pos b) = div-le_self a b
quotient_most (pos a) (negsuc b) = omega (arith, ints, div-le_self a (suc b))
quotient_most (negsuc a) (pos b) = omega (arith, ints, div-le_self (suc a) b)
quotient_most (negsuc a) (negsuc b) = div-le_self (suc a) (suc b)

low_bits : (w : Width) (z : ℤ) → unsigned_abs z < 2 ^ values.bits w → of_z w z ≡ unsigned_abs (int_rem_euclid z (pos (2 ^ values.bits w)))
low_bits w (pos n) h = sym (mod-eq_of_lt h)
low_bits w (negsuc n) h =
    let e : n % 2 ^ values.bits w ≡ n = mod-eq_of_lt (omega arith) in
    omega arith

stored : (w : Width) (z : ℤ) → unsigned_abs z < 2 ^ values.bits w → to_z w (of_z w z) ≡ int_wrap w z
unfolding int_wrap
stored w z h = ap (to_z w) (low_bits w z h)

machine_quotient : (w : Width) (x y q : ℤ) → FitsSigned w x → FitsSigned w y → q ≡ int_wrapping_div w (to_z w (of_z w x)) (to_z w (of_z w y)) → q ≡ int_wrap w (int_div x y)
machine_quotient w x y q f g e =
    let k = clean w x (λ a. q ≡ int_wrapping_div w a y) f (clean w y (λ b. q ≡ int_wrapping_div w (to_z w (of_z w x)) b) g e) in
    k ∙ stored w (int_div x y) (omega (arith, ints, f.sfits, quotient_most x y, half w))

pub quotient_exact : (w : Width) (x y q r : ℤ) → Rest w x y r → FitsSigned w q → q ≡ int_wrapping_div w (to_z w (of_z w x)) (to_z w (of_z w y)) → IsExact x y → to_z w (of_z w q) ≡ quotient_of w x y
quotient_exact w x y q r h f e i =
    let n = nonzero w y h.nonzero in
    rw n ((to_z-of_z w q f ∙ machine_quotient w x y q h.left h.right e) ∙ ap (int_wrap w) (sym (floor_exact x y n i)))

pub quotient_less : (w : Width) (x y q r : ℤ) → Rest w x y r → FitsSigned w q → FitsSigned w (pos 1) → q ≡ int_wrapping_div w (to_z w (of_z w x)) (to_z w (of_z w y)) → IsLess x y → int_wrapping_sub w q (pos 1) ≡ quotient_of w x y
quotient_less w x y q r h f g e i =
    let n = nonzero w y h.nonzero in
    let a = wrapping_sub_is w q (pos 1) f g ∙ ap (λ q. int_wrap w (q -ℤ pos 1)) (machine_quotient w x y q h.left h.right e) in
    rw n ((a ∙ int_wrap-add_left w (int_div x y) (negsuc 0)) ∙ ap (int_wrap w) (sym (floor_less x y n i)))

-- ---- what it leaves

pub remainder_exact : (w : Width) (x y r : ℤ) → Rest w x y r → IsExact x y → to_z w (of_z w r) ≡ remainder_of x y
remainder_exact w x y r h i =
    let n = nonzero w y h.nonzero in
    rw n ((to_z-of_z w r h.fits ∙ rest_clean w x y r h.left h.right h.rest) ∙ sym (rest_exact x y n i))

-- numbers on both sides of 0
sum_fits : (w : Width) (r y : ℤ) → FitsSigned w r → FitsSigned w y → (pos 0 <ℤ y → r <ℤ pos 0) × (y <ℤ pos 0 → pos 0 <ℤ r) → FitsSigned w (r +ℤ y)
sum_fits w (pos a) (pos zero) f g h = record { sfits = omega (arith, f.sfits) }
sum_fits w (pos a) (pos (suc b)) f g h = absurd (omega (arith, ints, h.0 (omega (arith, ints))))
sum_fits w (pos a) (negsuc b) f g h = record { sfits = grind (arith, ints) }
sum_fits w (negsuc a) (pos b) f g h = record { sfits = grind (arith, ints) }
sum_fits w (negsuc a) (negsuc b) f g h = absurd (omega (arith, ints, h.1 (omega (arith, ints))))

pub remainder_less : (w : Width) (x y r : ℤ) → Rest w x y r → IsLess x y → to_z w (of_z w (to_z w (of_z w r) +ℤ to_z w (of_z w y))) ≡ remainder_of x y
remainder_less w x y r h i =
    let n = nonzero w y h.nonzero in
    let e = rest_clean w x y r h.left h.right h.rest in
    let sides = subst (λ r. (pos 0 <ℤ y → r <ℤ pos 0) × (y <ℤ pos 0 → pos 0 <ℤ r)) (sym e) i in
    let fits = sum_fits w r y h.fits h.right sides in
    let same = (ap (λ r. to_z w (of_z w (r +ℤ to_z w (of_z w y)))) (to_z-of_z w r h.fits) ∙ ap (λ y. to_z w (of_z w (r +ℤ y))) (to_z-of_z w y h.right)) ∙ to_z-of_z w (r +ℤ y) fits in
    rw n ((same ∙ ap (λ r. r +ℤ y) e) ∙ sym (rest_less x y n i))
