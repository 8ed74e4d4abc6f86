-- What is wrapped to a wider number of bits first, and then to the type.
use Rattle.std.proofs.Common.{◌≡◌, ℕ, suc, ◌+◌, ◌-◌, ◌%◌, ◌^◌, ◌<◌, ◌≤◌, ltb, Bool, true, false, refl, ap, subst, ◌∙◌, arith, ℤ, pos, negsuc, ◌+ℤ◌, ◌*ℤ◌}
use Rattle.std.proofs.lemmas.Int.{ints, int_wrap_fits}
use Rattle.std.proofs.lemmas.Nat.{pow_pos, pow-add}
use Rattle.std.specs.Int.{Width, w8, w16, w32, w64, w128, int_wrap}
use Rattle.std.specs.Prelude.{FitsSigned}
use mir.Val.{to_z, of_z, hbits}
use mir.Val as values
use Rattle.lg_elem.specs.declared.dtype.DType.{DType}
use Rattle.lg_elem.specs.declared.dtype.DType.TheVariants.{Bool as Truth, Int8, Int16, Int32, Int64, UInt8, UInt16, UInt32, UInt64}
use Rattle.lg_elem.specs.Types.{wrap, bits}
use Rattle.lg_elem.specs.Laws.{IsCongruent}
use Rattle.lg_elem.proofs.Products.{sum_times, times_product}
use Rattle.lg_elem.proofs.WrapLemmas.{rem_congruent, wrap_congruent, wrap_one, wrap_fits}

-- ---- congruence

pub congruent_trans : (m : ℕ) (x y z : ℤ) → IsCongruent m x y → IsCongruent m y z → IsCongruent m x z
congruent_trans m x y z (j, e) (k, f) = (j +ℤ k, omega (arith, ints, e, f, sum_times j k (pos m)))

-- modulo a multiple, and so modulo the number itself
pub congruent_narrower : (j k : ℕ) (x y : ℤ) → IsCongruent (2 ^ (j + k)) x y → IsCongruent (2 ^ k) x y
congruent_narrower j k x y (n, e) = (n *ℤ pos (2 ^ j), (e ∙ ap (λ m. x +ℤ (n *ℤ pos m)) (pow-add 2 j k)) ∙ ap (λ z. x +ℤ z) (times_product n (2 ^ j) (2 ^ k)))

pub bits_most : (t : DType) → bits t ≤ 64
bits_most Truth = omega arith
bits_most Int8 = omega arith
bits_most Int16 = omega arith
bits_most Int32 = omega arith
bits_most Int64 = omega arith
bits_most UInt8 = omega arith
bits_most UInt16 = omega arith
bits_most UInt32 = omega arith
bits_most UInt64 = omega arith

pub congruent_bits : (t : DType) (n : ℕ) (x y : ℤ) → bits t ≤ n → IsCongruent (2 ^ n) x y → IsCongruent (2 ^ bits t) x y
congruent_bits t n x y h c =
    let e : n ≡ (n - bits t) + bits t = omega arith in
    congruent_narrower (n - bits t) (bits t) x y (subst (λ k. IsCongruent (2 ^ k) x y) e c)

-- numbers that differ by a multiple of 2 to the number of bits are wrapped to the same
pub same_wrap : (t : DType) (x y : ℤ) → ¬ (t ≡ Truth) → IsCongruent (2 ^ bits t) x y → wrap t y ≡ wrap t x
same_wrap t x y apart c = wrap_one t x (wrap t y) apart (wrap_fits t y) (congruent_trans (2 ^ bits t) x y (wrap t y) c (wrap_congruent t y apart))

-- ---- to a signed type of some width, and from there

pub half : (w : Width) → 2 ^ values.bits w ≡ 2 ^ hbits w + 2 ^ hbits w
half w8 = omega arith
half w16 = omega arith
half w32 = omega arith
half w64 = omega arith
half w128 = omega arith

pub cast_congruent : (w : Width) (n : ℕ) → n < 2 ^ values.bits w → IsCongruent (2 ^ values.bits w) (pos n) (to_z w n)
cast_congruent w n h = by (ltb n (2 ^ hbits w))
  where
    by : (below : Bool) → IsCongruent (2 ^ values.bits w) (pos n) (values.sel below (pos n) (negsuc (2 ^ values.bits w - suc n)))
    by true = (pos 0, omega (arith, ints))
    by false = (negsuc 0, omega (arith, ints))

pub int_wrap_congruent : (w : Width) (z : ℤ) → IsCongruent (2 ^ values.bits w) z (int_wrap w z)
unfolding int_wrap
int_wrap_congruent w (pos a) =
    let m = 2 ^ values.bits w in
    congruent_trans m (pos a) (pos (a % m)) (to_z w (a % m)) (rem_congruent m (pos a) (pow_pos (values.bits w))) (cast_congruent w (a % m) (omega (arith, pow_pos (values.bits w))))
int_wrap_congruent w (negsuc a) =
    let m = 2 ^ values.bits w in
    let n = m - 1 - a % m in
    congruent_trans m (negsuc a) (pos n) (to_z w n) (rem_congruent m (negsuc a) (pow_pos (values.bits w))) (cast_congruent w n (omega (arith, pow_pos (values.bits w))))

pub wrapped_first : (t : DType) (w : Width) (z : ℤ) → bits t ≤ values.bits w → (t ≡ Truth → FitsSigned w z) → wrap t (int_wrap w z) ≡ wrap t z
wrapped_first Truth w z h f = ap (wrap Truth) (int_wrap_fits w z (f refl))
wrapped_first t w z h f = same_wrap t z (int_wrap w z) (λ e. cc) (congruent_bits t (values.bits w) z (int_wrap w z) h (int_wrap_congruent w z))
