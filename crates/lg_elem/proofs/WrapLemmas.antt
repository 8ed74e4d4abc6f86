-- Wrapping to a number of bits, with a sign or without, and from that to each type.
use Rattle.std.proofs.Common.{◌≡◌, ℕ, zero, suc, ◌+◌, ◌-◌, ◌*◌, ◌/◌, ◌%◌, ◌^◌, ◌<◌, Bool, true, false, refl, sym, ap, subst, ◌∙◌, ⊎_elim, arith, ℤ, pos, negsuc, neg_ℤ, ◌+ℤ◌, ◌-ℤ◌, ◌*ℤ◌, ◌≤ℤ◌, ◌<ℤ◌, int_lt, if◌then◌else◌}
use Rattle.std.proofs.lemmas.Int.{ints}
use Rattle.std.proofs.lemmas.Nat.{pow_pos}
use Rattle.std.proofs.lemmas.Bool.{cases_lt}
use Rattle.std.proofs.Math.Nat.{mul-le-mul_right}
use Rattle.std.specs.Int.{int_rem_euclid}
use Rattle.lg_elem.specs.declared.dtype.DType.{DType}
use Rattle.lg_elem.specs.declared.dtype.DType.TheVariants.{Bool as Truth, Int8, Int16, Int32, Int64, UInt8, UInt16, UInt32, UInt64}
use Rattle.lg_elem.specs.Types.{least_of, greatest_of, wrap_to, IsNumber, wrap, bits, is_signed}
use Rattle.lg_elem.specs.Laws.{IsCongruent}
use borrow.Author.Differences.{up, down}

-- ---- what is left of x when it is divided by m

rem_fits : (m : ℕ) (x : ℤ) → 0 < m → (pos 0 ≤ℤ int_rem_euclid x (pos m)) × (int_rem_euclid x (pos m) <ℤ pos m)
rem_fits m (pos a) h = (omega (arith, ints), omega (arith, ints))
rem_fits m (negsuc a) h = (omega (arith, ints), omega (arith, ints))

less_times : (a r q m : ℕ) → r + q * m ≡ a → pos r ≡ pos a +ℤ (neg_ℤ (pos q) *ℤ pos m)
less_times a r zero m h = omega (arith, ints)
less_times a r (suc q) m h = omega (arith, ints)

pub rem_congruent : (m : ℕ) (x : ℤ) → 0 < m → IsCongruent m x (int_rem_euclid x (pos m))
rem_congruent m (pos a) h = (neg_ℤ (pos (a / m)), less_times a (a % m) (a / m) m (omega arith))
rem_congruent m (negsuc a) h = (pos (a / m + 1), omega (arith, ints))

-- ---- wrapping to so many bits

doubled : (n : ℕ) → 0 < n → 2 ^ n ≡ 2 ^ (n - 1) + 2 ^ (n - 1)
doubled zero h = absurd (omega arith)
doubled (suc n) h = let e : suc n - 1 ≡ n = omega arith in rw e (omega arith)

-- of a number from 0 to below m, the number that differs from it by 0 or m and lies half below 0
signed_fits : (h m : ℕ) (r : ℤ) → m ≡ h + h → pos 0 ≤ℤ r → r <ℤ pos m
    → (neg_ℤ (pos h) ≤ℤ (if int_lt r (pos h) then r else r -ℤ pos m)) × ((if int_lt r (pos h) then r else r -ℤ pos m) ≤ℤ pos (h - 1))
signed_fits h m r e f g = grind (arith, ints)

one_less : (k : ℤ) (m : ℕ) → (k -ℤ pos 1) *ℤ pos m ≡ (k *ℤ pos m) -ℤ pos m
one_less (pos zero) m = omega (arith, ints)
one_less (pos (suc k)) m = let e : pos (suc k) -ℤ pos 1 ≡ pos k = omega (arith, ints) in ap (λ z. z *ℤ pos m) e ∙ omega (arith, ints)
one_less (negsuc k) m = omega (arith, ints)

signed_congruent : (h m : ℕ) (x r : ℤ) → IsCongruent m x r → IsCongruent m x (if int_lt r (pos h) then r else r -ℤ pos m)
signed_congruent h m x r (k, e) = by (int_lt r (pos h))
  where
    by : (below : Bool) → IsCongruent m x (if below then r else r -ℤ pos m)
    by true = (k, e)
    by false = (k -ℤ pos 1, omega (arith, ints, e, one_less k m))

-- it is in the range of so many bits
pub wrap_to-fits : (s : Bool) (n : ℕ) (x : ℤ) → 0 < n → (least_of s n ≤ℤ wrap_to s n x) × (wrap_to s n x ≤ℤ greatest_of s n)
wrap_to-fits false n x h = let r = rem_fits (2 ^ n) x (pow_pos n) in (r.0, omega (arith, ints, r.1))
wrap_to-fits true n x h = let r = rem_fits (2 ^ n) x (pow_pos n) in signed_fits (2 ^ (n - 1)) (2 ^ n) (int_rem_euclid x (pos (2 ^ n))) (doubled n h) r.0 r.1

-- and differs from x by a multiple of 2 ^ n
pub wrap_to-congruent : (s : Bool) (n : ℕ) (x : ℤ) → IsCongruent (2 ^ n) x (wrap_to s n x)
wrap_to-congruent false n x = rem_congruent (2 ^ n) x (pow_pos n)
wrap_to-congruent true n x = signed_congruent (2 ^ (n - 1)) (2 ^ n) x (int_rem_euclid x (pos (2 ^ n))) (rem_congruent (2 ^ n) x (pow_pos n))

-- ---- there is one such number

-- a and b are less than m apart, and equal up to multiples of m
near : (a b p q m : ℕ) → a + p * m ≡ b + q * m → a < b + m → b < a + m → a ≡ b
near a b p q m e f g = ⊎_elim
    (λ l. absurd (omega (arith, mul-le-mul_right {m = suc p} {n = q} m l)))
    (λ r. ⊎_elim (λ l. absurd (omega (arith, mul-le-mul_right {m = suc q} {n = p} m l))) (λ s. let same : p ≡ q = omega arith in omega (arith, ap (λ n. n * m) same)) (cases_lt q p))
    (cases_lt p q)

-- two numbers less than m apart that differ from x by multiples of m are the same
congruent_same : (m : ℕ) (x y z : ℤ) → IsCongruent m x y → IsCongruent m x z → y <ℤ (z +ℤ pos m) → z <ℤ (y +ℤ pos m) → y ≡ z
congruent_same m x y z (j, e) (k, f) g h =
    let same : up y + down z ≡ down y + up z = near (up y + down z) (down y + up z) (down j + up k) (up j + down k) m (grind (arith, ints, e, f)) (omega (arith, ints)) (omega (arith, ints)) in
    omega (arith, ints)

-- no two numbers of the range are 2 ^ n apart
span : (s : Bool) (n : ℕ) (y z : ℤ) → 0 < n → least_of s n ≤ℤ y → z ≤ℤ greatest_of s n → z <ℤ (y +ℤ pos (2 ^ n))
span false n y z h f g = omega (arith, ints, pow_pos n)
span true n y z h f g = omega (arith, ints, doubled n h, pow_pos (n - 1))

-- no other number of the range does
pub wrap_to_one : (s : Bool) (n : ℕ) (x y : ℤ) → 0 < n → (least_of s n ≤ℤ y) × (y ≤ℤ greatest_of s n) → IsCongruent (2 ^ n) x y → y ≡ wrap_to s n x
wrap_to_one s n x y h f c =
    let fits = wrap_to-fits s n x h in
    congruent_same (2 ^ n) x y (wrap_to s n x) c (wrap_to-congruent s n x) (span s n (wrap_to s n x) y h fits.0 f.1) (span s n y (wrap_to s n x) h f.0 fits.1)

pub congruent_self : (m : ℕ) (x : ℤ) → IsCongruent m x x
congruent_self m x = (pos 0, omega (arith, ints))

-- ---- each type

-- but for bool, it is wrapping to the type's bits, with its sign
wrap_is : (t : DType) → ¬ (t ≡ Truth) → (0 < bits t) × ((x : ℤ) → wrap t x ≡ wrap_to (is_signed t) (bits t) x)
wrap_is Truth apart = absurd (apart refl)
wrap_is Int8 apart = (omega arith, λ x. refl)
wrap_is Int16 apart = (omega arith, λ x. refl)
wrap_is Int32 apart = (omega arith, λ x. refl)
wrap_is Int64 apart = (omega arith, λ x. refl)
wrap_is UInt8 apart = (omega arith, λ x. refl)
wrap_is UInt16 apart = (omega arith, λ x. refl)
wrap_is UInt32 apart = (omega arith, λ x. refl)
wrap_is UInt64 apart = (omega arith, λ x. refl)

pub wrap_congruent : (t : DType) (x : ℤ) → ¬ (t ≡ Truth) → IsCongruent (2 ^ bits t) x (wrap t x)
wrap_congruent t x apart = subst (IsCongruent (2 ^ bits t) x) (sym ((wrap_is t apart).1 x)) (wrap_to-congruent (is_signed t) (bits t) x)

pub wrap_one : (t : DType) (x y : ℤ) → ¬ (t ≡ Truth) → IsNumber t y → IsCongruent (2 ^ bits t) x y → y ≡ wrap t x
wrap_one t x y apart fits congruent = let is = wrap_is t apart in wrap_to_one (is_signed t) (bits t) x y is.0 fits congruent ∙ sym (is.1 x)

wrap_fits_integer : (t : DType) (x : ℤ) → ¬ (t ≡ Truth) → IsNumber t (wrap t x)
wrap_fits_integer t x apart = let is = wrap_is t apart in subst (IsNumber t) (sym (is.1 x)) (wrap_to-fits (is_signed t) (bits t) x is.0)

pub wrap_fits : (t : DType) (x : ℤ) → IsNumber t (wrap t x)
wrap_fits Truth x = grind (arith, ints)
wrap_fits t x = wrap_fits_integer t x (λ e. cc)

pub wrap_same : (t : DType) (x : ℤ) → IsNumber t x → wrap t x ≡ x
wrap_same Truth x f = grind (arith, ints)
wrap_same t x f = sym (wrap_one t x x (λ e. cc) f (congruent_self (2 ^ bits t) x))

pub wrap_truth : (x : ℤ) → ¬ (x ≡ pos 0) → wrap Truth x ≡ pos 1
wrap_truth x h = grind (arith, ints)
