-- The quotient rounded down, from that of the machine, which is rounded to 0.
use Rattle.std.proofs.Common.{◌≡◌, ℕ, zero, suc, ◌+◌, ◌-◌, ◌*◌, ◌/◌, ◌%◌, ◌<◌, false, refl, sym, ap, ◌∙◌, arith, ℤ, pos, negsuc, ◌+ℤ◌, ◌-ℤ◌, ◌*ℤ◌, ◌≤ℤ◌, ◌<ℤ◌, ◌⊎◌, inl, inr, ⊎_elim}
use Rattle.std.proofs.lemmas.Int.{ints, quot-rem, rem_below, by_lt_z}
use Rattle.std.proofs.lemmas.Bool.Decides.{nat_tests}
use Rattle.std.proofs.lemmas.Nat.{div-add-mod', div-mul-add, mod_below}
use Rattle.std.specs.Int.{int_div_euclid}
use Rattle.std.specs.Prelude.{int_div, int_rem, unsigned_abs}
use lib.IntN.{*ℤ_comm}
use Rattle.lg_elem.specs.Operations.{is_zero, floor_div}
use Rattle.lg_elem.specs.Division.{floored}
use Rattle.lg_elem.specs.Laws.{RestsAbove, RestsBelow}
use Rattle.lg_elem.proofs.Products.{difference_times}

-- ---- the next number's quotient

next_same : (a m : ℕ) → 0 < m → 0 < suc a % m → suc a / m ≡ a / m
next_same a m h r =
    let e : a ≡ suc a / m * m + (suc a % m - 1) = omega (arith, div-add-mod' (suc a) m) in
    sym (ap (λ n. n / m) e ∙ div-mul-add (suc a / m) m (suc a % m - 1) (omega (arith, mod_below (suc a) m h)))

next_more : (a m : ℕ) → 0 < m → suc a % m ≡ 0 → suc a / m ≡ suc (a / m)
next_more a m h r = by (suc a / m) (omega (arith, div-add-mod' (suc a) m))
  where
    by : (q : ℕ) → q * m ≡ suc a → q ≡ suc (a / m)
    by zero e = absurd (omega arith)
    by (suc q) e =
        let f : a ≡ q * m + (m - 1) = omega arith in
        ap suc (sym (ap (λ n. n / m) f ∙ div-mul-add q m (m - 1) (omega arith)))

-- ---- by a divisor above 0, and by one below 0

pub above : (x : ℤ) (b : ℕ) → floor_div x (pos b) ≡ int_div_euclid x (pos b)
above (pos a) b = grind (arith, nat_tests)
above (negsuc a) b = grind (arith, nat_tests)

pub unsigned_floor : (a b : ℕ) → ¬ (b ≡ 0) → pos (a / b) ≡ floored (pos a) (pos b)
unsigned_floor a zero h = absurd (h refl)
unsigned_floor a (suc b) h = sym (above (pos a) (suc b))

exact_above : (x : ℤ) (b : ℕ) → 0 < b → pos 0 ≤ℤ int_rem x (pos b) → floor_div x (pos b) ≡ int_div x (pos b)
exact_above (pos a) b h r = above (pos a) b
exact_above (negsuc a) b h r =
    let e = next_more a b h (omega (arith, ints)) in
    above (negsuc a) b ∙ omega (arith, ints)

less_above : (x : ℤ) (b : ℕ) → 0 < b → int_rem x (pos b) <ℤ pos 0 → floor_div x (pos b) ≡ int_div x (pos b) -ℤ pos 1
less_above (pos a) b h r = absurd (omega (arith, ints))
less_above (negsuc a) b h r =
    let e = next_same a b h (omega (arith, ints)) in
    above (negsuc a) b ∙ omega (arith, ints)

exact_below : (x : ℤ) (b : ℕ) → int_rem x (negsuc b) ≤ℤ pos 0 → floor_div x (negsuc b) ≡ int_div x (negsuc b)
exact_below (pos zero) b r = omega (arith, ints)
exact_below (pos (suc a)) b r =
    let e = next_more a (suc b) (omega arith) (omega (arith, ints)) in
    omega (arith, ints)
exact_below (negsuc a) b r = refl

less_below : (x : ℤ) (b : ℕ) → pos 0 <ℤ int_rem x (negsuc b) → floor_div x (negsuc b) ≡ int_div x (negsuc b) -ℤ pos 1
less_below (pos zero) b r = absurd (omega (arith, ints))
less_below (pos (suc a)) b r =
    let e = next_same a (suc b) (omega arith) (omega (arith, ints)) in
    omega (arith, ints)
less_below (negsuc a) b r = absurd (omega (arith, ints))

-- ---- by any divisor but 0: the machine's quotient, or one less where the rest has the other sign

-- the rest has the divisor's sign, or is 0
abbrev pub IsExact : ℤ → ℤ → Type 0
IsExact x y = (pos 0 <ℤ y → pos 0 ≤ℤ int_rem x y) × (y <ℤ pos 0 → int_rem x y ≤ℤ pos 0)

-- it has the other sign
abbrev pub IsLess : ℤ → ℤ → Type 0
IsLess x y = (pos 0 <ℤ y → int_rem x y <ℤ pos 0) × (y <ℤ pos 0 → pos 0 <ℤ int_rem x y)

pub floor_exact : (x y : ℤ) → is_zero y ≡ false → IsExact x y → floor_div x y ≡ int_div x y
floor_exact x (pos zero) h r = cc
floor_exact x (pos (suc b)) h r = exact_above x (suc b) (omega arith) (r.0 (omega (arith, ints)))
floor_exact x (negsuc b) h r = exact_below x b (r.1 (omega (arith, ints)))

pub floor_less : (x y : ℤ) → is_zero y ≡ false → IsLess x y → floor_div x y ≡ int_div x y -ℤ pos 1
floor_less x (pos zero) h r = cc
floor_less x (pos (suc b)) h r = less_above x (suc b) (omega arith) (r.0 (omega (arith, ints)))
floor_less x (negsuc b) h r = less_below x b (r.1 (omega (arith, ints)))

-- ---- what the quotient leaves

pub one_times : (y : ℤ) → pos 1 *ℤ y ≡ y
one_times (pos n) = omega (arith, ints)
one_times (negsuc n) = omega (arith, ints)

pub rest_exact : (x y : ℤ) → is_zero y ≡ false → IsExact x y → x -ℤ (y *ℤ floor_div x y) ≡ int_rem x y
rest_exact x y h r =
    let e = ap (λ q. y *ℤ q) (floor_exact x y h r) ∙ *ℤ_comm y (int_div x y) in
    omega (arith, ints, e, quot-rem x y)

pub rest_less : (x y : ℤ) → is_zero y ≡ false → IsLess x y → x -ℤ (y *ℤ floor_div x y) ≡ int_rem x y +ℤ y
rest_less x y h r =
    let e = (ap (λ q. y *ℤ q) (floor_less x y h r) ∙ *ℤ_comm y (int_div x y -ℤ pos 1)) ∙ difference_times (int_div x y) (pos 1) y in
    omega (arith, ints, e, quot-rem x y, one_times y)

-- ---- where that lies

not_zero : (y : ℤ) → (pos 0 <ℤ y) ⊎ (y <ℤ pos 0) → is_zero y ≡ false
not_zero (pos zero) h = absurd (⊎_elim (λ a. omega (arith, ints)) (λ b. omega (arith, ints)) h)
not_zero (pos (suc n)) h = refl
not_zero (negsuc n) h = refl

pub rests_above : RestsAbove
rests_above x y h =
    let n = not_zero y (inl h) in
    let small : unsigned_abs (int_rem x y) < unsigned_abs y = rem_below x y (omega (arith, ints)) in
    by_lt_z (int_rem x y) (pos 0)
    (λ less. let e = rest_less x y n (λ k. less, λ k. absurd (omega (arith, ints))) in (omega (arith, ints), omega (arith, ints)))
    (λ exact. let e = rest_exact x y n (λ k. exact, λ k. absurd (omega (arith, ints))) in (omega (arith, ints), omega (arith, ints)))

pub rests_below : RestsBelow
rests_below x y h =
    let n = not_zero y (inr h) in
    let small : unsigned_abs (int_rem x y) < unsigned_abs y = rem_below x y (omega (arith, ints)) in
    by_lt_z (pos 0) (int_rem x y)
    (λ less. let e = rest_less x y n (λ k. absurd (omega (arith, ints)), λ k. less) in (omega (arith, ints), omega (arith, ints)))
    (λ exact. let e = rest_exact x y n (λ k. absurd (omega (arith, ints)), λ k. exact) in (omega (arith, ints), omega (arith, ints)))
