-- Why a product with a reciprocal gives the quotient.
use Rattle.std.proofs.Common.{◌≡◌, ℕ, suc, ◌+◌, ◌-◌, ◌*◌, ◌/◌, ◌%◌, ◌^◌, ◌<◌, ◌≤◌, sym, ap, subst, ⊎_elim, ◌∙◌, arith}
use Rattle.std.proofs.lemmas.Nat.{pow_pos, pow-add, div_below, le-div, div-add-mod', mod_below, mul-le, one_shl, leading_length}
use Rattle.std.proofs.lemmas.Bool.{cases_lt}
use Rattle.std.proofs.Math.Nat.{mul-le-mul_right, le_of_mul-le-mul_right, lt_of_mul-lt-mul_right, mul_assoc, mul-add, pow-le-pow_right, div-le_self}
use lib.Count.{count_leading_zeros}
use Rattle.lg_divide.specs.Reciprocals.{IsShift, IsReciprocal, DividesByProduct, HasReciprocal}

pub quotient_is : (a n k : ℕ) → 0 < n → k * n ≤ a → a < suc k * n → a / n ≡ k
quotient_is a n k h low high = omega (arith, le-div k a n h low, div_below a n (suc k) h high)

swapped : (a b c : ℕ) → a * b * c ≡ a * c * b
swapped a b c = grind arith

-- ---- the law; n stands for the power of two

pub divided : (n d m e x : ℕ) → 0 < d → m * d ≡ n + e → x * e < n → (x * m) / n ≡ x / d
divided n d m e x some is small =
    let q = x / d in
    let whole : x * m * d ≡ x * n + x * e = mul_assoc x m d ∙ ap (λ k. x * k) is ∙ mul-add x n e in
    let below : q * d ≤ x = omega (arith, div-add-mod' x d) in
    let above : suc x ≤ suc q * d = omega (arith, div-add-mod' x d, mod_below x d some) in
    let low : q * n * d ≤ x * m * d = omega (arith, swapped q n d, whole, mul-le-mul_right {m = q * d} {n = x} n below) in
    let high : x * m * d < suc q * n * d = omega (arith, swapped (suc q) n d, whole, mul-le-mul_right {m = suc x} {n = suc q * d} n above) in
    quotient_is (x * m) n q (omega arith) (le_of_mul-le-mul_right {m = q * n} {n = x * m} {k = d} low some) (lt_of_mul-lt-mul_right d {m = x * m} {n = suc q * n} high)

pub divides_by_product : DividesByProduct
divides_by_product b s d m x is below =
    let n = 2 ^ (b + s) in
    let e = m * d - n in
    let close : e ≤ 2 ^ s = omega (arith, is.close) in
    let most : x * e ≤ x * 2 ^ s = mul-le x e x (2 ^ s) (omega arith) close in
    let less : suc x * 2 ^ s ≤ 2 ^ b * 2 ^ s = mul-le-mul_right {m = suc x} {n = 2 ^ b} (2 ^ s) below in
    divided n d m e x is.some (omega (arith, is.enough)) (omega (arith, most, less, pow-add 2 b s, pow_pos s))

-- ---- the factor

pub has_reciprocal : HasReciprocal
has_reciprocal b s d some small shift =
    let n = 2 ^ (b + s) in
    let p = 2 ^ b in
    let q = n / d in
    let rest : q * d + n % d ≡ n = div-add-mod' n d in
    let under : n % d < d = mod_below n d some in
    let next : (q + 1) * d ≡ q * d + d = omega arith in
    let is : IsReciprocal b s d (q + 1) = record { some = some; small = small; enough = omega arith; close = omega (arith, shift.reaches) } in
    let power : n ≡ p * 2 ^ s = pow-add 2 b s in
    let least : p * d ≤ n = omega (arith, power, mul-le p d p (2 ^ s) (omega arith) shift.reaches) in
    let double : p * suc (2 ^ s) ≤ p * (2 * d) = mul-le p (suc (2 ^ s)) p (2 * d) (omega arith) shift.least in
    let twice : p * (2 * d) ≡ p * d + p * d = grind arith in
    let more : p * suc (2 ^ s) ≡ p * 2 ^ s + p = grind arith in
    let k = p + p - 1 in
    let all : suc k * d ≡ p * d + p * d = by_sum p k d (omega (arith, pow_pos b)) in
    let most : n < k * d = omega (arith, power, double, twice, more, all) in
    (is, omega (arith, le-div p n d some least), omega (arith, div_below n d k some most))
  where
    by_sum : (p k d : ℕ) → suc k ≡ p + p → suc k * d ≡ p * d + p * d
    by_sum p k d e = ap (λ n. n * d) e ∙ grind arith

-- ---- as the code has it

-- 64 less the leading zeros of d - 1
shift_found : (d z m : ℕ) → 0 < d → d < 2 ^ 63 → z + m ≡ 64 → d - 1 < 2 ^ m → 2 ^ m ≤ 2 * (d - 1) + 1 → IsShift d (64 - z) × (64 - z ≤ 63)
shift_found d z m some most sum reaches least =
    let e : m ≡ 64 - z = omega arith in
    let few : m ≤ 63 = ⊎_elim (λ l. absurd (omega (arith, pow-le-pow_right {n = 2} (omega arith) {i = 64} {j = m} l))) (λ l. l) (cases_lt 63 m) in
    subst (λ k. IsShift d k × (k ≤ 63)) e (record { reaches = omega arith; least = omega arith }, few)

pub shift_is : (d : ℕ) → 0 < d → d < 2 ^ 63 → IsShift d (64 - count_leading_zeros 64 (d - 1)) × (64 - count_leading_zeros 64 (d - 1) ≤ 63)
shift_is d some most =
    let (m, sum, reaches, least) = leading_length 64 (d - 1) (omega arith) in
    shift_found d (count_leading_zeros 64 (d - 1)) m some most sum reaches least

-- what is known of the factor m, and k, which is its highest bit
pub record Made (b s d m k : ℕ) : Type 0 where
  pub below : m < 2 ^ 128
  pub high : k ≤ m
  pub low : m - k < 2 ^ b
  pub narrow : m - k < 2 ^ 64
  pub few : s ≤ b
  pub is : IsReciprocal b s d (2 ^ b + (m - k))

made_at : (b s d : ℕ) → b ≤ 64 → s ≤ 63 → 0 < d → d < 2 ^ b → IsShift d s → Made b s d (2 ^ (b + s) / d + 1) (2 ^ b)
made_at b s d bits few some small shift =
    let (factor, least, most) = has_reciprocal b s d some small shift in
    let m = 2 ^ (b + s) / d + 1 in
    let wide = pow-le-pow_right {n = 2} (omega arith) {i = b + s} {j = 127} (omega arith) in
    let narrow = pow-le-pow_right {n = 2} (omega arith) {i = b} {j = 64} bits in
    let e : m ≡ 2 ^ b + (m - 2 ^ b) = omega arith in
    let less : s ≤ b = ⊎_elim (λ l. absurd (omega (arith, shift.least, pow-add 2 b 1, pow-le-pow_right {n = 2} (omega arith) {i = b + 1} {j = s} (omega arith)))) (λ l. l) (cases_lt b s) in
    record { below = omega (arith, wide, div-le_self (2 ^ (b + s)) d); high = least; low = omega (arith, most); narrow = omega (arith, most, narrow); few = less; is = subst (IsReciprocal b s d) e factor }

pub made : (b s d e : ℕ) → b ≤ 64 → s ≤ 63 → 0 < d → d < 2 ^ b → IsShift d s → e ≡ d → Made b s d ((1 * 2 ^ (b + s)) % 2 ^ 128 / e + 1) ((1 * 2 ^ b) % 2 ^ 128)
made b s d e bits few some small shift is =
    let high = one_shl b 128 (omega arith) in
    let whole = one_shl (b + s) 128 (omega arith) in
    let first = subst (λ k. Made b s d (2 ^ (b + s) / d + 1) k) (sym high) (made_at b s d bits few some small shift) in
    let second = subst (λ n. Made b s d (n / d + 1) ((1 * 2 ^ b) % 2 ^ 128)) (sym whole) first in
    subst (λ e. Made b s d ((1 * 2 ^ (b + s)) % 2 ^ 128 / e + 1) ((1 * 2 ^ b) % 2 ^ 128)) (sym is) second
