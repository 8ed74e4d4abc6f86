-- The products as the code has them: in two steps, and without the factor's highest bit.
use Rattle.std.proofs.Common.{◌≡◌, ℕ, suc, ◌+◌, ◌-◌, ◌*◌, ◌/◌, ◌^◌, ◌<◌, ◌≤◌, sym, ap, ◌∙◌, arith}
use Rattle.std.proofs.lemmas.Nat.{pow_pos, pow-add, shr-shr, div_below, mul-le}
use Rattle.std.proofs.Math.Nat.{mul_assoc, mul-add, mul-add-div_right, mul-div-mul_left}
use Rattle.lg_divide.specs.Reciprocals.{IsReciprocal}
use Rattle.lg_divide.proofs.Products.{divides_by_product}

-- with x doubled, so that the first shift takes the high half of the product
pub doubled : (b s d m x : ℕ) → IsReciprocal b s d m → x < 2 ^ b → 2 * x * m / 2 ^ (b + 1) / 2 ^ s ≡ x / d
doubled b s d m x is below =
    let power : 2 ^ (b + 1) ≡ 2 * 2 ^ b = omega (arith, pow-add 2 b 1) in
    let half : 2 * x * m / 2 ^ (b + 1) ≡ x * m / 2 ^ b =
    ap (λ n. n / 2 ^ (b + 1)) (mul_assoc 2 x m) ∙ ap (λ n. 2 * (x * m) / n) power ∙ mul-div-mul_left {m = 2} (x * m) (2 ^ b) (omega arith) in
    ap (λ n. n / 2 ^ s) half ∙ shr-shr (x * m) b s ∙ divides_by_product b s d m x is below

-- the sum of x and the high half of its product with the factor's other bits
pub summed : (b s d low x : ℕ) → IsReciprocal b s d (2 ^ b + low) → x < 2 ^ b → (x + x * low / 2 ^ b) / 2 ^ s ≡ x / d
summed b s d low x is below =
    let all : x * (2 ^ b + low) / 2 ^ b ≡ x + x * low / 2 ^ b =
    ap (λ n. n / 2 ^ b) (mul-add x (2 ^ b) low) ∙ mul-add-div_right {m = 2 ^ b} (pow_pos b) x (x * low) in
    ap (λ n. n / 2 ^ s) (sym all) ∙ shr-shr (x * (2 ^ b + low)) b s ∙ divides_by_product b s d (2 ^ b + low) x is below

-- that high half is at most x
pub high_most : (b low x : ℕ) → low < 2 ^ b → x * low / 2 ^ b ≤ x
high_most b low x fits = omega (arith, div_below (x * low) (2 ^ b) (suc x) (pow_pos b) (omega (arith, mul-le x low x (2 ^ b) (omega arith) (omega arith), pow_pos b)))

pub halved : (x h s : ℕ) → h ≤ x → 1 ≤ s → (h + (x - h) / 2 ^ 1) / 2 ^ (s - 1) ≡ (x + h) / 2 ^ s
halved x h s most some =
    let one : h + (x - h) / 2 ^ 1 ≡ (x + h) / 2 ^ 1 = omega arith in
    let e : 1 + (s - 1) ≡ s = omega arith in
    ap (λ n. n / 2 ^ (s - 1)) one ∙ shr-shr (x + h) 1 (s - 1) ∙ ap (λ k. (x + h) / 2 ^ k) e
