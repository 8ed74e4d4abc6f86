-- Quotients as the code has them at each width n; y is x in a wider type.
use Rattle.std.proofs.Common.{◌≡◌, ℕ, zero, suc, ◌+◌, ◌-◌, ◌*◌, ◌/◌, ◌^◌, ◌<◌, min, refl, sym, ap, subst, ◌∙◌, arith}
use Rattle.std.proofs.Math.Nat.{div-le_self}
use Rattle.lg_divide.specs.Reciprocals.{IsReciprocal}
use Rattle.lg_divide.specs.declared.reciprocal.Reciprocal.{Reciprocal}
use Rattle.lg_divide.proofs.Products.{divides_by_product}
use Rattle.lg_divide.proofs.Forms.{doubled, summed, halved, high_most}

module _ (n : ℕ) (r : Reciprocal) (x y : ℕ) (width : r.bits ≡ n) (below : x < 2 ^ n) (same : y ≡ x) where
  is : IsReciprocal n r.shift r.divisor (2 ^ n + r.low)
  is = subst (λ b. IsReciprocal b r.shift r.divisor (2 ^ b + r.low)) width r.is

  fits : r.low < 2 ^ n
  fits = subst (λ b. r.low < 2 ^ b) width r.fits

  turned : r.low + 2 ^ n ≡ 2 ^ n + r.low
  turned = omega arith

  pub by_one : (f : ℕ) → f ≡ r.low + 2 ^ n → y * f / 2 ^ (n + r.shift) ≡ x / r.divisor
  by_one f factor =
      ap (λ y. y * f / 2 ^ (n + r.shift)) same ∙ ap (λ m. x * m / 2 ^ (n + r.shift)) (factor ∙ turned)
      ∙ divides_by_product n r.shift r.divisor (2 ^ n + r.low) x is below

  pub by_one_below : (f : ℕ) → f ≡ r.low + 2 ^ n → y * f / 2 ^ (n + r.shift) < 2 ^ n
  by_one_below f factor = omega (arith, by_one f factor, div-le_self x r.divisor)

  pub by_high : (f : ℕ) → f ≡ r.low + 2 ^ n → 2 * y * f / 2 ^ (n + 1) / 2 ^ r.shift ≡ x / r.divisor
  by_high f factor =
      ap (λ y. 2 * y * f / 2 ^ (n + 1) / 2 ^ r.shift) same ∙ ap (λ m. 2 * x * m / 2 ^ (n + 1) / 2 ^ r.shift) (factor ∙ turned)
      ∙ doubled n r.shift r.divisor (2 ^ n + r.low) x is below

  pub by_sum : (l : ℕ) → l ≡ r.low → (y + y * l / 2 ^ n) / 2 ^ r.shift ≡ x / r.divisor
  by_sum l low =
      ap (λ y. (y + y * l / 2 ^ n) / 2 ^ r.shift) same ∙ ap (λ l. (x + x * l / 2 ^ n) / 2 ^ r.shift) low
      ∙ summed n r.shift r.divisor r.low x is below

  pub by_sum_below : (l : ℕ) → l ≡ r.low → (y + y * l / 2 ^ n) / 2 ^ r.shift < 2 ^ n
  by_sum_below l low = omega (arith, by_sum l low, div-le_self x r.divisor)

  pub by_two : (l : ℕ) → l ≡ r.low → (k : ℕ) → k ≡ min r.shift 1 → (y * l / 2 ^ n + (x - y * l / 2 ^ n) / 2 ^ k) / 2 ^ (r.shift - k) ≡ x / r.divisor
  by_two l low k first =
      ap (λ y. (y * l / 2 ^ n + (x - y * l / 2 ^ n) / 2 ^ k) / 2 ^ (r.shift - k)) same
      ∙ ap (λ l. (x * l / 2 ^ n + (x - x * l / 2 ^ n) / 2 ^ k) / 2 ^ (r.shift - k)) low ∙ by r.shift refl first
    where
      h : ℕ
      h = x * r.low / 2 ^ n

      whole : (s : ℕ) → r.shift ≡ s → (x + h) / 2 ^ s ≡ x / r.divisor
      whole s e = ap (λ s. (x + h) / 2 ^ s) (sym e) ∙ summed n r.shift r.divisor r.low x is below

      by : (s : ℕ) → r.shift ≡ s → k ≡ min s 1 → (h + (x - h) / 2 ^ k) / 2 ^ (s - k) ≡ x / r.divisor
      by zero e one =
          let none : k ≡ 0 = omega arith in
          ap (λ k. (h + (x - h) / 2 ^ k) / 2 ^ (0 - k)) none ∙ omega (arith, whole zero e, div-le_self x r.divisor, high_most n r.low x fits)
      by (suc s) e one =
          let once : k ≡ 1 = omega arith in
          ap (λ k. (h + (x - h) / 2 ^ k) / 2 ^ (suc s - k)) once ∙ halved x h (suc s) (high_most n r.low x fits) (omega arith) ∙ whole (suc s) e
