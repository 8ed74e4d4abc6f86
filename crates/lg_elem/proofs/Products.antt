-- Products of whole numbers: sums, differences and products as factors.
use Rattle.std.proofs.Common.{◌≡◌, ℕ, zero, suc, ◌*◌, sym, ap, ◌∙◌, arith, ℤ, pos, negsuc, ◌+ℤ◌, ◌-ℤ◌, ◌*ℤ◌}
use Rattle.std.proofs.lemmas.Int.{ints}
use lib.IntN.{suc_ℤ-+ℤ, pred_ℤ-+ℤ, suc_ℤ-*ℤ, pred_ℤ-*ℤ, zero-*ℤ, +ℤ_idl, -ℤ-+ℤ_cancel, pos-*ℤ-pos}

pub sum_times : (a b c : ℤ) → (a +ℤ b) *ℤ c ≡ (a *ℤ c) +ℤ (b *ℤ c)
sum_times (pos zero) b c = omega (arith, ints, ap (λ z. z *ℤ c) (+ℤ_idl b), zero-*ℤ c)
sum_times (pos (suc n)) b c =
    let e = ap (λ z. z *ℤ c) (suc_ℤ-+ℤ (pos n) b) ∙ suc_ℤ-*ℤ (pos n +ℤ b) c in
    omega (arith, ints, e, suc_ℤ-*ℤ (pos n) c, sum_times (pos n) b c)
sum_times (negsuc zero) b c =
    let e = ap (λ z. z *ℤ c) (pred_ℤ-+ℤ (pos zero) b) ∙ pred_ℤ-*ℤ (pos zero +ℤ b) c in
    omega (arith, ints, e, pred_ℤ-*ℤ (pos zero) c, zero-*ℤ c, ap (λ z. z *ℤ c) (+ℤ_idl b))
sum_times (negsuc (suc n)) b c =
    let e = ap (λ z. z *ℤ c) (pred_ℤ-+ℤ (negsuc n) b) ∙ pred_ℤ-*ℤ (negsuc n +ℤ b) c in
    omega (arith, ints, e, pred_ℤ-*ℤ (negsuc n) c, sum_times (negsuc n) b c)

pub difference_times : (a b c : ℤ) → (a -ℤ b) *ℤ c ≡ (a *ℤ c) -ℤ (b *ℤ c)
difference_times a b c = omega (arith, ints, sum_times (a -ℤ b) b c, ap (λ z. z *ℤ c) (-ℤ-+ℤ_cancel a b))

pub times_assoc : (a b c : ℤ) → (a *ℤ b) *ℤ c ≡ a *ℤ (b *ℤ c)
times_assoc (pos zero) b c = (ap (λ z. z *ℤ c) (zero-*ℤ b) ∙ zero-*ℤ c) ∙ sym (zero-*ℤ (b *ℤ c))
times_assoc (pos (suc n)) b c =
    let e = ap (λ z. z *ℤ c) (suc_ℤ-*ℤ (pos n) b) ∙ sum_times (pos n *ℤ b) b c in
    omega (arith, ints, e, suc_ℤ-*ℤ (pos n) (b *ℤ c), times_assoc (pos n) b c)
times_assoc (negsuc zero) b c =
    let e = ap (λ z. z *ℤ c) (pred_ℤ-*ℤ (pos zero) b) ∙ difference_times (pos zero *ℤ b) b c in
    let z = ap (λ z. z *ℤ c) (zero-*ℤ b) ∙ zero-*ℤ c in
    omega (arith, ints, e, z, pred_ℤ-*ℤ (pos zero) (b *ℤ c), zero-*ℤ (b *ℤ c))
times_assoc (negsuc (suc n)) b c =
    let e = ap (λ z. z *ℤ c) (pred_ℤ-*ℤ (negsuc n) b) ∙ difference_times (negsuc n *ℤ b) b c in
    omega (arith, ints, e, pred_ℤ-*ℤ (negsuc n) (b *ℤ c), times_assoc (negsuc n) b c)

pub times_product : (k : ℤ) (a b : ℕ) → k *ℤ pos (a * b) ≡ (k *ℤ pos a) *ℤ pos b
times_product k a b = ap (λ z. k *ℤ z) (sym (pos-*ℤ-pos a b)) ∙ sym (times_assoc k (pos a) (pos b))
