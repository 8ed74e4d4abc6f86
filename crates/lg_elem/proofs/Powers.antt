-- Wrapping on the way to a product or a power changes nothing; powers by squaring.
use Rattle.std.proofs.Common.{◌≡◌, ℕ, zero, suc, ◌+◌, ◌/◌, ◌%◌, ◌^◌, ◌<◌, ◌==◌, if◌then◌else◌, refl, sym, ap, ◌∙◌, arith, ℤ, pos, negsuc, ◌+ℤ◌, ◌*ℤ◌}
use Rattle.std.proofs.lemmas.Int.{ints}
use lib.IntN.{*ℤ_comm}
use Rattle.lg_elem.specs.declared.dtype.DType.{DType}
use Rattle.lg_elem.specs.declared.dtype.DType.TheVariants.{Bool as Truth}
use Rattle.lg_elem.specs.Types.{wrap, bits}
use Rattle.lg_elem.specs.Laws.{IsCongruent}
use Rattle.lg_elem.specs.Operations.{power_of}
use Rattle.lg_elem.specs.Powers.{factor_of}
use Rattle.lg_elem.proofs.Products.{sum_times, times_assoc}
use Rattle.lg_elem.proofs.WrapLemmas.{wrap_congruent, wrap_fits, wrap_same}
use Rattle.lg_elem.proofs.Congruence.{same_wrap}
use Rattle.lg_elem.proofs.Floors.{one_times}

-- ---- products

congruent_times : (m : ℕ) (x y b : ℤ) → IsCongruent m x y → IsCongruent m (x *ℤ b) (y *ℤ b)
congruent_times m x y b (k, e) =
    let f = ap (λ z. z *ℤ b) e ∙ sum_times x (k *ℤ pos m) b in
    let g = (times_assoc k (pos m) b ∙ ap (λ z. k *ℤ z) (*ℤ_comm (pos m) b)) ∙ sym (times_assoc k b (pos m)) in
    (k *ℤ b, f ∙ ap (λ z. x *ℤ b +ℤ z) g)

truth_times : (a b : ℤ) → wrap Truth (wrap Truth a *ℤ b) ≡ wrap Truth (a *ℤ b)
truth_times (pos zero) b = refl
truth_times (pos (suc n)) (pos zero) = grind (arith, ints)
truth_times (pos (suc n)) (pos (suc k)) = grind (arith, ints)
truth_times (pos (suc n)) (negsuc k) = grind (arith, ints)
truth_times (negsuc n) (pos zero) = grind (arith, ints)
truth_times (negsuc n) (pos (suc k)) = grind (arith, ints)
truth_times (negsuc n) (negsuc k) = grind (arith, ints)

times_wrapped : (t : DType) (a b : ℤ) → wrap t (wrap t a *ℤ b) ≡ wrap t (a *ℤ b)
times_wrapped Truth a b = truth_times a b
times_wrapped t a b = same_wrap t (a *ℤ b) (wrap t a *ℤ b) (λ e. cc) (congruent_times (2 ^ bits t) a (wrap t a) b (wrap_congruent t a (λ e. cc)))

wrap_twice : (t : DType) (x : ℤ) → wrap t (wrap t x) ≡ wrap t x
wrap_twice t x = wrap_same t (wrap t x) (wrap_fits t x)

same_left : (t : DType) (a x b : ℤ) → wrap t a ≡ wrap t x → wrap t (a *ℤ b) ≡ wrap t (x *ℤ b)
same_left t a x b e = (sym (times_wrapped t a b) ∙ ap (λ z. wrap t (z *ℤ b)) e) ∙ times_wrapped t x b

same_times : (t : DType) (a x b y : ℤ) → wrap t a ≡ wrap t x → wrap t b ≡ wrap t y → wrap t (a *ℤ b) ≡ wrap t (x *ℤ y)
same_times t a x b y e f = same_left t a x b e ∙ ((ap (wrap t) (*ℤ_comm x b) ∙ same_left t b y x f) ∙ ap (wrap t) (*ℤ_comm y x))

-- ---- powers

pub same_power : (t : DType) (a x : ℤ) (n : ℕ) → wrap t a ≡ wrap t x → wrap t (power_of a n) ≡ wrap t (power_of x n)
same_power t a x zero e = refl
same_power t a x (suc n) e = same_times t a x (power_of a n) (power_of x n) e (same_power t a x n e)

power_wrapped : (t : DType) (x : ℤ) (n : ℕ) → wrap t (power_of (wrap t x) n) ≡ wrap t (power_of x n)
power_wrapped t x n = same_power t (wrap t x) x n (wrap_twice t x)

pub power_from : (t : DType) (b x : ℤ) (n : ℕ) → x ≡ wrap t b → wrap t (power_of x n) ≡ wrap t (power_of b n)
power_from t b x n e = ap (λ x. wrap t (power_of x n)) e ∙ power_wrapped t b n

power_of_square : (b : ℤ) (k : ℕ) → power_of (b *ℤ b) k ≡ power_of b (k + k)
power_of_square b zero = refl
power_of_square b (suc k) =
    let e : suc k + suc k ≡ suc (suc (k + k)) = omega arith in
    (ap (λ z. (b *ℤ b) *ℤ z) (power_of_square b k) ∙ times_assoc b b (power_of b (k + k))) ∙ sym (ap (power_of b) e)

power_add : (b : ℤ) (i j : ℕ) → power_of b (i + j) ≡ power_of b i *ℤ power_of b j
power_add b zero j = ap (power_of b) (omega arith) ∙ sym (one_times (power_of b j))
power_add b (suc i) j =
    let e : suc i + j ≡ suc (i + j) = omega arith in
    (ap (power_of b) e ∙ ap (λ z. b *ℤ z) (power_add b i j)) ∙ sym (times_assoc b (power_of b i) (power_of b j))

-- ---- the loop

pub start : (t : DType) (x : ℤ) (n : ℕ) → wrap t (wrap t (pos 1) *ℤ power_of x n) ≡ wrap t (power_of x n)
start t x n = times_wrapped t (pos 1) (power_of x n) ∙ ap (wrap t) (one_times (power_of x n))

halves : (t : DType) (p b : ℤ) (k : ℕ) (odd : ℕ) (f : ℤ) → wrap t f ≡ wrap t (power_of b odd) → wrap t ((p *ℤ f) *ℤ power_of (b *ℤ b) k) ≡ wrap t (p *ℤ power_of b (odd + (k + k)))
halves t p b k odd f e =
    let one = same_times t (p *ℤ f) (p *ℤ power_of b odd) (power_of (b *ℤ b) k) (power_of b (k + k)) (same_times t p p f (power_of b odd) refl e) (ap (wrap t) (power_of_square b k)) in
    let two = times_assoc p (power_of b odd) (power_of b (k + k)) ∙ ap (λ z. p *ℤ z) (sym (power_add b odd (k + k))) in
    one ∙ ap (wrap t) two

factor_is : (t : DType) (b : ℤ) (n : ℕ) → wrap t (factor_of t b n) ≡ wrap t (power_of b (n % 2))
factor_is t b n = by (n % 2) (omega arith)
  where
    by : (r : ℕ) → r < 2 → wrap t (if r == 1 then b else wrap t (pos 1)) ≡ wrap t (power_of b r)
    by zero h = wrap_twice t (pos 1)
    by (suc zero) h = ap (wrap t) (sym (*ℤ_comm b (pos 1) ∙ one_times b))
    by (suc (suc r)) h = absurd (omega arith)

pub step : (t : DType) (p b : ℤ) (n : ℕ) → wrap t (wrap t (p *ℤ factor_of t b n) *ℤ power_of (wrap t (b *ℤ b)) (n / 2)) ≡ wrap t (p *ℤ power_of b n)
step t p b n =
    let f = factor_of t b n in
    let whole : n % 2 + (n / 2 + n / 2) ≡ n = omega arith in
    let one = same_times t (wrap t (p *ℤ f)) (p *ℤ f) (power_of (wrap t (b *ℤ b)) (n / 2)) (power_of (b *ℤ b) (n / 2)) (wrap_twice t (p *ℤ f)) (power_wrapped t (b *ℤ b) (n / 2)) in
    (one ∙ halves t p b (n / 2) (n % 2) f (factor_is t b n)) ∙ ap (λ n. wrap t (p *ℤ power_of b n)) whole

pub end : (t : DType) (p b : ℤ) → wrap t (p *ℤ power_of b 0) ≡ wrap t p
end t p b = ap (wrap t) (*ℤ_comm p (pos 1) ∙ one_times p)
