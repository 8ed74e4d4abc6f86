-- One axis, sliced.
use Rattle.std.proofs.Common.{◌≡◌, ℕ, suc, ◌+◌, ◌-◌, ◌*◌, ◌<◌, ◌≤◌, min, Bool, true, false, ltb, ℤ, pos, negsuc, inl, inr, refl, sym, ap, subst, ◌∙◌, arith}
use Rattle.std.specs.Prelude.{unsigned_abs}
use Rattle.std.proofs.lemmas.Bool.{lt-ltb, le-ltb, cases_Bool}
use Rattle.std.proofs.lemmas.Nat.{mul-le}
use Rattle.lg_shape.specs.Views.{sliced_at, IsSliceOf}
use Rattle.lg_xform.specs.declared.axis.ViewAxis.{ViewAxis}
use Rattle.lg_xform.specs.Moves.{steps}
use Rattle.lg_xform.specs.Slices.{IsSliced}
use Rattle.lg_xform.proofs.Befores.{sliced_below}
use Rattle.lg_xform.proofs.Sums.{steps_within}

-- how far one step goes, up or down
abbrev pub size_of_step : ℤ → ℕ
size_of_step (pos step) = step
size_of_step (negsuc step) = suc step

-- the first coordinate, and one n steps behind it, as numbers of strides
abbrev pub end_at : Bool → ℕ → ℕ → ℤ → ℕ → ℕ
end_at down extent start step k = steps down extent (sliced_at start step k)

module _ (extent start n k m : ℕ) (is : n ≡ k + m) (some : 1 ≤ n) where
  split : (t : ℕ) → n * t ≡ k * t + m * t
  split t = ap (λ x. x * t) is ∙ (omega arith)

  pub lead : (down made : Bool) (step : ℤ) → IsSliceOf start (n + 1) step extent → made ≡ ltb (end_at down extent start step n) (end_at down extent start step 0)
      → min (end_at down extent start step 0) (end_at down extent start step n) + steps made (n + 1) k * size_of_step step ≡ end_at down extent start step k
  lead false made (pos t) h e = elim h.2 [
    | inl none ↦ absurd (omega arith)
    | inr within ↦ (let up : made ≡ false = e ∙ le-ltb (start + n * t) (start + 0 * t) (omega arith) in
        subst (λ b. min (start + 0 * t) (start + n * t) + steps b (n + 1) k * t ≡ start + k * t) (sym up) (omega arith))
  ]
  lead false made (negsuc t) h e = elim h.1 [
    | inl none ↦ absurd (omega arith)
    | inr within ↦ (let last : n * suc t ≤ start = omega (arith, ap (λ x. x * suc t) (let one : n + 1 - 1 ≡ n = omega arith in one), within.1) in
        let two = split (suc t) in
        let turned : made ≡ true = e ∙ lt-ltb (start - n * suc t) (start - 0 * suc t) (omega arith) in
        let rest : n + 1 - 1 - k ≡ m = omega arith in
        let there : (n + 1 - 1 - k) * suc t ≡ m * suc t = ap (λ x. x * suc t) rest in
        subst (λ b. min (start - 0 * suc t) (start - n * suc t) + steps b (n + 1) k * suc t ≡ start - k * suc t) (sym turned) (omega (arith, there, two, last)))
  ]
  lead true made (pos t) h e = elim h.2 [
    | inl none ↦ absurd (omega arith)
    | inr within ↦ (let last : start + n * t < extent = omega (arith, ap (λ x. x * t) (let one : n + 1 - 1 ≡ n = omega arith in one), within) in
        let two = split t in
        let goes : 1 * 1 ≤ n * t = mul-le 1 1 n t some (omega (arith, h.0)) in
        let turned : made ≡ true = e ∙ lt-ltb (extent - 1 - (start + n * t)) (extent - 1 - (start + 0 * t)) (omega arith) in
        let rest : n + 1 - 1 - k ≡ m = omega arith in
        let there : (n + 1 - 1 - k) * t ≡ m * t = ap (λ x. x * t) rest in
        subst (λ b. min (extent - 1 - (start + 0 * t)) (extent - 1 - (start + n * t)) + steps b (n + 1) k * t ≡ extent - 1 - (start + k * t)) (sym turned) (omega (arith, there, two, last)))
  ]
  lead true made (negsuc t) h e = elim h.1 [
    | inl none ↦ absurd (omega arith)
    | inr within ↦ (let last : n * suc t ≤ start = omega (arith, ap (λ x. x * suc t) (let one : n + 1 - 1 ≡ n = omega arith in one), within.1) in
        let first : start < extent = within.0 in
        let two = split (suc t) in
        let up : made ≡ false = e ∙ le-ltb (extent - 1 - (start - n * suc t)) (extent - 1 - (start - 0 * suc t)) (omega arith) in
        subst (λ b. min (extent - 1 - (start - 0 * suc t)) (extent - 1 - (start - n * suc t)) + steps b (n + 1) k * suc t ≡ extent - 1 - (start - k * suc t)) (sym up) (omega (arith, two, last, first)))
  ]

regroup : (a b c s : ℕ) → (a + b * c) * s ≡ a * s + b * (c * s)
regroup a b c s = omega arith

-- a slice of two coordinates or more
pub sliced_more : (start len : ℕ) (step : ℤ) (old : ViewAxis) (made : Bool) (ahead stride : ℕ) → 1 < len → IsSliceOf start len step old.extent
    → made ≡ ltb (end_at old.down old.extent start step (len - 1)) (end_at old.down old.extent start step 0)
    → stride ≡ size_of_step step * old.stride
    → ahead ≡ min (end_at old.down old.extent start step 0) (end_at old.down old.extent start step (len - 1)) * old.stride
    → IsSliced start len step old ahead (record { extent = len; root = old.root; stride = stride; down = made; inner = old.inner })
sliced_more start len step old made ahead stride more of turned stride_is ahead_is =
    let n = len - 1 in
    let long : n + 1 ≡ len = omega arith in
    let of' : IsSliceOf start (n + 1) step old.extent = subst (λ l. IsSliceOf start l step old.extent) (sym long) of in
    let low = min (end_at old.down old.extent start step 0) (end_at old.down old.extent start step n) in
    let at : (k : ℕ) → k < len → low + steps made len k * size_of_step step ≡ end_at old.down old.extent start step k =
    λ k below. (let e = lead old.extent start n k (n - k) (omega arith) (omega arith) old.down made step of' turned in
    subst (λ l. low + steps made l k * size_of_step step ≡ end_at old.down old.extent start step k) long e) in
    let times : (a : ℕ) → (low + a * size_of_step step) * old.stride ≡ ahead + a * stride =
    λ a. regroup low a (size_of_step step) old.stride ∙ (λ i. sym ahead_is i + a * sym stride_is i) in
    record {
      extent = refl;
      root = refl;
      inner = refl;
      leads = λ k below. sym (times (steps made len k)) ∙ ap (λ x. x * old.stride) (at k below);
      reaches =
          let far : (k : ℕ) → k < len → steps made len k ≡ n → ahead + n * stride ≤ (old.extent - 1) * old.stride =
          λ k below e. (let whole : low + n * size_of_step step ≡ end_at old.down old.extent start step k = ap (λ x. low + x * size_of_step step) (sym e) ∙ at k below in
          let within = steps_within old.down old.extent (sliced_at start step k) (sliced_below start len old.extent k step of below) in
          let small = mul-le (low + n * size_of_step step) old.stride (old.extent - 1) old.stride (omega (arith, whole, within)) (omega arith) in
          omega (arith, small, times n)) in
          elim (cases_Bool made) [
            | inl down ↦ far 0 (omega arith) (ap (λ b. steps b len 0) down ∙ (omega arith))
            | inr up ↦ far n (omega arith) (ap (λ b. steps b len n) up)
          ];
    }

pub sliced_first : (start : ℕ) (step : ℤ) → sliced_at start step 0 ≡ start
sliced_first start (pos step) = omega arith
sliced_first start (negsuc step) = omega arith

-- a slice of one coordinate, which no step leaves
pub sliced_one : (start len : ℕ) (step : ℤ) (old : ViewAxis) (ahead : ℕ) → len ≡ 1 → IsSliceOf start len step old.extent
    → ahead ≡ min (end_at old.down old.extent start step 0) (end_at old.down old.extent start step (len - 1)) * old.stride
    → IsSliced start len step old ahead (record { extent = len; root = old.root; stride = 0; down = false; inner = old.inner })
sliced_one start len step old ahead one of ahead_is =
    let none : len - 1 ≡ 0 = omega arith in
    let is : ahead ≡ end_at old.down old.extent start step 0 * old.stride =
    ahead_is ∙ ap (λ n. min (end_at old.down old.extent start step 0) (end_at old.down old.extent start step n) * old.stride) none
    ∙ ap (λ n. n * old.stride) (let x = end_at old.down old.extent start step 0 in let e : min x x ≡ x = omega arith in e) in
    record {
      extent = refl;
      root = refl;
      inner = refl;
      leads = λ k below. (let first : k ≡ 0 = omega arith in
          let there : end_at old.down old.extent start step 0 * old.stride ≡ end_at old.down old.extent start step k * old.stride = ap (λ j. end_at old.down old.extent start step j * old.stride) (sym first) in
          omega (arith, is, there));
      reaches =
          let within = steps_within old.down old.extent (sliced_at start step 0) (sliced_below start len old.extent 0 step of (omega arith)) in
          let small = mul-le (end_at old.down old.extent start step 0) old.stride (old.extent - 1) old.stride within (omega arith) in
          omega (arith, small, is);
    }

pub end_first : (down : Bool) (extent start : ℕ) (step : ℤ) → end_at down extent start step 0 ≡ steps down extent start
end_first down extent start step = ap (steps down extent) (sliced_first start step)

pub size_is : (step : ℤ) → unsigned_abs step ≡ size_of_step step
size_is (pos step) = refl
size_is (negsuc step) = refl
