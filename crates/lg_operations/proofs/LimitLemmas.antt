-- The number of elements, cut at a limit.
use Rattle.std.proofs.Common.{◌≡◌, ℕ, zero, suc, ◌-◌, ◌*◌, ◌^◌, ◌≤◌, min, true, not, nat_lt, ◌&&◌, List, [], ◌∷◌, inl, inr, refl, sym, ap, ◌∙◌, arith}
use Rattle.std.proofs.Math.Nat.{mul-le-mul_left, mul-le-mul_right}
use Rattle.std.proofs.lemmas.Bool.{cases_lt}
use Rattle.std.proofs.lemmas.Bool.Decides.{nat_tests}
use Rattle.std.specs.List.{All}
use Rattle.std.proofs.lemmas.List.Elements.{All-head, All-tail}
use lib.Dec.{leb}
use Rattle.lg_space.specs.Stored.{MAX_END}
use Rattle.lg_shape.specs.Shapes.{size_of}
use Rattle.lg_shape.specs.Stored.{IsShape}
use Rattle.lg_meaning.specs.Static.{are_within, MAX_SIZE}

-- a product cut at each factor is the product cut at the end
pub product_capped : (a b most : ℕ) → min (a * min b most) most ≡ min ((a - 0) * b) most
product_capped zero b most = omega arith
product_capped (suc a) b most = elim (cases_lt most b) [
  | inl lt ↦
      (let e : min b most ≡ most = omega arith in
      let p : 1 * most ≤ suc a * most = mul-le-mul_right most (omega arith) in
      let q : suc a * most ≤ suc a * b = mul-le-mul_left (suc a) (omega arith) in
      let cut : min (suc a * most) most ≡ min (suc a * b) most = omega (arith, p, q) in
      ap (λ m. min (suc a * m) most) e ∙ cut ∙ ap (λ k. min (k * b) most) (sym none))
  | inr le ↦ (let e : min b most ≡ b = omega arith in ap (λ m. min (suc a * m) most) e ∙ ap (λ k. min (k * b) most) (sym none))
]
  where
    none : suc a - 0 ≡ suc a
    none = omega arith

extents_within : (shape : List ℕ) → All (λ extent. extent ≤ MAX_END) shape → are_within shape ≡ true
extents_within [] h = refl
extents_within (extent ∷ shape) h =
    let small = All-head (λ e. e ≤ MAX_END) extent shape h in
    let rest = extents_within shape (All-tail (λ e. e ≤ MAX_END) extent shape h) in
    ap (λ b. not (nat_lt MAX_SIZE extent) && b) rest ∙ grind (arith, nat_tests)

pub within_is : (shape : List ℕ) (size : ℕ) → IsShape shape → size ≡ min (size_of shape) (2 ^ 64 - 1) → leb size 16777216 ≡ (are_within shape && not (nat_lt MAX_SIZE (size_of shape)))
within_is shape size h e = test (size_of shape) e ∙ ap (λ b. b && not (nat_lt MAX_SIZE (size_of shape))) (sym (extents_within shape h.extents))
  where
    test : (n : ℕ) → size ≡ min n (2 ^ 64 - 1) → leb size 16777216 ≡ (true && not (nat_lt MAX_SIZE n))
    test n e = grind (arith, nat_tests)
