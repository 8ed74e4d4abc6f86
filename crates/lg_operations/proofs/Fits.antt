-- Each number of a list of elements is one of their type.
use Rattle.std.proofs.Common.{◌≡◌, ℕ, ◌+◌, ◌<◌, List, length, map, get_or, inl, inr, ℤ, pos, sym, ap, subst, ◌∙◌, arith}
use Rattle.std.proofs.lemmas.Bool.{cases_lt}
use Rattle.std.proofs.lemmas.List.{get_or-map}
use Rattle.lg_elem.specs.declared.dtype.DType.{DType}
use Rattle.lg_elem.specs.Types.{IsNumber}

pub fits_more : {T : Type 0} (t : DType) (number : T → ℤ) (items : List T) (i : ℕ) (item : T) (x : ℤ)
    → ((place : ℕ) → place < i → IsNumber t (get_or (map number items) place (pos 0))) → i < length items → item ≡ get_or items i item → x ≡ number item → IsNumber t x
    → (place : ℕ) → place < i + 1 → IsNumber t (get_or (map number items) place (pos 0))
fits_more t number items i item x h within is value fits place below = elim (cases_lt place i) [
  | inl lt ↦ h place lt
  | inr le ↦
      (let here : i ≡ place = omega arith in
      let at : x ≡ get_or (map number items) i (pos 0) = value ∙ ap number is ∙ sym (get_or-map number items i item (pos 0) within) in
      subst (λ k. IsNumber t (get_or (map number items) k (pos 0))) here (subst (IsNumber t) at fits))
]
