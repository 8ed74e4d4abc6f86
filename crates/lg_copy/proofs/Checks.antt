-- What a search over all indices, or all parts, tells.
use Rattle.std.proofs.Common.{◌≡◌, ℕ, ◌+◌, ◌<◌, ◌≤◌, List, length, ◌⊎◌, inl, inr, Some, slice_get, arith}
use Rattle.std.proofs.lemmas.Bool.{cases_lt}
use Rattle.std.proofs.lemmas.Option.{slice_get_within}
use Rattle.lg_space.specs.Partition.{Disjoint}
use Rattle.lg_space.specs.Rectangle.{IsIn, place_in}
use Rattle.lg_copy.proofs.Landing.{same_place}

-- an index up to a place is before it, or the one there
pub up_to : (rect : List (ℕ × ℕ)) (index p : List ℕ) (k : ℕ) → IsIn rect index → IsIn rect p → place_in rect p ≡ k → place_in rect index < k + 1
    → (place_in rect index < k) ⊎ (index ≡ p)
up_to rect index p k inside there at below = elim (cases_lt (place_in rect index) k) [
  | inl lt ↦ inl lt
  | inr ge ↦ inr (same_place rect index p inside there (omega (arith, ge, below, at)))
]

-- two indices are one, if neither comes before the other
pub neither_before : (rect : List (ℕ × ℕ)) (a b : List ℕ) → IsIn rect a → IsIn rect b → (place_in rect a < place_in rect b → ⊥) → (place_in rect b < place_in rect a → ⊥) → a ≡ b
neither_before rect a b in_a in_b left right = elim (cases_lt (place_in rect a) (place_in rect b)) [
  | inl lt ↦ absurd (left lt)
  | inr ge ↦
      elim (cases_lt (place_in rect b) (place_in rect a)) [
        | inl lt ↦ absurd (right lt)
        | inr le ↦ same_place rect a b in_a in_b (omega (arith, ge, le))
      ]
]

-- no index in two rectangles, if none is in one and in an earlier one
pub apart : (rects : List (List (ℕ × ℕ))) (n : ℕ) → length rects ≤ n
    → ((j k : ℕ) (a b : List (ℕ × ℕ)) (index : List ℕ) → j < n → k < j → slice_get rects j ≡ Some a → slice_get rects k ≡ Some b → IsIn a index → IsIn b index → ⊥)
    → Disjoint rects
apart rects n all none first second a b index at there in_a in_b = elim (cases_lt first second) [
  | inl lt ↦ absurd (none second first b a index (omega (arith, slice_get_within rects second b there, all)) lt there at in_b in_a)
  | inr ge ↦
      elim (cases_lt second first) [
        | inl lt ↦ absurd (none first second a b index (omega (arith, slice_get_within rects first a at, all)) lt at there in_a in_b)
        | inr le ↦ omega (arith, ge, le)
      ]
]
