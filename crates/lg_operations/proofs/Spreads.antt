-- The index of an operand that belongs to an index of the result.
use Rattle.std.proofs.Common.{◌≡◌, ℕ, ◌+◌, ◌-◌, ◌*◌, ◌<◌, List, [], ◌∷◌, length, drop, refl, ap, ◌∙◌, arith, All}
use Rattle.std.specs.Prelude.{if◌then◌else◌, ◌==◌}
use Rattle.std.proofs.lemmas.Bool.Decides.{nat_tests}
use Rattle.std.proofs.lemmas.List.{length-map}
use Rattle.std.proofs.lemmas.List.Elements.{All-head, All-tail}
use Rattle.lg_space.specs.Rectangle.{IsIn}
use Rattle.lg_space.proofs.Inside.{same_axes}
use Rattle.lg_shape.specs.Shapes.{whole, pinned, aligned, place_of, size_of}

pub length-whole : (shape : List ℕ) → length (whole shape) ≡ length shape
length-whole shape = length-map {B = ℕ × ℕ} shape (λ (extent : ℕ). (0, extent))

-- ---- a value of the shape of the result

pinned_same_at : (x i : ℕ) → i < x → (if x == 1 then 0 else i) ≡ i
pinned_same_at x i below = grind (arith, nat_tests)

pinned_same : (shape index : List ℕ) → IsIn (whole shape) index → pinned shape index ≡ index
pinned_same [] [] inside = refl
pinned_same [] (i ∷ index) inside = elim inside [ ]
pinned_same (x ∷ shape) [] inside = elim inside [ ]
pinned_same (x ∷ shape) (i ∷ index) inside = ap (λ k. k ∷ pinned shape index) (pinned_same_at x i inside.1) ∙ ap (i ∷◌) (pinned_same shape index inside.2)

pub aligned_same : (shape index : List ℕ) → IsIn (whole shape) index → aligned shape index ≡ index
aligned_same shape index inside =
    let none : length index - length shape ≡ 0 = omega (arith, same_axes (whole shape) index inside, length-whole shape) in
    ap (λ k. pinned shape (drop k index)) none ∙ pinned_same shape index inside

-- ---- a value of one element

pinned_first : (x i : ℕ) → x ≡ 1 → (if x == 1 then 0 else i) ≡ 0
pinned_first x i one = grind (arith, nat_tests)

one_place : (shape index : List ℕ) → All (λ x. x ≡ 1) shape → place_of shape (pinned shape index) ≡ 0
one_place [] index ones = refl
one_place (x ∷ shape) [] ones = refl
one_place (x ∷ shape) (i ∷ index) ones =
    let first = pinned_first x i (All-head (λ x. x ≡ 1) x shape ones) in
    let rest = one_place shape index (All-tail (λ x. x ≡ 1) x shape ones) in
    let none : (0 - 0) * size_of shape + place_of shape (pinned shape index) ≡ 0 = omega (arith, rest) in
    ap (λ k. (k - 0) * size_of shape + place_of shape (pinned shape index)) first ∙ none

pub aligned_one : (shape index : List ℕ) → All (λ x. x ≡ 1) shape → place_of shape (aligned shape index) ≡ 0
aligned_one shape index ones = one_place shape (drop (length index - length shape) index) ones

pub one_element : (shape : List ℕ) → All (λ x. x ≡ 1) shape → size_of shape ≡ 1
one_element [] ones = refl
one_element (x ∷ shape) ones =
    let one = All-head (λ x. x ≡ 1) x shape ones in
    let rest = one_element shape (All-tail (λ x. x ≡ 1) x shape ones) in
    let all : (1 - 0) * size_of shape ≡ 1 = omega (arith, rest) in
    ap (λ k. (k - 0) * size_of shape) one ∙ all
