-- An order of the first numbers, and an index that is put in that order.
use Rattle.std.proofs.Common.{◌≡◌, ℕ, zero, suc, ◌<◌, ◌≤◌, List, [], ◌∷◌, length, map, get_or, set, eqb, inl, inr, refl, sym, ap, ◌∙◌, arith, get_or-set_other, get_or-set_same}
use Rattle.std.specs.List.{range_with_len, IsDistinct, All}
use Rattle.std.specs.List.Sorted.{IsPermutation}
use Rattle.std.proofs.lemmas.List.{length-set, get_or_default, get_or-map, length-map}
use Rattle.std.proofs.lemmas.List.Elements.{All-from_get_or, All-get_or, Contains-get_or}
use Rattle.std.proofs.lemmas.List.FromFn.{length-range_with_len, get_or-range_with_len}
use Rattle.std.proofs.lemmas.List.Sorted.{length_permutation, All-permutation, Contains-permutation}
use Rattle.std.proofs.lemmas.Map.Keys.{IsDistinct-from_apart, IsDistinct-IsPermutation, apart_from_distinct}
use Rattle.std.proofs.lemmas.Bool.{eqb-true, eqb-false, eq-eqb, ne_eqb, cases_Bool}
use Rattle.lg_shape.specs.Views.{put_at}

-- each of the first n numbers stands at exactly one place
pub record IsOrder (n : ℕ) (order : List ℕ) : Type 0 where
  pub all : length order ≡ n
  pub below : (j : ℕ) → j < n → get_or order j 0 < n
  pub apart : (i j : ℕ) → i < j → j < n → get_or order i 0 ≡ get_or order j 0 → ⊥
  pub place : (a : ℕ) → a < n → (j : ℕ) × (j < n) × (get_or order j 0 ≡ a)

eqb_flips : (x y : ℕ) → eqb x y ≡ eqb y x
eqb_flips x y = elim (cases_Bool (eqb y x)) [
  | inl same ↦ eq-eqb x y (sym (eqb-true y x same)) ∙ sym same
  | inr other ↦ ne_eqb x y (λ e. eqb-false y x other (sym e)) ∙ sym other
]

module _ (n : ℕ) (order : List ℕ) (perm : IsPermutation (range_with_len 0 n) order) where
  there : length order ≡ n
  there = length_permutation (range_with_len 0 n) order perm ∙ length-range_with_len 0 n

  small : All (λ a. a < n) order
  small = All-permutation (λ a. a < n) (range_with_len 0 n) order perm
      (All-from_get_or (λ a. a < n) (range_with_len 0 n) 0
      (λ i lt. (let h : i < n = omega (arith, lt, length-range_with_len 0 n) in omega (arith, get_or-range_with_len 0 n i 0 h))))

  distinct : IsDistinct eqb order
  distinct = IsDistinct-IsPermutation eqb eqb_flips (range_with_len 0 n) order perm
      (IsDistinct-from_apart eqb (range_with_len 0 n) (λ i j d lt in'.
      (let h : j < n = omega (arith, in', length-range_with_len 0 n) in
      ne_eqb _ _ (λ e. omega (arith, e, lt, get_or-range_with_len 0 n i d (omega arith), get_or-range_with_len 0 n j d h)))))

  pub is_order : IsOrder n order
  is_order = record {
    all = there;
    below = λ j lt. All-get_or (λ a. a < n) order j 0 (omega (arith, there)) small;
    apart = λ i j lt in'. eqb-false _ _ (apart_from_distinct eqb order i j 0 distinct lt (omega (arith, there)));
    place = λ a lt.
        let first = Contains-get_or (range_with_len 0 n) a 0 (omega (arith, length-range_with_len 0 n)) in
        let c = Contains-permutation (range_with_len 0 n) order _ perm first in
        let at : get_or (range_with_len 0 n) a 0 ≡ a = omega (arith, get_or-range_with_len 0 n a 0 lt) in
        (c.0, omega (arith, c.1, there), get_or_default order c.0 0 _ c.1 ∙ c.2 ∙ at);
  }

-- ---- an index in another order

-- the same for members of any kind
abbrev pub put : {X : Type 0} → List ℕ → List X → List X → List X
put [] xs at = at
put (a ∷ order) [] at = at
put (a ∷ order) (x ∷ xs) at = put order xs (set at a x)

pub length-put : {X : Type 0} (order : List ℕ) (xs at : List X) → length (put order xs at) ≡ length at
length-put [] xs at = refl
length-put (a ∷ order) [] at = refl
length-put (a ∷ order) (x ∷ xs) at = length-put order xs (set at a x) ∙ length-set at a x

-- what is put elsewhere changes no member
put_kept : {X : Type 0} (d : X) (order : List ℕ) (xs at : List X) (a : ℕ) → ((j : ℕ) → j < length order → a ≡ get_or order j 0 → ⊥)
    → get_or (put order xs at) a d ≡ get_or at a d
put_kept d [] xs at a h = refl
put_kept d (b ∷ order) [] at a h = refl
put_kept d (b ∷ order) (x ∷ xs) at a h =
    put_kept d order xs (set at b x) a (λ j lt. h (suc j) (omega arith))
    ∙ get_or-set_other at b a x d (h 0 (omega arith))

-- a member is put at its place
pub put_anywhere : {X : Type 0} (d : X) (order : List ℕ) (xs at : List X) (j : ℕ) → length order ≤ length xs → j < length order
    → ((i j : ℕ) → i < j → j < length order → get_or order i 0 ≡ get_or order j 0 → ⊥)
    → get_or order j 0 < length at → get_or (put order xs at) (get_or order j 0) d ≡ get_or xs j d
put_anywhere d [] xs at j le lt apart in' = absurd (omega arith)
put_anywhere d (a ∷ order) [] at j le lt apart in' = absurd (omega arith)
put_anywhere d (a ∷ order) (x ∷ xs) at zero le lt apart in' =
    put_kept d order xs (set at a x) a (λ j h. apart 0 (suc j) (omega arith) (omega arith))
    ∙ get_or-set_same at a x d in'
put_anywhere d (a ∷ order) (x ∷ xs) at (suc j) le lt apart in' =
    put_anywhere d order xs (set at a x) j (omega arith) (omega arith)
    (λ i j below lt. apart (suc i) (suc j) (omega arith) (omega arith)) (omega (arith, length-set at a x))

put_is : (order index at : List ℕ) → put_at order index at ≡ put order index at
put_is [] index at = refl
put_is (a ∷ order) [] at = refl
put_is (a ∷ order) (i ∷ index) at = put_is order index (set at a i)

pub length-put_at : (order index at : List ℕ) → length (put_at order index at) ≡ length at
length-put_at order index at = ap length (put_is order index at) ∙ length-put order index at

pub put_there : (order index at : List ℕ) (j : ℕ) → length order ≤ length index → j < length order
    → ((i j : ℕ) → i < j → j < length order → get_or order i 0 ≡ get_or order j 0 → ⊥)
    → get_or order j 0 < length at → get_or (put_at order index at) (get_or order j 0) 0 ≡ get_or index j 0
put_there order index at j le lt apart in' =
    ap (λ l. get_or l (get_or order j 0) 0) (put_is order index at) ∙ put_anywhere 0 order index at j le lt apart in'

-- the members of a list in another order
abbrev pub ordered : {X : Type 0} → X → List X → List ℕ → List X
ordered d xs order = map (λ a. get_or xs a d) order

pub get_or-ordered : {X : Type 0} (d e : X) (xs : List X) (order : List ℕ) (j : ℕ) → j < length order
    → get_or (ordered d xs order) j e ≡ get_or xs (get_or order j 0) d
get_or-ordered d e xs order j lt = get_or-map (λ a. get_or xs a d) order j 0 e lt

pub length-ordered : {X : Type 0} (d : X) (xs : List X) (order : List ℕ) → length (ordered d xs order) ≡ length order
length-ordered d xs order = length-map order (λ a. get_or xs a d)
