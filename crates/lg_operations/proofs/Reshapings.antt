-- Shapes of which one extent may be left open.
use Rattle.std.proofs.Common.{◌≡◌, ℕ, zero, suc, ◌-◌, ◌*◌, ◌/◌, ◌%◌, ◌^◌, ◌<◌, ◌≤◌, min, ◌==◌, eqb-true, eq-eqb, Bool, true, false, not, nat_le, ◌&&◌, ◌||◌, List, [], ◌∷◌, length, map, inl, inr, Result, Ok, Err, IfOk, ℤ, pos, refl, sym, ap, ◌∙◌, arith}
use Rattle.std.specs.Prelude.{if◌then◌else◌, filter, negsuc, int_le, unsigned_abs}
use Rattle.std.specs.List.{list_all}
use Rattle.std.proofs.Math.Nat.{mul_left_comm, mul-le-mul_left, div-eq_of_lt, mod-eq_of_lt}
use Rattle.std.proofs.lemmas.Nat.{div-add-mod'}
use Rattle.std.proofs.lemmas.Bool.{cases_lt}
use Rattle.std.proofs.lemmas.Bool.Decides.{nat_tests}
use Rattle.std.proofs.lemmas.List.{length-map}
use Rattle.std.proofs.lemmas.Int.{ints}
use Rattle.lg_elem.specs.declared.dtype.DType.{DType}
use Rattle.lg_elem.specs.Operations.{is_negative}
use Rattle.lg_space.specs.Stored.{MAX_VOLUME}
use Rattle.lg_space.specs.declared.point.TheConstants.{MAX_AXES}
use Rattle.lg_shape.specs.Shapes.{size_of}
use Rattle.lg_meaning.specs.declared.fault.FaultKind.{FaultKind}
use Rattle.lg_meaning.specs.declared.fault.FaultKind.TheVariants.{Shape}
use Rattle.lg_meaning.specs.Faults.{needing}
use Rattle.lg_meaning.specs.Memory.{ArrayKind, writable}
use Rattle.lg_meaning.specs.Static.{array_value, made}
use Rattle.lg_meaning.specs.Creation.{extents, are_extents, shaped}
use Rattle.lg_meaning.specs.Copies.{can_be_inferred, inferred, is_reshape, known_extents}
use Rattle.lg_operations.specs.Reshaping.{filled, known_extent}
use Rattle.lg_operations.specs.Ruling.{ruled_new}
use Rattle.lg_operations.proofs.Statics.{kind_with, made_ok, needing_ok, the_kind}
use Rattle.lg_operations.proofs.LimitLemmas.{product_capped}

-- the extents that are written, with this one where one is left open
abbrev pub open_as : ℕ → List ℤ → List ℕ
open_as n xs = map (λ x. if is_negative x then n else unsigned_abs x) xs

abbrev pub open_count : List ℤ → ℕ
open_count xs = length (filter is_negative xs)

abbrev pub known_size : List ℤ → ℕ
known_size xs = size_of (known_extents xs)

-- ---- the extents as they are handed on

pub extents_filled : (n : ℕ) (xs : List ℤ) → extents (map (filled n) xs) ≡ open_as n xs
extents_filled n [] = refl
extents_filled n (x ∷ xs) = λ i. one (is_negative x) i ∷ extents_filled n xs i
  where
    one : (b : Bool) → unsigned_abs (if b then pos n else x) ≡ (if b then n else unsigned_abs x)
    one true = refl
    one false = refl

natural : (n : ℕ) → is_negative (pos n) ≡ false
natural n = by (is_negative (pos n)) refl
  where
    by : (b : Bool) → is_negative (pos n) ≡ b → b ≡ false
    by true e = absurd (omega (arith, ints, e))
    by false e = refl

never_negative : (n : ℕ) (x : ℤ) → is_negative (filled n x) ≡ false
never_negative n x = by (is_negative x) refl
  where
    by : (b : Bool) → is_negative x ≡ b → is_negative (if b then pos n else x) ≡ false
    by true e = natural n
    by false e = e

are_filled : (n : ℕ) (xs : List ℤ) → are_extents (map (filled n) xs) ≡ true
are_filled n [] = refl
are_filled n (x ∷ xs) = ap (λ b. not b && are_extents (map (filled n) xs)) (never_negative n x) ∙ are_filled n xs

-- ---- tests

both_true : (p q : Bool) → (p && q) ≡ true → (p ≡ true) × (q ≡ true)
both_true true q e = (refl, e)
both_true false q e = cc

-- two tests that hold together are the same
same_test : (p q : Bool) → (p ≡ true → q ≡ true) → (q ≡ true → p ≡ true) → p ≡ q
same_test true q h k = sym (h refl)
same_test false true h k = k refl
same_test false false h k = refl

-- the parts of the definition
pub record Reshapes (count : ℕ) (xs : List ℤ) : Type 0 where
  pub few : nat_le (length xs) MAX_AXES ≡ true
  pub size : size_of (inferred count xs) ≡ count

pub reshapes : (count : ℕ) (xs : List ℤ) → is_reshape count xs ≡ true → Reshapes count xs
reshapes count xs e =
    let p = both_true (nat_le (length xs) MAX_AXES && can_be_inferred xs) (size_of (inferred count xs) == count) e in
    record { few = (both_true (nat_le (length xs) MAX_AXES) (can_be_inferred xs) p.0).0; size = eqb-true (size_of (inferred count xs)) count p.1 }

pub shaped_filled : (t : DType) (count n : ℕ) (xs : List ℤ) → is_reshape count xs ≡ true → n ≡ count / known_size xs
    → shaped t (map (filled n) xs) ≡ needing (is_reshape count xs) Shape (made t (inferred count xs))
shaped_filled t count n xs e is =
    ap (λ b. needing (b && nat_le (length (map (filled n) xs)) MAX_AXES) Shape (made t (extents (map (filled n) xs)))) (are_filled n xs)
    ∙ ap (λ l. needing (nat_le l MAX_AXES) Shape (made t (extents (map (filled n) xs)))) (length-map xs (filled n))
    ∙ ap (λ b. needing b Shape (made t (extents (map (filled n) xs)))) (reshapes count xs e).few
    ∙ ap (made t) (extents_filled n xs ∙ ap (λ m. open_as m xs) is)
    ∙ sym (ap (λ b. needing b Shape (made t (inferred count xs))) e)

-- ---- sizes

pub none_open : (n : ℕ) (xs : List ℤ) → open_count xs ≡ 0 → open_as n xs ≡ known_extents xs
none_open n [] h = refl
none_open n (x ∷ xs) h = by (none_open n xs) (is_negative x) h
  where
    by : (open_count xs ≡ 0 → open_as n xs ≡ known_extents xs) → (b : Bool) → length (if b then x ∷ filter is_negative xs else filter is_negative xs) ≡ 0
        → (if b then n else unsigned_abs x) ∷ open_as n xs ≡ extents (if not b then x ∷ filter (λ y. not (is_negative y)) xs else filter (λ y. not (is_negative y)) xs)
    by rest true h = absurd (omega (arith, h))
    by rest false h = ap (unsigned_abs x ∷◌) (rest h)

pub one_open : (n : ℕ) (xs : List ℤ) → open_count xs ≡ 1 → size_of (open_as n xs) ≡ n * known_size xs
one_open n [] h = absurd (omega (arith, h))
one_open n (x ∷ xs) h = by (one_open n xs) (is_negative x) h
  where
    by : (open_count xs ≡ 1 → size_of (open_as n xs) ≡ n * known_size xs) → (b : Bool) → length (if b then x ∷ filter is_negative xs else filter is_negative xs) ≡ 1
        → size_of ((if b then n else unsigned_abs x) ∷ open_as n xs) ≡ n * size_of (extents (if not b then x ∷ filter (λ y. not (is_negative y)) xs else filter (λ y. not (is_negative y)) xs))
    by rest true h =
        let one : n - 0 ≡ n = omega arith in
        ap (λ m. m * size_of (open_as n xs)) one ∙ ap (λ l. n * size_of l) (none_open n xs (omega (arith, h)))
    by rest false h = ap (λ s. (unsigned_abs x - 0) * s) (rest h) ∙ mul_left_comm (unsigned_abs x - 0) n (known_size xs)

-- one extent more
pub known_more : (x : ℤ) (xs : List ℤ) → known_size (x ∷ xs) ≡ known_extent x * known_size xs
known_more x xs = by (is_negative x)
  where
    by : (b : Bool) → size_of (extents (if not b then x ∷ filter (λ y. not (is_negative y)) xs else filter (λ y. not (is_negative y)) xs))
        ≡ (if b then 1 else unsigned_abs x) * known_size xs
    by true = omega arith
    by false = let one : unsigned_abs x - 0 ≡ unsigned_abs x = omega arith in ap (λ m. m * known_size xs) one

-- ---- cut at a limit

at_most : (x y most : ℕ) → most ≤ x → most ≤ y → min x most ≡ min y most
at_most x y most h k = omega (arith, h, k)

-- a product whose factors are cut, cut again
pub both_capped : (a b most : ℕ) → min (min a most * min b most) most ≡ min (a * b) most
both_capped a b most = elim (cases_lt most a) [
  | inl lt ↦ (let e : min a most ≡ most = omega (arith, lt) in ap (λ m. min (m * min b most) most) e ∙ large b lt)
  | inr le ↦ (let e : min a most ≡ a = omega (arith, le) in
      let f : a - 0 ≡ a = omega arith in
      ap (λ m. min (m * min b most) most) e ∙ product_capped a b most ∙ ap (λ m. min (m * b) most) f)
]
  where
    large : (b : ℕ) → most < a → min (most * min b most) most ≡ min (a * b) most
    large zero lt = let e : min zero most ≡ zero = omega arith in ap (λ m. min (most * m) most) e ∙ omega arith
    large (suc n) lt = elim (cases_lt 0 most) [
      | inl some ↦
          (let p : most * 1 ≤ most * min (suc n) most = mul-le-mul_left most (omega (arith, some)) in
          let q : a * 1 ≤ a * suc n = mul-le-mul_left a (omega arith) in
          at_most (most * min (suc n) most) (a * suc n) most (omega (arith, p)) (omega (arith, q, lt)))
      | inr none ↦ omega (arith, none)
    ]

pub known_capped : (x : ℤ) (xs : List ℤ) (most : ℕ) → min (min (known_extent x) most * min (known_size xs) most) most ≡ min (known_size (x ∷ xs)) most
known_capped x xs most = both_capped (known_extent x) (known_size xs) most ∙ ap (λ n. min n most) (sym (known_more x xs))

-- ---- which shapes are ones of so many elements

same_capped : (count known s : ℕ) → count ≤ MAX_VOLUME → known ≡ min s (2 ^ 64 - 1) → (known == count) ≡ (s == count)
same_capped count known s small is = same_test (known == count) (s == count)
    (λ e. let f = eqb-true known count e in eq-eqb s count (omega (arith, is, f, small)))
    (λ e. let f = eqb-true s count e in eq-eqb known count (omega (arith, is, f, small)))

no_rest : (count s : ℕ) → ((count % s) == 0) ≡ ((count / s * s) == count)
no_rest count s = same_test ((count % s) == 0) ((count / s * s) == count)
    (λ e. eq-eqb (count / s * s) count (omega (arith, div-add-mod' count s, eqb-true (count % s) 0 e)))
    (λ e. eq-eqb (count % s) 0 (omega (arith, div-add-mod' count s, eqb-true (count / s * s) count e)))

not_zero : (n : ℕ) → 0 < n → not (n == 0) ≡ true
not_zero n h = grind (arith, nat_tests)

pub unequal : (n m : ℕ) → ¬ (n ≡ m) → (n == m) ≡ false
unequal n m apart = grind (arith, nat_tests)

divides_capped : (count known s : ℕ) → count ≤ MAX_VOLUME → known ≡ min s (2 ^ 64 - 1) → (not (known == 0) && (count % known) == 0) ≡ (not (s == 0) && (count / s * s) == count)
divides_capped count known s small is = elim (cases_lt s (2 ^ 64)) [
  | inl lt ↦ (let e : known ≡ s = omega (arith, is, lt) in ap (λ k. not (k == 0) && (count % k) == 0) e ∙ ap (λ b. not (s == 0) && b) (no_rest count s))
  | inr past ↦
      (let rest : count % known ≡ count = mod-eq_of_lt (omega (arith, is, past, small)) in
      let none : count / s * s ≡ 0 = ap (λ q. q * s) (div-eq_of_lt (omega (arith, past, small))) ∙ omega arith in
      let k : not (known == 0) ≡ true = not_zero known (omega (arith, is, past)) in
      let n : not (s == 0) ≡ true = not_zero s (omega (arith, past)) in
      ap (λ b. b && (count % known) == 0) k ∙ ap (λ m. m == 0) rest
      ∙ same_test (count == 0) (0 == count) (λ e. eq-eqb 0 count (sym (eqb-true count 0 e))) (λ e. eq-eqb count 0 (sym (eqb-true 0 count e)))
      ∙ sym (ap (λ b. b && (count / s * s) == count) n ∙ ap (λ m. m == count) none))
]

module _ (count : ℕ) (xs : List ℤ) (few : length xs ≤ MAX_AXES) (bounded : list_all (int_le (negsuc 0)) xs ≡ true) where
  -- of how many extents are left open, and whether there are as many elements
  by_count : is_reshape count xs ≡ (((open_count xs == 0) || ((open_count xs == 1) && not (known_size xs == 0))) && size_of (inferred count xs) == count)
  by_count =
      let short : nat_le (length xs) MAX_AXES ≡ true = grind (arith, nat_tests) in
      ap (λ b. b && can_be_inferred xs && size_of (inferred count xs) == count) short
      ∙ ap (λ b. (b && ((open_count xs == 0) || ((open_count xs == 1) && not (known_size xs == 0)))) && size_of (inferred count xs) == count) bounded

  pub test_none : (known : ℕ) → count ≤ MAX_VOLUME → open_count xs ≡ 0 → known ≡ min (known_size xs) (2 ^ 64 - 1) → (known == count) ≡ is_reshape count xs
  test_none known small none is =
      same_capped count known (known_size xs) small is
      ∙ sym (by_count ∙ ap (λ n. ((n == 0) || ((n == 1) && not (known_size xs == 0))) && size_of (inferred count xs) == count) none
      ∙ ap (λ l. size_of l == count) (none_open (count / known_size xs) xs none))

  pub test_one : (known : ℕ) → count ≤ MAX_VOLUME → open_count xs ≡ 1 → known ≡ min (known_size xs) (2 ^ 64 - 1) → (not (known == 0) && (count % known) == 0) ≡ is_reshape count xs
  test_one known small one is =
      divides_capped count known (known_size xs) small is
      ∙ sym (by_count ∙ ap (λ n. ((n == 0) || ((n == 1) && not (known_size xs == 0))) && size_of (inferred count xs) == count) one
      ∙ ap (λ n. not (known_size xs == 0) && n == count) (one_open (count / known_size xs) xs one))

  pub test_more : ¬ (open_count xs ≡ 0) → ¬ (open_count xs ≡ 1) → is_reshape count xs ≡ false
  test_more none one =
      by_count ∙ ap (λ b. (b || ((open_count xs == 1) && not (known_size xs == 0))) && size_of (inferred count xs) == count) (unequal (open_count xs) 0 none)
      ∙ ap (λ b. (b && not (known_size xs == 0)) && size_of (inferred count xs) == count) (unequal (open_count xs) 1 one)

-- what is left for the open extent
pub left_is : (count known : ℕ) (xs : List ℤ) → count ≤ MAX_VOLUME → known ≡ min (known_size xs) (2 ^ 64 - 1) → count / known ≡ count / known_size xs
left_is count known xs small is = elim (cases_lt (known_size xs) (2 ^ 64)) [
  | inl lt ↦ (let e : known ≡ known_size xs = omega (arith, is, lt) in ap (λ m. count / m) e)
  | inr past ↦ div-eq_of_lt (omega (arith, is, past, small)) ∙ sym (div-eq_of_lt (omega (arith, past, small)))
]

-- what is made has as many elements
pub size_made : (t : DType) (count : ℕ) (xs : List ℤ) (r : Result (DType × List ℕ) FaultKind) → is_reshape count xs ≡ true
    → ruled_new r ≡ needing (is_reshape count xs) Shape (made t (inferred count xs)) → IfOk r (λ p. size_of p.1 ≡ count)
size_made t count xs (Ok p) e rule =
    let made_so = needing_ok (is_reshape count xs) Shape (made t (inferred count xs)) (array_value (kind_with p.0 p.1 writable)) (sym rule) in
    let kinds = the_kind _ _ (ap Ok (made_ok t (inferred count xs) writable p.0 p.1 (array_value (kind_with p.0 p.1 writable)) made_so.1).1) in
    ap (λ (k : ArrayKind). size_of k.shape) (sym kinds) ∙ (reshapes count xs e).size
size_made t count xs (Err kind) e rule = tt
