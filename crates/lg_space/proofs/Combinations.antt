-- How many combinations there are, and at which place each stands.
use Rattle.std.proofs.Common.{◌≡◌, ℕ, zero, suc, ◌+◌, ◌*◌, ◌-◌, ◌<◌, List, [], ◌∷◌, ◌++◌, length, map, Option, Some, None, slice_get, refl, sym, subst, ap, ◌∙◌, inl, inr, arith, length-append}
use Rattle.std.specs.List.{flat_map}
use Rattle.std.specs.Option.{option_map}
use Rattle.std.proofs.lemmas.Bool.{cases_lt}
use Rattle.std.proofs.lemmas.List.{length-map}
use Rattle.std.proofs.lemmas.Option.{slice_get-map, slice_get_within, same_Some}
use Rattle.lg_space.specs.Rectangle.{combinations}

-- how many ways there are to take one member of each list, by the lengths of the lists
abbrev pub product_of : List ℕ → ℕ
product_of [] = 1
product_of (n ∷ ns) = n * product_of ns

-- the place of a combination, by the place of each of its members in its list
abbrev pub place_among : {A : Type 0} → List (List A) → List ℕ → ℕ
place_among [] ds = 0
place_among (choices ∷ others) [] = 0
place_among (choices ∷ others) (d ∷ ds) = d * length (combinations others) + place_among others ds

-- the members stand at these places, one of each list
abbrev pub PicksAt : {A : Type 0} → List (List A) → List ℕ → List A → Type 0
PicksAt [] [] [] = Unit {0}
PicksAt (choices ∷ others) (d ∷ ds) (x ∷ xs) = (slice_get choices d ≡ Some x) × PicksAt others ds xs
PicksAt xss ds xs = ⊥

-- ---- a list made of pieces of one length

-- what stands in the first list
slice_get-append_left : {A : Type 0} (xs ys : List A) (k : ℕ) → k < length xs → slice_get (xs ++ ys) k ≡ slice_get xs k
slice_get-append_left [] ys k h = absurd (omega arith)
slice_get-append_left (x ∷ xs) ys zero h = refl
slice_get-append_left (x ∷ xs) ys (suc k) h = slice_get-append_left xs ys k (omega arith)

-- what stands behind it, in the second
slice_get-append_right : {A : Type 0} (xs ys : List A) (j k : ℕ) → k ≡ length xs + j → slice_get (xs ++ ys) k ≡ slice_get ys j
slice_get-append_right [] ys j k e = ap (slice_get ys) (omega arith)
slice_get-append_right (x ∷ xs) ys j zero e = absurd (omega arith)
slice_get-append_right (x ∷ xs) ys j (suc k) e = slice_get-append_right xs ys j k (omega arith)

-- how long such a list is
pub length-pieces : {X A : Type 0} (f : X → List A) (m : ℕ) → ((x : X) → length (f x) ≡ m) → (xs : List X) → length (flat_map f xs) ≡ length xs * m
length-pieces f m even [] = omega arith
length-pieces f m even (x ∷ xs) = omega (arith, length-append (f x) (flat_map f xs), even x, length-pieces f m even xs)

-- the j-th element of the i-th piece
pub slice_get-pieces : {X A : Type 0} (f : X → List A) (m : ℕ) → ((x : X) → length (f x) ≡ m) → (xs : List X) (i j : ℕ) (x : X) (y : A)
    → slice_get xs i ≡ Some x → slice_get (f x) j ≡ Some y → slice_get (flat_map f xs) (i * m + j) ≡ Some y
slice_get-pieces f m even [] i j x y at within = (cc)
slice_get-pieces f m even (z ∷ xs) zero j x y at within =
    let here : slice_get (f z) j ≡ Some y = (cc) in
    let inside : j < length (f z) = slice_get_within (f z) j y here in
    ap (slice_get (f z ++ flat_map f xs)) (omega arith) ∙ slice_get-append_left (f z) (flat_map f xs) j inside ∙ here
slice_get-pieces f m even (z ∷ xs) (suc i) j x y at within =
    slice_get-append_right (f z) (flat_map f xs) (i * m + j) (suc i * m + j) (omega (arith, even z)) ∙ slice_get-pieces f m even xs i j x y at within

-- each element is in a piece
pub piece_of : {X A : Type 0} (f : X → List A) (m : ℕ) → ((x : X) → length (f x) ≡ m) → (xs : List X) (k : ℕ) (y : A)
    → slice_get (flat_map f xs) k ≡ Some y → (i j : ℕ) × (x : X) × (slice_get xs i ≡ Some x) × (slice_get (f x) j ≡ Some y) × (i * m + j ≡ k)
piece_of f m even [] k y at = (cc)
piece_of f m even (z ∷ xs) k y at = elim (cases_lt k (length (f z))) [
  | inl inside ↦ (0, k, z, refl, sym (slice_get-append_left (f z) (flat_map f xs) k inside) ∙ at, omega arith)
  | inr behind ↦
      let j = k - length (f z) in
      let p = piece_of f m even xs j y (sym (slice_get-append_right (f z) (flat_map f xs) j k (omega arith)) ∙ at) in
      (suc p.0, p.1, p.2, p.3, p.4, omega (arith, even z, p.5))
]

-- ---- combinations

-- the combinations that begin with one choice
abbrev behind : {A : Type 0} → List (List A) → A → List (List A)
behind others choice = map (λ rest. choice ∷ rest) (combinations others)

-- there are as many for each choice
behind-even : {A : Type 0} (others : List (List A)) (choice : A) → length (behind others choice) ≡ length (combinations others)
behind-even others choice = length-map (combinations others) (λ rest. choice ∷ rest)

-- what was mapped
some_of_map : {X Y : Type 0} (f : X → Y) (o : Option X) (y : Y) → option_map f o ≡ Some y → (x : X) × (o ≡ Some x) × (f x ≡ y)
some_of_map f None y e = (cc)
some_of_map f (Some x) y e = (x, refl, same_Some (f x) y e)

-- how many combinations there are
pub length-combinations : {A : Type 0} (xss : List (List A)) → length (combinations xss) ≡ product_of (map length xss)
length-combinations [] = refl
length-combinations (choices ∷ others) =
    length-pieces (behind others) (length (combinations others)) (behind-even others) choices ∙ ap (length choices *◌) (length-combinations others)

-- a combination stands at its place
pub combination_at : {A : Type 0} (xss : List (List A)) (ds : List ℕ) (xs : List A) → PicksAt xss ds xs → slice_get (combinations xss) (place_among xss ds) ≡ Some xs
combination_at [] [] [] h = refl
combination_at (choices ∷ others) (d ∷ ds) (x ∷ xs) h =
    slice_get-pieces (behind others) (length (combinations others)) (behind-even others) choices d (place_among others ds) x (x ∷ xs) h.0
    (slice_get-map (λ rest. x ∷ rest) (combinations others) (place_among others ds) ∙ ap (option_map (λ rest. x ∷ rest)) (combination_at others ds xs h.1))
combination_at xss ds xs h = elim h [ ]

-- what stands at a place is a combination, and this is its place
pub combination_of : {A : Type 0} (xss : List (List A)) (k : ℕ) (xs : List A) → slice_get (combinations xss) k ≡ Some xs → (ds : List ℕ) × PicksAt xss ds xs × (place_among xss ds ≡ k)
combination_of [] zero xs at = ([], subst (PicksAt [] []) (same_Some [] xs at) tt, refl)
combination_of [] (suc k) xs at = (cc)
combination_of (choices ∷ others) k xs at =
    let p = piece_of (behind others) (length (combinations others)) (behind-even others) choices k xs at in
    let rest = some_of_map (λ rest. p.2 ∷ rest) (slice_get (combinations others) p.1) xs (sym (slice_get-map (λ rest. p.2 ∷ rest) (combinations others) p.1) ∙ p.4) in
    let q = combination_of others p.1 rest.0 rest.1 in
    (p.0 ∷ q.0, subst (PicksAt (choices ∷ others) (p.0 ∷ q.0)) rest.2 (p.3, q.1), ap (p.0 * length (combinations others) +◌) q.2 ∙ p.5)
