-- The part of a list by blocks is the part by indices.
use Rattle.std.proofs.Common.{◌≡◌, ℕ, zero, suc, ◌+◌, ◌*◌, ◌-◌, ◌<◌, ◌≤◌, List, [], ◌∷◌, ◌++◌, length, map, take, drop, Some, None, slice_get, inl, inr, Decides, ◌==◌, ◌&&◌, refl, sym, ap, ◌∙◌, arith, length-take, length-drop, append_assoc}
use Rattle.std.specs.List.{flat_map, range_with_len, slice_range}
use Rattle.std.proofs.lemmas.List.{append-nil, drop-drop, map-append, nil_from_length}
use Rattle.std.specs.Option.{option_map}
use Rattle.std.proofs.lemmas.Option.{slice_get-map, slice_get_cases, slice_get_past, same_Some}
use Rattle.std.proofs.Math.Nat.{mul-le-mul_right}
use Rattle.std.proofs.lemmas.Bool.Decides.{Decides-eqb, Decides-and}
use Rattle.lg_space.specs.Rectangle.{numbers_in, indices, IsIn, volume_of, place_in}
use Rattle.lg_space.proofs.Places.{stands_once, place-below, volume_counts}
use Rattle.lg_tile.specs.Blocks.{IsPart, block, section}
use Rattle.lg_tile.specs.Sections.{Covers, IsSection}

-- ---- one axis

-- the first item, and those behind it
take_first : {A : Type 0} (n : ℕ) (ys : List A) → take (suc n) ys ≡ take 1 ys ++ take n (drop 1 ys)
take_first zero [] = refl
take_first (suc n) [] = refl
take_first n (y ∷ ys) = refl

-- blocks of one item each, one behind the other
blocks_of_one : {A : Type 0} (xs : List A) (a low n : ℕ) → a ≤ low → flat_map (λ i. block 1 xs (i - a)) (range_with_len low n) ≡ take n (drop (low - a) xs)
blocks_of_one xs a low zero h = refl
blocks_of_one xs a low (suc n) h =
    let k = low - a in
    let size : k * 1 + 1 - k * 1 ≡ 1 = omega arith in
    let start : k * 1 ≡ k = omega arith in
    let next : low + 1 - a ≡ k + 1 = omega arith in
    let rest : flat_map (λ i. block 1 xs (i - a)) (range_with_len (low + 1) n) ≡ take n (drop (low + 1 - a) xs) = blocks_of_one xs a (low + 1) n (omega arith) in
    ap (λ m. take m (drop (k * 1) xs) ++ flat_map (λ i. block 1 xs (i - a)) (range_with_len (low + 1) n)) size
    ∙ ap (λ m. take 1 (drop m xs) ++ flat_map (λ i. block 1 xs (i - a)) (range_with_len (low + 1) n)) start
    ∙ ap (take 1 (drop k xs) ++◌) (rest ∙ ap (λ m. take n (drop m xs)) next ∙ ap (take n) (sym (drop-drop 1 k xs)))
    ∙ sym (take_first n (drop k xs))

-- the part of one axis lies side by side
pub one_run : {A : Type 0} (all some : ℕ × ℕ) (xs : List A) → IsPart (all ∷ []) (some ∷ []) → section (all ∷ []) (some ∷ []) xs ≡ slice_range xs (some.0 - all.0) (some.1 - all.0)
one_run all some xs part =
    blocks_of_one xs all.0 some.0 (some.1 - some.0) part.0
    ∙ ap (λ n. take n (drop (some.0 - all.0) xs)) (omega (arith, part.0))

-- ---- one block more

flat_map-range_more : {A : Type 0} (f : ℕ → List A) (a n : ℕ) → flat_map f (range_with_len a (suc n)) ≡ flat_map f (range_with_len a n) ++ f (a + n)
flat_map-range_more f a zero = append-nil (f a) ∙ ap f (omega arith)
flat_map-range_more f a (suc n) =
    ap (f a ++◌) (flat_map-range_more f (a + 1) n ∙ ap (λ m. flat_map f (range_with_len (a + 1) n) ++ f m) (omega arith))
    ∙ sym (append_assoc (f a) (flat_map f (range_with_len (a + 1) n)) (f (a + suc n)))

-- what was appended so far, and the block of the next coordinate behind it
pub block_more : {A : Type 0} (f : ℕ → List A) (before out next : List A) (a i : ℕ) → a ≤ i → out ≡ before ++ flat_map f (range_with_len a (i - a)) → next ≡ out ++ f i
    → next ≡ before ++ flat_map f (range_with_len a (i + 1 - a))
block_more f before out next a i h so then =
    let at : i ≡ a + (i - a) = omega arith in
    let count : suc (i - a) ≡ i + 1 - a = omega arith in
    then ∙ ap (λ l. l ++ f i) so ∙ append_assoc before (flat_map f (range_with_len a (i - a))) (f i)
    ∙ ap (λ m. before ++ (flat_map f (range_with_len a (i - a)) ++ f m)) at
    ∙ ap (before ++◌) (sym (flat_map-range_more f a (i - a)) ∙ ap (λ m. flat_map f (range_with_len a m)) count)

-- ---- by indices

map-flat_map : {A B C : Type 0} (f : B → C) (h : A → List B) (xs : List A) → map f (flat_map h xs) ≡ flat_map (λ x. map f (h x)) xs
map-flat_map f h [] = refl
map-flat_map f h (x ∷ xs) = map-append f (h x) (flat_map h xs) ∙ ap (map f (h x) ++◌) (map-flat_map f h xs)

pub map-map : {A B C : Type 0} (f : B → C) (h : A → B) (xs : List A) → map f (map h xs) ≡ map (λ x. f (h x)) xs
map-map f h [] = refl
map-map f h (x ∷ xs) = ap (f (h x) ∷◌) (map-map f h xs)

-- two functions that agree on the members
pub map_along : {A B : Type 0} (f h : A → B) (xs : List A) → ((k : ℕ) (x : A) → slice_get xs k ≡ Some x → f x ≡ h x) → map f xs ≡ map h xs
map_along f h [] same = refl
map_along f h (x ∷ xs) same = ap (λ y. y ∷ map f xs) (same 0 x refl) ∙ ap (h x ∷◌) (map_along f h xs (λ k y at. same (suc k) y at))

flat_map-range_along : {A : Type 0} (f h : ℕ → List A) (a n : ℕ) → ((i : ℕ) → a ≤ i → i < a + n → f i ≡ h i) → flat_map f (range_with_len a n) ≡ flat_map h (range_with_len a n)
flat_map-range_along f h a zero same = refl
flat_map-range_along f h a (suc n) same =
    ap (λ l. l ++ flat_map f (range_with_len (a + 1) n)) (same a (omega arith) (omega arith))
    ∙ ap (h a ++◌) (flat_map-range_along f h (a + 1) n (λ i low high. same i (omega arith) (omega arith)))

-- an index of the part is one of the whole
pub part_covers : (whole part : List (ℕ × ℕ)) → IsPart whole part → Covers whole part
part_covers [] [] h index inside = inside
part_covers [] (some ∷ part) h index inside = elim h [ ]
part_covers (all ∷ whole) [] h index inside = elim h [ ]
part_covers (all ∷ whole) (some ∷ part) h [] inside = elim inside [ ]
part_covers (all ∷ whole) (some ∷ part) h (i ∷ index) inside =
    (omega (arith, h.0, inside.0), omega (arith, h.1, inside.1), part_covers whole part h.2 index inside.2)

-- what stands in a block
slice_get-drop : {A : Type 0} (xs : List A) (n j : ℕ) → slice_get (drop n xs) j ≡ slice_get xs (n + j)
slice_get-drop xs zero j = ap (slice_get xs) (omega arith)
slice_get-drop [] (suc n) j = refl
slice_get-drop (x ∷ xs) (suc n) j = slice_get-drop xs n j ∙ ap (slice_get (x ∷ xs)) (sym (suc-add n j))
  where
    suc-add : (n j : ℕ) → suc n + j ≡ suc (n + j)
    suc-add n j = omega arith

slice_get-take : {A : Type 0} (xs : List A) (m j : ℕ) → j < m → slice_get (take m xs) j ≡ slice_get xs j
slice_get-take xs zero j h = absurd (omega arith)
slice_get-take [] (suc m) j h = refl
slice_get-take (x ∷ xs) (suc m) zero h = refl
slice_get-take (x ∷ xs) (suc m) (suc j) h = slice_get-take xs m j (omega arith)

slice_get-block : {A : Type 0} (size : ℕ) (xs : List A) (k j : ℕ) → j < size → slice_get (block size xs k) j ≡ slice_get xs (k * size + j)
slice_get-block size xs k j h = slice_get-take (drop (k * size) xs) (k * size + size - k * size) j (omega arith) ∙ slice_get-drop xs (k * size) j

pub length-block : {A : Type 0} (size count : ℕ) (xs : List A) (k : ℕ) → length xs ≡ count * size → k < count → length (block size xs k) ≡ size
length-block size count xs k full below =
    let fits : (k + 1) * size ≤ count * size = mul-le-mul_right size (omega arith) in
    omega (arith, length-take (k * size + size - k * size) (drop (k * size) xs), length-drop (k * size) xs, fits, full)

pub section_stands : {A : Type 0} (whole part : List (ℕ × ℕ)) (xs : List A) → IsPart whole part → length xs ≡ volume_of whole → IsSection whole part xs (section whole part xs)
section_stands [] [] [] h full = absurd (omega arith)
section_stands [] [] (x ∷ []) h full = refl
section_stands [] [] (x ∷ y ∷ xs) h full = absurd (omega arith)
section_stands [] (some ∷ part) xs h full = elim h [ ]
section_stands (all ∷ whole) [] xs h full = elim h [ ]
section_stands (all ∷ whole) (some ∷ part) xs h full =
    let size = volume_of whole in
    let at = λ (index : List ℕ). slice_get xs (place_in (all ∷ whole) index) in
    map-flat_map Some (λ i. section whole part (block size xs (i - all.0))) (numbers_in some)
    ∙ flat_map-range_along _ (λ i. map at (map (λ index. i ∷ index) (indices part))) some.0 (some.1 - some.0)
    (λ i low high.
    section_stands whole part (block size xs (i - all.0)) h.2 (length-block size (all.1 - all.0) xs (i - all.0) full (omega (arith, h.0, h.1)))
    ∙ map_along _ (λ index. slice_get xs ((i - all.0) * size + place_in whole index)) (indices part)
    (λ k index found. slice_get-block size xs (i - all.0) (place_in whole index) (place-below whole index (part_covers whole part h.2 index (stands_once part k index found).0)))
    ∙ sym (map-map at (λ index. i ∷ index) (indices part)))
    ∙ sym (map-flat_map at (λ i. map (λ index. i ∷ index) (indices part)) (numbers_in some))

-- ---- from indices to ranges

filled_parts : (m n : ℕ) → 0 < m * n → (0 < m) × (0 < n)
filled_parts zero n h = absurd (omega arith)
filled_parts (suc m) zero h = absurd (omega arith)
filled_parts (suc m) (suc n) h = (omega arith, omega arith)

-- the first index of a rectangle that has one
abbrev lows : List (ℕ × ℕ) → List ℕ
lows [] = []
lows (range ∷ rect) = range.0 ∷ lows rect

lows_inside : (rect : List (ℕ × ℕ)) → 0 < volume_of rect → IsIn rect (lows rect)
lows_inside [] filled = tt
lows_inside (range ∷ rect) filled =
    let f = filled_parts (range.1 - range.0) (volume_of rect) filled in
    (omega arith, omega (arith, f.0), lows_inside rect f.1)

pub covered_part : (whole part : List (ℕ × ℕ)) → 0 < volume_of part → Covers whole part → IsPart whole part
covered_part [] [] filled covers = tt
covered_part [] (some ∷ part) filled covers = elim (covers (lows (some ∷ part)) (lows_inside (some ∷ part) filled)) [ ]
covered_part (all ∷ whole) [] filled covers = elim (covers [] tt) [ ]
covered_part (all ∷ whole) (some ∷ part) filled covers =
    let f = filled_parts (some.1 - some.0) (volume_of part) filled in
    let low : some.0 ≤ some.0 = omega arith in
    let high : some.0 < some.1 = omega (arith, f.0) in
    let first = covers (lows (some ∷ part)) (lows_inside (some ∷ part) filled) in
    let last : IsIn (all ∷ whole) ((some.1 - 1) ∷ lows part) = covers ((some.1 - 1) ∷ lows part) (omega (arith, high), omega (arith, high), lows_inside part f.1) in
    (first.0, omega (arith, last.1), covered_part whole part f.1 (λ index inside. (covers (some.0 ∷ index) (low, high, inside)).2))

-- ---- the part that is the whole, and the part without an index

same_by_places : {A : Type 0} (xs ys : List A) → ((k : ℕ) → slice_get xs k ≡ slice_get ys k) → xs ≡ ys
same_by_places [] [] same = refl
same_by_places [] (y ∷ ys) same = let e : None ≡ Some y = same 0 in cc
same_by_places (x ∷ xs) [] same = let e : Some x ≡ None = same 0 in cc
same_by_places (x ∷ xs) (y ∷ ys) same = ap (λ z. z ∷ xs) (same_Some x y (same 0)) ∙ ap (y ∷◌) (same_by_places xs ys (λ k. same (suc k)))

pub whole_section : {A : Type 0} (whole part : List (ℕ × ℕ)) (xs : List A) → part ≡ whole → length xs ≡ volume_of whole → IsSection whole part xs xs
whole_section whole part xs is full =
    let at = λ (index : List ℕ). slice_get xs (place_in whole index) in
    same_by_places (map Some xs) (map at (indices whole)) (λ k.
    slice_get-map Some xs k
    ∙ elim (slice_get_cases (indices whole) k).1 [
      | inl h ↦
          elim (slice_get_cases xs k).1 [
            | inl g ↦
                ap (option_map Some) g.2 ∙ ap Some (sym g.2 ∙ ap (slice_get xs) (sym (stands_once whole k h.0 h.2).1))
                ∙ ap (option_map at) (sym h.2)
            | inr g ↦ absurd (omega (arith, h.1, g.0, full, volume_counts whole))
          ]
      | inr h ↦ ap (option_map Some) (slice_get_past xs k (omega (arith, h.0, full, volume_counts whole))) ∙ ap (option_map at) (sym h.1)
    ]
    ∙ sym (slice_get-map at (indices whole) k))
    ∙ ap (λ rect. map at (indices rect)) (sym is)

pub empty_section : {A : Type 0} (whole part : List (ℕ × ℕ)) (xs members : List A) → volume_of part ≡ 0 → members ≡ [] → IsSection whole part xs members
empty_section whole part xs members empty none =
    ap (map Some) none ∙ ap (map (λ index. slice_get xs (place_in whole index))) (sym (nil_from_length (indices part) (volume_counts part ∙ empty)))

-- the test of two rectangles by their ranges
pub same_ranges : (a b : ℕ × ℕ) → Decides ((a.0 == b.0) && (a.1 == b.1)) (a ≡ b)
same_ranges a b =
    let both = Decides-and (a.0 == b.0) (a.1 == b.1) (Decides-eqb a.0 b.0) (Decides-eqb a.1 b.1) in
    (λ t. λ i. ((both.0 t).0 i, (both.0 t).1 i), λ e. both.1 (ap (λ r. r.0) e, ap (λ r. r.1) e))
