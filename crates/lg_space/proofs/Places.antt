-- The indices of a rectangle are the combinations of the numbers of its ranges, and so have their
-- places.
use Rattle.std.proofs.Common.{◌≡◌, ℕ, zero, suc, ◌+◌, ◌-◌, ◌<◌, List, [], ◌∷◌, length, map, Some, slice_get, refl, sym, ap, ◌∙◌, arith}
use Rattle.std.specs.List.{range_with_len}
use Rattle.std.proofs.lemmas.List.FromFn.{length-range_with_len}
use Rattle.std.proofs.lemmas.Option.{slice_get_within, same_Some}
use Rattle.lg_space.specs.Rectangle.{numbers_in, indices, IsIn, volume_of, place_in}
use Rattle.lg_space.proofs.Combinations.{product_of, place_among, PicksAt, length-combinations, combination_at, combination_of}

-- ---- one range

-- a number of the range stands at its distance from the low end
number_at : (a n d i : ℕ) → d < n → a + d ≡ i → slice_get (range_with_len a n) d ≡ Some i
number_at a zero d i below sum = absurd (omega arith)
number_at a (suc n) zero i below sum = ap Some (omega arith)
number_at a (suc n) (suc d) i below sum = number_at (a + 1) n d i (omega arith) (omega arith)

-- and what stands at a place is that number
place_of_number : (a n d i : ℕ) → slice_get (range_with_len a n) d ≡ Some i → (d < n) × (a + d ≡ i)
place_of_number a n d i at =
    let below : d < n = omega (arith, slice_get_within (range_with_len a n) d i at, length-range_with_len a n) in
    (below, same_Some (a + d) i (sym (number_at a n d (a + d) below refl) ∙ at))

-- ---- all ranges

-- the volume is the length of the list of all indices
pub volume_counts : (rect : List (ℕ × ℕ)) → length (indices rect) ≡ volume_of rect
volume_counts rect = length-combinations (map numbers_in rect) ∙ lengths rect
  where
    lengths : (rect : List (ℕ × ℕ)) → product_of (map length (map numbers_in rect)) ≡ volume_of rect
    lengths [] = refl
    lengths (range ∷ rect) = rw (length-range_with_len range.0 (range.1 - range.0), lengths rect) refl

-- how far each coordinate is behind the low end of its axis
abbrev pub offsets : List (ℕ × ℕ) → List ℕ → List ℕ
offsets [] index = []
offsets (range ∷ rect) [] = []
offsets (range ∷ rect) (i ∷ index) = (i - range.0) ∷ offsets rect index

-- the place of an index is that of the combination at its offsets
pub place_among-offsets : (rect : List (ℕ × ℕ)) (index : List ℕ) → place_among (map numbers_in rect) (offsets rect index) ≡ place_in rect index
place_among-offsets [] index = refl
place_among-offsets (range ∷ rect) [] = refl
place_among-offsets (range ∷ rect) (i ∷ index) = rw (volume_counts rect, place_among-offsets rect index) refl

-- the coordinates of an index are the numbers at its offsets
pub picks_offsets : (rect : List (ℕ × ℕ)) (index : List ℕ) → IsIn rect index → PicksAt (map numbers_in rect) (offsets rect index) index
picks_offsets [] [] inside = tt
picks_offsets (range ∷ rect) (i ∷ index) inside =
    (number_at range.0 (range.1 - range.0) (i - range.0) i (omega (arith, inside.0, inside.1)) (omega (arith, inside.0)), picks_offsets rect index inside.2)
picks_offsets rect index inside = elim inside [ ]

-- and numbers of the ranges are the coordinates of an index, which has their places as its offsets
pub picked_inside : (rect : List (ℕ × ℕ)) (ds index : List ℕ) → PicksAt (map numbers_in rect) ds index → IsIn rect index × (offsets rect index ≡ ds)
picked_inside [] [] [] picks = (tt, refl)
picked_inside (range ∷ rect) (d ∷ ds) (i ∷ index) picks =
    let at = place_of_number range.0 (range.1 - range.0) d i picks.0 in
    let rest = picked_inside rect ds index picks.1 in
    let first : i - range.0 ≡ d = omega (arith, at.1) in
    ((omega (arith, at.1), omega (arith, at.0, at.1), rest.0), cc (first, rest.1))
picked_inside rect ds index picks = elim picks [ ]

-- an index of the rectangle stands at its place in the list
pub stands_at_place : (rect : List (ℕ × ℕ)) (index : List ℕ) → IsIn rect index → slice_get (indices rect) (place_in rect index) ≡ Some index
stands_at_place rect index inside =
    ap (slice_get (indices rect)) (sym (place_among-offsets rect index)) ∙ combination_at (map numbers_in rect) (offsets rect index) index (picks_offsets rect index inside)

-- what stands in the list is an index of the rectangle, and stands at its place alone
pub stands_once : (rect : List (ℕ × ℕ)) (k : ℕ) (index : List ℕ) → slice_get (indices rect) k ≡ Some index → IsIn rect index × (place_in rect index ≡ k)
stands_once rect k index at =
    let picked = combination_of (map numbers_in rect) k index at in
    let found = picked_inside rect picked.0 index picked.1 in
    (found.0, sym (place_among-offsets rect index) ∙ ap (place_among (map numbers_in rect)) found.1 ∙ picked.2)

-- the place of an index is below the volume
pub place-below : (rect : List (ℕ × ℕ)) (index : List ℕ) → IsIn rect index → place_in rect index < volume_of rect
place-below rect index inside = omega (arith, slice_get_within (indices rect) (place_in rect index) index (stands_at_place rect index inside), volume_counts rect)
