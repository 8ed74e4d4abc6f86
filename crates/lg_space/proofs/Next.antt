-- The index at the next place, and places side by side.
use Rattle.std.proofs.Common.{◌≡◌, ◌≢◌, ℕ, zero, suc, ◌+◌, ◌-◌, ◌*◌, ◌<◌, ◌≤◌, ◌↔◌, List, [], ◌∷◌, ◌++◌, length, get_or, set, take, Option, Some, None, IsSome, IfSome, slice_get, refl, sym, ap, ◌∙◌, inl, inr, arith, length-take}
use Rattle.std.proofs.lemmas.Bool.{cases_lt}
use Rattle.std.proofs.lemmas.List.{length-set, get_or-take, get_or-set_same, get_or-set_other}
use Rattle.std.proofs.lemmas.Option.{slice_get_past, slice_get_within, slice_get-get_or}
use Rattle.lg_space.specs.Rectangle.{indices, IsIn, volume_of, place_in}
use Rattle.lg_space.proofs.Places.{volume_counts, stands_at_place, stands_once}
use Rattle.lg_space.proofs.Inside.{between_at}

-- one more times a number
one_more : (n volume : ℕ) → (n + 1) * volume ≡ n * volume + volume
one_more n volume = grind arith

-- how far a number is above the low end, if it goes up by one
up_by_one : (low n up volume : ℕ) → low ≤ n → up ≡ n + 1 → (up - low) * volume ≡ (n - low) * volume + volume
up_by_one low n up volume from e =
    let away : up - low ≡ (n - low) + 1 = omega arith in
    ap (λ k. k * volume) away ∙ one_more (n - low) volume

-- the index of all low ends is the first one
first_place : (rect : List (ℕ × ℕ)) (index new : List ℕ) → IsIn rect index → length new ≡ length rect
    → ((k : ℕ) → k < length rect → get_or new k 0 ≡ (get_or rect k (0, 0)).0) → IsIn rect new × (place_in rect new ≡ 0)
first_place [] [] [] inside same low = (tt, refl)
first_place [] [] (n ∷ new) inside same low = absurd (omega arith)
first_place [] (i ∷ index) new inside same low = absurd inside
first_place (range ∷ rect) [] new inside same low = absurd inside
first_place (range ∷ rect) (i ∷ index) [] inside same low = absurd (omega arith)
first_place (range ∷ rect) (i ∷ index) (n ∷ new) inside same low =
    let here : n ≡ range.0 = low 0 (omega arith) in
    let rest = first_place rect index new inside.2 (omega arith) (λ k lt. low (suc k) (omega arith)) in
    let none : n - range.0 ≡ 0 = omega arith in
    ((omega arith, omega (arith, inside.0, inside.1), rest.0), omega (arith, ap (λ d. d * volume_of rect) none, rest.1))

-- the index of all greatest coordinates is the last one
last_place : (rect : List (ℕ × ℕ)) (index : List ℕ) → IsIn rect index
    → ((k : ℕ) → k < length rect → get_or index k 0 + 1 ≡ (get_or rect k (0, 0)).1) → place_in rect index + 1 ≡ volume_of rect
last_place [] [] inside high = refl
last_place [] (i ∷ index) inside high = absurd inside
last_place (range ∷ rect) [] inside high = absurd inside
last_place (range ∷ rect) (i ∷ index) inside high =
    let here : i + 1 ≡ range.1 = high 0 (omega arith) in
    let rest = last_place rect index inside.2 (λ k lt. high (suc k) (omega arith)) in
    omega (arith, rest, up_by_one range.0 i range.1 (volume_of rect) inside.0 (sym here))

-- one coordinate goes up by one, those behind it were at their ends and begin anew
next_place : (rect : List (ℕ × ℕ)) (index new : List ℕ) (axis : ℕ) → IsIn rect index → axis < length rect → length new ≡ length rect
    → ((k : ℕ) → k < axis → get_or new k 0 ≡ get_or index k 0)
    → get_or new axis 0 ≡ get_or index axis 0 + 1 → get_or new axis 0 < (get_or rect axis (0, 0)).1
    → ((k : ℕ) → axis < k → k < length rect → get_or new k 0 ≡ (get_or rect k (0, 0)).0)
    → ((k : ℕ) → axis < k → k < length rect → get_or index k 0 + 1 ≡ (get_or rect k (0, 0)).1)
    → IsIn rect new × (place_in rect new ≡ place_in rect index + 1)
next_place [] index new axis inside lt same front up below anew last = absurd (omega arith)
next_place (range ∷ rect) [] new axis inside lt same front up below anew last = absurd inside
next_place (range ∷ rect) (i ∷ index) [] axis inside lt same front up below anew last = absurd (omega arith)
next_place (range ∷ rect) (i ∷ index) (n ∷ new) zero inside lt same front up below anew last =
    let behind = first_place rect index new inside.2 (omega arith) (λ k h. anew (suc k) (omega arith) (omega arith)) in
    let end = last_place rect index inside.2 (λ k h. last (suc k) (omega arith) (omega arith)) in
    ((omega (arith, inside.0), below, behind.0), omega (arith, up_by_one range.0 i n (volume_of rect) inside.0 up, behind.1, end))
next_place (range ∷ rect) (i ∷ index) (n ∷ new) (suc axis) inside lt same front up below anew last =
    let here : n ≡ i = front 0 (omega arith) in
    let rest = next_place rect index new axis inside.2 (omega arith) (omega arith) (λ k h. front (suc k) (omega arith)) up below
    (λ k h g. anew (suc k) (omega arith) (omega arith)) (λ k h g. last (suc k) (omega arith) (omega arith)) in
    ((omega (arith, inside.0), omega (arith, inside.1), rest.0), omega (arith, ap (λ d. (d - range.0) * volume_of rect) here, rest.1))

-- ---- the loop from the last axis down

-- from this axis on the coordinates were at their ends, and begin anew
pub record Carried (rect : List (ℕ × ℕ)) (index at : List ℕ) (axis : ℕ) : Type 0 where
  pub room : length at ≡ 4
  pub front : (k : ℕ) → k < axis → get_or at k 0 ≡ get_or index k 0
  pub anew : (k : ℕ) → axis ≤ k → k < length rect → get_or at k 0 ≡ (get_or rect k (0, 0)).0
  pub last : (k : ℕ) → axis ≤ k → k < length rect → get_or index k 0 + 1 ≡ (get_or rect k (0, 0)).1

module _ (rect : List (ℕ × ℕ)) (index at : List ℕ) (axis : ℕ) (inside : IsIn rect index) (few : length rect ≤ 4) (lt : axis < length rect)
    (so_far : Carried rect index at (axis + 1)) where
  unchanged : get_or at axis 0 ≡ get_or index axis 0
  unchanged = so_far.front axis (omega arith)

  -- the coordinate is one of the axis
  pub at_most : get_or at axis 0 < (get_or rect axis (0, 0)).1
  at_most = omega (arith, unchanged, (between_at rect index axis inside lt).below)

  -- it was at its end
  pub carried_more : (get_or rect axis (0, 0)).1 ≤ get_or at axis 0 + 1 → Carried rect index (set at axis (get_or rect axis (0, 0)).0) axis
  carried_more past =
      let low = (get_or rect axis (0, 0)).0 in
      let long : axis < length at = omega (arith, so_far.room) in
      record {
        room = length-set at axis low ∙ so_far.room;
        front = λ k h. get_or-set_other at axis k low 0 (λ e. omega arith) ∙ so_far.front k (omega arith);
        anew = λ k h g. elim (cases_lt axis k) [
          | inl behind ↦ get_or-set_other at axis k low 0 (λ e. omega arith) ∙ so_far.anew k (omega arith) g
          | inr not_behind ↦
              let e : axis ≡ k = omega arith in
              rw (sym e) (get_or-set_same at axis low 0 long)
        ];
        last = λ k h g. elim (cases_lt axis k) [
          | inl behind ↦ so_far.last k (omega arith) g
          | inr not_behind ↦
              let e : axis ≡ k = omega arith in
              let end : get_or index axis 0 + 1 ≡ (get_or rect axis (0, 0)).1 =
              omega (arith, past, unchanged, (between_at rect index axis inside lt).below) in
              rw (sym e) end
        ];
      }

  -- it goes up
  pub went_up : (new : List ℕ) (up : ℕ) → up ≡ get_or at axis 0 + 1 → up < (get_or rect axis (0, 0)).1 → new ≡ take (length rect) (set at axis up)
      → Some new ≡ slice_get (indices rect) (place_in rect index + 1)
  went_up new up is below e =
      let made = take (length rect) (set at axis up) in
      let long : axis < length at = omega (arith, so_far.room) in
      let same : length made ≡ length rect = omega (arith, length-take (length rect) (set at axis up), length-set at axis up, so_far.room) in
      let here : get_or made axis 0 ≡ up = get_or-take (length rect) (set at axis up) axis 0 lt ∙ get_or-set_same at axis up 0 long in
      let other : (k : ℕ) → k < length rect → k ≢ axis → get_or made k 0 ≡ get_or at k 0 =
      λ k h apart. get_or-take (length rect) (set at axis up) k 0 h ∙ get_or-set_other at axis k up 0 apart in
      let next = next_place rect index made axis inside lt same
      (λ k h. other k (omega arith) (λ q. omega arith) ∙ so_far.front k (omega arith))
      (omega (arith, here, is, unchanged)) (omega (arith, here))
      (λ k h g. other k g (λ q. omega arith) ∙ so_far.anew k (omega arith) g)
      (λ k h g. so_far.last k (omega arith) g) in
      ap Some e ∙ sym (ap (slice_get (indices rect)) (sym next.1) ∙ stands_at_place rect made next.0)

-- no coordinate could go up
pub at_the_end : (rect : List (ℕ × ℕ)) (index at : List ℕ) → IsIn rect index → Carried rect index at 0
    → None ≡ slice_get (indices rect) (place_in rect index + 1)
at_the_end rect index at inside h =
    let end = last_place rect index inside (λ k lt. h.last k (omega arith) lt) in
    sym (slice_get_past (indices rect) (place_in rect index + 1) (omega (arith, end, volume_counts rect)))

-- ---- what stands at the next place

-- it is an index of the rectangle, and that is its place
pub found_inside : (rect : List (ℕ × ℕ)) (k : ℕ) (found : Option (List ℕ)) → found ≡ slice_get (indices rect) k
    → IfSome found (λ q. IsIn rect q × (place_in rect q ≡ k))
found_inside rect k None e = tt
found_inside rect k (Some q) e = stands_once rect k q (sym e)

-- there is one below the volume
pub found_below : (rect : List (ℕ × ℕ)) (k : ℕ) (found : Option (List ℕ)) → found ≡ slice_get (indices rect) k
    → IsSome found ↔ (k < volume_of rect)
found_below rect k None e = (λ h. absurd (cc), λ h. (let at = slice_get-get_or (indices rect) k [] (omega (arith, volume_counts rect)) in absurd (cc)))
found_below rect k (Some q) e = (λ h. omega (arith, slice_get_within (indices rect) k q (sym e), volume_counts rect), λ h. refl)

-- ---- the law

-- indices that differ on the last axis alone
pub side_by_side : (rect : List (ℕ × ℕ)) (last : ℕ × ℕ) (index : List ℕ) (k : ℕ) → length index ≡ length rect
    → place_in (rect ++ last ∷ []) (index ++ k ∷ []) ≡ place_in (rect ++ last ∷ []) (index ++ last.0 ∷ []) + (k - last.0)
side_by_side [] last [] k same = omega arith
side_by_side [] last (i ∷ index) k same = absurd (omega arith)
side_by_side (range ∷ rect) last [] k same = absurd (omega arith)
side_by_side (range ∷ rect) last (i ∷ index) k same = omega (arith, side_by_side rect last index k (omega arith))
