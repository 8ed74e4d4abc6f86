-- Indices of a rectangle, axis by axis.
use Rattle.std.proofs.Common.{◌≡◌, ℕ, zero, suc, ◌+◌, ◌-◌, ◌*◌, ◌<◌, ◌≤◌, List, [], ◌∷◌, length, get_or, drop, refl, sym, ap, ◌∙◌, arith, add-one}
use Rattle.std.proofs.lemmas.List.{drop_all}
use Rattle.std.proofs.lemmas.Nat.{rows}
use Rattle.std.proofs.Math.Nat.{mul-le-mul_left}
use Rattle.lg_space.specs.Rectangle.{IsIn, volume_of, place_in}
use Rattle.lg_space.proofs.Places.{place-below}

pub same_axes : (rect : List (ℕ × ℕ)) (index : List ℕ) → IsIn rect index → length rect ≡ length index
same_axes [] [] h = refl
same_axes [] (x ∷ index) h = absurd h
same_axes (range ∷ rect) [] h = absurd h
same_axes (range ∷ rect) (x ∷ index) h = ap suc (same_axes rect index h.2)

-- the axes from one on
pub in-drop : (rect : List (ℕ × ℕ)) (index : List ℕ) (axis : ℕ) → IsIn rect index → IsIn (drop axis rect) (drop axis index)
in-drop rect index zero h = h
in-drop [] [] (suc axis) h = h
in-drop [] (x ∷ index) (suc axis) h = absurd h
in-drop (range ∷ rect) [] (suc axis) h = absurd h
in-drop (range ∷ rect) (x ∷ index) (suc axis) h = in-drop rect index axis h.2

-- one axis
pub record Between (rect : List (ℕ × ℕ)) (index : List ℕ) (axis : ℕ) : Type 0 where
  pub from : (get_or rect axis (0, 0)).0 ≤ get_or index axis 0
  pub below : get_or index axis 0 < (get_or rect axis (0, 0)).1

pub between_at : (rect : List (ℕ × ℕ)) (index : List ℕ) (axis : ℕ) → IsIn rect index → axis < length rect → Between rect index axis
between_at [] index axis h lt = absurd (omega arith)
between_at (range ∷ rect) [] axis h lt = absurd h
between_at (range ∷ rect) (x ∷ index) zero h lt = record { from = h.0; below = h.1 }
between_at (range ∷ rect) (x ∷ index) (suc axis) h lt =
    let b = between_at rect index axis h.2 (omega arith) in
    record { from = b.from; below = b.below }

-- the place so far, in front of the places behind it
abbrev pub at_axis : (rect : List (ℕ × ℕ)) (index : List ℕ) (axis place : ℕ) → ℕ
at_axis rect index axis place = place * volume_of (drop axis rect) + place_in (drop axis rect) (drop axis index)

one_axis : (place extent offset volume rest : ℕ) → place * (extent * volume) + (offset * volume + rest) ≡ (place * extent + offset) * volume + rest
one_axis place extent offset volume rest = grind (arith, rows)

-- the place with one coordinate more
abbrev pub place_with : (rect : List (ℕ × ℕ)) (index : List ℕ) (axis place : ℕ) → ℕ
place_with rect index axis place =
    place * ((get_or rect axis (0, 0)).1 - (get_or rect axis (0, 0)).0) + (get_or index axis 0 - (get_or rect axis (0, 0)).0)

-- the next axis
pub next_axis : (rect : List (ℕ × ℕ)) (index : List ℕ) (axis place : ℕ) → IsIn rect index → axis < length rect
    → at_axis rect index axis place ≡ at_axis rect index (suc axis) (place_with rect index axis place)
next_axis [] index axis place h lt = absurd (omega arith)
next_axis (range ∷ rect) [] axis place h lt = absurd h
next_axis (range ∷ rect) (x ∷ index) zero place h lt = one_axis place (range.1 - range.0) (x - range.0) (volume_of rect) (place_in rect index)
next_axis (range ∷ rect) (x ∷ index) (suc axis) place h lt = next_axis rect index axis place h.2 (omega arith)

-- no place so far is above the whole
pub place_so_far : (rect : List (ℕ × ℕ)) (index : List ℕ) (axis place total : ℕ) → IsIn rect index → at_axis rect index axis place ≡ total → place ≤ total
place_so_far rect index axis place total h e =
    let below = place-below (drop axis rect) (drop axis index) (in-drop rect index axis h) in
    let least : place * 1 ≤ place * volume_of (drop axis rect) = mul-le-mul_left place (omega arith) in
    omega arith

-- what is known where an axis is reached
pub record AtAxis (rect : List (ℕ × ℕ)) (index : List ℕ) (axis place : ℕ) : Type 0 where
  pub reached : axis < length index
  pub between : Between rect index axis
  pub small : place_with rect index axis place < volume_of rect
  pub next : at_axis rect index (axis + 1) (place_with rect index axis place) ≡ place_in rect index

pub known_at : (rect : List (ℕ × ℕ)) (index : List ℕ) (axis place : ℕ) → IsIn rect index → axis < length rect
    → at_axis rect index axis place ≡ place_in rect index → AtAxis rect index axis place
known_at rect index axis place h lt e =
    let next = sym (next_axis rect index axis place h lt) ∙ e in
    let small = place_so_far rect index (suc axis) (place_with rect index axis place) (place_in rect index) h next in
    record {
      reached = omega (arith, same_axes rect index h);
      between = between_at rect index axis h lt;
      small = omega (arith, small, place-below rect index h);
      next = rw add-one next;
    }

-- past the last axis nothing is left
pub past_axes : (rect : List (ℕ × ℕ)) (index : List ℕ) (axis place : ℕ) → IsIn rect index → length rect ≤ axis → at_axis rect index axis place ≡ place
past_axes rect index axis place h past =
    ap (λ (r : List (ℕ × ℕ)). place * volume_of r + place_in r (drop axis index)) (drop_all axis rect past) ∙ (omega arith)
