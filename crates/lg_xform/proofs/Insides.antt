-- Indices of rectangles, where an axis is added, taken away or replaced.
use Rattle.std.proofs.Common.{◌≡◌, ℕ, zero, suc, ◌<◌, ◌≤◌, List, [], ◌∷◌, length, map, get_or, set, refl, sym, ap, subst, ◌∙◌, arith}
use Rattle.std.specs.List.{insert, remove}
use Rattle.std.proofs.lemmas.List.{length-map}
use Rattle.lg_space.specs.Rectangle.{IsIn}
use Rattle.lg_shape.specs.Shapes.{whole}

-- ---- lists

pub remove-insert : {X : Type 0} (xs : List X) (j : ℕ) (x : X) → j ≤ length xs → remove (insert xs j x) j ≡ xs
remove-insert xs zero x h = refl
remove-insert [] (suc j) x h = absurd (omega arith)
remove-insert (y ∷ xs) (suc j) x h = ap (λ l. y ∷ l) (remove-insert xs j x (omega arith))

pub insert-remove : {X : Type 0} (xs : List X) (j : ℕ) (d : X) → j < length xs → insert (remove xs j) j (get_or xs j d) ≡ xs
insert-remove [] j d h = absurd (omega arith)
insert-remove (y ∷ xs) zero d h = refl
insert-remove (y ∷ xs) (suc j) d h = ap (λ l. y ∷ l) (insert-remove xs j d (omega arith))

pub map-insert : {X Y : Type 0} (f : X → Y) (xs : List X) (j : ℕ) (x : X) → map f (insert xs j x) ≡ insert (map f xs) j (f x)
map-insert f xs zero x = refl
map-insert f [] (suc j) x = refl
map-insert f (y ∷ xs) (suc j) x = ap (λ l. f y ∷ l) (map-insert f xs j x)

pub map-remove : {X Y : Type 0} (f : X → Y) (xs : List X) (j : ℕ) → map f (remove xs j) ≡ remove (map f xs) j
map-remove f [] zero = refl
map-remove f [] (suc j) = refl
map-remove f (y ∷ xs) zero = refl
map-remove f (y ∷ xs) (suc j) = ap (λ l. f y ∷ l) (map-remove f xs j)

-- ---- indices

pub same_axes : (rect : List (ℕ × ℕ)) (index : List ℕ) → IsIn rect index → length index ≡ length rect
same_axes [] [] h = refl
same_axes [] (i ∷ index) h = absurd h
same_axes (range ∷ rect) [] h = absurd h
same_axes (range ∷ rect) (i ∷ index) h = ap suc (same_axes rect index h.2)

pub in-remove : (rect : List (ℕ × ℕ)) (index : List ℕ) (j : ℕ) → IsIn rect index → IsIn (remove rect j) (remove index j)
in-remove [] [] zero h = tt
in-remove [] [] (suc j) h = tt
in-remove [] (i ∷ index) j h = absurd h
in-remove (range ∷ rect) [] j h = absurd h
in-remove (range ∷ rect) (i ∷ index) zero h = h.2
in-remove (range ∷ rect) (i ∷ index) (suc j) h = (h.0, h.1, in-remove rect index j h.2)

pub in-insert : (rect : List (ℕ × ℕ)) (index : List ℕ) (j : ℕ) (range : ℕ × ℕ) (at : ℕ) → range.0 ≤ at → at < range.1
    → IsIn rect index → IsIn (insert rect j range) (insert index j at)
in-insert rect index zero range at low high h = (low, high, h)
in-insert [] [] (suc j) range at low high h = (low, high, tt)
in-insert [] (i ∷ index) (suc j) range at low high h = absurd h
in-insert (r ∷ rect) [] (suc j) range at low high h = absurd h
in-insert (r ∷ rect) (i ∷ index) (suc j) range at low high h = (h.0, h.1, in-insert rect index j range at low high h.2)

pub in-set : (rect : List (ℕ × ℕ)) (index : List ℕ) (j : ℕ) (range : ℕ × ℕ) (at : ℕ) → range.0 ≤ at → at < range.1
    → IsIn rect index → IsIn (set rect j range) (set index j at)
in-set [] [] j range at low high h = tt
in-set [] (i ∷ index) j range at low high h = absurd h
in-set (r ∷ rect) [] j range at low high h = absurd h
in-set (r ∷ rect) (i ∷ index) zero range at low high h = (low, high, h.2)
in-set (r ∷ rect) (i ∷ index) (suc j) range at low high h = (h.0, h.1, in-set rect index j range at low high h.2)

-- ---- axis by axis

-- the coordinate of one axis is in its range
pub record Between (rect : List (ℕ × ℕ)) (index : List ℕ) (j : ℕ) : Type 0 where
  pub from : (get_or rect j (0, 0)).0 ≤ get_or index j 0
  pub below : get_or index j 0 < (get_or rect j (0, 0)).1

pub between_at : (rect : List (ℕ × ℕ)) (index : List ℕ) (j : ℕ) → IsIn rect index → j < length rect → Between rect index j
between_at [] index j h lt = absurd (omega arith)
between_at (range ∷ rect) [] j h lt = absurd h
between_at (range ∷ rect) (i ∷ index) zero h lt = record { from = h.0; below = h.1 }
between_at (range ∷ rect) (i ∷ index) (suc j) h lt =
    let b = between_at rect index j h.2 (omega arith) in
    record { from = b.from; below = b.below }

-- the same, of the same range and coordinate at another axis
pub between_moved : (rect : List (ℕ × ℕ)) (index : List ℕ) (to : List (ℕ × ℕ)) (at : List ℕ) (j k : ℕ) → get_or to k (0, 0) ≡ get_or rect j (0, 0)
    → get_or at k 0 ≡ get_or index j 0 → Between rect index j → Between to at k
between_moved rect index to at j k e f b = record {
  from = subst (λ (r : ℕ × ℕ). r.0 ≤ get_or at k 0) (sym e) (omega (arith, f, b.from));
  below = subst (λ (r : ℕ × ℕ). get_or at k 0 < r.1) (sym e) (omega (arith, f, b.below));
}

pub in_from_between : (rect : List (ℕ × ℕ)) (index : List ℕ) → length index ≡ length rect
    → ((j : ℕ) → j < length rect → Between rect index j) → IsIn rect index
in_from_between [] [] e h = tt
in_from_between [] (i ∷ index) e h = absurd (omega arith)
in_from_between (range ∷ rect) [] e h = absurd (omega arith)
in_from_between (range ∷ rect) (i ∷ index) e h = (
  let b = h 0 (omega arith) in b.from,
  let b = h 0 (omega arith) in b.below,
  in_from_between rect index (omega arith) (λ j lt. (let b = h (suc j) (omega arith) in record { from = b.from; below = b.below })),
)

-- ---- a whole shape

pub length-whole : (shape : List ℕ) → length (whole shape) ≡ length shape
length-whole shape = length-map {B = ℕ × ℕ} shape (λ (extent : ℕ). (0, extent))

pub get_or-whole : (shape : List ℕ) (j : ℕ) → get_or (whole shape) j (0, 0) ≡ (0, get_or shape j 0)
get_or-whole [] j = refl
get_or-whole (extent ∷ shape) zero = refl
get_or-whole (extent ∷ shape) (suc j) = get_or-whole shape j

pub in_whole_axes : (shape index : List ℕ) → IsIn (whole shape) index → length index ≡ length shape
in_whole_axes shape index h = same_axes (whole shape) index h ∙ length-whole shape

pub in_whole_below : (shape index : List ℕ) (j : ℕ) → IsIn (whole shape) index → j < length shape → get_or index j 0 < get_or shape j 0
in_whole_below [] index j h lt = absurd (omega arith)
in_whole_below (extent ∷ shape) [] j h lt = absurd h
in_whole_below (extent ∷ shape) (i ∷ index) zero h lt = h.1
in_whole_below (extent ∷ shape) (i ∷ index) (suc j) h lt = in_whole_below shape index j h.2 (omega arith)

pub in_whole_from_below : (shape index : List ℕ) → length index ≡ length shape
    → ((j : ℕ) → j < length shape → get_or index j 0 < get_or shape j 0) → IsIn (whole shape) index
in_whole_from_below [] [] e h = tt
in_whole_from_below [] (i ∷ index) e h = absurd (omega arith)
in_whole_from_below (extent ∷ shape) [] e h = absurd (omega arith)
in_whole_from_below (extent ∷ shape) (i ∷ index) e h =
    (omega arith, h 0 (omega arith), in_whole_from_below shape index (omega arith) (λ j lt. h (suc j) (omega arith)))
