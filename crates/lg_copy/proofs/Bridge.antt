-- From the strides of a rectangle to its indices.
use Rattle.std.proofs.Common.{◌≡◌, ℕ, zero, suc, ◌+◌, ◌-◌, ◌*◌, ◌<◌, ◌≤◌, List, [], ◌∷◌, ◌++◌, length, take, drop, map, set, get_or, ℤ, pos, ◌+ℤ◌, ◌*ℤ◌, refl, sym, ap, ◌∙◌, arith}
use Rattle.std.specs.List.{All}
use Rattle.std.proofs.lemmas.Int.{ints}
use Rattle.std.proofs.lemmas.List.{length-map, take_all, take_more_set}
use Rattle.std.proofs.lemmas.List.Elements.{All-nil, All-cons, All-head, All-tail}
use Rattle.lg_space.specs.Rectangle.{IsIn, volume_of, place_in}
use Rattle.lg_space.specs.Stored.{IsStorable, MAX_END}
use Rattle.lg_space.proofs.Places.{place-below}
use Rattle.lg_shape.specs.Shapes.{whole}
use Rattle.lg_shape.specs.Stored.{IsShape}
use Rattle.lg_xform.specs.declared.chain.Chain.{Chain}
use Rattle.lg_xform.specs.Chains.{mapped}
use Rattle.lg_xform.specs.Copies.{along}
use Rattle.lg_copy.specs.declared.axis.Axis.{Axis}
use Rattle.lg_copy.specs.Copying.{Copied, IsAmong, axes_over, way_from, way_to, Goes, AreSome, AreSmall, Fits}
use Rattle.lg_copy.specs.Leading.{LeadsBoth}
use Rattle.lg_copy.proofs.Moves.{copied_none, copied_as}

-- ---- the axes over a rectangle

abbrev axis_over : ℕ × ℕ → ℤ → ℤ → Axis
axis_over range read write = record { count = range.1 - range.0; from = read; to = write }

over_more : (rect : List (ℕ × ℕ)) (reads writes : List ℤ) (k : ℕ) → k < length rect → k < length reads → k < length writes
    → axes_over (take (k + 1) rect) reads writes
    ≡ axes_over (take k rect) reads writes ++ axis_over (get_or rect k (0, 0)) (get_or reads k (pos 0)) (get_or writes k (pos 0)) ∷ []
over_more [] reads writes k a b d = absurd (omega (arith, a))
over_more (range ∷ rect) [] writes k a b d = absurd (omega (arith, b))
over_more (range ∷ rect) (read ∷ reads) [] k a b d = absurd (omega (arith, d))
over_more (range ∷ rect) (read ∷ reads) (write ∷ writes) zero a b d = refl
over_more (range ∷ rect) (read ∷ reads) (write ∷ writes) (suc k) a b d =
    let e : suc k + 1 ≡ suc (k + 1) = omega arith in
    ap (λ n. axes_over (take n (range ∷ rect)) (read ∷ reads) (write ∷ writes)) e
    ∙ ap (λ axes. axis_over range read write ∷ axes) (over_more rect reads writes k (omega (arith, a)) (omega (arith, b)) (omega (arith, d)))

pub over_next : (rect : List (ℕ × ℕ)) (reads writes : List ℤ) (axes : List Axis) (k : ℕ) (read write : ℤ) → k < length rect → k < length reads → k < length writes → k < length axes
    → read ≡ get_or reads k (pos 0) → write ≡ get_or writes k (pos 0) → take k axes ≡ axes_over (take k rect) reads writes
    → take (k + 1) (set axes k (axis_over (get_or rect k (0, 0)) read write)) ≡ axes_over (take (k + 1) rect) reads writes
over_next rect reads writes axes k read write a b d room is_read is_write so_far =
    take_more_set axes k (axis_over (get_or rect k (0, 0)) read write) room
    ∙ (λ i. so_far i ++ axis_over (get_or rect k (0, 0)) (is_read i) (is_write i) ∷ [])
    ∙ sym (over_more rect reads writes k a b d)

pub over_all : (rect : List (ℕ × ℕ)) (reads writes : List ℤ) (axes : List Axis) (k : ℕ) → length rect ≤ k → k ≤ length rect
    → take k axes ≡ axes_over (take k rect) reads writes → take (length rect) axes ≡ axes_over rect reads writes
over_all rect reads writes axes k past within so_far =
    let end : length rect ≡ k = omega (arith, past, within) in
    ap (λ n. take n axes) end ∙ so_far ∙ ap (λ r. axes_over r reads writes) (take_all k rect past)

pub over_small : (rect : List (ℕ × ℕ)) (reads writes : List ℤ) → All (λ (range : ℕ × ℕ). range.1 ≤ MAX_END) rect → AreSmall (axes_over rect reads writes)
over_small [] reads writes h = tt
over_small (range ∷ rect) [] writes h = tt
over_small (range ∷ rect) (read ∷ reads) [] h = tt
over_small (range ∷ rect) (read ∷ reads) (write ∷ writes) h =
    let first : range.1 ≤ MAX_END = All-head (λ (r : ℕ × ℕ). r.1 ≤ MAX_END) range rect h in
    (omega (arith, first), over_small rect reads writes (All-tail (λ (r : ℕ × ℕ). r.1 ≤ MAX_END) range rect h))

-- a product that is not 0 has no factor 0
factors : (e s : ℕ) → 0 < e * s → (0 < e) × (0 < s)
factors zero s h = absurd (omega (arith, h))
factors (suc e) zero h = absurd (omega (arith, h))
factors (suc e) (suc s) h = (omega arith, omega arith)

pub over_some : (rect : List (ℕ × ℕ)) (reads writes : List ℤ) → 0 < volume_of rect → AreSome (axes_over rect reads writes)
over_some [] reads writes h = tt
over_some (range ∷ rect) [] writes h = tt
over_some (range ∷ rect) (read ∷ reads) [] h = tt
over_some (range ∷ rect) (read ∷ reads) (write ∷ writes) h =
    let both = factors (range.1 - range.0) (volume_of rect) h in
    (both.0, over_some rect reads writes both.1)

-- ---- an index, counted from the first one of the rectangle

abbrev from_first : List (ℕ × ℕ) → List ℕ → List ℕ
from_first [] index = []
from_first (range ∷ rect) [] = []
from_first (range ∷ rect) (i ∷ index) = (i - range.0) ∷ from_first rect index

abbrev back : List (ℕ × ℕ) → List ℕ → List ℕ
back [] index = []
back (range ∷ rect) [] = []
back (range ∷ rect) (i ∷ index) = (i + range.0) ∷ back rect index

pub first_among : (rect : List (ℕ × ℕ)) (reads writes : List ℤ) (index : List ℕ) → length rect ≤ length reads → length rect ≤ length writes → IsIn rect index
    → IsAmong (axes_over rect reads writes) (from_first rect index)
first_among [] reads writes index a b inside = tt
first_among (range ∷ rect) [] writes index a b inside = absurd (omega (arith, a))
first_among (range ∷ rect) (read ∷ reads) [] index a b inside = absurd (omega (arith, b))
first_among (range ∷ rect) (read ∷ reads) (write ∷ writes) [] a b inside = absurd inside
first_among (range ∷ rect) (read ∷ reads) (write ∷ writes) (i ∷ index) a b inside =
    (omega (arith, inside.0, inside.1), first_among rect reads writes index (omega (arith, a)) (omega (arith, b)) inside.2)

pub back_in : (rect : List (ℕ × ℕ)) (reads writes : List ℤ) (index : List ℕ) → length rect ≤ length reads → length rect ≤ length writes → IsAmong (axes_over rect reads writes) index
    → IsIn rect (back rect index)
back_in [] reads writes index a b among = tt
back_in (range ∷ rect) [] writes index a b among = absurd (omega (arith, a))
back_in (range ∷ rect) (read ∷ reads) [] index a b among = absurd (omega (arith, b))
back_in (range ∷ rect) (read ∷ reads) (write ∷ writes) [] a b among = absurd among
back_in (range ∷ rect) (read ∷ reads) (write ∷ writes) (i ∷ index) a b among =
    (omega arith, omega (arith, among.0), back_in rect reads writes index (omega (arith, a)) (omega (arith, b)) among.1)

first_from : (rect : List (ℕ × ℕ)) (reads writes : List ℤ) (index : List ℕ) → length rect ≤ length reads → length rect ≤ length writes → IsIn rect index
    → along reads rect index ≡ way_from (axes_over rect reads writes) (from_first rect index)
first_from [] [] writes index a b inside = refl
first_from [] (read ∷ reads) writes index a b inside = refl
first_from (range ∷ rect) [] writes index a b inside = absurd (omega (arith, a))
first_from (range ∷ rect) (read ∷ reads) [] index a b inside = absurd (omega (arith, b))
first_from (range ∷ rect) (read ∷ reads) (write ∷ writes) [] a b inside = absurd inside
first_from (range ∷ rect) (read ∷ reads) (write ∷ writes) (i ∷ index) a b inside =
    ap ((pos (i - range.0) *ℤ read) +ℤ◌) (first_from rect reads writes index (omega (arith, a)) (omega (arith, b)) inside.2)

first_to : (rect : List (ℕ × ℕ)) (reads writes : List ℤ) (index : List ℕ) → length rect ≤ length reads → length rect ≤ length writes → IsIn rect index
    → along writes rect index ≡ way_to (axes_over rect reads writes) (from_first rect index)
first_to [] reads [] index a b inside = refl
first_to [] reads (write ∷ writes) index a b inside = refl
first_to (range ∷ rect) [] writes index a b inside = absurd (omega (arith, a))
first_to (range ∷ rect) (read ∷ reads) [] index a b inside = absurd (omega (arith, b))
first_to (range ∷ rect) (read ∷ reads) (write ∷ writes) [] a b inside = absurd inside
first_to (range ∷ rect) (read ∷ reads) (write ∷ writes) (i ∷ index) a b inside =
    ap ((pos (i - range.0) *ℤ write) +ℤ◌) (first_to rect reads writes index (omega (arith, a)) (omega (arith, b)) inside.2)

back_from : (rect : List (ℕ × ℕ)) (reads writes : List ℤ) (index : List ℕ) → length rect ≤ length reads → length rect ≤ length writes → IsAmong (axes_over rect reads writes) index
    → along reads rect (back rect index) ≡ way_from (axes_over rect reads writes) index
back_from [] [] writes index a b among = refl
back_from [] (read ∷ reads) writes index a b among = refl
back_from (range ∷ rect) [] writes index a b among = absurd (omega (arith, a))
back_from (range ∷ rect) (read ∷ reads) [] index a b among = absurd (omega (arith, b))
back_from (range ∷ rect) (read ∷ reads) (write ∷ writes) [] a b among = absurd among
back_from (range ∷ rect) (read ∷ reads) (write ∷ writes) (i ∷ index) a b among =
    let same : i + range.0 - range.0 ≡ i = omega arith in
    λ t. (pos (same t) *ℤ read) +ℤ back_from rect reads writes index (omega (arith, a)) (omega (arith, b)) among.1 t

back_to : (rect : List (ℕ × ℕ)) (reads writes : List ℤ) (index : List ℕ) → length rect ≤ length reads → length rect ≤ length writes → IsAmong (axes_over rect reads writes) index
    → along writes rect (back rect index) ≡ way_to (axes_over rect reads writes) index
back_to [] reads [] index a b among = refl
back_to [] reads (write ∷ writes) index a b among = refl
back_to (range ∷ rect) [] writes index a b among = absurd (omega (arith, a))
back_to (range ∷ rect) (read ∷ reads) [] index a b among = absurd (omega (arith, b))
back_to (range ∷ rect) (read ∷ reads) (write ∷ writes) [] a b among = absurd among
back_to (range ∷ rect) (read ∷ reads) (write ∷ writes) (i ∷ index) a b among =
    let same : i + range.0 - range.0 ≡ i = omega arith in
    λ t. (pos (same t) *ℤ write) +ℤ back_to rect reads writes index (omega (arith, a)) (omega (arith, b)) among.1 t

-- ---- a copy over a rectangle

-- what strides tell of a view
pub record AreStrides (tile : List (ℕ × ℕ)) (chain : Chain) (rect : List (ℕ × ℕ)) (base : ℕ) (strides : List ℤ) : Type 0 where
  pub long : length rect ≤ length strides
  pub inside : (index : List ℕ) → IsIn rect index → IsIn tile (mapped chain index)
  pub places : (index : List ℕ) → IsIn rect index → pos (place_in tile (mapped chain index)) ≡ pos base +ℤ along strides rect index

module _ (rect source target : List (ℕ × ℕ)) (first second : Chain) (from to : ℕ) (reads writes : List ℤ) where
  module _ (r : AreStrides source first rect from reads) (w : AreStrides target second rect to writes) where
    pub rect_fits : (m n : ℕ) → 0 < volume_of rect → m ≡ volume_of source → n ≡ volume_of target → Fits from to (axes_over rect reads writes) m n
    rect_fits m n some full filled = record {
      some = over_some rect reads writes some;
      reads = λ index among. (
          let here = back_in rect reads writes index r.long w.long among in
          let below = place-below source (mapped first (back rect index)) (r.inside (back rect index) here) in
          let is = r.places (back rect index) here ∙ ap (pos from +ℤ◌) (back_from rect reads writes index r.long w.long among) in
          record { low = omega (arith, ints, is); high = omega (arith, ints, is, below, full) });
      writes = λ index among. (
          let here = back_in rect reads writes index r.long w.long among in
          let below = place-below target (mapped second (back rect index)) (w.inside (back rect index) here) in
          let is = w.places (back rect index) here ∙ ap (pos to +ℤ◌) (back_to rect reads writes index r.long w.long among) in
          record { low = omega (arith, ints, is); high = omega (arith, ints, is, below, filled) });
    }

    pub rect_copied : {T : Type 0} (xs old new : List T) → Copied xs old new (λ s q. Goes from to (axes_over rect reads writes) s q)
        → Copied xs old new (λ s q. LeadsBoth source first target second rect s q)
    rect_copied xs old new copied =
        copied_as xs old new (λ s q. Goes from to (axes_over rect reads writes) s q) (λ s q. LeadsBoth source first target second rect s q) copied
        (λ s q g.
        (let here = back_in rect reads writes g.index r.long w.long g.among in
        let at = r.places (back rect g.index) here ∙ ap (pos from +ℤ◌) (back_from rect reads writes g.index r.long w.long g.among) in
        let there = w.places (back rect g.index) here ∙ ap (pos to +ℤ◌) (back_to rect reads writes g.index r.long w.long g.among) in
        record { index = back rect g.index; inside = here; from = omega (arith, ints, g.source, at); to = omega (arith, ints, g.target, there) }))
        (λ s q g. record {
          index = from_first rect g.index;
          among = first_among rect reads writes g.index r.long w.long g.inside;
          source = ap pos (sym g.from) ∙ r.places g.index g.inside ∙ ap (pos from +ℤ◌) (first_from rect reads writes g.index r.long w.long g.inside);
          target = ap pos (sym g.to) ∙ w.places g.index g.inside ∙ ap (pos to +ℤ◌) (first_to rect reads writes g.index r.long w.long g.inside);
        })

-- where there is no index, nothing is copied
pub rect_none : {T : Type 0} (rect source target : List (ℕ × ℕ)) (first second : Chain) (xs old : List T) → volume_of rect ≡ 0
    → Copied xs old old (λ s q. LeadsBoth source first target second rect s q)
rect_none rect source target first second xs old none =
    copied_none xs old (λ s q. LeadsBoth source first target second rect s q) (λ s q g. omega (arith, place-below rect g.index g.inside, none))

-- ---- a rectangle lies in the shape of its ends

pub ends_shape : (rect : List (ℕ × ℕ)) → IsStorable rect → IsShape (map (λ (range : ℕ × ℕ). range.1) rect)
ends_shape rect h = record { axes = omega (arith, length-map {B = ℕ} rect (λ (range : ℕ × ℕ). range.1), h.axes); extents = all rect h.ends }
  where
    all : (rect : List (ℕ × ℕ)) → All (λ (range : ℕ × ℕ). range.1 ≤ MAX_END) rect → All (λ (extent : ℕ). extent ≤ MAX_END) (map (λ (range : ℕ × ℕ). range.1) rect)
    all [] h = All-nil _
    all (range ∷ rect) h =
        let first : range.1 ≤ MAX_END = All-head (λ (r : ℕ × ℕ). r.1 ≤ MAX_END) range rect h in
        All-cons (λ (extent : ℕ). extent ≤ MAX_END) range.1 (map (λ (r : ℕ × ℕ). r.1) rect) first (all rect (All-tail (λ (r : ℕ × ℕ). r.1 ≤ MAX_END) range rect h))

pub ends_within : (rect : List (ℕ × ℕ)) (index : List ℕ) → IsIn rect index → IsIn (whole (map (λ (range : ℕ × ℕ). range.1) rect)) index
ends_within [] [] inside = tt
ends_within [] (i ∷ index) inside = absurd inside
ends_within (range ∷ rect) [] inside = absurd inside
ends_within (range ∷ rect) (i ∷ index) inside = (omega arith, inside.1, ends_within rect index inside.2)

pub ends_all : (ranges : List (ℕ × ℕ)) (ends : List ℕ) (k : ℕ) → length ranges ≤ k → k ≤ length ranges → take k ends ≡ map (λ (range : ℕ × ℕ). range.1) (take k ranges)
    → take (length ranges) ends ≡ map (λ (range : ℕ × ℕ). range.1) ranges
ends_all ranges ends k past within so_far =
    let end : length ranges ≡ k = omega (arith, past, within) in
    ap (λ n. take n ends) end ∙ so_far ∙ ap (map (λ (range : ℕ × ℕ). range.1)) (take_all k ranges past)

-- ---- a tile with other elements

-- as many elements in place of the old ones
pub refilled : {T : Type 0} (count : ℕ) (new old : List T) → count ≡ length old → length new ≡ length old → take count (new ++ drop (length new) old) ≡ new
refilled count new old full same =
    ap (λ xs. take count (new ++ xs)) (drop_none old (length new) (omega (arith, same))) ∙ ap (take count) (append_nil new) ∙ take_all count new (omega (arith, full, same))
  where
    drop_none : {T : Type 0} (xs : List T) (n : ℕ) → length xs ≤ n → drop n xs ≡ []
    drop_none [] zero h = refl
    drop_none [] (suc n) h = refl
    drop_none (x ∷ xs) zero h = absurd (omega (arith, h))
    drop_none (x ∷ xs) (suc n) h = drop_none xs n (omega (arith, h))

    append_nil : {T : Type 0} (xs : List T) → xs ++ [] ≡ xs
    append_nil [] = refl
    append_nil (x ∷ xs) = ap (λ l. x ∷ l) (append_nil xs)
