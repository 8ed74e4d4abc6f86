-- What is gathered of a view over a rectangle of its indices.
use Rattle.std.proofs.Common.{◌≡◌, ℕ, ◌+◌, ◌-◌, ◌*◌, ◌≤◌, List, [], ◌∷◌, length, map, take, Result, Ok, Err, IfOk, get_or, slice_get, ℤ, pos, ◌+ℤ◌, ◌*ℤ◌, refl, sym, ap, subst, ◌∙◌, arith}
use Rattle.std.specs.List.{All, range_with_len}
use Rattle.std.specs.Option.{option_map, unwrap_or}
use Rattle.std.proofs.lemmas.List.{length-map, take_all}
use Rattle.std.proofs.lemmas.List.FromFn.{fill_by_all}
use Rattle.std.proofs.lemmas.List.Elements.{All-nil, All-cons, All-head, All-tail}
use Rattle.std.proofs.lemmas.Option.{slice_get-map, get_or_from_slice_get, unwrap_or-slice_get}
use Rattle.lg_space.specs.Rectangle.{IsIn, volume_of, place_in}
use Rattle.lg_space.specs.Stored.{MAX_END, IsStorable}
use Rattle.lg_space.proofs.Places.{place-below}
use Rattle.lg_shape.specs.Shapes.{whole, places, place_of, size_of}
use Rattle.lg_shape.specs.Stored.{IsShape}
use Rattle.lg_shape.specs.Views.{Layout, place_at, whole_layout}
use Rattle.lg_tile.specs.Sections.{Covers}
use Rattle.lg_tile.specs.declared.any_tile.AnyTile.{AnyTile}
use Rattle.lg_tile.specs.Tiles.{numbers, number_at, rect_of}
use Rattle.lg_tile.proofs.NumberLemmas.{numbers_full}
use Rattle.lg_tile.proofs.SectionLemmas.{map-map}
use Rattle.lg_xform.specs.Copies.{along}
use Rattle.lg_xform.specs.declared.chain.Chain.{Chain}
use Rattle.lg_xform.specs.Chains.{root_of, shape_of, mapped, layout_of}
use Rattle.lg_xform.proofs.Maps.{at_place}
use Rattle.lg_operations.specs.Gathering.{distance, AllLie, IsGathered, number_through, seen_at, sizes_in}
use Rattle.lg_operations.proofs.Indexed.{along as along_all, by_places}

-- ---- the sizes of a rectangle

pub sizes_volume : (rect : List (ℕ × ℕ)) → size_of (sizes_in rect) ≡ volume_of rect
sizes_volume [] = refl
sizes_volume (range ∷ rect) =
    let same : range.1 - range.0 - 0 ≡ range.1 - range.0 = omega arith in
    λ i. same i * sizes_volume rect i

sizes_small : (rect : List (ℕ × ℕ)) → All (λ (range : ℕ × ℕ). range.1 ≤ MAX_END) rect → All (λ extent. extent ≤ MAX_END) (sizes_in rect)
sizes_small [] h = All-nil _
sizes_small (range ∷ rect) h =
    let first = All-head (λ (r : ℕ × ℕ). r.1 ≤ MAX_END) range rect h in
    All-cons (λ extent. extent ≤ MAX_END) (range.1 - range.0) (sizes_in rect) (omega (arith, first)) (sizes_small rect (All-tail (λ (r : ℕ × ℕ). r.1 ≤ MAX_END) range rect h))

pub sizes_shape : (rect : List (ℕ × ℕ)) → IsStorable rect → IsShape (sizes_in rect)
sizes_shape rect h = record { axes = omega (arith, length-map {B = ℕ} rect (λ (range : ℕ × ℕ). range.1 - range.0), h.axes); extents = sizes_small rect h.ends }

pub sizes_all : (ranges : List (ℕ × ℕ)) (sizes : List ℕ) (axis : ℕ) → length ranges ≤ axis → axis ≤ length ranges → take axis sizes ≡ sizes_in (take axis ranges)
    → take (length ranges) sizes ≡ sizes_in ranges
sizes_all ranges sizes axis past within so_far =
    let end : length ranges ≡ axis = omega arith in
    ap (λ n. take n sizes) end ∙ so_far ∙ ap sizes_in (take_all axis ranges past)

-- an index is one of some
pub no_index : (rect : List (ℕ × ℕ)) (index : List ℕ) → IsIn rect index → volume_of rect ≡ 0 → ⊥
no_index rect index inside none = omega (arith, none, place-below rect index inside)

-- ---- an index, counted from the first one of the rectangle

abbrev pub from_first : List (ℕ × ℕ) → List ℕ → List ℕ
from_first [] index = index
from_first (range ∷ rect) [] = []
from_first (range ∷ rect) (i ∷ index) = (i - range.0) ∷ from_first rect index

abbrev pub back : List (ℕ × ℕ) → List ℕ → List ℕ
back [] index = index
back (range ∷ rect) [] = []
back (range ∷ rect) (i ∷ index) = (i + range.0) ∷ back rect index

first_in : (rect : List (ℕ × ℕ)) (index : List ℕ) → IsIn rect index → IsIn (whole (sizes_in rect)) (from_first rect index)
first_in [] [] inside = inside
first_in [] (i ∷ index) inside = absurd inside
first_in (range ∷ rect) [] inside = absurd inside
first_in (range ∷ rect) (i ∷ index) inside = (omega arith, omega (arith, inside.0, inside.1), first_in rect index inside.2)

back_in : (rect : List (ℕ × ℕ)) (index : List ℕ) → IsIn (whole (sizes_in rect)) index → IsIn rect (back rect index)
back_in [] [] inside = inside
back_in [] (i ∷ index) inside = absurd inside
back_in (range ∷ rect) [] inside = absurd inside
back_in (range ∷ rect) (i ∷ index) inside = (omega arith, omega (arith, inside.1), back_in rect index inside.2)

first_place : (rect : List (ℕ × ℕ)) (index : List ℕ) → place_of (sizes_in rect) (from_first rect index) ≡ place_in rect index
first_place [] index = refl
first_place (range ∷ rect) [] = refl
first_place (range ∷ rect) (i ∷ index) =
    let same : i - range.0 - 0 ≡ i - range.0 = omega arith in
    λ t. same t * sizes_volume rect t + first_place rect index t

first_along : (strides : List ℤ) (rect : List (ℕ × ℕ)) (index : List ℕ) → IsIn rect index → along strides rect index ≡ distance (from_first rect index) strides
first_along [] [] [] inside = refl
first_along (s ∷ strides) [] [] inside = refl
first_along strides [] (i ∷ index) inside = absurd inside
first_along strides (range ∷ rect) [] inside = absurd inside
first_along [] (range ∷ rect) (i ∷ index) inside = refl
first_along (s ∷ strides) (range ∷ rect) (i ∷ index) inside = ap ((pos (i - range.0) *ℤ s) +ℤ◌) (first_along strides rect index inside.2)

back_along : (strides : List ℤ) (rect : List (ℕ × ℕ)) (index : List ℕ) → IsIn (whole (sizes_in rect)) index → along strides rect (back rect index) ≡ distance index strides
back_along [] [] [] inside = refl
back_along (s ∷ strides) [] [] inside = refl
back_along strides [] (i ∷ index) inside = absurd inside
back_along strides (range ∷ rect) [] inside = absurd inside
back_along [] (range ∷ rect) (i ∷ index) inside = refl
back_along (s ∷ strides) (range ∷ rect) (i ∷ index) inside =
    let same : i + range.0 - range.0 ≡ i = omega arith in
    λ t. (pos (same t) *ℤ s) +ℤ back_along strides rect index inside.2 t

-- ---- a view

-- the place that a view has at an index is where the index leads
pub place_leads : (chain : Chain) (index : List ℕ) → IsIn (whole (shape_of chain)) index → place_at (layout_of chain) index ≡ place_of (root_of chain) (mapped chain index)
place_leads chain index inside =
    get_or_from_slice_get (layout_of chain).places (place_of (shape_of chain) index) (place_of (root_of chain) (mapped chain index)) 0
    (at_place (shape_of chain) (λ i. place_of (root_of chain) (mapped chain i)) index inside)

-- what the strides of a view over a rectangle tell
pub record IsStrided (chain : Chain) (tile rect : List (ℕ × ℕ)) (base : ℕ) (strides : List ℤ) : Type 0 where
  pub root : tile ≡ whole (root_of chain)
  pub within : Covers (whole (shape_of chain)) rect
  pub inside : (index : List ℕ) → IsIn (whole (shape_of chain)) index → IsIn (whole (root_of chain)) (mapped chain index)
  pub places : (index : List ℕ) → IsIn rect index → pos (place_in tile (mapped chain index)) ≡ pos base +ℤ along strides rect index

module _ (chain : Chain) (tile rect : List (ℕ × ℕ)) (base : ℕ) (strides : List ℤ) (h : IsStrided chain tile rect base strides) where
  pub leads_inside : (index : List ℕ) → IsIn rect index → IsIn tile (mapped chain index)
  leads_inside index inside = subst (λ r. IsIn r (mapped chain index)) (sym h.root) (h.inside index (h.within index inside))

  pub strides_lie : (count : ℕ) → count ≡ volume_of tile → AllLie base strides (sizes_in rect) count
  strides_lie count full index inside =
      let there = back_in rect index inside in
      let below = place-below tile (mapped chain (back rect index)) (leads_inside (back rect index) there) in record {
        place = place_in tile (mapped chain (back rect index));
        below = omega (arith, full, below);
        is = h.places (back rect index) there ∙ ap (pos base +ℤ◌) (back_along strides rect index inside);
      }

  -- the numbers at the indices of the rectangle
  pub window_numbers : {T : Type 0} (f : T → ℤ) (source old new : List T) → length source ≡ volume_of tile → old ≡ []
      → IsGathered source base strides (sizes_in rect) old new → (index : List ℕ) → IsIn rect index
      → get_or (map f new) (place_in rect index) (pos 0) ≡ number_through (map f source) chain index
  window_numbers f source old new full none gathered index inside =
      let place = place_in tile (mapped chain index) in
      let lies : pos place ≡ pos base +ℤ distance (from_first rect index) strides = h.places index inside ∙ ap (pos base +ℤ◌) (first_along strides rect index inside) in
      let slot : length old + place_of (sizes_in rect) (from_first rect index) ≡ place_in rect index = omega (arith, ap length none, first_place rect index) in
      let same : slice_get (map f new) (place_in rect index) ≡ slice_get (map f source) place =
      slice_get-map f new (place_in rect index)
      ∙ ap (option_map f) (ap (slice_get new) (sym slot) ∙ gathered.each (from_first rect index) place (first_in rect index inside) lies)
      ∙ sym (slice_get-map f source place) in
      let here : place ≡ place_at (layout_of chain) index =
      ap (λ r. place_in r (mapped chain index)) h.root ∙ sym (place_leads chain index (h.within index inside)) in
      same_number_at (map f new) (map f source) (place_in rect index) place same ∙ ap (λ k. get_or (map f source) k (pos 0)) here
    where
      same_number_at : (xs ys : List ℤ) (i j : ℕ) → slice_get xs i ≡ slice_get ys j → get_or xs i (pos 0) ≡ get_or ys j (pos 0)
      same_number_at xs ys i j e = sym (unwrap_or-slice_get xs i (pos 0)) ∙ ap (λ o. unwrap_or o (pos 0)) e ∙ unwrap_or-slice_get ys j (pos 0)

  pub window_count : {T : Type 0} (source old new : List T) → old ≡ [] → IsGathered source base strides (sizes_in rect) old new → length new ≡ volume_of rect
  window_count source old new none gathered = omega (arith, gathered.count, ap length none, sizes_volume rect)

-- the numbers of a whole view
pub whole_numbers : (tile out : AnyTile) (chain : Chain) → rect_of out ≡ whole (shape_of chain)
    → ((index : List ℕ) → IsIn (whole (shape_of chain)) index → number_at out index ≡ seen_at tile chain index)
    → numbers out ≡ map (λ place. get_or (numbers tile) place (pos 0)) (layout_of chain).places
whole_numbers tile out chain rect same =
    let shape = shape_of chain in
    let full : length (numbers out) ≡ size_of shape = numbers_full out ∙ ap volume_of rect in
    sym (by_places shape (numbers out) full)
    ∙ along_all shape _ (λ index. get_or (numbers tile) (place_of (root_of chain) (mapped chain index)) (pos 0))
    (λ index inside. ap (λ r. get_or (numbers out) (place_in r index) (pos 0)) (sym rect) ∙ same index inside
    ∙ ap (λ place. get_or (numbers tile) place (pos 0)) (place_leads chain index inside))
    ∙ sym (map-map (λ place. get_or (numbers tile) place (pos 0)) (λ index. place_of (root_of chain) (mapped chain index)) (places shape))

-- the whole of a root, copied
pub whole_copied : (tile out : AnyTile) (chain : Chain) → rect_of tile ≡ whole (root_of chain) → layout_of chain ≡ whole_layout (root_of chain) → numbers out ≡ numbers tile
    → numbers out ≡ map (λ place. get_or (numbers tile) place (pos 0)) (layout_of chain).places
whole_copied tile out chain full is same =
    let count : length (numbers tile) ≡ size_of (root_of chain) = numbers_full tile ∙ ap volume_of full in
    same ∙ fill_by_all (λ place. get_or (numbers tile) place (pos 0)) (numbers tile) (length (numbers tile)) (pos 0) refl (λ i h. refl)
    ∙ ap (λ n. map (λ place. get_or (numbers tile) place (pos 0)) (range_with_len 0 n)) count
    ∙ sym (ap (λ (l : Layout). map (λ place. get_or (numbers tile) place (pos 0)) l.places) is)

pub whole_rect : (tile out : AnyTile) (chain : Chain) → rect_of tile ≡ whole (root_of chain) → layout_of chain ≡ whole_layout (root_of chain) → rect_of out ≡ rect_of tile
    → rect_of out ≡ whole (shape_of chain)
whole_rect tile out chain full is same = same ∙ full ∙ ap (λ (l : Layout). whole l.shape) (sym is)

-- what follows from two facts of a value that is there
pub if_ok_both : {X E : Type 0} (r : Result X E) (P Q R : X → Type 0) → ((x : X) → P x → Q x → R x) → IfOk r P → IfOk r Q → IfOk r R
if_ok_both (Ok x) P Q R f p q = f x p q
if_ok_both (Err e) P Q R f p q = tt

pub if_ok_one : {X E : Type 0} (r : Result X E) (P Q : X → Type 0) → ((x : X) → P x → Q x) → IfOk r P → IfOk r Q
if_ok_one (Ok x) P Q f p = f x p
if_ok_one (Err e) P Q f p = tt
