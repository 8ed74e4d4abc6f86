-- The view of a whole root.
use Rattle.std.proofs.Common.{◌≡◌, ℕ, zero, suc, ◌+◌, ◌-◌, ◌*◌, ◌<◌, ◌≤◌, Bool, false, List, [], ◌∷◌, length, map, get_or, take, replicate, refl, sym, ap, subst, ◌∙◌, arith}
use Rattle.std.specs.List.{range_with_len}
use Rattle.std.proofs.lemmas.List.{ext_get_or, take_all, get_or-take, length-take, get_or-map, length-map}
use Rattle.std.proofs.lemmas.Option.{slice_get-get_or}
use Rattle.std.proofs.lemmas.List.Elements.{All-nil, All-cons}
use Rattle.std.proofs.lemmas.List.FromFn.{get_or-range_with_len, length-range_with_len}
use Rattle.lg_space.specs.Rectangle.{IsIn}
use Rattle.lg_space.specs.declared.point.TheConstants.{MAX_AXES}
use Rattle.lg_space.proofs.Places.{volume_counts, stands_once}
use Rattle.lg_shape.specs.Shapes.{whole, places, place_of, size_of}
use Rattle.lg_shape.specs.Stored.{IsShape}
use Rattle.lg_shape.specs.Views.{whole_layout}
use Rattle.lg_xform.specs.declared.axis.ViewAxis.{ViewAxis}
use Rattle.lg_xform.specs.Moves.{extents_of, moved, hit, reach, AreRooted}
use Rattle.lg_xform.proofs.Insides.{in_whole_axes}
use Rattle.lg_xform.proofs.Sums.{total, share, get_or-moved, length-moved, hit_same}
use Rattle.lg_xform.proofs.Held.{IsView}
use Rattle.lg_xform.specs.Footprints.{HasNoHoles}
use Rattle.lg_xform.proofs.Maps.{laid}

-- each axis moves its own axis of the root
abbrev pub axes_from : ℕ → List ℕ → List ViewAxis
axes_from k [] = []
axes_from k (extent ∷ shape) = record { extent = extent; root = k; stride = 1; down = false; inner = false } ∷ axes_from (k + 1) shape

pub length-axes_from : (k : ℕ) (shape : List ℕ) → length (axes_from k shape) ≡ length shape
length-axes_from k [] = refl
length-axes_from k (extent ∷ shape) = ap suc (length-axes_from (k + 1) shape)

pub extents-axes_from : (k : ℕ) (shape : List ℕ) → extents_of (axes_from k shape) ≡ shape
extents-axes_from k [] = refl
extents-axes_from k (extent ∷ shape) = ap (λ l. extent ∷ l) (extents-axes_from (k + 1) shape)

pub inner-axes_from : (k : ℕ) (shape : List ℕ) → map (λ (axis : ViewAxis). axis.inner) (axes_from k shape) ≡ replicate (length shape) false
inner-axes_from k [] = refl
inner-axes_from k (extent ∷ shape) = ap (λ l. false ∷ l) (inner-axes_from (k + 1) shape)

rooted_from : (k : ℕ) (shape : List ℕ) → k + length shape ≤ MAX_AXES → AreRooted (axes_from k shape)
rooted_from k [] h = All-nil _
rooted_from k (extent ∷ shape) h =
    All-cons (λ (axis : ViewAxis). axis.root < MAX_AXES) _ (axes_from (k + 1) shape) (omega arith) (rooted_from (k + 1) shape (omega arith))

-- the coordinate j of the root gets what the axis for it moves
hit_other : (j k n : ℕ) → (j ≡ k → ⊥) → hit j k n ≡ 0
hit_other zero zero n h = absurd (h refl)
hit_other zero (suc k) n h = refl
hit_other (suc j) zero n h = refl
hit_other (suc j) (suc k) n h = hit_other j k n (λ e. h (ap suc e))

reach_before : (j k : ℕ) (shape : List ℕ) → j < k → reach j (axes_from k shape) ≡ 0
reach_before j k [] h = refl
reach_before j k (extent ∷ shape) h = omega (arith, hit_other j k ((extent - 1) * 1) (λ e. omega arith), reach_before j (k + 1) shape (omega arith))

reach_whole : (k j : ℕ) (shape : List ℕ) → reach (k + j) (axes_from k shape) ≡ get_or shape j 0 - 1
reach_whole k j [] = refl
reach_whole k zero (extent ∷ shape) =
    let e : k + 0 ≡ k = omega arith in
    let first : hit (k + 0) k ((extent - 1) * 1) ≡ extent - 1 = ap (λ n. hit n k ((extent - 1) * 1)) e ∙ hit_same k ((extent - 1) * 1) ∙ (omega arith) in
    omega (arith, first, reach_before (k + 0) (k + 1) shape (omega arith))
reach_whole k (suc j) (extent ∷ shape) =
    let e : k + suc j ≡ k + 1 + j = omega arith in
    let rest : reach (k + suc j) (axes_from (k + 1) shape) ≡ get_or shape j 0 - 1 = ap (λ n. reach n (axes_from (k + 1) shape)) e ∙ reach_whole (k + 1) j shape in
    omega (arith, hit_other (k + suc j) k ((extent - 1) * 1) (λ e. omega arith), rest)

total_before : (j k : ℕ) (shape index : List ℕ) → j < k → total (share j) (axes_from k shape) index ≡ 0
total_before j k [] index h = refl
total_before j k (extent ∷ shape) [] h = refl
total_before j k (extent ∷ shape) (i ∷ index) h = omega (arith, hit_other j k (i * 1) (λ e. omega arith), total_before j (k + 1) shape index (omega arith))

total_whole : (k j : ℕ) (shape index : List ℕ) → length index ≡ length shape → total (share (k + j)) (axes_from k shape) index ≡ get_or index j 0
total_whole k j [] [] h = refl
total_whole k j [] (i ∷ index) h = absurd (omega arith)
total_whole k j (extent ∷ shape) [] h = absurd (omega arith)
total_whole k zero (extent ∷ shape) (i ∷ index) h =
    let e : k + 0 ≡ k = omega arith in
    let first : hit (k + 0) k (i * 1) ≡ i = ap (λ n. hit n k (i * 1)) e ∙ hit_same k (i * 1) ∙ (omega arith) in
    omega (arith, first, total_before (k + 0) (k + 1) shape index (omega arith))
total_whole k (suc j) (extent ∷ shape) (i ∷ index) h =
    let e : k + suc j ≡ k + 1 + j = omega arith in
    let rest : total (share (k + suc j)) (axes_from (k + 1) shape) index ≡ get_or index j 0 = ap (λ n. total (share n) (axes_from (k + 1) shape) index) e ∙ total_whole (k + 1) j shape index (omega arith) in
    omega (arith, hit_other (k + suc j) k (i * 1) (λ e. omega arith), rest)

-- where the view of a whole root begins
abbrev pub origin : List ℕ
origin = 0 ∷ 0 ∷ 0 ∷ 0 ∷ []

pub get_or-origin : (j : ℕ) → get_or origin j 0 ≡ 0
get_or-origin zero = refl
get_or-origin (suc zero) = refl
get_or-origin (suc (suc zero)) = refl
get_or-origin (suc (suc (suc zero))) = refl
get_or-origin (suc (suc (suc (suc j)))) = refl

pub whole_view : (shape : List ℕ) (axes : List ViewAxis) → IsShape shape → axes ≡ axes_from 0 shape → IsView shape origin axes
whole_view shape axes s e = subst (IsView shape origin) (sym e) (record {
  rooted = rooted_from 0 shape (omega (arith, s.axes));
  shape = subst IsShape (sym (extents-axes_from 0 shape)) s;
  held = λ k. (let same : 0 + k ≡ k = omega arith in
      let all : reach k (axes_from 0 shape) ≡ get_or shape k 0 - 1 = ap (λ n. reach n (axes_from 0 shape)) (sym same) ∙ reach_whole 0 k shape in
      omega (arith, all, get_or-origin k));
  filled = λ some. subst (λ s. 0 < size_of s) (extents-axes_from 0 shape) some;
})

-- each index leads to itself
pub whole_moved : (shape index : List ℕ) → length shape ≤ 4 → length index ≡ length shape → take (length shape) (moved origin (axes_from 0 shape) index) ≡ index
whole_moved shape index few e =
    let at = moved origin (axes_from 0 shape) index in
    let long : length at ≡ 4 = length-moved origin (axes_from 0 shape) index in
    let size : length (take (length shape) at) ≡ length shape = omega (arith, length-take (length shape) at, long) in
    ext_get_or 0 (take (length shape) at) index (size ∙ sym e)
    (λ j lt. (let in' : j < length shape = omega (arith, lt, size) in
    let same : 0 + j ≡ j = omega arith in
    let all : total (share j) (axes_from 0 shape) index ≡ get_or index j 0 = ap (λ n. total (share n) (axes_from 0 shape) index) (sym same) ∙ total_whole 0 j shape index e in
    omega (arith, get_or-take (length shape) at j 0 in', get_or-moved j origin (axes_from 0 shape) index (omega (arith, in', few)), all, get_or-origin j)))

-- the place of each index is its own
pub whole_places : (shape : List ℕ) (m : List ℕ → List ℕ) → ((index : List ℕ) → IsIn (whole shape) index → m index ≡ index)
    → map (λ index. place_of shape (m index)) (places shape) ≡ range_with_len 0 (size_of shape)
whole_places shape m same =
    let each = map (λ index. place_of shape (m index)) (places shape) in
    let size : length each ≡ size_of shape = length-map (places shape) (λ index. place_of shape (m index)) ∙ volume_counts (whole shape) in
    ext_get_or 0 each (range_with_len 0 (size_of shape)) (size ∙ sym (length-range_with_len 0 (size_of shape)))
    (λ k lt. (let in' : k < length (places shape) = omega (arith, lt, length-map (places shape) (λ index. place_of shape (m index))) in
    let index = get_or (places shape) k [] in
    let once = stands_once (whole shape) k index (slice_get-get_or (places shape) k [] in') in
    let there : get_or each k 0 ≡ k = get_or-map (λ i. place_of shape (m i)) (places shape) k [] 0 in' ∙ ap (place_of shape) (same index once.0) ∙ once.1 in
    omega (arith, there, get_or-range_with_len 0 (size_of shape) k 0 (omega (arith, lt, size)))))

-- all axes were written
pub axes_all : (shape extents : List ℕ) (axes : List ViewAxis) (axis : ℕ) → extents ≡ shape → length extents ≤ axis → axis ≤ length extents
    → take axis axes ≡ take axis (axes_from 0 shape) → take (length extents) axes ≡ axes_from 0 shape
axes_all shape extents axes axis e past within so_far =
    let end : length extents ≡ axis = omega arith in
    ap (λ n. take n axes) end ∙ so_far ∙ take_all axis (axes_from 0 shape) (omega (arith, length-axes_from 0 shape, ap length e))

-- so each index has its own place
pub laid_whole : (shape : List ℕ) (axes : List ViewAxis) → length shape ≤ 4 → axes ≡ axes_from 0 shape
    → laid shape (extents_of axes) (λ index. take (length shape) (moved origin axes index)) ≡ whole_layout shape
laid_whole shape axes few e =
    let leads : (index : List ℕ) → IsIn (whole shape) index → take (length shape) (moved origin axes index) ≡ index =
    λ index in'. ap (λ a. take (length shape) (moved origin a index)) e ∙ whole_moved shape index few (in_whole_axes shape index in') in
    let extents = ap extents_of e ∙ extents-axes_from 0 shape in
    let places_are = whole_places shape (λ index. take (length shape) (moved origin axes index)) leads in
    (λ i. laid shape (extents i) (λ index. take (length shape) (moved origin axes index))) ∙ (λ i. record { shape = shape; places = places_are i })

-- and each tile leads to itself
pub full_whole : (shape : List ℕ) (inner : List Bool) (lead : List ℕ → List ℕ) → ((index : List ℕ) → IsIn (whole shape) index → lead index ≡ index)
    → HasNoHoles shape inner lead
full_whole shape inner lead same tile first is some =
    (tile, λ at. (λ in'. (at, in', same at (is.within at in')), λ leads. subst (IsIn tile) (sym (same leads.0 (is.within leads.0 leads.1)) ∙ leads.2) leads.1))
