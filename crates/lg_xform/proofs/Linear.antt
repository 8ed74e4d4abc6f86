-- The place in a tile of the root index of an index is a sum over the axes of the view.
use Rattle.std.proofs.Common.{◌≡◌, ℕ, zero, suc, ◌+◌, ◌-◌, ◌*◌, ◌<◌, ◌≤◌, Bool, true, false, ℤ, pos, negsuc, ◌+ℤ◌, ◌*ℤ◌, List, [], ◌∷◌, length, get_or, set, take, inl, inr, refl, sym, ap, subst, ◌∙◌, arith, get_or-set_same}
use Rattle.std.proofs.lemmas.Int.{ints}
use Rattle.std.proofs.lemmas.Bool.{cases_lt}
use Rattle.std.proofs.lemmas.List.{set-get_or, length-take, get_or-map}
use Rattle.lg_space.specs.Rectangle.{IsIn, volume_of, place_in}
use Rattle.lg_shape.specs.Shapes.{whole}
use Rattle.lg_shape.specs.Stored.{IsShape}
use Rattle.lg_xform.specs.declared.axis.ViewAxis.{ViewAxis}
use Rattle.lg_xform.specs.declared.chain.Chain.{Chain}
use Rattle.lg_xform.specs.Moves.{steps, add_at, moved}
use Rattle.lg_xform.specs.Chains.{axes_of, shape_of, mapped}
use Rattle.lg_xform.specs.Copies.{along, first_of, next_of, IsStride}
use Rattle.lg_xform.proofs.Insides.{same_axes, in_whole_axes, in_whole_below, in-set}
use Rattle.lg_xform.proofs.Sums.{total, total-set, length-moved, length-add_at}
use lib.IntN.{zero-*ℤ}
use Rattle.lg_xform.proofs.Held.{some_index}
use Rattle.lg_xform.proofs.Edits.{none, length-shape_of}

-- ---- places without low ends

-- the place of an index, were all low ends 0
abbrev pub value : List (ℕ × ℕ) → List ℕ → ℕ
value [] at = 0
value (range ∷ tile) [] = 0
value (range ∷ tile) (x ∷ at) = x * volume_of tile + value tile at

-- by how much one coordinate moves the place
abbrev pub weight : List (ℕ × ℕ) → ℕ → ℕ
weight [] a = 0
weight (range ∷ tile) zero = volume_of tile
weight (range ∷ tile) (suc a) = weight tile a

pub place_value : (tile : List (ℕ × ℕ)) (at : List ℕ) → IsIn tile at → place_in tile at + value tile (first_of tile) ≡ value tile at
place_value [] at h = omega arith
place_value (range ∷ tile) [] h = absurd h
place_value (range ∷ tile) (x ∷ at) h =
    let back : (x - range.0) + range.0 ≡ x = omega (arith, h.0) in
    let scaled : ((x - range.0) + range.0) * volume_of tile ≡ x * volume_of tile = ap (λ y. y * volume_of tile) back in
    omega (arith, scaled, place_value tile at h.2)

pub value-add_at : (tile : List (ℕ × ℕ)) (at : List ℕ) (a n : ℕ) → length at ≡ length tile → value tile (add_at at a n) ≡ value tile at + n * weight tile a
value-add_at [] at a n e = omega arith
value-add_at (range ∷ tile) [] a n e = absurd (omega arith)
value-add_at (range ∷ tile) (x ∷ at) zero n e = omega arith
value-add_at (range ∷ tile) (x ∷ at) (suc a) n e = omega (arith, value-add_at tile at a n (omega arith))

-- by how much an axis of the view moves the place
abbrev pub goes : List (ℕ × ℕ) → ViewAxis → ℕ → ℕ
goes tile axis i = steps axis.down axis.extent i * axis.stride * weight tile axis.root

pub value-moved : (tile : List (ℕ × ℕ)) (from : List ℕ) (axes : List ViewAxis) (index : List ℕ) → length from ≡ length tile
    → value tile (moved from axes index) ≡ value tile from + total (goes tile) axes index
value-moved tile from [] index e = omega arith
value-moved tile from (axis ∷ axes) [] e = omega arith
value-moved tile from (axis ∷ axes) (i ∷ index) e =
    let n = steps axis.down axis.extent i * axis.stride in
    let rest = value-moved tile (add_at from axis.root n) axes index (length-add_at from axis.root n ∙ e) in
    omega (arith, rest, value-add_at tile from axis.root n e)

take-add_at : (n : ℕ) (xs : List ℕ) (a x : ℕ) → take n (add_at xs a x) ≡ add_at (take n xs) a x
take-add_at zero xs a x = refl
take-add_at (suc n) [] a x = refl
take-add_at (suc n) (y ∷ xs) zero x = refl
take-add_at (suc n) (y ∷ xs) (suc a) x = ap (λ l. y ∷ l) (take-add_at n xs a x)

take-moved : (n : ℕ) (from : List ℕ) (axes : List ViewAxis) (index : List ℕ) → take n (moved from axes index) ≡ moved (take n from) axes index
take-moved n from [] index = refl
take-moved n from (axis ∷ axes) [] = refl
take-moved n from (axis ∷ axes) (i ∷ index) =
    let m = steps axis.down axis.extent i * axis.stride in
    take-moved n (add_at from axis.root m) axes index ∙ ap (λ l. moved l axes index) (take-add_at n from axis.root m)

-- ---- one axis

abbrev scaled_steps : Bool → ℕ → ℕ → ℕ → ℕ → ℕ
scaled_steps down extent s w i = steps down extent i * s * w

pub axis_linear : (down : Bool) (extent s w low i : ℕ) (stride : ℤ) → low ≤ i → i < extent → low + 1 < extent
    → pos (scaled_steps down extent s w (low + 1)) ≡ pos (scaled_steps down extent s w low) +ℤ stride
    → pos (scaled_steps down extent s w i) ≡ pos (scaled_steps down extent s w low) +ℤ (pos (i - low) *ℤ stride)
axis_linear false extent s w low i (pos t) l h g e =
    let t_is : t ≡ s * w = omega (arith, ints) in
    let back : (i - low) + low ≡ i = omega arith in
    let all : ((i - low) + low) * (s * w) ≡ i * (s * w) = ap (λ x. x * (s * w)) back in
    let last : (i - low) * t ≡ (i - low) * (s * w) = ap (λ x. (i - low) * x) t_is in
    ap pos (omega (arith, all, last))
axis_linear false extent s w low i (negsuc t) l h g e = absurd (omega (arith, ints))
axis_linear true extent s w low i (pos t) l h g e =
    let one : extent - 1 - low ≡ (extent - 1 - (low + 1)) + 1 = omega arith in
    let two : (extent - 1 - low) * (s * w) ≡ ((extent - 1 - (low + 1)) + 1) * (s * w) = ap (λ x. x * (s * w)) one in
    let none_t : t ≡ 0 = omega (arith, ints, two) in
    let none_w : s * w ≡ 0 = omega (arith, ints, two) in
    let here : (extent - 1 - i) * (s * w) ≡ (extent - 1 - i) * 0 = ap (λ x. (extent - 1 - i) * x) none_w in
    let there : (extent - 1 - low) * (s * w) ≡ (extent - 1 - low) * 0 = ap (λ x. (extent - 1 - low) * x) none_w in
    let last : (i - low) * t ≡ (i - low) * 0 = ap (λ x. (i - low) * x) none_t in
    ap pos (omega (arith, here, there, last))
axis_linear true extent s w low i (negsuc t) l h g e =
    let one : extent - 1 - low ≡ (extent - 1 - (low + 1)) + 1 = omega arith in
    let two : (extent - 1 - low) * (s * w) ≡ ((extent - 1 - (low + 1)) + 1) * (s * w) = ap (λ x. x * (s * w)) one in
    let t_is : suc t ≡ s * w = omega (arith, ints, two) in
    let apart : extent - 1 - low ≡ (extent - 1 - i) + (i - low) = omega arith in
    let all : (extent - 1 - low) * (s * w) ≡ ((extent - 1 - i) + (i - low)) * (s * w) = ap (λ x. x * (s * w)) apart in
    let last : (i - low) * suc t ≡ (i - low) * (s * w) = ap (λ x. (i - low) * x) t_is in
    omega (arith, ints, all, last)

-- ---- all axes

-- each coordinate of the axis is so many strides from the low end
abbrev pub IsEven : List (ℕ × ℕ) → ViewAxis → ℕ × ℕ → ℤ → Type 0
IsEven tile axis range stride = (i : ℕ) → range.0 ≤ i → i < range.1 → pos (goes tile axis i) ≡ pos (goes tile axis range.0) +ℤ (pos (i - range.0) *ℤ stride)

pub along_total : (tile : List (ℕ × ℕ)) (axes : List ViewAxis) (rect : List (ℕ × ℕ)) (strides : List ℤ) (index : List ℕ) → length axes ≡ length rect → length rect ≤ length strides
    → IsIn rect index → ((j : ℕ) → j < length rect → IsEven tile (get_or axes j none) (get_or rect j (0, 0)) (get_or strides j (pos 0)))
    → pos (total (goes tile) axes index) ≡ pos (total (goes tile) axes (first_of rect)) +ℤ along strides rect index
along_total tile [] [] [] index e f h each = refl
along_total tile [] [] (stride ∷ strides) index e f h each = refl
along_total tile [] (range ∷ rect) strides index e f h each = absurd (omega arith)
along_total tile (axis ∷ axes) [] strides index e f h each = absurd (omega arith)
along_total tile (axis ∷ axes) (range ∷ rect) [] index e f h each = absurd (omega arith)
along_total tile (axis ∷ axes) (range ∷ rect) (stride ∷ strides) [] e f h each = absurd h
along_total tile (axis ∷ axes) (range ∷ rect) (stride ∷ strides) (i ∷ index) e f h each =
    let first : pos (goes tile axis i) ≡ pos (goes tile axis range.0) +ℤ (pos (i - range.0) *ℤ stride) = each 0 (omega arith) i h.0 h.1 in
    let rest = along_total tile axes rect strides index (omega arith) (omega arith) h.2 (λ j lt. each (suc j) (omega arith)) in
    added (goes tile axis i) (goes tile axis range.0) (total (goes tile) axes index) (total (goes tile) axes (first_of rect)) (pos (i - range.0) *ℤ stride) (along strides rect index) first rest
  where
    added : (a b c d : ℕ) (x y : ℤ) → pos a ≡ pos b +ℤ x → pos c ≡ pos d +ℤ y → pos (a + c) ≡ pos (b + d) +ℤ (x +ℤ y)
    added a b c d x y p q = omega (arith, ints)

-- ---- a chain and a tile of its root

first_in : (rect : List (ℕ × ℕ)) (index : List ℕ) → IsIn rect index → IsIn rect (first_of rect)
first_in [] [] h = tt
first_in [] (i ∷ index) h = absurd h
first_in (range ∷ rect) [] h = absurd h
first_in (range ∷ rect) (i ∷ index) h = (omega arith, omega (arith, h.0, h.1), first_in rect index h.2)

get_or-first : (rect : List (ℕ × ℕ)) (j : ℕ) → get_or (first_of rect) j 0 ≡ (get_or rect j (0, 0)).0
get_or-first [] j = refl
get_or-first (range ∷ rect) zero = refl
get_or-first (range ∷ rect) (suc j) = get_or-first rect j

module _ (c : Chain) (tile rect : List (ℕ × ℕ)) (wide : length c.from ≡ 4) (within : (index : List ℕ) → IsIn rect index → IsIn (whole (shape_of c)) index)
    (held : (index : List ℕ) → IsIn rect index → IsIn tile (mapped c index)) (some : 0 < volume_of rect) where
  pub first_there : IsIn rect (first_of rect)
  first_there = let i = some_index rect some in first_in rect i.0 i.1

  few_root : length c.root ≤ 4
  few_root = let s : IsShape c.root = c.root_shape in s.axes

  root_axes : length (take (length c.root) c.from) ≡ length tile
  root_axes = omega (
    arith,
    length-take (length c.root) c.from,
    wide,
    few_root,
    same_axes tile (mapped c (first_of rect)) (held (first_of rect) first_there),
    length-take (length c.root) (moved c.from (axes_of c) (first_of rect)),
    length-moved c.from (axes_of c) (first_of rect),
  )

  pub rect_axes : length (axes_of c) ≡ length rect
  rect_axes = omega (arith, in_whole_axes (shape_of c) (first_of rect) (within (first_of rect) first_there), length-shape_of c, same_axes rect (first_of rect) first_there)

  place_total : (index : List ℕ) → IsIn rect index
      → place_in tile (mapped c index) + value tile (first_of tile) ≡ value tile (take (length c.root) c.from) + total (goes tile) (axes_of c) index
  place_total index h =
      place_value tile (mapped c index) (held index h) ∙ ap (value tile) (take-moved (length c.root) c.from (axes_of c) index)
      ∙ value-moved tile (take (length c.root) c.from) (axes_of c) index root_axes

  -- one further on an axis
  pub next_there : (axis : ℕ) → axis < length rect → 1 < (get_or rect axis (0, 0)).1 - (get_or rect axis (0, 0)).0 → IsIn rect (next_of rect axis)
  next_there axis lt more =
      let range = get_or rect axis (0, 0) in
      let at = get_or-first rect axis in
      subst (λ r. IsIn r (next_of rect axis)) (set-get_or rect axis (0, 0)) (in-set rect (first_of rect) axis range (get_or (first_of rect) axis 0 + 1) (omega (arith, at)) (omega (arith, at)) first_there)

  even : (axis : ℕ) (stride : ℤ) → axis < length rect → IsStride (λ index. place_in tile (mapped c index)) rect axis stride
      → IsEven tile (get_or (axes_of c) axis none) (get_or rect axis (0, 0)) stride
  even axis stride lt is i low high = elim (cases_lt 1 ((get_or rect axis (0, 0)).1 - (get_or rect axis (0, 0)).0)) [
    | inl more ↦
        (let a = get_or (axes_of c) axis none in
        let range = get_or rect axis (0, 0) in
        let first = first_of rect in
        let at = get_or-first rect axis in
        let one : get_or first axis 0 + 1 ≡ range.0 + 1 = omega (arith, at) in
        let there = next_there axis lt more in
        let sum = place_total (next_of rect axis) there in
        let begin = place_total first first_there in
        let swap = total-set (goes tile) (axes_of c) axis a none first (get_or first axis 0 + 1) (omega (arith, lt, rect_axes)) (same_axes rect first first_there ∙ sym rect_axes) in
        let kept : total (goes tile) (set (axes_of c) axis a) first ≡ total (goes tile) (axes_of c) first = ap (λ l. total (goes tile) l first) (set-get_or (axes_of c) axis none) in
        let here : goes tile a (get_or first axis 0) ≡ goes tile a range.0 = ap (goes tile a) at in
        let further : goes tile a (get_or first axis 0 + 1) ≡ goes tile a (range.0 + 1) = ap (goes tile a) one in
        let step : place_in tile (mapped c (next_of rect axis)) + goes tile a range.0 ≡ place_in tile (mapped c first) + goes tile a (range.0 + 1) =
        omega (arith, sum, begin, swap, kept, here, further) in
        let next = is.next more in
        let moves : pos (goes tile a (range.0 + 1)) ≡ pos (goes tile a range.0) +ℤ stride =
        moved_by (place_in tile (mapped c (next_of rect axis))) (place_in tile (mapped c first)) (goes tile a range.0) (goes tile a (range.0 + 1)) stride step next in
        let extent : get_or (shape_of c) axis 0 ≡ a.extent = get_or-map (λ (x : ViewAxis). x.extent) (axes_of c) axis none 0 (omega (arith, lt, rect_axes)) in
        let last : (index : List ℕ) → IsIn rect index → get_or index axis 0 < a.extent = λ index h. omega (arith, extent, in_whole_below (shape_of c) index axis (within index h) (omega (arith, length-shape_of c, rect_axes, lt))) in
        let put = subst (λ r. IsIn r (set first axis i)) (set-get_or rect axis (0, 0)) (in-set rect first axis range i low high first_there) in
        let axes : axis < length first = omega (arith, same_axes rect first first_there, lt) in
        let below : i < a.extent = omega (arith, last (set first axis i) put, get_or-set_same first axis i 0 axes) in
        let below_next : range.0 + 1 < a.extent = omega (arith, last (next_of rect axis) there, get_or-set_same first axis (get_or first axis 0 + 1) 0 axes, one) in
        axis_linear a.down a.extent a.stride (weight tile a.root) range.0 i stride low below below_next moves)
    | inr one ↦
        (let a = get_or (axes_of c) axis none in
        let range = get_or rect axis (0, 0) in
        let only : i ≡ range.0 = omega arith in
        let gone : i - range.0 ≡ 0 = omega arith in
        let flat : pos (i - range.0) *ℤ stride ≡ pos 0 *ℤ stride = ap (λ n. pos n *ℤ stride) gone in
        let same : pos (goes tile a i) ≡ pos (goes tile a range.0) = ap (λ x. pos (goes tile a x)) only in
        same ∙ stays (goes tile a range.0) (pos (i - range.0) *ℤ stride) (flat ∙ zero-*ℤ stride))
  ]
    where
      moved_by : (p q a b : ℕ) (s : ℤ) → p + a ≡ q + b → pos p ≡ pos q +ℤ s → pos b ≡ pos a +ℤ s
      moved_by p q a b s e f = omega (arith, ints)

      stays : (n : ℕ) (z : ℤ) → z ≡ pos 0 → pos n ≡ pos n +ℤ z
      stays n z e = omega (arith, ints)

  pub places_along : (strides : List ℤ) → length rect ≤ length strides
      → ((axis : ℕ) → axis < length rect → IsStride (λ index. place_in tile (mapped c index)) rect axis (get_or strides axis (pos 0)))
      → (index : List ℕ) → IsIn rect index
      → pos (place_in tile (mapped c index)) ≡ pos (place_in tile (mapped c (first_of rect))) +ℤ along strides rect index
  places_along strides long each index h =
      ends (place_in tile (mapped c index)) (place_in tile (mapped c (first_of rect))) (value tile (first_of tile)) (value tile (take (length c.root) c.from))
      (total (goes tile) (axes_of c) index) (total (goes tile) (axes_of c) (first_of rect)) (along strides rect index)
      (place_total index h) (place_total (first_of rect) first_there)
      (along_total tile (axes_of c) rect strides index rect_axes long h (λ j lt. even j (get_or strides j (pos 0)) lt (each j lt)))
    where
      ends : (p q l v a b : ℕ) (z : ℤ) → p + l ≡ v + a → q + l ≡ v + b → pos a ≡ pos b +ℤ z → pos p ≡ pos q +ℤ z
      ends p q l v a b z e f g = omega (arith, ints)
