-- The corners of a tile, and the rectangle between where they lead.
use Rattle.std.proofs.Common.{◌≡◌, ℕ, zero, suc, ◌+◌, ◌-◌, ◌*◌, ◌<◌, ◌≤◌, max, Bool, true, false, List, [], ◌∷◌, ◌++◌, length, map, get_or, set, take, refl, sym, ap, subst, ◌∙◌, arith}
use Rattle.std.specs.List.{All}
use Rattle.std.proofs.lemmas.Nat.{mul-le}
use Rattle.std.proofs.lemmas.List.{take_more_set, take_more, take_all, length-take, get_or-take}
use Rattle.std.proofs.lemmas.List.Elements.{All-nil, All-cons, All-head, All-tail}
use Rattle.lg_space.specs.Rectangle.{IsIn, volume_of}
use Rattle.lg_space.specs.Stored.{MAX_END, MAX_VOLUME, IsStorable}
use Rattle.lg_shape.specs.Shapes.{whole, size_of}
use Rattle.lg_shape.specs.Stored.{IsShape}
use Rattle.lg_xform.specs.declared.axis.ViewAxis.{ViewAxis}
use Rattle.lg_xform.specs.declared.chain.Chain.{Chain}
use Rattle.lg_xform.specs.Moves.{steps, moved}
use Rattle.lg_xform.specs.Chains.{axes_of, shape_of, inner_of, mapped}
use Rattle.lg_xform.specs.Corners.{end_of, corner_of, boxed, empty_of}
use Rattle.lg_xform.specs.Footprints.{IsTile, IsFootprint, IsDense}
use Rattle.lg_xform.proofs.Insides.{in_whole_axes}
use Rattle.lg_xform.proofs.Sums.{share, total, get_or-moved, length-moved, hit_more}
use Rattle.lg_xform.proofs.Held.{some_index, volume_some}
use Rattle.lg_xform.proofs.Points.{mapped_inside}
use Rattle.lg_xform.proofs.Edits.{length-axes_of, length-shape_of}

-- ---- corners

pub length-corner : (far : Bool) (axes : List ViewAxis) (tile : List (ℕ × ℕ)) → length tile ≡ length axes → length (corner_of far axes tile) ≡ length axes
length-corner far [] tile e = refl
length-corner far (axis ∷ axes) [] e = absurd (omega arith)
length-corner far (axis ∷ axes) (range ∷ tile) e = ap suc (length-corner far axes tile (omega arith))

pub get_or-corner : (far : Bool) (axes : List ViewAxis) (tile : List (ℕ × ℕ)) (k : ℕ) (d : ViewAxis) (r : ℕ × ℕ) → length tile ≡ length axes → k < length axes
    → get_or (corner_of far axes tile) k 0 ≡ end_of far (get_or axes k d).down (get_or tile k r)
get_or-corner far [] tile k d r e h = absurd (omega arith)
get_or-corner far (axis ∷ axes) [] k d r e h = absurd (omega arith)
get_or-corner far (axis ∷ axes) (range ∷ tile) zero d r e h = refl
get_or-corner far (axis ∷ axes) (range ∷ tile) (suc k) d r e h = get_or-corner far axes tile k d r (omega arith) (omega arith)

end_in : (far down : Bool) (range : ℕ × ℕ) → range.0 < range.1 → (range.0 ≤ end_of far down range) × (end_of far down range < range.1)
end_in false false range h = (omega arith, h)
end_in false true range h = (omega arith, omega arith)
end_in true false range h = (omega arith, omega arith)
end_in true true range h = (omega arith, h)

-- each range of a rectangle with an index has a coordinate
pub range_some : (rect : List (ℕ × ℕ)) (k : ℕ) (d : ℕ × ℕ) → 0 < volume_of rect → k < length rect → (get_or rect k d).0 < (get_or rect k d).1
range_some rect k d some lt = by_index rect (some_index rect some).0 k d (some_index rect some).1 lt
  where
    by_index : (rect : List (ℕ × ℕ)) (index : List ℕ) (k : ℕ) (d : ℕ × ℕ) → IsIn rect index → k < length rect → (get_or rect k d).0 < (get_or rect k d).1
    by_index [] index k d h lt = absurd (omega arith)
    by_index (range ∷ rect) [] k d h lt = absurd h
    by_index (range ∷ rect) (i ∷ index) zero d h lt = omega (arith, h.0, h.1)
    by_index (range ∷ rect) (i ∷ index) (suc k) d h lt = by_index rect index k d h.2 (omega arith)

corner_in_by : (far : Bool) (axes : List ViewAxis) (tile : List (ℕ × ℕ)) (index : List ℕ) → length tile ≡ length axes → IsIn tile index → IsIn tile (corner_of far axes tile)
corner_in_by far [] [] index e h = tt
corner_in_by far [] (range ∷ tile) index e h = absurd (omega arith)
corner_in_by far (axis ∷ axes) [] index e h = absurd (omega arith)
corner_in_by far (axis ∷ axes) (range ∷ tile) [] e h = absurd h
corner_in_by far (axis ∷ axes) (range ∷ tile) (i ∷ index) e h =
    let end = end_in far axis.down range (omega (arith, h.0, h.1)) in
    (end.0, end.1, corner_in_by far axes tile index (omega arith) h.2)

pub corner_in : (far : Bool) (axes : List ViewAxis) (tile : List (ℕ × ℕ)) → length tile ≡ length axes → 0 < volume_of tile → IsIn tile (corner_of far axes tile)
corner_in far axes tile e some = let i = some_index tile some in corner_in_by far axes tile i.0 e i.1

-- no coordinate of the tile is nearer or farther
near_steps : (down : Bool) (extent i : ℕ) (range : ℕ × ℕ) → range.0 ≤ i → i < range.1 → steps down extent (end_of false down range) ≤ steps down extent i
near_steps false extent i range l h = l
near_steps true extent i range l h = omega arith

far_steps : (down : Bool) (extent i : ℕ) (range : ℕ × ℕ) → range.0 ≤ i → i < range.1 → steps down extent i ≤ steps down extent (end_of true down range)
far_steps false extent i range l h = omega arith
far_steps true extent i range l h = omega arith

pub near_total : (k : ℕ) (axes : List ViewAxis) (tile : List (ℕ × ℕ)) (index : List ℕ) → IsIn tile index → total (share k) axes (corner_of false axes tile) ≤ total (share k) axes index
near_total k [] tile index h = omega arith
near_total k (axis ∷ axes) [] [] h = omega arith
near_total k (axis ∷ axes) [] (i ∷ index) h = absurd h
near_total k (axis ∷ axes) (range ∷ tile) [] h = absurd h
near_total k (axis ∷ axes) (range ∷ tile) (i ∷ index) h =
    let low = end_of false axis.down range in
    let first = hit_more k axis.root (steps axis.down axis.extent low * axis.stride) (steps axis.down axis.extent i * axis.stride)
    (mul-le (steps axis.down axis.extent low) axis.stride (steps axis.down axis.extent i) axis.stride (near_steps axis.down axis.extent i range h.0 h.1) (omega arith)) in
    omega (arith, first, near_total k axes tile index h.2)

pub far_total : (k : ℕ) (axes : List ViewAxis) (tile : List (ℕ × ℕ)) (index : List ℕ) → length tile ≡ length axes → IsIn tile index → total (share k) axes index ≤ total (share k) axes (corner_of true axes tile)
far_total k [] tile index e h = omega arith
far_total k (axis ∷ axes) [] index e h = absurd (omega arith)
far_total k (axis ∷ axes) (range ∷ tile) [] e h = absurd h
far_total k (axis ∷ axes) (range ∷ tile) (i ∷ index) e h =
    let high = end_of true axis.down range in
    let first = hit_more k axis.root (steps axis.down axis.extent i * axis.stride) (steps axis.down axis.extent high * axis.stride)
    (mul-le (steps axis.down axis.extent i) axis.stride (steps axis.down axis.extent high) axis.stride (far_steps axis.down axis.extent i range h.0 h.1) (omega arith)) in
    omega (arith, first, far_total k axes tile index (omega arith) h.2)

-- ---- boxes

pub length-boxed : (lows highs : List ℕ) → length lows ≡ length highs → length (boxed lows highs) ≡ length lows
length-boxed [] highs e = refl
length-boxed (low ∷ lows) [] e = absurd (omega arith)
length-boxed (low ∷ lows) (high ∷ highs) e = ap suc (length-boxed lows highs (omega arith))

pub get_or-boxed : (lows highs : List ℕ) (k : ℕ) (d : ℕ × ℕ) → k < length lows → length lows ≡ length highs → get_or (boxed lows highs) k d ≡ (get_or lows k 0, get_or highs k 0 + 1)
get_or-boxed [] highs k d h e = absurd (omega arith)
get_or-boxed (low ∷ lows) [] k d h e = absurd (omega arith)
get_or-boxed (low ∷ lows) (high ∷ highs) zero d h e = refl
get_or-boxed (low ∷ lows) (high ∷ highs) (suc k) d h e = get_or-boxed lows highs k d (omega arith) (omega arith)

pub lows-boxed : (lows highs : List ℕ) → length lows ≡ length highs → map (λ (range : ℕ × ℕ). range.0) (boxed lows highs) ≡ lows
lows-boxed [] highs e = refl
lows-boxed (low ∷ lows) [] e = absurd (omega arith)
lows-boxed (low ∷ lows) (high ∷ highs) e = ap (λ l. low ∷ l) (lows-boxed lows highs (omega arith))

pub highs-boxed : (lows highs : List ℕ) → length lows ≡ length highs → map (λ (range : ℕ × ℕ). range.1 - 1) (boxed lows highs) ≡ highs
highs-boxed [] [] e = refl
highs-boxed [] (high ∷ highs) e = absurd (omega arith)
highs-boxed (low ∷ lows) [] e = absurd (omega arith)
highs-boxed (low ∷ lows) (high ∷ highs) e = let back : high + 1 - 1 ≡ high = omega arith in λ i. back i ∷ highs-boxed lows highs (omega arith) i

pub in_boxed : (lows highs at : List ℕ) → length at ≡ length lows → length highs ≡ length lows
    → ((k : ℕ) → k < length lows → (get_or lows k 0 ≤ get_or at k 0) × (get_or at k 0 ≤ get_or highs k 0)) → IsIn (boxed lows highs) at
in_boxed [] highs [] e f h = tt
in_boxed [] highs (x ∷ at) e f h = absurd (omega arith)
in_boxed (low ∷ lows) [] at e f h = absurd (omega arith)
in_boxed (low ∷ lows) (high ∷ highs) [] e f h = absurd (omega arith)
in_boxed (low ∷ lows) (high ∷ highs) (x ∷ at) e f h =
    let first = h 0 (omega arith) in
    (first.0, omega (arith, first.1), in_boxed lows highs at (omega arith) (omega arith) (λ k lt. h (suc k) (omega arith)))

-- a rectangle that has both corners has the box
pub box_within : (rect : List (ℕ × ℕ)) (lows highs at : List ℕ) → IsIn rect lows → IsIn rect highs → IsIn (boxed lows highs) at → IsIn rect at
box_within [] [] highs [] l h b = tt
box_within [] [] highs (x ∷ at) l h b = absurd b
box_within [] (low ∷ lows) highs at l h b = absurd l
box_within (range ∷ rect) [] highs at l h b = absurd l
box_within (range ∷ rect) (low ∷ lows) [] at l h b = absurd h
box_within (range ∷ rect) (low ∷ lows) (high ∷ highs) [] l h b = absurd b
box_within (range ∷ rect) (low ∷ lows) (high ∷ highs) (x ∷ at) l h b =
    (omega (arith, l.0, b.0), omega (arith, h.1, b.1), box_within rect lows highs at l.2 h.2 b.2)

-- a box in a root can be stored
box_volume : (root lows highs : List ℕ) → IsIn (whole root) highs → length lows ≡ length highs → volume_of (boxed lows highs) ≤ size_of root
box_volume [] [] highs h e = omega arith
box_volume [] (low ∷ lows) [] h e = absurd (omega arith)
box_volume [] (low ∷ lows) (high ∷ highs) h e = absurd h
box_volume (extent ∷ root) lows [] h e = absurd h
box_volume (extent ∷ root) [] (high ∷ highs) h e = absurd (omega arith)
box_volume (extent ∷ root) (low ∷ lows) (high ∷ highs) h e =
    mul-le (high + 1 - low) (volume_of (boxed lows highs)) (extent - 0) (size_of root) (omega (arith, h.1)) (box_volume root lows highs h.2 (omega arith))

box_ordered : (lows highs : List ℕ) → ((k : ℕ) → k < length lows → get_or lows k 0 ≤ get_or highs k 0) → All (λ (range : ℕ × ℕ). range.0 ≤ range.1) (boxed lows highs)
box_ordered [] highs h = All-nil _
box_ordered (low ∷ lows) [] h = All-nil _
box_ordered (low ∷ lows) (high ∷ highs) h =
    All-cons (λ (range : ℕ × ℕ). range.0 ≤ range.1) (low, high + 1) (boxed lows highs) (let first = h 0 (omega arith) in omega (arith, first)) (box_ordered lows highs (λ k lt. h (suc k) (omega arith)))

box_ends : (root lows highs : List ℕ) → IsIn (whole root) highs → All (λ extent. extent ≤ MAX_END) root → All (λ (range : ℕ × ℕ). range.1 ≤ MAX_END) (boxed lows highs)
box_ends root [] highs h s = All-nil _
box_ends root (low ∷ lows) [] h s = All-nil _
box_ends [] (low ∷ lows) (high ∷ highs) h s = absurd h
box_ends (extent ∷ root) (low ∷ lows) (high ∷ highs) h s =
    let first = All-head (λ e. e ≤ MAX_END) extent root s in
    All-cons (λ (range : ℕ × ℕ). range.1 ≤ MAX_END) (low, high + 1) (boxed lows highs) (omega (arith, first, h.1)) (box_ends root lows highs h.2 (All-tail (λ e. e ≤ MAX_END) extent root s))

pub box_storable : (root lows highs : List ℕ) → IsShape root → size_of root ≤ MAX_VOLUME → IsIn (whole root) lows → IsIn (whole root) highs
    → ((k : ℕ) → k < length lows → get_or lows k 0 ≤ get_or highs k 0) → IsStorable (boxed lows highs)
box_storable root lows highs s small l h each =
    let same : length lows ≡ length highs = in_whole_axes root lows l ∙ sym (in_whole_axes root highs h) in
    record {
      axes = omega (arith, length-boxed lows highs same, in_whole_axes root lows l, s.axes);
      ordered = box_ordered lows highs each;
      ends = box_ends root lows highs h s.extents;
      volume = omega (arith, box_volume root lows highs h same, small);
    }

pub boxed_more : (lows highs : List ℕ) (ranges : List (ℕ × ℕ)) (axis low high : ℕ) → axis < length lows → length lows ≡ length highs → axis < length ranges
    → low ≡ get_or lows axis 0 → high ≡ get_or highs axis 0
    → take axis ranges ≡ take axis (boxed lows highs) → take (axis + 1) (set ranges axis (low, high + 1)) ≡ take (axis + 1) (boxed lows highs)
boxed_more lows highs ranges axis low high lt same room l h so_far =
    let at = get_or-boxed lows highs axis (0, 0) lt same in
    take_more_set ranges axis (low, high + 1) room
    ∙ (λ i. so_far i ++ (l i, h i + 1) ∷ []) ∙ ap (λ (r : ℕ × ℕ). take axis (boxed lows highs) ++ r ∷ []) (sym at)
    ∙ sym (take_more (boxed lows highs) axis (0, 0) (omega (arith, length-boxed lows highs same)))

-- ---- where the tile leads

module _ (c : Chain) (tile : List (ℕ × ℕ)) (long : length c.axes ≡ 4) (wide : length c.from ≡ 4) (is : IsTile (shape_of c) (inner_of c) tile) (some : 0 < volume_of tile) where
  axes_of_tile : length tile ≡ length (axes_of c)
  axes_of_tile = is.axes ∙ length-shape_of c

  pub corner_there : (far : Bool) → IsIn tile (corner_of far (axes_of c) tile)
  corner_there far = corner_in far (axes_of c) tile axes_of_tile some

  pub corner_inside : (far : Bool) → IsIn (whole (shape_of c)) (corner_of far (axes_of c) tile)
  corner_inside far = is.within (corner_of far (axes_of c) tile) (corner_there far)

  few_root : length c.root ≤ 4
  few_root = let s : IsShape c.root = c.root_shape in s.axes

  pub length-mapped : (index : List ℕ) → length (mapped c index) ≡ length c.root
  length-mapped index = omega (arith, length-take (length c.root) (moved c.from (axes_of c) index), length-moved c.from (axes_of c) index, wide, few_root)

  get_or-mapped : (index : List ℕ) (k : ℕ) → k < length c.root → get_or (mapped c index) k 0 ≡ get_or c.from k 0 + total (share k) (axes_of c) index
  get_or-mapped index k lt =
      get_or-take (length c.root) (moved c.from (axes_of c) index) k 0 lt ∙ get_or-moved k c.from (axes_of c) index (omega (arith, lt, few_root, wide))

  pub holds : (index : List ℕ) → IsIn tile index → IsIn (boxed (mapped c (corner_of false (axes_of c) tile)) (mapped c (corner_of true (axes_of c) tile))) (mapped c index)
  holds index h =
      in_boxed (mapped c (corner_of false (axes_of c) tile)) (mapped c (corner_of true (axes_of c) tile)) (mapped c index)
      (length-mapped index ∙ sym (length-mapped (corner_of false (axes_of c) tile)))
      (length-mapped (corner_of true (axes_of c) tile) ∙ sym (length-mapped (corner_of false (axes_of c) tile)))
      (λ k lt. (let in' : k < length c.root = omega (arith, lt, length-mapped (corner_of false (axes_of c) tile)) in
      let low = near_total k (axes_of c) tile index h in
      let high = far_total k (axes_of c) tile index axes_of_tile h in (
        omega (arith, get_or-mapped index k in', get_or-mapped (corner_of false (axes_of c) tile) k in', low),
        omega (arith, get_or-mapped index k in', get_or-mapped (corner_of true (axes_of c) tile) k in', high),
      )))

  pub near_below : (k : ℕ) → k < length (mapped c (corner_of false (axes_of c) tile)) → get_or (mapped c (corner_of false (axes_of c) tile)) k 0 ≤ get_or (mapped c (corner_of true (axes_of c) tile)) k 0
  near_below k lt =
      let in' : k < length c.root = omega (arith, lt, length-mapped (corner_of false (axes_of c) tile)) in
      let low = near_total k (axes_of c) tile (corner_of true (axes_of c) tile) (corner_there true) in
      omega (arith, get_or-mapped (corner_of true (axes_of c) tile) k in', get_or-mapped (corner_of false (axes_of c) tile) k in', low)

  pub storable : size_of c.root ≤ MAX_VOLUME → IsStorable (boxed (mapped c (corner_of false (axes_of c) tile)) (mapped c (corner_of true (axes_of c) tile)))
  storable small =
      box_storable c.root (mapped c (corner_of false (axes_of c) tile)) (mapped c (corner_of true (axes_of c) tile)) c.root_shape small
      (mapped_inside c (corner_of false (axes_of c) tile) long wide (corner_inside false)) (mapped_inside c (corner_of true (axes_of c) tile) long wide (corner_inside true)) near_below

  pub exact : IsDense c → IsFootprint (mapped c) tile (boxed (mapped c (corner_of false (axes_of c) tile)) (mapped c (corner_of true (axes_of c) tile)))
  exact dense = λ at.
      (let f = dense tile (corner_of false (axes_of c) tile) is (corner_there false) in (
        λ h. (f.1 at).0 (box_within f.0 (mapped c (corner_of false (axes_of c) tile)) (mapped c (corner_of true (axes_of c) tile)) at
            ((f.1 (mapped c (corner_of false (axes_of c) tile))).1 (corner_of false (axes_of c) tile, corner_there false, refl))
            ((f.1 (mapped c (corner_of true (axes_of c) tile))).1 (corner_of true (axes_of c) tile, corner_there true, refl)) h),
        λ l. subst (IsIn (boxed (mapped c (corner_of false (axes_of c) tile)) (mapped c (corner_of true (axes_of c) tile)))) l.2 (holds l.0 l.1),
      ))

  pub inside_root : (at : List ℕ) → IsIn (boxed (mapped c (corner_of false (axes_of c) tile)) (mapped c (corner_of true (axes_of c) tile))) at → IsIn (whole c.root) at
  inside_root at h =
      box_within (whole c.root) (mapped c (corner_of false (axes_of c) tile)) (mapped c (corner_of true (axes_of c) tile)) at
      (mapped_inside c (corner_of false (axes_of c) tile) long wide (corner_inside false)) (mapped_inside c (corner_of true (axes_of c) tile) long wide (corner_inside true)) h

-- ---- nothing at all

pub no_index : (rect : List (ℕ × ℕ)) (index : List ℕ) → volume_of rect ≡ 0 → IsIn rect index → ⊥
no_index rect index e h = omega (arith, volume_some rect index h)

pub empty_has_none : (root at : List ℕ) → IsIn (empty_of root) at → ⊥
empty_has_none [] [] h = h
empty_has_none [] (x ∷ at) h = omega (arith, h.1)
empty_has_none (extent ∷ root) [] h = h
empty_has_none (extent ∷ root) (x ∷ at) h = omega (arith, h.1)

pub empty_taken : (root : List ℕ) → length root ≤ 4 → take {A = ℕ × ℕ} (max (length root) 1) ((0, 0) ∷ (0, 0) ∷ (0, 0) ∷ (0, 0) ∷ []) ≡ empty_of root
empty_taken [] h = refl
empty_taken (a ∷ []) h = refl
empty_taken (a ∷ b ∷ []) h = refl
empty_taken (a ∷ b ∷ d ∷ []) h = refl
empty_taken (a ∷ b ∷ d ∷ e ∷ []) h = refl
empty_taken (a ∷ b ∷ d ∷ e ∷ (f ∷ root)) h = absurd (omega arith)

-- ---- written one by one

pub corner_more : (far : Bool) (axes : List ViewAxis) (tile : List (ℕ × ℕ)) (at : List ℕ) (k end : ℕ) (range : ℕ × ℕ) (d : ViewAxis) → length tile ≡ length axes → k < length axes → k < length at
    → range ≡ get_or tile k range → end ≡ end_of far (get_or axes k d).down range → take k at ≡ take k (corner_of far axes tile)
    → take (k + 1) (set at k end) ≡ take (k + 1) (corner_of far axes tile)
corner_more far axes tile at k end range d e lt room range_is end_is so_far =
    let there : end ≡ get_or (corner_of far axes tile) k 0 =
    end_is ∙ ap (end_of far (get_or axes k d).down) range_is ∙ sym (get_or-corner far axes tile k d range e lt) in
    take_more_set at k end room ∙ (λ i. so_far i ++ there i ∷ []) ∙ sym (take_more (corner_of far axes tile) k 0 (omega (arith, length-corner far axes tile e)))

pub corner_all : (c : Chain) (far : Bool) (tile : List (ℕ × ℕ)) (at : List ℕ) (k : ℕ) → length c.axes ≡ 4 → length tile ≡ length (shape_of c) → c.count ≤ k → k ≤ c.count
    → take k at ≡ take k (corner_of far (axes_of c) tile) → take c.count at ≡ corner_of far (axes_of c) tile
corner_all c far tile at k long e past within so_far =
    let end : c.count ≡ k = omega arith in
    ap (λ n. take n at) end ∙ so_far
    ∙ take_all k (corner_of far (axes_of c) tile) (omega (arith, length-corner far (axes_of c) tile (e ∙ length-shape_of c), length-axes_of c long))

pub boxed_all : (lows highs coordinates : List ℕ) (ranges : List (ℕ × ℕ)) (axis : ℕ) → coordinates ≡ lows → length lows ≡ length highs → length coordinates ≤ axis → axis ≤ length coordinates
    → take axis ranges ≡ take axis (boxed lows highs) → take (length coordinates) ranges ≡ boxed lows highs
boxed_all lows highs coordinates ranges axis is same past within so_far =
    let end : length coordinates ≡ axis = omega arith in
    ap (λ n. take n ranges) end ∙ so_far ∙ take_all axis (boxed lows highs) (omega (arith, length-boxed lows highs same, ap length is))
