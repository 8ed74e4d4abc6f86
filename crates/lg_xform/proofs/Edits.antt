-- What a chain keeps and where it leads, after each step.
use Rattle.std.proofs.Common.{◌≡◌, ℕ, zero, suc, ◌+◌, ◌-◌, ◌*◌, ◌<◌, ◌≤◌, Bool, false, ℤ, List, [], ◌∷◌, length, map, get_or, set, take, inl, inr, refl, sym, ap, subst, ◌∙◌, arith, get_or-set_same}
use Rattle.std.specs.List.{insert, remove, range_with_len}
use Rattle.std.proofs.lemmas.Bool.{cases_lt}
use Rattle.std.proofs.lemmas.List.Elements.{All-get_or}
use Rattle.std.specs.List.Sorted.{IsPermutation}
use Rattle.std.proofs.lemmas.Nat.{mul-le}
use Rattle.std.proofs.lemmas.List.{get_or-take, get_or-map, get_or_default, get_or_past, length-map, length-take, length-set, map-set, set-get_or, ext_get_or}
use Rattle.std.proofs.lemmas.List.Edits.{length-insert, length-remove}
use Rattle.lg_space.specs.Rectangle.{IsIn}
use Rattle.lg_space.specs.declared.point.TheConstants.{MAX_AXES}
use Rattle.lg_space.specs.Stored.{MAX_END}
use Rattle.lg_shape.specs.Shapes.{whole, size_of}
use Rattle.lg_shape.specs.Stored.{IsShape}
use Rattle.lg_shape.specs.Views.{shape_after, sliced_at, put_at}
use Rattle.lg_shape.specs.declared.step.Step.TheVariants.{Promote, Project, Slice, Transpose}
use Rattle.lg_xform.specs.declared.axis.ViewAxis.{ViewAxis}
use Rattle.lg_xform.specs.declared.chain.Chain.{Chain}
use Rattle.lg_xform.specs.Moves.{steps, extents_of, add_at, moved, hit, IsHeld, AreRooted}
use Rattle.lg_xform.specs.Slices.{IsSliced}
use Rattle.lg_xform.specs.Chains.{root_of, axes_of, shape_of, inner_of, mapped, layout_of, IsChainStep, IsStepped}
use Rattle.lg_xform.proofs.Insides.{map-insert, map-remove, in_whole_axes, in_whole_below}
use Rattle.lg_xform.proofs.Orders.{IsOrder, is_order, ordered, get_or-ordered, length-ordered}
use Rattle.lg_xform.proofs.Sums.{steps_within, reach-remove, hit_same}
use Rattle.lg_xform.proofs.Held.{IsView, filled_before, view_insert, view_remove, view_set, view_ordered}
use Rattle.lg_xform.proofs.Maps.{moved_insert, moved_remove, moved_set, moved_ordered}

abbrev pub extent_in : ViewAxis → ℕ
extent_in axis = axis.extent

abbrev pub inner_in : ViewAxis → Bool
inner_in axis = axis.inner

pub view_of : (c : Chain) → IsView c.root c.from (axes_of c)
view_of c = record { rooted = c.rooted; shape = c.shape; held = c.held; filled = c.filled }

pub length-axes_of : (c : Chain) → length c.axes ≡ 4 → length (axes_of c) ≡ c.count
length-axes_of c long = let few : c.count ≤ MAX_AXES = c.few in omega (arith, length-take c.count c.axes, few)

pub length-shape_of : (c : Chain) → length (shape_of c) ≡ length (axes_of c)
length-shape_of c = length-map (axes_of c) extent_in

-- the axis that was read
pub axis_at : (c : Chain) (j : ℕ) (old : ViewAxis) → j < c.count → old ≡ get_or c.axes j old → get_or (axes_of c) j old ≡ old
axis_at c j old lt is = get_or-take c.count c.axes j old lt ∙ sym is

pub extent_at : (c : Chain) (j : ℕ) (old : ViewAxis) → length c.axes ≡ 4 → j < c.count → old ≡ get_or c.axes j old → get_or (shape_of c) j 0 ≡ old.extent
extent_at c j old long lt is = get_or-map extent_in (axes_of c) j old 0 (omega (arith, length-axes_of c long)) ∙ ap extent_in (axis_at c j old lt is)

-- an axis that is read at a place of the array
abbrev pub none : ViewAxis
none = record { extent = 0; root = 0; stride = 0; down = false; inner = false }

pub read_at : (c : Chain) (j : ℕ) → length c.axes ≡ 4 → j < c.count → get_or c.axes j none ≡ get_or c.axes j (get_or c.axes j none)
read_at c j long lt =
    let few : c.count ≤ MAX_AXES = c.few in
    get_or_default c.axes j none (get_or c.axes j none) (omega (arith, long, few))

-- no coordinate leaves the root
pub root_small : (c : Chain) (k : ℕ) → get_or c.root k 0 ≤ MAX_END
root_small c k = elim (cases_lt k (length c.root)) [
  | inl lt ↦ (let s : IsShape c.root = c.root_shape in All-get_or (λ extent. extent ≤ MAX_END) c.root k 0 lt s.extents)
  | inr past ↦ omega (arith, get_or_past c.root k 0 past)
]

pub axis_rooted : (c : Chain) (j : ℕ) → length c.axes ≡ 4 → j < c.count → (get_or c.axes j none).root < 4
axis_rooted c j long lt =
    let all : AreRooted (axes_of c) = c.rooted in
    let there = All-get_or (λ (axis : ViewAxis). axis.root < MAX_AXES) (axes_of c) j none (omega (arith, length-axes_of c long)) all in
    subst (λ (axis : ViewAxis). axis.root < MAX_AXES) (get_or-take c.count c.axes j none lt) there

pub axis_small : (c : Chain) (j : ℕ) → length c.axes ≡ 4 → j < c.count
    → get_or c.from (get_or c.axes j none).root 0 + ((get_or c.axes j none).extent - 1) * (get_or c.axes j none).stride ≤ MAX_END
axis_small c j long lt =
    let axis = get_or c.axes j none in
    let held : IsHeld c.root c.from (axes_of c) = c.held in
    let all = reach-remove axis.root (axes_of c) j none (omega (arith, length-axes_of c long)) in
    let this : hit axis.root (get_or (axes_of c) j none).root (((get_or (axes_of c) j none).extent - 1) * (get_or (axes_of c) j none).stride) ≡ (axis.extent - 1) * axis.stride =
    ap (λ (a : ViewAxis). hit axis.root a.root ((a.extent - 1) * a.stride)) (get_or-take c.count c.axes j none lt) ∙ hit_same axis.root ((axis.extent - 1) * axis.stride) in
    omega (arith, held axis.root, all, this, root_small c axis.root)

-- ---- promote

abbrev pub free : ℕ → ViewAxis
free extent = record { extent = extent; root = 0; stride = 0; down = false; inner = false }

module _ (old : Chain) (j extent : ℕ) (long : length old.axes ≡ 4) (may : IsChainStep (Promote j extent) (root_of old) (layout_of old) (inner_of old)) where
  at : j ≤ length (axes_of old)
  at = omega (arith, may.step_of, length-shape_of old)

  pub promote_room : old.count + 1 ≤ MAX_AXES
  promote_room = omega (arith, may.shape.axes, length-insert (shape_of old) j extent may.step_of, length-shape_of old, length-axes_of old long)

  pub promoted_view : (axes : List ViewAxis) → axes ≡ insert (axes_of old) j (free extent) → IsView old.root old.from axes
  promoted_view axes e =
      let same : extents_of (insert (axes_of old) j (free extent)) ≡ insert (shape_of old) j extent = map-insert extent_in (axes_of old) j (free extent) in
      subst (IsView old.root old.from) (sym e)
      (view_insert old.root old.from (axes_of old) j (free extent) (view_of old) at (subst IsShape (sym same) may.shape) refl refl
      (λ some. filled_before (Promote j extent) (shape_of old) may.step_of (subst (λ s. 0 < size_of s) same some)))

  pub promoted : (new : Chain) → new.root ≡ old.root → new.from ≡ old.from → axes_of new ≡ insert (axes_of old) j (free extent) → IsStepped (Promote j extent) old new
  promoted new root from axes =
      let shape : shape_of new ≡ insert (shape_of old) j extent = ap extents_of axes ∙ map-insert extent_in (axes_of old) j (free extent) in
      record {
        root = root;
        shape = shape;
        mapped = λ index in'.
            let axes_in : length index ≡ suc (length (axes_of old)) = omega (arith, in_whole_axes (shape_of new) index in', ap length shape, length-insert (shape_of old) j extent may.step_of, length-shape_of old) in
            let there = moved_insert old.from (axes_of old) j (free extent) index refl at axes_in in
            (λ i. take (length (root i)) (moved (from i) (axes i) index)) ∙ ap (take (length old.root)) there;
        inner = ap (map inner_in) axes ∙ map-insert inner_in (axes_of old) j (free extent);
      }

-- ---- project

module _ (old : Chain) (j index n : ℕ) (axis : ViewAxis) (long : length old.axes ≡ 4) (wide : length old.from ≡ 4)
    (may : IsChainStep (Project j index) (root_of old) (layout_of old) (inner_of old)) (read : axis ≡ get_or old.axes j axis)
    (is : n ≡ steps axis.down axis.extent index * axis.stride) where
  pub project_at : j < length (axes_of old)
  project_at = omega (arith, may.step_of.0, length-shape_of old)

  project_axis : get_or (axes_of old) j axis ≡ axis
  project_axis = axis_at old j axis (omega (arith, project_at, length-axes_of old long)) read

  pub project_below : index < axis.extent
  project_below = omega (arith, may.step_of.1, extent_at old j axis long (omega (arith, project_at, length-axes_of old long)) read)

  pub project_within : n ≤ (axis.extent - 1) * axis.stride
  project_within = omega (arith, is, mul-le (steps axis.down axis.extent index) axis.stride (axis.extent - 1) axis.stride (steps_within axis.down axis.extent index project_below) (omega arith))

  pub projected_view : (from : List ℕ) (axes : List ViewAxis) → from ≡ add_at old.from axis.root n → axes ≡ remove (axes_of old) j → IsView old.root from axes
  projected_view from axes e f =
      let same : extents_of (remove (axes_of old) j) ≡ remove (shape_of old) j = map-remove extent_in (axes_of old) j in
      let small : n ≤ ((get_or (axes_of old) j axis).extent - 1) * (get_or (axes_of old) j axis).stride =
      subst (λ (a : ViewAxis). n ≤ (a.extent - 1) * a.stride) (sym project_axis) project_within in
      let v = view_remove old.root old.from (axes_of old) j n axis (view_of old) project_at (subst IsShape (sym same) may.shape) small
      (λ some. filled_before (Project j index) (shape_of old) may.step_of (subst (λ s. 0 < size_of s) same some)) in
      let w = subst (λ (a : ViewAxis). IsView old.root (add_at old.from a.root n) (remove (axes_of old) j)) project_axis v in
      subst (λ l. IsView old.root l axes) (sym e) (subst (IsView old.root (add_at old.from axis.root n)) (sym f) w)

  pub projected : (new : Chain) → new.root ≡ old.root → new.from ≡ add_at old.from axis.root n → axes_of new ≡ remove (axes_of old) j → IsStepped (Project j index) old new
  projected new root from axes =
      let shape : shape_of new ≡ remove (shape_of old) j = ap extents_of axes ∙ map-remove extent_in (axes_of old) j in
      record {
        root = root;
        shape = shape;
        mapped = λ at in'.
            let few : suc (length at) ≡ length (axes_of old) = omega (arith, in_whole_axes (shape_of new) at in', ap length shape, length-remove (shape_of old) j may.step_of.0, length-shape_of old) in
            let n_is : n ≡ steps (get_or (axes_of old) j axis).down (get_or (axes_of old) j axis).extent index * (get_or (axes_of old) j axis).stride =
            is ∙ ap (λ (a : ViewAxis). steps a.down a.extent index * a.stride) (sym project_axis) in
            let there = moved_remove old.from (axes_of old) j axis at index n project_at few n_is in
            (λ i. take (length (root i)) (moved (from i) (axes i) at))
            ∙ ap (λ (a : ViewAxis). take (length old.root) (moved (add_at old.from a.root n) (remove (axes_of old) j) at)) (sym project_axis)
            ∙ ap (take (length old.root)) there;
        inner = ap (map inner_in) axes ∙ map-remove inner_in (axes_of old) j;
      }

-- ---- slice

module _ (old : Chain) (j start len : ℕ) (step : ℤ) (n : ℕ) (axis made : ViewAxis) (long : length old.axes ≡ 4)
    (may : IsChainStep (Slice j start len step) (root_of old) (layout_of old) (inner_of old)) (read : axis ≡ get_or old.axes j axis)
    (sliced : IsSliced start len step axis n made) where
  pub slice_at : j < length (axes_of old)
  slice_at = omega (arith, may.step_of.0, length-shape_of old)

  slice_axis : get_or (axes_of old) j axis ≡ axis
  slice_axis = axis_at old j axis (omega (arith, slice_at, length-axes_of old long)) read

  slice_shape : extents_of (set (axes_of old) j made) ≡ set (shape_of old) j len
  slice_shape = map-set extent_in (axes_of old) j made ∙ ap (set (shape_of old) j) sliced.extent

  pub sliced_view : (from : List ℕ) (axes : List ViewAxis) → from ≡ add_at old.from axis.root n → axes ≡ set (axes_of old) j made → IsView old.root from axes
  sliced_view from axes e f =
      let reaches : n + (made.extent - 1) * made.stride ≤ (axis.extent - 1) * axis.stride = subst (λ l. n + (l - 1) * made.stride ≤ (axis.extent - 1) * axis.stride) (sym sliced.extent) sliced.reaches in
      let small : n + (made.extent - 1) * made.stride ≤ ((get_or (axes_of old) j axis).extent - 1) * (get_or (axes_of old) j axis).stride =
      subst (λ (a : ViewAxis). n + (made.extent - 1) * made.stride ≤ (a.extent - 1) * a.stride) (sym slice_axis) reaches in
      let root : made.root ≡ (get_or (axes_of old) j axis).root = sliced.root ∙ ap (λ (a : ViewAxis). a.root) (sym slice_axis) in
      let v = view_set old.root old.from (axes_of old) j n made axis (view_of old) slice_at (subst IsShape (sym slice_shape) may.shape) root small
      (λ some. filled_before (Slice j start len step) (shape_of old) may.step_of (subst (λ s. 0 < size_of s) slice_shape some)) in
      let w = subst (λ (a : ViewAxis). IsView old.root (add_at old.from a.root n) (set (axes_of old) j made)) slice_axis v in
      subst (λ l. IsView old.root l axes) (sym e) (subst (IsView old.root (add_at old.from axis.root n)) (sym f) w)

  pub sliced_map : (new : Chain) → new.root ≡ old.root → new.from ≡ add_at old.from axis.root n → axes_of new ≡ set (axes_of old) j made → IsStepped (Slice j start len step) old new
  sliced_map new root from axes =
      let shape : shape_of new ≡ set (shape_of old) j len = ap extents_of axes ∙ slice_shape in
      record {
        root = root;
        shape = shape;
        mapped = λ index in'.
            let same_axes : length index ≡ length (axes_of old) = omega (arith, in_whole_axes (shape_of new) index in', ap length shape, length-set (shape_of old) j len, length-shape_of old) in
            let k = get_or index j 0 in
            let below : k < len = omega (
              arith,
              in_whole_below (set (shape_of old) j len) index j (subst (λ s. IsIn (whole s) index) shape in') (omega (arith, length-set (shape_of old) j len, length-shape_of old, slice_at)),
              get_or-set_same (shape_of old) j len 0 may.step_of.0,
            ) in
            let leads : n + steps made.down made.extent k * made.stride ≡ steps axis.down axis.extent (sliced_at start step k) * axis.stride =
            ap (λ l. n + steps made.down l k * made.stride) sliced.extent ∙ sliced.leads k below in
            let is = leads ∙ ap (λ (a : ViewAxis). steps a.down a.extent (sliced_at start step k) * a.stride) (sym slice_axis) in
            let hits : made.root ≡ (get_or (axes_of old) j axis).root = sliced.root ∙ ap (λ (a : ViewAxis). a.root) (sym slice_axis) in
            let there = moved_set old.from (axes_of old) j made axis index (sliced_at start step k) n slice_at same_axes hits is in
            (λ i. take (length (root i)) (moved (from i) (axes i) index))
            ∙ ap (λ (a : ViewAxis). take (length old.root) (moved (add_at old.from a.root n) (set (axes_of old) j made) index)) (sym slice_axis)
            ∙ ap (take (length old.root)) there;
        inner = ap (map inner_in) axes ∙ map-set inner_in (axes_of old) j made
            ∙ ap (set (inner_of old) j) (sliced.inner ∙ sym (get_or-map inner_in (axes_of old) j axis false slice_at ∙ ap inner_in slice_axis))
            ∙ set-get_or (inner_of old) j false;
      }

-- ---- transpose

module _ (old : Chain) (axes_to : List ℕ) (d : ViewAxis) (long : length old.axes ≡ 4)
    (may : IsChainStep (Transpose axes_to) (root_of old) (layout_of old) (inner_of old)) where
  turned : List ℕ
  turned = take (length (shape_of old)) axes_to

  perm : IsPermutation (range_with_len 0 (length (axes_of old))) (take (length (axes_of old)) axes_to)
  perm = subst (λ n. IsPermutation (range_with_len 0 n) (take n axes_to)) (length-shape_of old) may.step_of

  o : IsOrder (length (axes_of old)) (take (length (axes_of old)) axes_to)
  o = is_order (length (axes_of old)) (take (length (axes_of old)) axes_to) perm

  pub order_below : (j : ℕ) → j < old.count → get_or axes_to j 0 < old.count
  order_below j lt =
      let count = length-axes_of old long in
      omega (arith, count, o.below j (omega (arith, count)), get_or-take (length (axes_of old)) axes_to j 0 (omega (arith, count)))

  -- each member of what an axis has, in the new order
  ordered_of : {Y : Type 0} (f : ViewAxis → Y) (e : Y) → map f (ordered d (axes_of old) (take (length (axes_of old)) axes_to))
      ≡ ordered e (map f (axes_of old)) (take (length (axes_of old)) axes_to)
  ordered_of f e =
      let order = take (length (axes_of old)) axes_to in
      let l : length (map f (ordered d (axes_of old) order)) ≡ length order = length-map (ordered d (axes_of old) order) f ∙ length-ordered d (axes_of old) order in
      ext_get_or e (map f (ordered d (axes_of old) order)) (ordered e (map f (axes_of old)) order) (l ∙ sym (length-ordered e (map f (axes_of old)) order))
      (λ j lt. (let in' : j < length order = omega (arith, lt, l) in
      get_or-map f (ordered d (axes_of old) order) j d e (omega (arith, in', length-ordered d (axes_of old) order))
      ∙ ap f (get_or-ordered d d (axes_of old) order j in')
      ∙ sym (get_or-map f (axes_of old) (get_or order j 0) d e (o.below j (omega (arith, in', o.all))))
      ∙ sym (get_or-ordered e e (map f (axes_of old)) order j in')))

  turned_shape : extents_of (ordered d (axes_of old) (take (length (axes_of old)) axes_to)) ≡ shape_after (Transpose axes_to) (shape_of old)
  turned_shape = ordered_of extent_in 1 ∙ ap (λ n. ordered 1 (shape_of old) (take n axes_to)) (sym (length-shape_of old))

  -- the axes that were written one by one
  pub turned_axes : (made : List ViewAxis) → length made ≡ 4 → ((j : ℕ) (none : ViewAxis) → j < old.count → get_or made j none ≡ get_or old.axes (get_or axes_to j 0) none)
      → take old.count made ≡ ordered d (axes_of old) (take (length (axes_of old)) axes_to)
  turned_axes made four each =
      let order = take (length (axes_of old)) axes_to in
      let few : old.count ≤ MAX_AXES = old.few in
      let count = length-axes_of old long in
      let size : length (take old.count made) ≡ length order = omega (arith, length-take old.count made, few, o.all, count) in
      ext_get_or d (take old.count made) (ordered d (axes_of old) order) (size ∙ sym (length-ordered d (axes_of old) order))
      (λ j lt. (let in' : j < old.count = omega (arith, lt, size, o.all, count) in
      let at : get_or order j 0 ≡ get_or axes_to j 0 = get_or-take (length (axes_of old)) axes_to j 0 (omega (arith, in', count)) in
      get_or-take old.count made j d in' ∙ each j d in' ∙ ap (λ a. get_or old.axes a d) (sym at)
      ∙ sym (get_or-take old.count old.axes (get_or order j 0) d (omega (arith, at, order_below j in')))
      ∙ sym (get_or-ordered d d (axes_of old) order j (omega (arith, in', o.all, count)))))

  pub turned_view : (axes : List ViewAxis) → axes ≡ ordered d (axes_of old) (take (length (axes_of old)) axes_to) → IsView old.root old.from axes
  turned_view axes e =
      subst (IsView old.root old.from) (sym e)
      (view_ordered old.root old.from (axes_of old) (take (length (axes_of old)) axes_to) d (view_of old) perm (subst IsShape (sym turned_shape) may.shape)
      (λ some. filled_before (Transpose axes_to) (shape_of old) may.step_of (subst (λ s. 0 < size_of s) turned_shape some)))

  pub turned_map : (new : Chain) → new.root ≡ old.root → new.from ≡ old.from → axes_of new ≡ ordered d (axes_of old) (take (length (axes_of old)) axes_to) → IsStepped (Transpose axes_to) old new
  turned_map new root from axes =
      let order = take (length (axes_of old)) axes_to in
      let shape : shape_of new ≡ shape_after (Transpose axes_to) (shape_of old) = ap extents_of axes ∙ turned_shape in
      record {
        root = root;
        shape = shape;
        mapped = λ index in'.
            let same_axes : length index ≡ length (axes_of old) = omega (arith, in_whole_axes (shape_of new) index in', length-map (axes_of new) extent_in, ap length axes, length-ordered d (axes_of old) order, o.all) in
            let there = moved_ordered old.from (axes_of old) order d index perm same_axes in
            (λ i. take (length (root i)) (moved (from i) (axes i) index)) ∙ ap (take (length old.root)) there
            ∙ ap (λ n. mapped old (put_at (take n axes_to) index index)) (sym same_axes);
        inner = ap (map inner_in) axes ∙ ordered_of inner_in false ∙ ap (λ n. ordered false (inner_of old) (take n axes_to)) (sym (length-map (axes_of old) inner_in));
      }

-- an axis written within the first ones
pub take-set_in : {X : Type 0} (n : ℕ) (xs : List X) (j : ℕ) (x : X) → j < n → take n (set xs j x) ≡ set (take n xs) j x
take-set_in zero xs j x h = absurd (omega arith)
take-set_in (suc n) [] j x h = refl
take-set_in (suc n) (y ∷ xs) zero x h = refl
take-set_in (suc n) (y ∷ xs) (suc j) x h = ap (λ l. y ∷ l) (take-set_in n xs j x (omega arith))
