-- Which steps make no holes: each tile of the view after the step leads where a tile of the view
-- before it led.
use Rattle.std.proofs.Common.{◌≡◌, ℕ, zero, suc, ◌+◌, ◌-◌, ◌*◌, ◌/◌, ◌%◌, ◌<◌, ◌≤◌, Bool, true, false, ℤ, pos, negsuc, List, [], ◌∷◌, length, map, get_or, set, take, inl, inr, refl, sym, ap, subst, ◌∙◌, arith, get_or-set_same}
use Rattle.std.specs.List.{insert, remove}
use Rattle.std.proofs.lemmas.Bool.{cases_lt, false≢true}
use Rattle.std.proofs.lemmas.Nat.{mul-le, div_below, le-div, mod_below, div-add-mod'}
use Rattle.std.proofs.lemmas.Option.{slice_get-get_or}
use Rattle.std.proofs.lemmas.List.{set-set, set-get_or, length-set, ext_get_or, get_or_past, get_or_default}
use Rattle.std.proofs.lemmas.List.Edits.{length-insert, length-remove, get_or-insert_below, get_or-insert_at, get_or-insert_above, get_or-remove_below, get_or-remove_above}
use Rattle.std.proofs.lemmas.List.Elements.{All-get_or}
use Rattle.lg_space.specs.Rectangle.{IsIn, volume_of, place_in, indices}
use Rattle.lg_space.proofs.Places.{volume_counts, stands_once, place-below}
use Rattle.lg_shape.specs.Shapes.{whole, place_of, size_of}
use Rattle.lg_shape.specs.Views.{shape_after, index_before, put_at, sliced_at, IsStepOf, IsSliceOf}
use Rattle.lg_shape.specs.declared.step.Step.{Step}
use Rattle.lg_shape.specs.declared.step.Step.TheVariants.{Promote, Project, Slice, Transpose, Delinearize}
use Rattle.lg_xform.specs.Chains.{inner_after, IsUnsplit}
use Rattle.lg_xform.specs.Footprints.{IsTile, LeadsTo, IsFootprint, HasNoHoles, IsDenseStep}
use Rattle.lg_xform.proofs.Insides.{remove-insert, insert-remove, same_axes, in-remove, in-insert, in-set, between_at, between_moved, in_from_between, length-whole, get_or-whole, in_whole_axes, in_whole_below}
use Rattle.lg_xform.proofs.Orders.{IsOrder, is_order, length-put_at, put_there, put, length-put, put_anywhere, ordered, get_or-ordered, length-ordered}
use Rattle.lg_xform.proofs.Befores.{stays_inside}
use Rattle.lg_xform.proofs.Slicing.{sliced_first}

-- ---- a tile of the view before

module _ (step : Step) (shape : List ℕ) (inner : List Bool) (m n : List ℕ → List ℕ) (of : IsStepOf step shape) (full : HasNoHoles shape inner m)
    (same : (index : List ℕ) → IsIn (whole (shape_after step shape)) index → n index ≡ m (index_before step index))
    (after : List (ℕ × ℕ)) (first : List ℕ) (is : IsTile (shape_after step shape) (inner_after step inner) after) (some : IsIn after first) where
  -- a tile from which each index comes, and to which each index goes
  pub carried : (tile : List (ℕ × ℕ)) → ((index : List ℕ) → IsIn after index → IsIn tile (index_before step index))
      → ((index : List ℕ) → IsIn tile index → (at : List ℕ) × IsIn after at × (index_before step at ≡ index))
      → ((axis : ℕ) → get_or inner axis false ≡ true → get_or tile axis (0, 0) ≡ (0, get_or shape axis 0))
      → (rect : List (ℕ × ℕ)) × IsFootprint n after rect
  carried tile into onto all =
      let within : (index : List ℕ) → IsIn tile index → IsIn (whole shape) index = λ index h.
      (let o = onto index h in subst (IsIn (whole shape)) o.2 (stays_inside step shape o.0 of (is.within o.0 o.1))) in
      let begin = index_before step first in
      let in' = into first some in
      let axes : length tile ≡ length shape = sym (same_axes tile begin in') ∙ in_whole_axes shape begin (within begin in') in
      let f = full tile begin (record { axes = axes; within = within; all = all }) in' in (
        f.0,
        λ at. (
          λ h. (let l = (f.1 at).0 h in let o = onto l.0 l.1 in (o.0, o.1, same o.0 (is.within o.0 o.1) ∙ ap m o.2 ∙ l.2)),
          λ l. (f.1 at).1 (index_before step l.0, into l.0 l.1, sym (same l.0 (is.within l.0 l.1)) ∙ l.2),
        ),
      )

unsplit_none : (inner : List Bool) → IsUnsplit inner → (axis : ℕ) → get_or inner axis false ≡ true → ⊥
unsplit_none inner h axis e = elim (cases_lt axis (length inner)) [
  | inl lt ↦ false≢true (sym (All-get_or (λ b. b ≡ false) inner axis false lt h) ∙ e)
  | inr past ↦ false≢true (sym (get_or_past inner axis false past) ∙ e)
]

-- ---- promote

module _ (shape : List ℕ) (inner : List Bool) (m n : List ℕ → List ℕ) (j extent : ℕ) (of : j ≤ length shape) (same_inner : length inner ≡ length shape)
    (full : HasNoHoles shape inner m) (same : (index : List ℕ) → IsIn (whole (insert shape j extent)) index → n index ≡ m (remove index j)) where
  pub promote_full : HasNoHoles (insert shape j extent) (insert inner j false) n
  promote_full after first is some =
      let long : length after ≡ length shape + 1 = omega (arith, is.axes, length-insert shape j extent of) in
      let tile = remove after j in
      let short : length tile ≡ length shape = omega (arith, length-remove after j (omega (arith, long)), long) in
      let b = between_at after first j some (omega (arith, long)) in
      carried (Promote j extent) shape inner m n of full same after first is some tile
      (λ index h. in-remove after index j h)
      (λ index h. (let put = in-insert tile index j (get_or after j (0, 0)) (get_or first j 0) b.from b.below h in
      let back = insert-remove after j (0, 0) (omega (arith, long)) in (
        insert index j (get_or first j 0),
        subst (λ r. IsIn r (insert index j (get_or first j 0))) back put,
        remove-insert index j (get_or first j 0) (omega (arith, same_axes tile index h, short)),
      )))
      (λ axis e. elim (cases_lt axis j) [
        | inl lt ↦ get_or-remove_below after j (0, 0) axis lt (omega (arith, long))
            ∙ is.all axis (get_or-insert_below inner j false false axis lt (omega (arith, same_inner)) ∙ e)
            ∙ ap (λ (x : ℕ). (0, x)) (get_or-insert_below shape j extent 0 axis lt of)
        | inr ge ↦ get_or-remove_above after j (0, 0) axis ge (omega (arith, long))
            ∙ is.all (axis + 1) (get_or-insert_above inner j false false axis ge (omega (arith, same_inner)) ∙ e)
            ∙ ap (λ (x : ℕ). (0, x)) (get_or-insert_above shape j extent 0 axis ge of)
      ])

-- ---- project

module _ (shape : List ℕ) (inner : List Bool) (m n : List ℕ → List ℕ) (j at : ℕ) (of : IsStepOf (Project j at) shape) (unsplit : IsUnsplit inner)
    (full : HasNoHoles shape inner m) (same : (index : List ℕ) → IsIn (whole (remove shape j)) index → n index ≡ m (insert index j at)) where
  pub project_full : HasNoHoles (remove shape j) (remove inner j) n
  project_full after first is some =
      let short : length after + 1 ≡ length shape = omega (arith, is.axes, length-remove shape j of.0) in
      let tile = insert after j (at, at + 1) in
      carried (Project j at) shape inner m n of full same after first is some tile
      (λ index h. in-insert after index j (at, at + 1) at (omega arith) (omega arith) h)
      (λ index h. (let cut = in-remove tile index j h in
      let back = remove-insert after j (at, at + 1) (omega (arith, short, of.0)) in
      let long : length tile ≡ length shape = omega (arith, length-insert after j (at, at + 1) (omega (arith, short, of.0)), short) in
      let b = between_at tile index j h (omega (arith, long, of.0)) in
      let range = get_or-insert_at after j (at, at + 1) (0, 0) (omega (arith, short, of.0)) in
      let low : at ≤ get_or index j 0 = subst (λ (r : ℕ × ℕ). r.0 ≤ get_or index j 0) range b.from in
      let high : get_or index j 0 < at + 1 = subst (λ (r : ℕ × ℕ). get_or index j 0 < r.1) range b.below in
      let here : at ≡ get_or index j 0 = omega arith in (
        remove index j,
        subst (λ r. IsIn r (remove index j)) back cut,
        ap (insert (remove index j) j) here ∙ insert-remove index j 0 (omega (arith, same_axes tile index h, long, of.0)),
      )))
      (λ axis e. absurd (unsplit_none inner unsplit axis e))

-- ---- slice

-- the coordinates of a slice from one to another are a range
pub record IsRun (start : ℕ) (step : ℤ) (low high : ℕ) (range : ℕ × ℕ) : Type 0 where
  pub into : (k : ℕ) → low ≤ k → k < high → (range.0 ≤ sliced_at start step k) × (sliced_at start step k < range.1)
  pub onto : (x : ℕ) → range.0 ≤ x → x < range.1 → (k : ℕ) × (low ≤ k) × (k < high) × (sliced_at start step k ≡ x)

run_up : (start low high : ℕ) → IsRun start (pos 1) low high (start + low, start + high)
run_up start low high = record {
  into = λ k l h. (omega arith, omega arith);
  onto = λ x l h. (x - start, omega arith, omega arith, omega arith);
}

run_down : (start low high : ℕ) → high - 1 ≤ start → low < high → IsRun start (negsuc 0) low high (start - (high - 1), start - low + 1)
run_down start low high room some = record {
  into = λ k l h. (omega arith, omega arith);
  onto = λ x l h. (start - x, omega arith, omega arith, omega arith);
}

run_one : (start : ℕ) (step : ℤ) → IsRun start step 0 1 (start, start + 1)
run_one start step =
    let first = sliced_first start step in
    record {
      into = λ k l h. (let zero_k : k ≡ 0 = omega arith in let there : sliced_at start step k ≡ start = ap (sliced_at start step) zero_k ∙ first in (omega (arith, there), omega (arith, there)));
      onto = λ x l h. (0, omega arith, omega arith, first ∙ (omega arith));
    }

pub run_of : (start len : ℕ) (step : ℤ) (extent low high axis : ℕ) → IsSliceOf start len step extent → IsDenseStep (Slice axis start len step) → low < high → high ≤ len
    → (range : ℕ × ℕ) × IsRun start step low high range
run_of start len step extent low high axis of dense some within = elim dense [
  | inl up ↦ ((start + low, start + high), subst (λ s. IsRun start s low high (start + low, start + high)) (sym up) (run_up start low high))
  | inr other ↦ elim other [
    | inl down ↦
        (let of' : IsSliceOf start len (negsuc 0) extent = subst (λ s. IsSliceOf start len s extent) down of in
        let room : high - 1 ≤ start = elim of'.1 [ inl none ↦ absurd (omega arith) | inr all ↦ omega (arith, all.1) ] in
        ((start - (high - 1), start - low + 1), subst (λ s. IsRun start s low high (start - (high - 1), start - low + 1)) (sym down) (run_down start low high room some)))
    | inr one ↦
        (let l : 0 ≡ low = omega arith in
        let h : 1 ≡ high = omega arith in
        ((start, start + 1), subst (λ a. IsRun start step a high (start, start + 1)) l (subst (λ b. IsRun start step 0 b (start, start + 1)) h (run_one start step))))
  ]
]

-- a tile whose range was replaced, and put back
put_back : (after : List (ℕ × ℕ)) (index : List ℕ) (j : ℕ) (run : ℕ × ℕ) (k : ℕ) → IsIn (set (set after j run) j (get_or after j (0, 0))) (set index j k) → IsIn after (set index j k)
put_back after index j run k h = subst (λ r. IsIn r (set index j k)) (set-set after j run (get_or after j (0, 0)) ∙ set-get_or after j (0, 0)) h

-- another coordinate of the same range
set_in : (after : List (ℕ × ℕ)) (first : List ℕ) (j at : ℕ) → IsIn after first → j < length after → (get_or after j (0, 0)).0 ≤ at → at < (get_or after j (0, 0)).1 → IsIn after (set first j at)
set_in after first j at some lt low high = subst (λ r. IsIn r (set first j at)) (set-get_or after j (0, 0)) (in-set after first j (get_or after j (0, 0)) at low high some)

slice_back : (index : List ℕ) (j k start : ℕ) (step : ℤ) → j < length index → sliced_at start step k ≡ get_or index j 0
    → set (set index j k) j (sliced_at start step (get_or (set index j k) j 0)) ≡ index
slice_back index j k start step lt e =
    set-set index j k (sliced_at start step (get_or (set index j k) j 0))
    ∙ ap (λ i. set index j (sliced_at start step i)) (get_or-set_same index j k 0 lt) ∙ ap (set index j) e ∙ set-get_or index j 0

module _ (shape : List ℕ) (inner : List Bool) (m n : List ℕ → List ℕ) (j start len : ℕ) (step : ℤ) (of : IsStepOf (Slice j start len step) shape) (unsplit : IsUnsplit inner)
    (dense : IsDenseStep (Slice j start len step))
    (full : HasNoHoles shape inner m) (same : (index : List ℕ) → IsIn (whole (set shape j len)) index → n index ≡ m (index_before (Slice j start len step) index)) where
  -- where the coordinates of the slice are a range
  slice_by : (after : List (ℕ × ℕ)) (first : List ℕ) → IsTile (set shape j len) inner after → IsIn after first → j < length after → (run : ℕ × ℕ)
      → IsRun start step (get_or after j (0, 0)).0 (get_or after j (0, 0)).1 run → (rect : List (ℕ × ℕ)) × IsFootprint n after rect
  slice_by after first is some lt run is_run =
      carried (Slice j start len step) shape inner m n of full same after first is some (set after j run)
      (λ index h. (let c = between_at after index j h lt in
      let in' = is_run.into (get_or index j 0) c.from c.below in
      in-set after index j run (sliced_at start step (get_or index j 0)) in'.0 in'.1 h))
      (λ index h. (let c = between_at (set after j run) index j h (omega (arith, length-set after j run, lt)) in
      let there = get_or-set_same after j run (0, 0) lt in
      let low : run.0 ≤ get_or index j 0 = subst (λ (r : ℕ × ℕ). r.0 ≤ get_or index j 0) there c.from in
      let high : get_or index j 0 < run.1 = subst (λ (r : ℕ × ℕ). get_or index j 0 < r.1) there c.below in
      let o = is_run.onto (get_or index j 0) low high in
      let axes : j < length index = omega (arith, same_axes (set after j run) index h, length-set after j run, lt) in
      (set index j o.0, put_back after index j run o.0 (in-set (set after j run) index j (get_or after j (0, 0)) o.0 o.1 o.2 h), slice_back index j o.0 start step axes o.3)))
      (λ axis e. absurd (unsplit_none inner unsplit axis e))

  pub slice_full : HasNoHoles (set shape j len) inner n
  slice_full after first is some =
      let lt : j < length after = omega (arith, is.axes, length-set shape j len, of.0) in
      let range = get_or after j (0, 0) in
      let b = between_at after first j some lt in
      let last = set first j (range.1 - 1) in
      let there = set_in after first j (range.1 - 1) some lt (omega (arith, b.from, b.below)) (omega (arith, b.below)) in
      let at_last : get_or last j 0 ≡ range.1 - 1 = get_or-set_same first j (range.1 - 1) 0 (omega (arith, same_axes after first some, lt)) in
      let below : range.1 - 1 < len = omega (arith, at_last, in_whole_below (set shape j len) last j (is.within last there) (omega (arith, length-set shape j len, of.0)), get_or-set_same shape j len 0 of.0) in
      let run = run_of start len step (get_or shape j 0) range.0 range.1 j of.1 dense (omega (arith, b.from, b.below)) (omega (arith, below)) in
      slice_by after first is some lt run.0 run.1

-- ---- transpose

module _ (shape : List ℕ) (inner : List Bool) (m n : List ℕ → List ℕ) (axes : List ℕ) (of : IsStepOf (Transpose axes) shape) (same_inner : length inner ≡ length shape)
    (full : HasNoHoles shape inner m) (same : (index : List ℕ) → IsIn (whole (shape_after (Transpose axes) shape)) index → n index ≡ m (index_before (Transpose axes) index)) where
  is_an_order : IsOrder (length shape) (take (length shape) axes)
  is_an_order = is_order (length shape) (take (length shape) axes) of

  ranges_there : (tile : List (ℕ × ℕ)) (j : ℕ) → length tile ≡ length shape → j < length shape
      → get_or (put (take (length shape) axes) tile tile) (get_or (take (length shape) axes) j 0) (0, 0) ≡ get_or tile j (0, 0)
  ranges_there tile j long lt =
      let o = is_an_order in
      put_anywhere (0, 0) (take (length shape) axes) tile tile j (omega (arith, long, o.all)) (omega (arith, o.all)) (λ i j below in'. o.apart i j below (omega (arith, o.all))) (omega (arith, long, o.below j lt))

  coordinate_there : (index : List ℕ) (j : ℕ) → length index ≡ length shape → j < length shape
      → get_or (index_before (Transpose axes) index) (get_or (take (length shape) axes) j 0) 0 ≡ get_or index j 0
  coordinate_there index j long lt =
      let o = is_an_order in
      ap (λ l. get_or (put_at (take l axes) index index) (get_or (take (length shape) axes) j 0) 0) long
      ∙ put_there (take (length shape) axes) index index j (omega (arith, long, o.all)) (omega (arith, o.all)) (λ i j below in'. o.apart i j below (omega (arith, o.all))) (omega (arith, long, o.below j lt))

  pub transpose_full : HasNoHoles (shape_after (Transpose axes) shape) (inner_after (Transpose axes) inner) n
  transpose_full after first is some =
      let o = is_an_order in
      let turn = take (length shape) axes in
      let long : length after ≡ length shape = is.axes ∙ length-ordered 1 shape turn ∙ o.all in
      let tile = put turn after after in
      let tile_long : length tile ≡ length shape = length-put turn after after ∙ long in
      carried (Transpose axes) shape inner m n of full same after first is some tile
      (λ index h. (let index_long : length index ≡ length shape = same_axes after index h ∙ long in
      in_from_between tile (index_before (Transpose axes) index) (length-put_at (take (length index) axes) index index ∙ index_long ∙ sym tile_long)
      (λ a lt. (let p = o.place a (omega (arith, lt, tile_long)) in
      let b = between_at after index p.0 h (omega (arith, p.1, long)) in
      between_moved after index tile (index_before (Transpose axes) index) p.0 a
      (ap (λ k. get_or tile k (0, 0)) (sym p.2) ∙ ranges_there after p.0 long p.1)
      (ap (λ k. get_or (index_before (Transpose axes) index) k 0) (sym p.2) ∙ coordinate_there index p.0 index_long p.1) b))))
      (λ index h. (let index_long : length index ≡ length shape = same_axes tile index h ∙ tile_long in
      let at = ordered 0 index turn in
      let at_long : length at ≡ length shape = length-ordered 0 index turn ∙ o.all in
      let read : (j : ℕ) → j < length shape → get_or at j 0 ≡ get_or index (get_or turn j 0) 0 = λ j lt. get_or-ordered 0 0 index turn j (omega (arith, lt, o.all)) in (
        at,
        in_from_between after at (at_long ∙ sym long)
            (λ j lt. (let in' : j < length shape = omega (arith, lt, long) in
            between_moved tile index after at (get_or turn j 0) j (sym (ranges_there after j long in')) (read j in')
            (between_at tile index (get_or turn j 0) h (omega (arith, tile_long, o.below j in'))))),
        ext_get_or 0 (index_before (Transpose axes) at) index (length-put_at (take (length at) axes) at at ∙ at_long ∙ sym index_long)
            (λ a lt. (let p = o.place a (omega (arith, lt, length-put_at (take (length at) axes) at at, at_long)) in
            ap (λ k. get_or (index_before (Transpose axes) at) k 0) (sym p.2) ∙ coordinate_there at p.0 at_long p.1 ∙ read p.0 p.1 ∙ ap (λ k. get_or index k 0) p.2)),
      )))
      (λ axis e. elim (cases_lt axis (length shape)) [
        | inl lt ↦ (let p = o.place axis lt in
            let flag : get_or (inner_after (Transpose axes) inner) p.0 false ≡ true =
            ap (λ l. get_or (ordered false inner (take l axes)) p.0 false) same_inner
            ∙ get_or-ordered false false inner turn p.0 (omega (arith, p.1, o.all)) ∙ ap (λ k. get_or inner k false) p.2 ∙ e in
            let extent : get_or (shape_after (Transpose axes) shape) p.0 0 ≡ get_or shape axis 0 =
            get_or-ordered 1 0 shape turn p.0 (omega (arith, p.1, o.all)) ∙ ap (λ k. get_or shape k 1) p.2 ∙ get_or_default shape axis 1 0 lt in
            ap (λ k. get_or tile k (0, 0)) (sym p.2) ∙ ranges_there after p.0 long p.1 ∙ is.all p.0 flag ∙ ap (λ (x : ℕ). (0, x)) extent)
        | inr past ↦ absurd (false≢true (sym (get_or_past inner axis false (omega (arith, past, same_inner))) ∙ e))
      ])

-- ---- delinearize

-- each place is that of an index
pub index_at : (rect : List (ℕ × ℕ)) (k : ℕ) → k < volume_of rect → (index : List ℕ) × IsIn rect index × (place_in rect index ≡ k)
index_at rect k lt =
    let in' : k < length (indices rect) = omega (arith, lt, volume_counts rect) in
    let once = stands_once rect k (get_or (indices rect) k []) (slice_get-get_or (indices rect) k [] in') in
    (get_or (indices rect) k [], once.0, once.1)

all_true : (sizes : List ℕ) (k : ℕ) → k < length sizes → get_or (map (λ size. true) sizes) k false ≡ true
all_true [] k h = absurd (omega arith)
all_true (size ∷ sizes) zero h = refl
all_true (size ∷ sizes) (suc k) h = all_true sizes k (omega arith)

module _ (size : ℕ) (sizes : List ℕ) (n : List ℕ → List ℕ) (low high : ℕ) (same : (index : List ℕ) → IsIn (whole (size ∷ sizes)) index → n index ≡ place_of (size ∷ sizes) index ∷ [])
    (within : (index : List ℕ) → IsIn ((low, high) ∷ whole sizes) index → IsIn (whole (size ∷ sizes)) index) where
  -- a range of the first axis, and all of the others, are a range of places
  band : (at : List ℕ) → IsIn ((low * size_of sizes, high * size_of sizes) ∷ []) at → LeadsTo n ((low, high) ∷ whole sizes) at
  band [] h = absurd h
  band (x ∷ []) h =
      let width = size_of sizes in
      let some : 0 < width = elim (cases_lt 0 width) [
        | inl lt ↦ lt
        | inr none ↦ absurd (let e : width ≡ 0 = omega arith in let l = ap (λ w. high * w) e in omega (arith, l, h.1))
      ] in
      let row = x / width in
      let rest = index_at (whole sizes) (x % width) (mod_below x width some) in
      let from : low ≤ row = le-div low x width some h.0 in
      let below : row < high = div_below x width high some h.1 in
      let in' : IsIn ((low, high) ∷ whole sizes) (row ∷ rest.0) = (from, below, rest.1) in
      let first : row - 0 ≡ row = omega arith in
      let scaled : (row - 0) * width ≡ row * width = ap (λ r. r * width) first in
      let place : place_of (size ∷ sizes) (row ∷ rest.0) ≡ x = omega (arith, scaled, rest.2, div-add-mod' x width) in
      (row ∷ rest.0, in', same (row ∷ rest.0) (within (row ∷ rest.0) in') ∙ ap (λ p. p ∷ []) place)
  band (x ∷ (y ∷ at)) h = absurd h.2

  banded : (index : List ℕ) → IsIn ((low, high) ∷ whole sizes) index → IsIn ((low * size_of sizes, high * size_of sizes) ∷ []) (n index)
  banded [] h = absurd h
  banded (i ∷ index) h =
      let width = size_of sizes in
      let rest = place-below (whole sizes) index h.2 in
      let first : i - 0 ≡ i = omega arith in
      let scaled : (i - 0) * width ≡ i * width = ap (λ r. r * width) first in
      let from = mul-le low width i width h.0 (omega arith) in
      let below = mul-le (i + 1) width high width (omega (arith, h.1)) (omega arith) in
      subst (IsIn ((low * width, high * width) ∷ [])) (sym (same (i ∷ index) (within (i ∷ index) h)))
      (omega (arith, scaled, from), omega (arith, scaled, below, rest), tt)

pub delinearize_full : (sizes : List ℕ) (inner : List Bool) (n : List ℕ → List ℕ) → ((index : List ℕ) → IsIn (whole sizes) index → n index ≡ place_of sizes index ∷ [])
    → HasNoHoles sizes (inner_after (Delinearize sizes) inner) n
delinearize_full [] inner n same [] first is some =
    ((0, 1) ∷ [], λ at. (point at, λ l. subst (IsIn ((0, 1) ∷ [])) (sym (same l.0 l.1) ∙ l.2) (lands l.0)))
  where
    lands : (index : List ℕ) → IsIn ((0, 1) ∷ []) (place_of [] index ∷ [])
    lands index = (omega arith, omega arith, tt)

    point : (at : List ℕ) → IsIn ((0, 1) ∷ []) at → LeadsTo n [] at
    point [] h = absurd h
    point (x ∷ []) h = ([], tt, same [] tt ∙ ap (λ y. y ∷ []) (omega arith))
    point (x ∷ (y ∷ at)) h = absurd h.2
delinearize_full [] inner n same (range ∷ tile) first is some = absurd (omega (arith, is.axes))
delinearize_full (size ∷ sizes) inner n same [] first is some = absurd (omega (arith, is.axes))
delinearize_full (size ∷ sizes) inner n same (range ∷ tile) first is some =
    let axes : length tile ≡ length sizes = omega (arith, is.axes) in
    let rest : tile ≡ whole sizes = ext_get_or (0, 0) tile (whole sizes) (axes ∙ sym (length-whole sizes))
    (λ k lt. is.all (suc k) (all_true sizes k (omega (arith, axes, lt))) ∙ sym (get_or-whole sizes k)) in
    let all : range ∷ tile ≡ (range.0, range.1) ∷ whole sizes = ap (λ t. range ∷ t) rest in
    let within : (index : List ℕ) → IsIn ((range.0, range.1) ∷ whole sizes) index → IsIn (whole (size ∷ sizes)) index = λ index h. is.within index (subst (λ t. IsIn t index) (sym all) h) in
    let rect : List (ℕ × ℕ) = (range.0 * size_of sizes, range.1 * size_of sizes) ∷ [] in (
      rect,
      λ at. (
        λ h. subst (λ t. LeadsTo n t at) (sym all) (band size sizes n range.0 range.1 same within at h),
        λ l. subst (IsIn rect) l.2 (banded size sizes n range.0 range.1 same within l.0 (subst (λ t. IsIn t l.0) all l.1)),
      ),
    )
