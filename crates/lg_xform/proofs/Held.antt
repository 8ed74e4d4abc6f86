-- What each view of a root keeps, and that each step keeps it.
use Rattle.std.proofs.Common.{◌≡◌, ℕ, suc, ◌+◌, ◌-◌, ◌*◌, ◌<◌, ◌≤◌, List, [], ◌∷◌, length, get_or, set, take, drop, inl, inr, sym, ap, ◌∙◌, arith}
use Rattle.std.specs.List.{insert, remove, range_with_len, All}
use Rattle.std.specs.List.Sorted.{IsPermutation}
use Rattle.std.proofs.lemmas.Bool.{cases_lt}
use Rattle.std.proofs.lemmas.List.{get_or_past, length-take, get_or-take}
use Rattle.std.proofs.lemmas.List.Elements.{All-cons, All-get_or, All-from_get_or, All-append, All-take, All-drop, All-set, All-map}
use Rattle.lg_space.specs.Rectangle.{IsIn, volume_of}
use Rattle.lg_space.specs.declared.point.TheConstants.{MAX_AXES}
use Rattle.lg_space.proofs.Places.{place-below}
use Rattle.lg_shape.specs.Shapes.{whole, size_of}
use Rattle.lg_shape.specs.Stored.{IsShape}
use Rattle.lg_shape.specs.Views.{shape_after, index_before, put_at, IsStepOf}
use Rattle.lg_shape.specs.declared.step.Step.{Step}
use Rattle.lg_xform.specs.declared.axis.ViewAxis.{ViewAxis}
use Rattle.lg_xform.specs.Moves.{extents_of, add_at, moved, hit, IsHeld, AreRooted}
use Rattle.lg_xform.proofs.Insides.{in_whole_below, in_whole_from_below}
use Rattle.lg_xform.proofs.Orders.{is_order, ordered, length-ordered, put_there, length-put_at}
use Rattle.lg_xform.proofs.Befores.{stays_inside}
use Rattle.lg_xform.proofs.Sums.{farthest, total_within, get_or-moved, length-moved, hit_none, hit_more, hit_both, length-add_at, get_or-add_at, reach-insert, reach-remove, reach-set, reach_total, total-ordered}

-- what the ghost fields of a chain say
pub record IsView (root from : List ℕ) (axes : List ViewAxis) : Type 0 where
  pub rooted : AreRooted axes
  pub shape : IsShape (extents_of axes)
  pub held : IsHeld root from axes
  pub filled : 0 < size_of (extents_of axes) → 0 < size_of root

-- ---- a shape with an index

pub some_index : (rect : List (ℕ × ℕ)) → 0 < volume_of rect → (index : List ℕ) × IsIn rect index
some_index [] h = ([], tt)
some_index (range ∷ rect) h = elim (cases_lt range.0 range.1) [
  | inl filled ↦ elim (cases_lt 0 (volume_of rect)) [
    | inl more ↦ (let rest = some_index rect more in (range.0 ∷ rest.0, (omega arith, filled, rest.1)))
    | inr none ↦ absurd (let e : volume_of rect ≡ 0 = omega arith in let p = ap (λ v. (range.1 - range.0) * v) e in omega (arith, p))
  ]
  | inr empty ↦ absurd (let e : range.1 - range.0 ≡ 0 = omega arith in let p = ap (λ v. v * volume_of rect) e in omega (arith, p))
]

pub volume_some : (rect : List (ℕ × ℕ)) (index : List ℕ) → IsIn rect index → 0 < volume_of rect
volume_some rect index h = omega (arith, place-below rect index h)

pub filled_before : (step : Step) (shape : List ℕ) → IsStepOf step shape → 0 < size_of (shape_after step shape) → 0 < size_of shape
filled_before step shape of h =
    let some = some_index (whole (shape_after step shape)) h in
    volume_some (whole shape) (index_before step some.0) (stays_inside step shape some.0 of some.1)

-- no extent of such a shape is 0
pub extent_some : (shape : List ℕ) (k : ℕ) → 0 < size_of shape → k < length shape → 0 < get_or shape k 0
extent_some shape k h lt =
    let some = some_index (whole shape) h in
    omega (arith, in_whole_below shape some.0 k some.1 lt)

-- ---- the root index of an index lies in the root

pub inside : (root from : List ℕ) (axes : List ViewAxis) (index : List ℕ) → IsView root from axes → length root ≤ length from
    → IsIn (whole (extents_of axes)) index → IsIn (whole root) (take (length root) (moved from axes index))
inside root from axes index v long h =
    let some = v.filled (volume_some (whole (extents_of axes)) index h) in
    in_whole_from_below root (take (length root) (moved from axes index))
    (omega (arith, length-take (length root) (moved from axes index), length-moved from axes index))
    (λ k lt. (let at = get_or-moved k from axes index (omega arith) in
    let within = total_within k axes index h in
    let first = get_or-take (length root) (moved from axes index) k 0 lt in
    omega (arith, at, within, first, v.held k, extent_some root k some lt)))

-- ---- each step keeps it

pub add_at_most : (xs : List ℕ) (k a n : ℕ) → get_or (add_at xs a n) k 0 ≤ get_or xs k 0 + hit k a n
add_at_most xs k a n = elim (cases_lt k (length xs)) [
  | inl lt ↦ omega (arith, get_or-add_at xs k a n lt)
  | inr past ↦ omega (arith, get_or_past (add_at xs a n) k 0 (omega (arith, length-add_at xs a n)))
]

All-insert : {X : Type 0} (P : X → Type 0) (xs : List X) (j : ℕ) (x : X) → P x → All P xs → All P (insert xs j x)
All-insert P xs j x h all = All-append P (take j xs) (x ∷ drop j xs) (All-take P j xs all) (All-cons P x (drop j xs) h (All-drop P j xs all))

All-remove : {X : Type 0} (P : X → Type 0) (xs : List X) (j : ℕ) → All P xs → All P (remove xs j)
All-remove P xs j all = All-append P (take j xs) (drop (suc j) xs) (All-take P j xs all) (All-drop P (suc j) xs all)

abbrev below : ViewAxis → Type 0
below axis = axis.root < MAX_AXES

pub view_insert : (root from : List ℕ) (axes : List ViewAxis) (j : ℕ) (new : ViewAxis) → IsView root from axes → j ≤ length axes
    → IsShape (extents_of (insert axes j new)) → new.root ≡ 0 → new.stride ≡ 0
    → (0 < size_of (extents_of (insert axes j new)) → 0 < size_of (extents_of axes))
    → IsView root from (insert axes j new)
view_insert root from axes j new v h shape first none filled = record {
  rooted = All-insert below axes j new (omega arith) v.rooted;
  shape = shape;
  held = λ k. (let free : farthest k new 0 ≡ 0 = ap (λ s. hit k new.root ((new.extent - 1) * s)) none ∙ ap (hit k new.root) (omega arith) ∙ hit_none k new.root in
      omega (arith, reach-insert k axes j new, free, v.held k));
  filled = λ some. v.filled (filled some);
}

pub view_remove : (root from : List ℕ) (axes : List ViewAxis) (j n : ℕ) (d : ViewAxis) → IsView root from axes → j < length axes
    → IsShape (extents_of (remove axes j)) → n ≤ ((get_or axes j d).extent - 1) * (get_or axes j d).stride
    → (0 < size_of (extents_of (remove axes j)) → 0 < size_of (extents_of axes))
    → IsView root (add_at from (get_or axes j d).root n) (remove axes j)
view_remove root from axes j n d v h shape small filled = record {
  rooted = All-remove below axes j v.rooted;
  shape = shape;
  held = λ k. (let old = get_or axes j d in
      let more = hit_more k old.root n ((old.extent - 1) * old.stride) small in
      omega (arith, reach-remove k axes j d h, more, add_at_most from k old.root n, v.held k));
  filled = λ some. v.filled (filled some);
}

pub view_set : (root from : List ℕ) (axes : List ViewAxis) (j n : ℕ) (new d : ViewAxis) → IsView root from axes → j < length axes
    → IsShape (extents_of (set axes j new)) → new.root ≡ (get_or axes j d).root
    → n + (new.extent - 1) * new.stride ≤ ((get_or axes j d).extent - 1) * (get_or axes j d).stride
    → (0 < size_of (extents_of (set axes j new)) → 0 < size_of (extents_of axes))
    → IsView root (add_at from (get_or axes j d).root n) (set axes j new)
view_set root from axes j n new d v h shape same small filled = record {
  rooted = All-set below axes j new (omega (arith, same, All-get_or below axes j d h v.rooted)) v.rooted;
  shape = shape;
  held = λ k. (let old = get_or axes j d in
      let more = hit_more k old.root (n + (new.extent - 1) * new.stride) ((old.extent - 1) * old.stride) small in
      let both = hit_both k old.root n ((new.extent - 1) * new.stride) in
      let there : farthest k new 0 ≡ hit k old.root ((new.extent - 1) * new.stride) = ap (λ r. hit k r ((new.extent - 1) * new.stride)) same in
      omega (arith, reach-set k axes j new d h, more, both, there, add_at_most from k old.root n, v.held k));
  filled = λ some. v.filled (filled some);
}

pub view_ordered : (root from : List ℕ) (axes : List ViewAxis) (order : List ℕ) (d : ViewAxis) → IsView root from axes
    → IsPermutation (range_with_len 0 (length axes)) order → IsShape (extents_of (ordered d axes order))
    → (0 < size_of (extents_of (ordered d axes order)) → 0 < size_of (extents_of axes))
    → IsView root from (ordered d axes order)
view_ordered root from axes order d v perm shape filled =
    let o = is_order (length axes) order perm in
    record {
      rooted = All-map below (λ a. get_or axes a d) order (All-from_get_or (λ a. below (get_or axes a d)) order 0
          (λ j lt. All-get_or below axes (get_or order j 0) d (o.below j (omega (arith, o.all))) v.rooted));
      shape = shape;
      held = λ k. (let put = put_at order order order in
          let one = reach_total k (ordered d axes order) order (sym (length-ordered d axes order)) in
          let other = reach_total k axes put (length-put_at order order order ∙ o.all) in
          let same = total-ordered (farthest k) d axes put order order perm o o.all (length-put_at order order order ∙ o.all)
          (λ j lt. put_there order order order j (omega arith) lt (λ i j below in'. o.apart i j below (omega (arith, o.all))) (omega (arith, o.below j (omega (arith, o.all)), o.all))) in
          omega (arith, one, other, same, v.held k));
      filled = λ some. v.filled (filled some);
    }
