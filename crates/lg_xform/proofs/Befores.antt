-- The index before a step is in the shape before it.
use Rattle.std.proofs.Common.{◌≡◌, ℕ, ◌-◌, ◌<◌, ◌≤◌, List, [], ◌∷◌, length, take, get_or, set, ℤ, pos, negsuc, inl, inr, sym, ap, subst, ◌∙◌, arith, get_or-set_same}
use Rattle.std.specs.List.{insert, remove}
use Rattle.std.proofs.lemmas.List.{map-set, set-set, set-get_or, length-set, get_or_default}
use Rattle.std.proofs.lemmas.Nat.{mul-le}
use Rattle.lg_space.specs.Rectangle.{IsIn}
use Rattle.lg_space.proofs.Places.{place-below}
use Rattle.lg_shape.specs.Shapes.{whole, place_of, size_of}
use Rattle.lg_shape.specs.Views.{shape_after, index_before, put_at, sliced_at, IsStepOf, IsSliceOf}
use Rattle.lg_shape.specs.declared.step.Step.{Step}
use Rattle.lg_shape.specs.declared.step.Step.TheVariants.{Promote, Project, Slice, Transpose, Delinearize}
use Rattle.lg_xform.proofs.Insides.{remove-insert, insert-remove, map-insert, in-remove, in-insert, in-set, in_whole_axes, in_whole_below, in_whole_from_below, length-whole}
use Rattle.lg_xform.proofs.Orders.{IsOrder, is_order, length-put_at, put_there, ordered, get_or-ordered, length-ordered}

abbrev ranged : ℕ → ℕ × ℕ
ranged extent = (0, extent)

pub before_promote : (shape index : List ℕ) (j extent : ℕ) → j ≤ length shape → IsIn (whole (insert shape j extent)) index
    → IsIn (whole shape) (remove index j)
before_promote shape index j extent h inside =
    let cut = in-remove (whole (insert shape j extent)) index j inside in
    let same = ap (λ (l : List (ℕ × ℕ)). remove l j) (map-insert ranged shape j extent) ∙ remove-insert (whole shape) j (0, extent) (omega (arith, length-whole shape)) in
    subst (λ r. IsIn r (remove index j)) same cut

pub before_project : (shape index : List ℕ) (j at : ℕ) → j < length shape → at < get_or shape j 0 → IsIn (whole (remove shape j)) index
    → IsIn (whole shape) (insert index j at)
before_project shape index j at h lt inside =
    let more = in-insert (whole (remove shape j)) index j (0, get_or shape j 0) at (omega arith) lt inside in
    let same = sym (map-insert ranged (remove shape j) j (get_or shape j 0)) ∙ ap whole (insert-remove shape j 0 h) in
    subst (λ r. IsIn r (insert index j at)) same more

-- each coordinate of a slice is one of the axis
pub sliced_below : (start len extent k : ℕ) (step : ℤ) → IsSliceOf start len step extent → k < len → sliced_at start step k < extent
sliced_below start len extent k (pos step) h lt = elim h.2 [
  | inl none ↦ absurd (omega arith)
  | inr within ↦ omega (arith, mul-le k step (len - 1) step (omega arith) (omega arith))
]
sliced_below start len extent k (negsuc step) h lt = elim h.1 [
  | inl none ↦ absurd (omega arith)
  | inr within ↦ omega (arith, within.0)
]

pub before_slice : (shape index : List ℕ) (j start len : ℕ) (step : ℤ) → j < length shape → IsSliceOf start len step (get_or shape j 0)
    → IsIn (whole (set shape j len)) index → IsIn (whole shape) (set index j (sliced_at start step (get_or index j 0)))
before_slice shape index j start len step h of inside =
    let here : get_or index j 0 < len = omega (arith, in_whole_below (set shape j len) index j inside (omega (arith, length-set shape j len)), get_or-set_same shape j len 0 h) in
    let at = sliced_at start step (get_or index j 0) in
    let put = in-set (whole (set shape j len)) index j (0, get_or shape j 0) at (omega arith) (sliced_below start len (get_or shape j 0) (get_or index j 0) step of here) inside in
    let same = ap (λ (l : List (ℕ × ℕ)). set l j (0, get_or shape j 0)) (map-set ranged shape j len) ∙ set-set (whole shape) j (0, len) (0, get_or shape j 0)
    ∙ sym (map-set ranged shape j (get_or shape j 0)) ∙ ap whole (set-get_or shape j 0) in
    subst (λ r. IsIn r (set index j at)) same put

pub before_transpose : (shape index order : List ℕ) → IsOrder (length shape) order → IsIn (whole (ordered 1 shape order)) index
    → IsIn (whole shape) (put_at order index index)
before_transpose shape index order o inside =
    let axes : length index ≡ length shape = in_whole_axes (ordered 1 shape order) index inside ∙ length-ordered 1 shape order ∙ o.all in
    in_whole_from_below shape (put_at order index index) (length-put_at order index index ∙ axes)
    (λ a lt. (let p = o.place a lt in
    let put = put_there order index index p.0 (omega (arith, o.all, axes)) (omega (arith, o.all, p.1)) (λ i j below in'. o.apart i j below (omega (arith, o.all))) (omega (arith, p.2, axes, lt)) in
    let below = in_whole_below (ordered 1 shape order) index p.0 inside (omega (arith, length-ordered 1 shape order, o.all, p.1)) in
    let extent = get_or-ordered 1 0 shape order p.0 (omega (arith, o.all, p.1)) in
    let there : get_or (put_at order index index) a 0 ≡ get_or index p.0 0 = ap (λ b. get_or (put_at order index index) b 0) (sym p.2) ∙ put in
    let long : get_or shape (get_or order p.0 0) 1 ≡ get_or shape a 0 = ap (λ b. get_or shape b 1) p.2 ∙ get_or_default shape a 1 0 lt in
    omega (arith, there, below, extent, long)))

pub before_delinearize : (sizes index : List ℕ) → IsIn (whole sizes) index → IsIn (whole (size_of sizes ∷ [])) (place_of sizes index ∷ [])
before_delinearize sizes index inside = (omega arith, place-below (whole sizes) index inside, tt)

pub stays_inside : (step : Step) (shape index : List ℕ) → IsStepOf step shape → IsIn (whole (shape_after step shape)) index → IsIn (whole shape) (index_before step index)
stays_inside (Promote axis extent) shape index h inside = before_promote shape index axis extent h inside
stays_inside (Project axis at) shape index h inside = before_project shape index axis at h.0 h.1 inside
stays_inside (Slice axis start len step) shape index h inside = before_slice shape index axis start len step h.0 h.1 inside
stays_inside (Transpose axes) shape index h inside =
    let order = take (length shape) axes in
    let o = is_order (length shape) order h in
    let same : length index ≡ length shape = in_whole_axes (ordered 1 shape order) index inside ∙ length-ordered 1 shape order ∙ o.all in
    subst (λ n. IsIn (whole shape) (put_at (take n axes) index index)) (sym same) (before_transpose shape index order o inside)
stays_inside (Delinearize sizes) shape index h inside =
    subst (λ s. IsIn (whole s) (place_of sizes index ∷ [])) (sym h) (before_delinearize sizes index inside)
