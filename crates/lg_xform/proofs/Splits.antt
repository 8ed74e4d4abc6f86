-- The axes into which the one axis of a root is split.
use Rattle.std.proofs.Common.{◌≡◌, ℕ, zero, suc, ◌+◌, ◌-◌, ◌*◌, ◌<◌, ◌≤◌, min, Bool, true, false, List, [], ◌∷◌, ◌++◌, length, map, get_or, set, take, drop, cond, ltb, inl, inr, refl, sym, ap, subst, ◌∙◌, arith}
use Rattle.std.specs.List.{range_with_len}
use Rattle.std.proofs.lemmas.Bool.{cases_lt, cond-true, lt-ltb}
use Rattle.std.proofs.lemmas.Nat.{mul-le}
use Rattle.std.proofs.lemmas.Option.{get_or_from_slice_get}
use Rattle.std.proofs.lemmas.List.{take_more_set, take_more, take_all, take_rest, length-take, get_or-take}
use Rattle.std.proofs.lemmas.List.Elements.{All-nil, All-cons}
use Rattle.std.proofs.lemmas.List.FromFn.{get_or-range_with_len}
use Rattle.lg_space.specs.Rectangle.{IsIn}
use Rattle.lg_space.specs.declared.point.TheConstants.{MAX_AXES}
use Rattle.lg_space.proofs.Places.{place-below}
use Rattle.lg_shape.specs.Shapes.{whole, places, place_of, size_of}
use Rattle.lg_shape.specs.Stored.{IsShape}
use Rattle.lg_shape.specs.Views.{Layout, whole_layout}
use Rattle.lg_shape.specs.declared.step.Step.TheVariants.{Delinearize}
use Rattle.lg_xform.specs.declared.axis.ViewAxis.{ViewAxis}
use Rattle.lg_xform.specs.declared.chain.Chain.{Chain}
use Rattle.lg_xform.specs.Moves.{extents_of, moved, reach, IsHeld, AreRooted, rows_of}
use Rattle.lg_xform.specs.Chains.{root_of, axes_of, shape_of, mapped, layout_of, inner_of, inner_after, IsChainStep, IsStepped}
use Rattle.lg_xform.proofs.Sums.{total, share, get_or-moved, length-moved}
use Rattle.lg_xform.proofs.Held.{IsView, inside, filled_before, volume_some}
use Rattle.lg_xform.proofs.Maps.{at_place}
use Rattle.lg_xform.proofs.Edits.{view_of}
use Rattle.lg_xform.proofs.Wholes.{origin, get_or-origin}

pub factors_some : (a b : ℕ) → 0 < a * b → (0 < a) × (0 < b)
factors_some zero b h = absurd (omega arith)
factors_some (suc a) zero h = absurd (omega arith)
factors_some (suc a) (suc b) h = (omega arith, omega arith)

pub extents-rows : (unit : ℕ) (inner : Bool) (sizes : List ℕ) → extents_of (rows_of unit inner sizes) ≡ sizes
extents-rows unit inner [] = refl
extents-rows unit inner (extent ∷ sizes) = ap (λ l. extent ∷ l) (extents-rows unit true sizes)

pub length-rows : (unit : ℕ) (inner : Bool) (sizes : List ℕ) → length (rows_of unit inner sizes) ≡ length sizes
length-rows unit inner [] = refl
length-rows unit inner (extent ∷ sizes) = ap suc (length-rows unit true sizes)

inner-rows_true : (unit : ℕ) (sizes : List ℕ) → map (λ (axis : ViewAxis). axis.inner) (rows_of unit true sizes) ≡ map (λ size. true) sizes
inner-rows_true unit [] = refl
inner-rows_true unit (extent ∷ sizes) = ap (λ l. true ∷ l) (inner-rows_true unit sizes)

pub inner-rows : (unit : ℕ) (sizes : List ℕ) (inner : List Bool) → map (λ (axis : ViewAxis). axis.inner) (rows_of unit false sizes) ≡ inner_after (Delinearize sizes) inner
inner-rows unit [] inner = refl
inner-rows unit (extent ∷ sizes) inner = ap (λ l. false ∷ l) (inner-rows_true unit sizes)

rooted-rows : (unit : ℕ) (inner : Bool) (sizes : List ℕ) → AreRooted (rows_of unit inner sizes)
rooted-rows unit inner [] = All-nil _
rooted-rows unit inner (extent ∷ sizes) =
    All-cons (λ (axis : ViewAxis). axis.root < MAX_AXES) _ (rows_of unit true sizes) (omega arith) (rooted-rows unit true sizes)

-- the farthest corner is the last index, if there is one
reach-rows_none : (inner : Bool) (sizes : List ℕ) → reach 0 (rows_of 0 inner sizes) ≡ 0
reach-rows_none inner [] = refl
reach-rows_none inner (extent ∷ sizes) = omega (arith, reach-rows_none true sizes)

reach-rows_some : (inner : Bool) (sizes : List ℕ) → 0 < size_of sizes → reach 0 (rows_of 1 inner sizes) + 1 ≡ size_of sizes
reach-rows_some inner [] h = refl
reach-rows_some inner (extent ∷ sizes) h =
    let some = factors_some (extent - 0) (size_of sizes) h in
    let rest = reach-rows_some true sizes some.1 in
    let whole_extent : extent - 0 ≡ (extent - 1) + 1 = omega arith in
    let all : (extent - 0) * size_of sizes ≡ ((extent - 1) + 1) * size_of sizes = ap (λ e. e * size_of sizes) whole_extent in
    omega (arith, rest, all)

reach-rows_other : (k unit : ℕ) (inner : Bool) (sizes : List ℕ) → reach (suc k) (rows_of unit inner sizes) ≡ 0
reach-rows_other k unit inner [] = refl
reach-rows_other k unit inner (extent ∷ sizes) = omega (arith, reach-rows_other k unit true sizes)

held-rows : (sizes : List ℕ) → IsHeld (size_of sizes ∷ []) origin (rows_of (min 1 (size_of sizes)) false sizes)
held-rows sizes zero = elim (cases_lt 0 (size_of sizes)) [
  | inl some ↦ (let one : min 1 (size_of sizes) ≡ 1 = omega arith in
      let e = ap (λ unit. reach 0 (rows_of unit false sizes)) one in omega (arith, e, reach-rows_some false sizes some))
  | inr none ↦ (let zero_unit : min 1 (size_of sizes) ≡ 0 = omega arith in
      let e = ap (λ unit. reach 0 (rows_of unit false sizes)) zero_unit in omega (arith, e, reach-rows_none false sizes))
]
held-rows sizes (suc k) = omega (arith, get_or-origin (suc k), reach-rows_other k (min 1 (size_of sizes)) false sizes)

-- an index leads to its place
total-rows : (unit : ℕ) (inner : Bool) (sizes index : List ℕ) → total (share 0) (rows_of unit inner sizes) index ≡ unit * place_of sizes index
total-rows unit inner [] index = omega arith
total-rows unit inner (extent ∷ sizes) [] = omega arith
total-rows unit inner (extent ∷ sizes) (i ∷ index) =
    let same : i - 0 ≡ i = omega arith in
    let row : (i - 0) * size_of sizes ≡ i * size_of sizes = ap (λ k. k * size_of sizes) same in
    let scaled : unit * ((i - 0) * size_of sizes) ≡ unit * (i * size_of sizes) = ap (λ k. unit * k) row in
    omega (arith, total-rows unit true sizes index, scaled)

one_long : (n : ℕ) (at : List ℕ) → length at ≡ 1 → get_or at 0 0 ≡ n → at ≡ n ∷ []
one_long n [] h e = absurd (omega arith)
one_long n (x ∷ []) h e = ap (λ y. y ∷ []) e
one_long n (x ∷ (y ∷ at)) h e = absurd (omega arith)

pub moved-rows : (sizes index : List ℕ) → IsIn (whole sizes) index
    → take 1 (moved origin (rows_of (min 1 (size_of sizes)) false sizes) index) ≡ place_of sizes index ∷ []
moved-rows sizes index h =
    let rows = rows_of (min 1 (size_of sizes)) false sizes in
    let some = volume_some (whole sizes) index h in
    let one : min 1 (size_of sizes) ≡ 1 = omega (arith, some) in
    let at = moved origin rows index in
    let sum = get_or-moved 0 origin rows index (omega arith) in
    let scaled : min 1 (size_of sizes) * place_of sizes index ≡ 1 * place_of sizes index = ap (λ u. u * place_of sizes index) one in
    one_long (place_of sizes index) (take 1 at) (omega (arith, length-take 1 at, length-moved origin rows index))
    (omega (arith, get_or-take 1 at 0 0 (omega arith), sum, total-rows (min 1 (size_of sizes)) false sizes index, scaled))

-- ---- taken from a whole root

single : (n p : ℕ) (at : List ℕ) → IsIn (whole (n ∷ [])) at → place_of (n ∷ []) at ≡ p → at ≡ p ∷ []
single n p [] h e = absurd h
single n p (x ∷ []) h e = ap (λ y. y ∷ []) (omega arith)
single n p (x ∷ (y ∷ at)) h e = absurd h.2

module _ (c : Chain) (n : ℕ) (wide : length c.from ≡ 4) (all : layout_of c ≡ whole_layout (root_of c)) (of : shape_of c ≡ n ∷ []) where
  pub whole_root : root_of c ≡ n ∷ []
  whole_root = sym (ap (λ (l : Layout). l.shape) all) ∙ of

  pub whole_leads : (p : ℕ) → p < n → mapped c (p ∷ []) ≡ p ∷ []
  whole_leads p lt =
      let in' : IsIn (whole (shape_of c)) (p ∷ []) = subst (λ s. IsIn (whole s) (p ∷ [])) (sym of) (omega arith, lt, tt) in
      let few : length c.root ≤ 4 = omega (arith, ap length whole_root) in
      let there = inside c.root c.from (axes_of c) (p ∷ []) (view_of c) (omega (arith, wide, few)) in' in
      let there' : IsIn (whole (n ∷ [])) (mapped c (p ∷ [])) = subst (λ r. IsIn (whole r) (mapped c (p ∷ []))) whole_root there in
      let stands = get_or_from_slice_get (map (λ i. place_of (root_of c) (mapped c i)) (places (shape_of c))) (place_of (shape_of c) (p ∷ [])) (place_of (root_of c) (mapped c (p ∷ []))) 0
      (at_place (shape_of c) (λ i. place_of (root_of c) (mapped c i)) (p ∷ []) in') in
      let place : place_of (shape_of c) (p ∷ []) ≡ p = ap (λ s. place_of s (p ∷ [])) of ∙ (omega arith) in
      let size : size_of (root_of c) ≡ n = ap size_of whole_root ∙ (omega arith) in
      let own : get_or (range_with_len 0 (size_of (root_of c))) p 0 ≡ p = omega (arith, get_or-range_with_len 0 (size_of (root_of c)) p 0 (omega (arith, size, lt))) in
      let is : place_of (root_of c) (mapped c (p ∷ [])) ≡ p =
      sym stands ∙ ap (λ (l : Layout). get_or l.places (place_of (shape_of c) (p ∷ [])) 0) all ∙ ap (λ k. get_or (range_with_len 0 (size_of (root_of c))) k 0) place ∙ own in
      single n p (mapped c (p ∷ [])) there' (ap (λ r. place_of r (mapped c (p ∷ []))) (sym whole_root) ∙ is)

module _ (old : Chain) (sizes : List ℕ) (wide : length old.from ≡ 4) (may : IsChainStep (Delinearize sizes) (root_of old) (layout_of old) (inner_of old)) where
  pub split_root : old.root ≡ size_of sizes ∷ []
  split_root = whole_root old (size_of sizes) wide may.follows may.step_of

  pub split_view : (axes : List ViewAxis) → axes ≡ rows_of (min 1 (size_of sizes)) false sizes → IsView old.root origin axes
  split_view axes e =
      let rows = rows_of (min 1 (size_of sizes)) false sizes in
      let shape = extents-rows (min 1 (size_of sizes)) false sizes in
      subst (IsView old.root origin) (sym e) (record {
        rooted = rooted-rows (min 1 (size_of sizes)) false sizes;
        shape = subst IsShape (sym shape) may.shape;
        held = subst (λ r. IsHeld r origin rows) (sym split_root) (held-rows sizes);
        filled = λ some. (let v = view_of old in v.filled (filled_before (Delinearize sizes) (shape_of old) may.step_of (subst (λ s. 0 < size_of s) shape some)));
      })

  pub split_map : (new : Chain) → new.root ≡ old.root → new.from ≡ origin → axes_of new ≡ rows_of (min 1 (size_of sizes)) false sizes → IsStepped (Delinearize sizes) old new
  split_map new root from axes =
      let rows = rows_of (min 1 (size_of sizes)) false sizes in
      let shape : shape_of new ≡ sizes = ap extents_of axes ∙ extents-rows (min 1 (size_of sizes)) false sizes in
      record {
        root = root;
        shape = shape;
        mapped = λ index in'.
            let in_sizes : IsIn (whole sizes) index = subst (λ s. IsIn (whole s) index) shape in' in
            let one : length old.root ≡ 1 = ap length split_root in
            (λ i. take (length (root i)) (moved (from i) (axes i) index)) ∙ ap (λ n. take n (moved origin rows index)) one
            ∙ moved-rows sizes index in_sizes
            ∙ sym (whole_leads old (size_of sizes) wide may.follows may.step_of (place_of sizes index) (place-below (whole sizes) index in_sizes));
        inner = ap (map (λ (axis : ViewAxis). axis.inner)) axes ∙ inner-rows (min 1 (size_of sizes)) sizes (inner_of old);
      }

-- ---- written one by one

pub get_or-rows : (unit : ℕ) (sizes : List ℕ) (inner : Bool) (k : ℕ) (d : ViewAxis) → k < length sizes
    → get_or (rows_of unit inner sizes) k d
    ≡ record { extent = get_or sizes k 0; root = 0; stride = unit * size_of (drop (k + 1) sizes); down = false; inner = cond (ltb 0 k) true inner }
get_or-rows unit [] inner k d h = absurd (omega arith)
get_or-rows unit (extent ∷ sizes) inner zero d h = refl
get_or-rows unit (extent ∷ sizes) inner (suc k) d h =
    let rest = get_or-rows unit sizes true k d (omega arith) in
    let back : drop (k + 1) sizes ≡ drop (suc k + 1) (extent ∷ sizes) = ap (λ n. drop n (extent ∷ sizes)) (let e : suc (k + 1) ≡ suc k + 1 = omega arith in e) in
    let inside : cond (ltb 0 k) true true ≡ cond (ltb 0 (suc k)) true inner = both (ltb 0 k) ∙ sym (cond-true (ltb 0 (suc k)) true inner (lt-ltb 0 (suc k) (omega arith))) in
    rest ∙ (λ i. record { extent = get_or sizes k 0; root = 0; stride = unit * size_of (back i); down = false; inner = inside i })
  where
    both : (b : Bool) → cond b true true ≡ true
    both true = refl
    both false = refl

-- the strides of an empty split are 0, and no other is above the whole
pub size_behind : (sizes : List ℕ) (k : ℕ) → 0 < size_of sizes → size_of (drop k sizes) ≤ size_of sizes
size_behind sizes zero h = omega arith
size_behind [] (suc k) h = omega arith
size_behind (extent ∷ sizes) (suc k) h =
    let some = factors_some (extent - 0) (size_of sizes) h in
    let rest = size_behind sizes k some.1 in
    omega (arith, rest, mul-le 1 (size_of sizes) (extent - 0) (size_of sizes) some.0 (omega arith))

pub rows_more : (sizes : List ℕ) (axes : List ViewAxis) (axis unit stride : ℕ) (inner : Bool) → axis < length sizes → axis < length axes
    → take axis axes ≡ take axis (rows_of unit false sizes) → stride ≡ unit * size_of (drop (axis + 1) sizes) → inner ≡ ltb 0 axis
    → take (axis + 1) (set axes axis (record { extent = get_or sizes axis 0; root = 0; stride = stride; down = false; inner = inner }))
    ≡ take (axis + 1) (rows_of unit false sizes)
rows_more sizes axes axis unit stride inner lt room so_far stride_is inner_is =
    let new : ViewAxis = record { extent = get_or sizes axis 0; root = 0; stride = stride; down = false; inner = inner } in
    let flag : cond (ltb 0 axis) true false ≡ inner = as_is (ltb 0 axis) ∙ sym inner_is in
    let at : get_or (rows_of unit false sizes) axis new ≡ new =
    get_or-rows unit sizes false axis new lt ∙ (λ i. record { extent = get_or sizes axis 0; root = 0; stride = sym stride_is i; down = false; inner = flag i }) in
    take_more_set axes axis new room ∙ (λ i. so_far i ++ sym at i ∷ [])
    ∙ sym (take_more (rows_of unit false sizes) axis new (omega (arith, length-rows unit false sizes)))
  where
    as_is : (b : Bool) → cond b true false ≡ b
    as_is true = refl
    as_is false = refl

pub rows_all : (sizes : List ℕ) (axes : List ViewAxis) (axis unit : ℕ) → length sizes ≤ axis → axis ≤ length sizes
    → take axis axes ≡ take axis (rows_of unit false sizes) → take (length sizes) axes ≡ rows_of unit false sizes
rows_all sizes axes axis unit past within so_far =
    let end : length sizes ≡ axis = omega arith in
    ap (λ n. take n axes) end ∙ so_far ∙ take_all axis (rows_of unit false sizes) (omega (arith, length-rows unit false sizes))

-- what the loop writes as the stride, by whether there is an index at all
pub stride_some : (sizes rest : List ℕ) (k n : ℕ) → 0 < size_of sizes → rest ≡ drop k sizes → n ≡ size_of rest → n ≡ min 1 (size_of sizes) * size_of (drop k sizes)
stride_some sizes rest k n some e is =
    let one : min 1 (size_of sizes) ≡ 1 = omega arith in
    let scaled : min 1 (size_of sizes) * size_of (drop k sizes) ≡ 1 * size_of (drop k sizes) = ap (λ u. u * size_of (drop k sizes)) one in
    omega (arith, scaled, is, ap size_of e)

pub stride_none : (sizes : List ℕ) (k : ℕ) → size_of sizes ≤ 0 → 0 ≡ min 1 (size_of sizes) * size_of (drop k sizes)
stride_none sizes k none =
    let zero_unit : min 1 (size_of sizes) ≡ 0 = omega arith in
    let scaled : min 1 (size_of sizes) * size_of (drop k sizes) ≡ 0 * size_of (drop k sizes) = ap (λ u. u * size_of (drop k sizes)) zero_unit in
    omega (arith, scaled)

-- the slice behind an axis
pub slice_behind : (sizes : List ℕ) (k : ℕ) → take (length sizes - k) (drop k sizes) ≡ drop k sizes
slice_behind sizes k = take_rest sizes k
