-- The axes of a transpose are those of the shape in another order.
use Rattle.std.proofs.Common.{◌≡◌, ◌==◌, eqb, eqb-true, ne_eqb, eq-eqb, not, ◌&&◌, ◌||◌, ℕ, zero, suc, ◌+◌, ◌-◌, ◌*◌, ◌<◌, ◌≤◌, Bool, true, false, List, [], ◌∷◌, ◌++◌, length, take, map, reverse, get_or, slice_get, Option, None, Some, Result, Ok, ℤ, inl, inr, refl, sym, ap, subst, ◌∙◌, arith}
use Rattle.std.specs.List.{range_with_len, list_all, list_any, IsDistinct, AllByRecursion}
use Rattle.std.specs.List.Sorted.{IsPermutation}
use Rattle.std.specs.Option.{unwrap_or}
use Rattle.std.specs.Result.{result_ok}
use Rattle.std.proofs.lemmas.Bool.{cases_Bool, eqb-false}
use Rattle.std.proofs.lemmas.List.{map-append, length-map, take-take}
use Rattle.std.proofs.lemmas.List.Elements.{All-from_get_or, All-from_recursion, recursion_from_All}
use Rattle.std.proofs.lemmas.List.FromFn.{length-range_with_len, get_or-range_with_len}
use Rattle.std.proofs.lemmas.List.Sorted.{length_permutation, All-permutation, IsPermutation-refl, IsPermutation-sym, IsPermutation-trans, IsPermutation-cons, IsPermutation-map, IsPermutation-middle, IsPermutation-reverse, IsPermutation-to_front}
use Rattle.std.proofs.lemmas.Map.Keys.{IsDistinct-from_apart, IsDistinct-IsPermutation, IsDistinct-cons, IsDistinct-head, IsDistinct-tail}
use Rattle.std.proofs.lemmas.Map.Steps.{length-le_from_distinct_below}
use Rattle.lg_space.specs.Stored.{MAX_END}
use Rattle.lg_space.specs.Rectangle.{IsIn}
use Rattle.lg_space.proofs.Places.{stands_once}
use Rattle.lg_shape.specs.Shapes.{size_of, whole, places}
use Rattle.lg_shape.specs.Views.{Layout, place_at, put_at, stepped, shape_after}
use Rattle.lg_shape.specs.declared.step.Step.TheVariants.{Transpose}
use Rattle.lg_shape.specs.Stored.{IsShape}
use Rattle.lg_shape.specs.Indexing.{has_coordinate, coordinate}
use Rattle.lg_elem.specs.declared.dtype.DType.{DType}
use Rattle.lg_meaning.specs.declared.fault.FaultKind.{FaultKind}
use Rattle.lg_meaning.specs.declared.fault.FaultKind.TheVariants.{Shape, Index}
use Rattle.lg_meaning.specs.Faults.{from_part, needing}
use Rattle.lg_meaning.specs.Memory.{Right, ArrayKind}
use Rattle.lg_meaning.specs.Static.{array_value, array_result}
use Rattle.lg_meaning.specs.Views.{transpose_axes, transpose_kind, view_right, view_kind, are_distinct}
use Rattle.lg_xform.specs.Chains.{IsUnsplit}
use Rattle.lg_xform.proofs.Insides.{in_whole_axes}
use Rattle.lg_xform.proofs.Maps.{map_within}
use Rattle.lg_session.proofs.ViewLemmas.{coordinate_below, size_joined}

-- ---- each number below n once

eqb_flips : (x y : ℕ) → eqb x y ≡ eqb y x
eqb_flips x y = elim (cases_Bool (eqb y x)) [
  | inl same ↦ eq-eqb x y (sym (eqb-true y x same)) ∙ sym same
  | inr other ↦ ne_eqb x y (λ e. eqb-false y x other (sym e)) ∙ sym other
]

-- a list around one of its members
record Around (x : ℕ) (xs : List ℕ) : Type 0 where
  before : List ℕ
  behind : List ℕ
  is : xs ≡ before ++ x ∷ behind

around : (x : ℕ) (xs : List ℕ) → list_any (eqb x) xs ≡ true → Around x xs
around x [] h = cc
around x (y ∷ ys) h = elim (cases_Bool (eqb x y)) [
  | inl same ↦ record { before = []; behind = ys; is = ap (λ z. z ∷ ys) (sym (eqb-true x y same)) }
  | inr other ↦
      (let rest : list_any (eqb x) ys ≡ true = sym (ap (λ b. b || list_any (eqb x) ys) other) ∙ h in
      let a = around x ys rest in
      record { before = y ∷ a.before; behind = a.behind; is = ap (λ l. y ∷ l) a.is })
]

range_more : (low n : ℕ) → range_with_len low (suc n) ≡ range_with_len low n ++ (low + n) ∷ []
range_more low zero = let e : low ≡ low + 0 = omega arith in ap (λ k. k ∷ []) e
range_more low (suc n) =
    let e : low + 1 + n ≡ low + suc n = omega arith in
    ap (λ l. low ∷ l) (range_more (low + 1) n ∙ ap (λ k. range_with_len (low + 1) n ++ k ∷ []) e)

first_more : (n : ℕ) → range_with_len 0 (suc n) ≡ range_with_len 0 n ++ n ∷ []
first_more n = let e : 0 + n ≡ n = omega arith in range_more 0 n ∙ ap (λ k. range_with_len 0 n ++ k ∷ []) e

-- members that are apart and all below n
pub record AreApart (n : ℕ) (xs : List ℕ) : Type 0 where
  pub distinct : IsDistinct eqb xs
  pub below : AllByRecursion (λ x. x < n) xs

apart_moved : (n : ℕ) (xs ys : List ℕ) → IsPermutation xs ys → AreApart n xs → AreApart n ys
apart_moved n xs ys moves a = record {
  distinct = IsDistinct-IsPermutation eqb eqb_flips xs ys moves a.distinct;
  below = recursion_from_All (λ x. x < n) ys (All-permutation (λ x. x < n) xs ys moves (All-from_recursion (λ x. x < n) xs a.below));
}

lower : (m : ℕ) (xs : List ℕ) → AllByRecursion (λ y. eqb m y ≡ false) xs → AllByRecursion (λ x. x < suc m) xs → AllByRecursion (λ x. x < m) xs
lower m [] other below = tt
lower m (x ∷ xs) other below =
    let apart = eqb-false m x other.0 in
    (omega (arith, below.0, apart), lower m xs other.1 below.1)

-- without the greatest one
record IsTop (m : ℕ) (xs : List ℕ) : Type 0 where
  around : Around m xs
  moved : IsPermutation xs (m ∷ (around.before ++ around.behind))
  rest : AreApart m (around.before ++ around.behind)
  count : length (around.before ++ around.behind) ≡ m

top : (m : ℕ) (xs : List ℕ) → AreApart (suc m) xs → length xs ≡ suc m → IsTop m xs
top m xs a all = elim (cases_Bool (list_any (eqb m) xs)) [
  | inl there ↦
      (let w = around m xs there in
      let moved : IsPermutation xs (m ∷ (w.before ++ w.behind)) =
      subst (λ l. IsPermutation l (m ∷ (w.before ++ w.behind))) (sym w.is) (IsPermutation-middle w.before m w.behind) in
      let b = apart_moved (suc m) xs (m ∷ (w.before ++ w.behind)) moved a in
      record {
        around = w;
        moved = moved;
        rest = record {
          distinct = IsDistinct-tail eqb m (w.before ++ w.behind) b.distinct;
          below = lower m (w.before ++ w.behind) (IsDistinct-head eqb m (w.before ++ w.behind) b.distinct) b.below.1;
        };
        count = omega (arith, all, length_permutation xs (m ∷ (w.before ++ w.behind)) moved);
      })
  | inr none ↦ absurd (omega (
    arith,
    all,
    length-le_from_distinct_below xs m a.distinct (λ q found.
        (let w = around q xs found in
        let moved : IsPermutation xs (q ∷ (w.before ++ w.behind)) =
        subst (λ l. IsPermutation l (q ∷ (w.before ++ w.behind))) (sym w.is) (IsPermutation-middle w.before q w.behind) in
        let b = apart_moved (suc m) xs (q ∷ (w.before ++ w.behind)) moved a in
        let other : q ≡ m → ⊥ = λ e. differ (sym found ∙ ap (λ k. list_any (eqb k) xs) e ∙ none) in
        omega (arith, b.below.0, other))),
  ))
]
  where
    differ : true ≡ false → ⊥
    differ e = cc

all_once : (n : ℕ) (xs : List ℕ) → AreApart n xs → length xs ≡ n → IsPermutation (range_with_len 0 n) xs
all_once zero [] a all = IsPermutation-refl []
all_once zero (x ∷ xs) a all = absurd (omega (arith, all))
all_once (suc m) xs a all =
    let t = top m xs a all in
    let rest = t.around.before ++ t.around.behind in
    let under = all_once m rest t.rest t.count in
    subst (λ l. IsPermutation l xs) (sym (first_more m))
    (IsPermutation-trans (range_with_len 0 m ++ m ∷ []) (m ∷ range_with_len 0 m) xs (IsPermutation-to_front (range_with_len 0 m) m)
    (IsPermutation-trans (m ∷ range_with_len 0 m) (m ∷ rest) xs (IsPermutation-cons m (range_with_len 0 m) rest under)
    (IsPermutation-sym xs (m ∷ rest) t.moved)))

range_apart : (n : ℕ) → AreApart n (range_with_len 0 n)
range_apart n = record {
  distinct = IsDistinct-from_apart eqb (range_with_len 0 n) (λ i j d lt in'.
      (let h : j < n = omega (arith, in', length-range_with_len 0 n) in
      ne_eqb _ _ (λ e. omega (arith, e, lt, get_or-range_with_len 0 n i d (omega arith), get_or-range_with_len 0 n j d h))));
  below = recursion_from_All (λ x. x < n) (range_with_len 0 n) (All-from_get_or (λ x. x < n) (range_with_len 0 n) 0
      (λ i lt. (let h : i < n = omega (arith, lt, length-range_with_len 0 n) in omega (arith, get_or-range_with_len 0 n i 0 h))));
}

-- ---- the axes that are written

distinct_from_test : (xs : List ℕ) → are_distinct xs ≡ true → IsDistinct eqb xs
unfolding IsDistinct
distinct_from_test [] h = tt
distinct_from_test (x ∷ xs) h =
    let p = both (list_any (λ y. x == y) xs) (are_distinct xs) h in
    IsDistinct-cons eqb x xs (none xs p.0) (distinct_from_test xs p.1)
  where
    both : (a b : Bool) → (not a && b) ≡ true → (a ≡ false) × (b ≡ true)
    both false b e = (refl, e)
    both true b e = cc

    neither : (a b : Bool) → (a || b) ≡ false → (a ≡ false) × (b ≡ false)
    neither false b e = (refl, e)
    neither true b e = cc

    none : (ys : List ℕ) → list_any (λ y. x == y) ys ≡ false → AllByRecursion (λ y. eqb x y ≡ false) ys
    none [] e = tt
    none (y ∷ ys) e = let p = neither (x == y) (list_any (λ z. x == z) ys) e in (p.0, none ys p.1)

named_below : (n : ℕ) (xs : List ℤ) → list_all (has_coordinate n) xs ≡ true → AllByRecursion (λ x. x < n) (map (coordinate n) xs)
named_below n [] h = tt
named_below n (x ∷ xs) h = let p = both (has_coordinate n x) (list_all (has_coordinate n) xs) h in (coordinate_below n x p.0, named_below n xs p.1)
  where
    both : (a b : Bool) → (a && b) ≡ true → (a ≡ true) × (b ≡ true)
    both true b e = (refl, e)
    both false b e = cc

pub axes_once : (n : ℕ) (xs : Option (List ℤ)) (axes : List ℕ) → transpose_axes n xs ≡ Ok axes → IsPermutation (range_with_len 0 n) axes
axes_once n None axes is =
    let same : reverse (range_with_len 0 n) ≡ axes = ap (λ r. unwrap_or (result_ok r) []) is in
    subst (IsPermutation (range_with_len 0 n)) same (IsPermutation-reverse (range_with_len 0 n))
axes_once n (Some xs) axes is =
    let p = needed (length xs == n) Shape (needing (list_all (has_coordinate n) xs) Index (needing (are_distinct (map (coordinate n) xs)) Shape (Ok (map (coordinate n) xs)))) is in
    let q = needed (list_all (has_coordinate n) xs) Index (needing (are_distinct (map (coordinate n) xs)) Shape (Ok (map (coordinate n) xs))) p.1 in
    let r = needed (are_distinct (map (coordinate n) xs)) Shape (Ok (map (coordinate n) xs)) q.1 in
    let same : map (coordinate n) xs ≡ axes = ap (λ r. unwrap_or (result_ok r) []) r.1 in
    subst (IsPermutation (range_with_len 0 n)) same
    (all_once n (map (coordinate n) xs) (record { distinct = distinct_from_test (map (coordinate n) xs) r.0; below = named_below n xs q.0 })
    (length-map xs (coordinate n) ∙ eqb-true (length xs) n p.0))
  where
    needed : (b : Bool) (kind : FaultKind) (answer : Result (List ℕ) FaultKind) → needing b kind answer ≡ Ok axes → (b ≡ true) × (answer ≡ Ok axes)
    needed true kind answer e = (refl, e)
    needed false kind answer e = cc

-- ---- a shape in another order

-- the extents of these axes
abbrev pub turned : List ℕ → List ℕ → List ℕ
turned shape order = map (λ axis. get_or shape axis 1) order

-- in their own order the axes have the shape
own_order : (front shape : List ℕ) → map (λ axis. get_or (front ++ shape) axis 1) (range_with_len (length front) (length shape)) ≡ shape
own_order front [] = refl
own_order front (e ∷ shape) =
    let next = own_order (front ++ e ∷ []) shape in
    λ i. first i ∷ rest next i
  where
    first : get_or (front ++ e ∷ shape) (length front) 1 ≡ e
    first = at_seam front
      where
        at_seam : (l : List ℕ) → get_or (l ++ e ∷ shape) (length l) 1 ≡ e
        at_seam [] = refl
        at_seam (x ∷ l) = at_seam l

    joined : (l : List ℕ) → (l ++ e ∷ []) ++ shape ≡ l ++ e ∷ shape
    joined [] = refl
    joined (x ∷ l) = ap (λ m. x ∷ m) (joined l)

    longer : (l : List ℕ) → length (l ++ e ∷ []) ≡ length l + 1
    longer [] = refl
    longer (x ∷ l) = omega (arith, longer l)

    rest : map (λ axis. get_or ((front ++ e ∷ []) ++ shape) axis 1) (range_with_len (length (front ++ e ∷ [])) (length shape)) ≡ shape
        → map (λ axis. get_or (front ++ e ∷ shape) axis 1) (range_with_len (length front + 1) (length shape)) ≡ shape
    rest h = ap (λ k. map (λ axis. get_or (front ++ e ∷ shape) axis 1) (range_with_len k (length shape))) (sym (longer front))
        ∙ ap (λ l. map (λ axis. get_or l axis 1) (range_with_len (length (front ++ e ∷ [])) (length shape))) (sym (joined front)) ∙ h

pub turned_moves : (shape order : List ℕ) → IsPermutation (range_with_len 0 (length shape)) order → IsPermutation shape (turned shape order)
turned_moves shape order moves =
    subst (λ l. IsPermutation l (turned shape order)) (own_order [] shape)
    (IsPermutation-map (λ axis. get_or shape axis 1) (range_with_len 0 (length shape)) order moves)

pub turned_shape : (shape order : List ℕ) → IsShape shape → IsPermutation (range_with_len 0 (length shape)) order → IsShape (turned shape order)
turned_shape shape order s moves =
    let t = turned_moves shape order moves in
    record { axes = omega (arith, s.axes, length_permutation shape (turned shape order) t); extents = All-permutation (λ extent. extent ≤ MAX_END) shape (turned shape order) t s.extents }

-- the product of the extents is the same
size_once : (f : ℕ → ℕ) (n : ℕ) (xs : List ℕ) → AreApart n xs → length xs ≡ n → size_of (map f xs) ≡ size_of (map f (range_with_len 0 n))
size_once f zero [] a all = refl
size_once f zero (x ∷ xs) a all = absurd (omega (arith, all))
size_once f (suc m) xs a all =
    let t = top m xs a all in
    let before = t.around.before in
    let behind = t.around.behind in
    let under = size_once f m (before ++ behind) t.rest t.count in
    let first : size_of (map f xs) ≡ size_of (map f before) * ((f m - 0) * size_of (map f behind)) =
    ap (λ l. size_of (map f l)) t.around.is ∙ ap size_of (map-append f before (m ∷ behind)) ∙ size_joined (map f before) (map f (m ∷ behind)) in
    let second : size_of (map f (before ++ behind)) ≡ size_of (map f before) * size_of (map f behind) =
    ap size_of (map-append f before behind) ∙ size_joined (map f before) (map f behind) in
    let third : size_of (map f (range_with_len 0 (suc m))) ≡ size_of (map f (range_with_len 0 m)) * ((f m - 0) * 1) =
    ap (λ l. size_of (map f l)) (first_more m) ∙ ap size_of (map-append f (range_with_len 0 m) (m ∷ [])) ∙ size_joined (map f (range_with_len 0 m)) (f m ∷ []) in
    let swapped : size_of (map f before) * ((f m - 0) * size_of (map f behind)) ≡ size_of (map f before) * size_of (map f behind) * ((f m - 0) * 1) = omega arith in
    first ∙ swapped ∙ ap (λ k. k * ((f m - 0) * 1)) (sym second ∙ under) ∙ sym third

pub turned_size : (shape order : List ℕ) → IsPermutation (range_with_len 0 (length shape)) order → size_of (turned shape order) ≡ size_of shape
turned_size shape order moves =
    let n = length shape in
    let a = apart_moved n (range_with_len 0 n) order moves (range_apart n) in
    size_once (λ axis. get_or shape axis 1) n order a (length_permutation (range_with_len 0 n) order moves ∙ length-range_with_len 0 n)
    ∙ ap size_of (own_order [] shape)

-- ---- a layout in another order

-- an index has as many coordinates as the order has axes
pub index_count : (shape order index : List ℕ) → IsPermutation (range_with_len 0 (length shape)) order → IsIn (whole (turned shape order)) index → length index ≡ length shape
index_count shape order index moves inside =
    in_whole_axes (turned shape order) index inside ∙ length_permutation shape (turned shape order) (turned_moves shape order moves)

-- what stands behind the axes says nothing
pub turned_front : (layout : Layout) (order : List ℕ) → IsPermutation (range_with_len 0 (length layout.shape)) (take (length layout.shape) order)
    → stepped (Transpose (take (length layout.shape) order)) layout ≡ stepped (Transpose order) layout
turned_front layout order moves = λ i. record { shape = turned layout.shape (same i); places = places_are i }
  where
    front : List ℕ
    front = take (length layout.shape) order

    same : take (length layout.shape) front ≡ front
    same = take-take (length layout.shape) (length layout.shape) order (omega arith)

    before : List ℕ → List ℕ → ℕ
    before axes index = place_at layout (put_at (take (length index) axes) index index)

    at : (k : ℕ) (index : List ℕ) → slice_get (places (turned layout.shape front)) k ≡ Some index → before front index ≡ before order index
    at k index is =
        let count = index_count layout.shape front index moves (stands_once (whole (turned layout.shape front)) k index is).0 in
        ap (λ axes. place_at layout (put_at axes index index)) (take-take (length index) (length layout.shape) order (omega (arith, count)))

    places_are : map (before front) (places (turned layout.shape (take (length layout.shape) front))) ≡ map (before order) (places (turned layout.shape front))
    places_are = ap (λ axes. map (before front) (places (turned layout.shape axes))) same ∙ map_within (before front) (before order) (places (turned layout.shape front)) at

-- where no axis was split none is after it
pub turned_unsplit : (inner : List Bool) (order : List ℕ) → IsUnsplit inner → IsUnsplit (map (λ axis. get_or inner axis false) order)
turned_unsplit inner order none = All-from_recursion (λ b. b ≡ false) (map (λ axis. get_or inner axis false) order) (each order)
  where
    got : (flags : List Bool) → AllByRecursion (λ b. b ≡ false) flags → (k : ℕ) → get_or flags k false ≡ false
    got [] h k = refl
    got (b ∷ flags) h zero = h.0
    got (b ∷ flags) h (suc k) = got flags h.1 k

    each : (axes : List ℕ) → AllByRecursion (λ b. b ≡ false) (map (λ axis. get_or inner axis false) axes)
    each [] = tt
    each (axis ∷ axes) = (got inner (recursion_from_All (λ b. b ≡ false) inner none) axis, each axes)

-- type, shape and right of what has the axes in this order
pub turned_kind : (old : ArrayKind) (xs : Option (List ℤ)) (order : List ℕ) (dtype : DType) (shape : List ℕ) (right : Right) → transpose_axes (length old.shape) xs ≡ Ok order
    → dtype ≡ old.dtype → shape ≡ shape_after (Transpose order) old.shape → right ≡ view_right old.right
    → array_result (transpose_kind old xs) ≡ Ok (array_value (record { dtype = dtype; shape = shape; right = right }))
turned_kind old xs order dtype shape right written d s r =
    ap (λ axes. array_result (from_part axes (λ a. Ok (view_kind old (shape_after (Transpose a) old.shape))))) written
    ∙ sym (λ i. Ok (array_value (record { dtype = d i; shape = s i; right = r i })))
