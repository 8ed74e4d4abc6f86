-- Gathering the elements of a view, axis after axis.
use Rattle.std.proofs.Common.{◌≡◌, true, false, ℕ, zero, suc, ◌+◌, ◌-◌, ◌*◌, ◌<◌, ◌≤◌, List, [], ◌∷◌, ◌++◌, length, map, take, drop, replicate, ◌⊎◌, inl, inr, Option, None, Some, is_some, IsTrue, IfSome, Result, Ok, Err, OnOk, get_or, slice_get, ℤ, pos, ◌+ℤ◌, ◌*ℤ◌, refl, sym, ap, subst, ◌∙◌, arith}
use Rattle.std.proofs.lemmas.Bool.{cases_lt}
use Rattle.std.proofs.lemmas.List.{length-append, length-take, length-drop, length-replicate}
use Rattle.std.proofs.lemmas.Option.{slice_get-get_or}
use Rattle.std.proofs.lemmas.Int.{ints}
use Rattle.lg_space.specs.Rectangle.{IsIn, place_in}
use Rattle.lg_space.proofs.Places.{place-below, stands_once}
use Rattle.lg_shape.specs.Shapes.{whole, places, place_of, size_of}
use Rattle.lg_shape.specs.Views.{whole_layout}
use Rattle.lg_xform.specs.Copies.{along}
use Rattle.lg_xform.specs.declared.chain.Chain.{Chain}
use Rattle.lg_xform.specs.Chains.{root_of, shape_of, mapped, layout_of}
use Rattle.lg_xform.proofs.Maps.{map_within}
use Rattle.lg_xform.proofs.Wholes.{whole_places}
use Rattle.lg_operations.specs.Gathering.{distance, AllLie, AreRows, IsGathered}

-- ---- shapes with an index

-- a product that is not 0 has no factor 0
pub some_factors : (e s : ℕ) → 0 < (e - 0) * s → (0 < e) × (0 < s)
some_factors zero s h = absurd (omega (arith, h))
some_factors (suc e) zero h = absurd (omega (arith, h))
some_factors (suc e) (suc s) h = (omega arith, omega arith)

-- a factor is at most the product
pub factor_most : (e s : ℕ) → 0 < s → e ≤ (e - 0) * s
factor_most e zero h = absurd (omega (arith, h))
factor_most e (suc s) h = omega arith

pub rest_most : (e s : ℕ) → 0 < e → s ≤ (e - 0) * s
rest_most zero s h = absurd (omega (arith, h))
rest_most (suc e) s h =
    let f : suc e - 0 ≡ suc e = omega arith in
    let more : s ≤ suc e * s = omega arith in
    subst (λ n. s ≤ n * s) (sym f) more

-- one row more
next_row : (k s : ℕ) → (k + 1 - 0) * s ≡ (k - 0) * s + s
next_row k s =
    let e : k + 1 - 0 ≡ k + 1 = omega arith in
    let f : k ≡ k - 0 = omega arith in
    let both : (k + 1) * s ≡ k * s + s = omega arith in
    ap (λ n. n * s) e ∙ both ∙ ap (λ n. n * s + s) f

-- the first index
abbrev zeros : List ℕ → List ℕ
zeros extents = map (λ (extent : ℕ). 0) extents

zeros_in : (extents : List ℕ) → 0 < size_of extents → IsIn (whole extents) (zeros extents)
zeros_in [] h = tt
zeros_in (e ∷ extents) h = let p = some_factors e (size_of extents) h in (omega arith, p.0, zeros_in extents p.1)

zeros_distance : (extents : List ℕ) (strides : List ℤ) → distance (zeros extents) strides ≡ pos 0
zeros_distance [] strides = refl
zeros_distance (e ∷ extents) [] = refl
zeros_distance (e ∷ extents) (s ∷ strides) = omega (arith, ints, zeros_distance extents strides)

-- ---- one index further on the first axis

-- it lies somewhere
pub step_lies : (base count k e : ℕ) (stride : ℤ) (strides : List ℤ) (extents : List ℕ) → AllLie base (stride ∷ strides) (e ∷ extents) count → k < e → 0 < size_of extents
    → (next : ℕ) × (next < count) × (pos next ≡ pos base +ℤ (pos k *ℤ stride))
step_lies base count k e stride strides extents lie below some =
    let at = lie (k ∷ zeros extents) (omega arith, below, zeros_in extents some) in
    (at.place, at.below, omega (arith, ints, at.is, zeros_distance extents strides))

-- and the indices of the other axes behind it
pub rest_lie : (base count k e next : ℕ) (stride : ℤ) (strides : List ℤ) (extents : List ℕ) → AllLie base (stride ∷ strides) (e ∷ extents) count → k < e
    → pos next ≡ pos base +ℤ (pos k *ℤ stride) → AllLie next strides extents count
rest_lie base count k e next stride strides extents lie below is index inside =
    let at = lie (k ∷ index) (omega arith, below, inside) in
    record { place = at.place; below = at.below; is = omega (arith, ints, at.is, is) }

-- the first index of all
pub base_lies : (base count : ℕ) (strides : List ℤ) (extents : List ℕ) → AllLie base strides extents count → 0 < size_of extents → base < count
base_lies base count strides extents lie some =
    let at = lie (zeros extents) (zeros_in extents some) in
    omega (arith, ints, at.below, at.is, zeros_distance extents strides)

-- where the first axis is known
pub lie_split : (base count : ℕ) (strides rest : List ℤ) (extents inner : List ℕ) (stride : ℤ) (e : ℕ) → strides ≡ stride ∷ rest → extents ≡ e ∷ inner
    → AllLie base strides extents count → AllLie base (stride ∷ rest) (e ∷ inner) count
lie_split base count strides rest extents inner stride e is shape lie =
    subst (λ ss. AllLie base ss (e ∷ inner) count) is (subst (λ es. AllLie base strides es count) shape lie)

-- a single axis has one stride
pub lie_last : (base count : ℕ) (rest : List ℤ) (inner : List ℕ) (stride : ℤ) (e : ℕ) → length inner ≡ 0 → AllLie base (stride ∷ rest) (e ∷ inner) count → AllLie base (stride ∷ []) (e ∷ []) count
lie_last base count rest (e' ∷ inner) stride e none lie index inside = absurd (omega (arith, none))
lie_last base count rest [] stride e none lie [] inside = absurd inside
lie_last base count rest [] stride e none lie (i ∷ []) inside = let at = lie (i ∷ []) inside in record { place = at.place; below = at.below; is = at.is }
lie_last base count rest [] stride e none lie (i ∷ j ∷ index) inside = absurd inside.2

pub no_axes : (extents : List ℕ) → length extents ≡ 0 → [] ≡ extents
no_axes [] h = refl
no_axes (e ∷ extents) h = absurd (omega (arith, h))

-- ---- lists

got_before : {X : Type 0} (xs ys : List X) (k : ℕ) → k < length xs → slice_get (xs ++ ys) k ≡ slice_get xs k
got_before [] ys k h = absurd (omega (arith, h))
got_before (x ∷ xs) ys zero h = refl
got_before (x ∷ xs) ys (suc k) h = got_before xs ys k (omega (arith, h))

got_behind : {X : Type 0} (xs ys : List X) (k : ℕ) → slice_get (xs ++ ys) (length xs + k) ≡ slice_get ys k
got_behind [] ys k = ap (slice_get ys) (omega arith)
got_behind (x ∷ xs) ys k = let e : length (x ∷ xs) + k ≡ suc (length xs + k) = omega arith in ap (slice_get (x ∷ xs ++ ys)) e ∙ got_behind xs ys k

got_dropped : {X : Type 0} (xs : List X) (n k : ℕ) → slice_get (drop n xs) k ≡ slice_get xs (n + k)
got_dropped xs zero k = ap (slice_get xs) (omega arith)
got_dropped [] (suc n) k = refl
got_dropped (x ∷ xs) (suc n) k = let e : suc n + k ≡ suc (n + k) = omega arith in got_dropped xs n k ∙ ap (slice_get (x ∷ xs)) (sym e)

got_taken : {X : Type 0} (xs : List X) (n k : ℕ) → k < n → slice_get (take n xs) k ≡ slice_get xs k
got_taken xs zero k h = absurd (omega (arith, h))
got_taken [] (suc n) k h = refl
got_taken (x ∷ xs) (suc n) zero h = refl
got_taken (x ∷ xs) (suc n) (suc k) h = got_taken xs n k (omega (arith, h))

got_same : {X : Type 0} (n k : ℕ) (x : X) → k < n → slice_get (replicate n x) k ≡ Some x
got_same zero k x h = absurd (omega (arith, h))
got_same (suc n) zero x h = refl
got_same (suc n) (suc k) x h = got_same n k x (omega (arith, h))

-- ---- what is gathered

pub same_number : (a b : ℕ) → pos a ≡ pos b → a ≡ b
same_number a b e = omega (arith, ints, e)

module _ {T : Type 0} (source : List T) where
  -- no index
  pub gathered_none : (base : ℕ) (strides : List ℤ) (extents : List ℕ) (old : List T) → IsGathered source base strides (0 ∷ extents) old old
  gathered_none base strides extents old = record {
    count = omega arith;
    kept = λ k h. refl;
    each = none;
  }
    where
      none : (index : List ℕ) (place : ℕ) → IsIn (whole (0 ∷ extents)) index → pos place ≡ pos base +ℤ distance index strides
          → slice_get old (length old + place_of (0 ∷ extents) index) ≡ slice_get source place
      none [] place inside is = absurd inside
      none (i ∷ index) place inside is = absurd (omega (arith, inside.1))

  -- the index without coordinates
  pub gathered_one : (base : ℕ) (strides : List ℤ) (old : List T) (x : T) → slice_get source base ≡ Some x → IsGathered source base strides [] old (old ++ x ∷ [])
  gathered_one base strides old x at = record {
    count = omega (arith, length-append old (x ∷ []));
    kept = λ k h. got_before old (x ∷ []) k h;
    each = one;
  }
    where
      one : (index : List ℕ) (place : ℕ) → IsIn (whole []) index → pos place ≡ pos base +ℤ distance index strides
          → slice_get (old ++ x ∷ []) (length old + place_of [] index) ≡ slice_get source place
      one [] place inside is = got_behind old (x ∷ []) 0 ∙ sym at ∙ ap (slice_get source) (omega (arith, ints, is))
      one (i ∷ index) place inside is = absurd inside

  pub gathered_point : (base : ℕ) (strides : List ℤ) (extents : List ℕ) (old new : List T) (x d : T) → length extents ≡ 0 → base < length source
      → x ≡ get_or source base d → new ≡ old ++ x ∷ [] → IsGathered source base strides extents old new
  gathered_point base strides extents old new x d none below is wrote =
      subst (λ es. IsGathered source base strides es old new) (no_axes extents none)
      (subst (IsGathered source base strides [] old) (sym wrote) (gathered_one base strides old x (slice_get-get_or source base d below ∙ ap Some (sym is))))

  -- one index more on the first axis
  pub gathered_more : (base next k : ℕ) (stride : ℤ) (strides : List ℤ) (extents : List ℕ) (old mid new : List T) → pos next ≡ pos base +ℤ (pos k *ℤ stride)
      → IsGathered source base (stride ∷ strides) (k ∷ extents) old mid → IsGathered source next strides extents mid new
      → IsGathered source base (stride ∷ strides) ((k + 1) ∷ extents) old new
  gathered_more base next k stride strides extents old mid new at first second = record {
    count = omega (arith, first.count, second.count, next_row k (size_of extents));
    kept = λ j h. second.kept j (omega (arith, first.count, h)) ∙ first.kept j h;
    each = each;
  }
    where
      each : (index : List ℕ) (place : ℕ) → IsIn (whole ((k + 1) ∷ extents)) index → pos place ≡ pos base +ℤ distance index (stride ∷ strides)
          → slice_get new (length old + place_of ((k + 1) ∷ extents) index) ≡ slice_get source place
      each [] place inside is = absurd inside
      each (i ∷ index) place inside is = elim (cases_lt i k) [
        | inl lt ↦
            (let there : IsIn (whole (k ∷ extents)) (i ∷ index) = (omega arith, lt, inside.2) in
            second.kept (length old + place_of (k ∷ extents) (i ∷ index)) (omega (arith, first.count, place-below (whole (k ∷ extents)) (i ∷ index) there))
            ∙ first.each (i ∷ index) place there is)
        | inr le ↦
            (let here : k ≡ i = omega (arith, inside.1) in
            let slot : length old + place_of ((k + 1) ∷ extents) (i ∷ index) ≡ length mid + place_of extents index =
            ap (λ j. length old + place_of ((k + 1) ∷ extents) (j ∷ index)) (sym here) ∙ omega (arith, first.count) in
            let lies : pos place ≡ pos next +ℤ distance index strides =
            is ∙ ap (λ j. pos base +ℤ distance (j ∷ index) (stride ∷ strides)) (sym here) ∙ omega (arith, ints, at) in
            ap (slice_get new) slot ∙ second.each index place inside.2 lies)
      ]

  -- a run of one axis
  pub gathered_run : (base count : ℕ) (old : List T) → base + count ≤ length source
      → IsGathered source base (pos 1 ∷ []) (count ∷ []) old (old ++ take count (drop base source))
  gathered_run base count old fits = record {
    count = omega (arith, length-append old (take count (drop base source)), run_length);
    kept = λ k h. got_before old (take count (drop base source)) k h;
    each = each;
  }
    where
      run_length : length (take count (drop base source)) ≡ count
      run_length = omega (arith, fits, length-take count (drop base source), length-drop base source)

      each : (index : List ℕ) (place : ℕ) → IsIn (whole (count ∷ [])) index → pos place ≡ pos base +ℤ distance index (pos 1 ∷ [])
          → slice_get (old ++ take count (drop base source)) (length old + place_of (count ∷ []) index) ≡ slice_get source place
      each [] place inside is = absurd inside
      each (i ∷ []) place inside is =
          ap (λ k. slice_get (old ++ take count (drop base source)) (length old + k)) (omega arith)
          ∙ got_behind old (take count (drop base source)) i ∙ got_taken (drop base source) count i inside.1 ∙ got_dropped source base i
          ∙ ap (slice_get source) (omega (arith, ints, is))
      each (i ∷ j ∷ index) place inside is = absurd inside.2

  -- the same element at each index of one axis
  pub gathered_same : (base count : ℕ) (old : List T) (x : T) → slice_get source base ≡ Some x
      → IsGathered source base (pos 0 ∷ []) (count ∷ []) old (old ++ replicate count x)
  gathered_same base count old x at = record {
    count = omega (arith, length-append old (replicate count x), length-replicate count x);
    kept = λ k h. got_before old (replicate count x) k h;
    each = each;
  }
    where
      each : (index : List ℕ) (place : ℕ) → IsIn (whole (count ∷ [])) index → pos place ≡ pos base +ℤ distance index (pos 0 ∷ [])
          → slice_get (old ++ replicate count x) (length old + place_of (count ∷ []) index) ≡ slice_get source place
      each [] place inside is = absurd inside
      each (i ∷ []) place inside is =
          ap (λ k. slice_get (old ++ replicate count x) (length old + k)) (omega arith)
          ∙ got_behind old (replicate count x) i ∙ got_same count i x inside.1 ∙ sym at
          ∙ ap (slice_get source) (omega (arith, ints, is))
      each (i ∷ j ∷ index) place inside is = absurd inside.2

-- one element where the stride is 0, if there was memory
module _ {T E : Type 0} (r : Result (Unit {0}) E) (source old new : List T) (base extent : ℕ) (stride : ℤ) (x d : T) where
  pub same_gathered : stride ≡ pos 0 → base < length source → x ≡ get_or source base d → OnOk r (new ≡ old ++ replicate extent x)
      → OnOk r (IsGathered source base (stride ∷ []) (extent ∷ []) old new)
  same_gathered none below at is = by_result r is
    where
      by_result : (q : Result (Unit {0}) E) → OnOk q (new ≡ old ++ replicate extent x) → OnOk q (IsGathered source base (stride ∷ []) (extent ∷ []) old new)
      by_result (Ok y) e =
          subst (λ s. IsGathered source base (s ∷ []) (extent ∷ []) old new) (sym none)
          (subst (IsGathered source base (pos 0 ∷ []) (extent ∷ []) old) (sym e)
          (gathered_same source base extent old x (slice_get-get_or source base d below ∙ ap Some (sym at))))
      by_result (Err y) e = tt

-- a run where the stride is 1, if there was memory
module _ {T E : Type 0} (r : Result (Unit {0}) E) (source old new : List T) (base extent : ℕ) (stride : ℤ) where
  pub run_gathered : stride ≡ pos 1 → base + extent ≤ length source → OnOk r (new ≡ old ++ take extent (drop base source))
      → OnOk r (IsGathered source base (stride ∷ []) (extent ∷ []) old new)
  run_gathered one fits is = by_result r is
    where
      by_result : (q : Result (Unit {0}) E) → OnOk q (new ≡ old ++ take extent (drop base source)) → OnOk q (IsGathered source base (stride ∷ []) (extent ∷ []) old new)
      by_result (Ok x) e =
          subst (λ s. IsGathered source base (s ∷ []) (extent ∷ []) old new) (sym one)
          (subst (IsGathered source base (pos 1 ∷ []) (extent ∷ []) old) (sym e) (gathered_run source base extent old fits))
      by_result (Err x) e = tt

-- a run ends inside
pub run_fits : (base extent count : ℕ) (stride : ℤ) → stride ≡ pos 1 → 0 < extent → AllLie base (stride ∷ []) (extent ∷ []) count → base + extent ≤ count
run_fits base extent count stride one some lie =
    let last = lie ((extent - 1) ∷ []) (omega arith, omega (arith, some), tt) in
    let far : pos (extent - 1) *ℤ stride ≡ pos (extent - 1) = ap (λ s. pos (extent - 1) *ℤ s) one ∙ omega (arith, ints) in
    omega (arith, ints, last.is, last.below, far, some)

-- ---- a view

-- the distance of an index of a shape is what the strides of a view say
pub along_distance : (shape index : List ℕ) (strides : List ℤ) → IsIn (whole shape) index → along strides (whole shape) index ≡ distance index strides
along_distance [] [] [] inside = refl
along_distance [] [] (s ∷ strides) inside = refl
along_distance [] (i ∷ index) strides inside = absurd inside
along_distance (e ∷ shape) [] strides inside = absurd inside
along_distance (e ∷ shape) (i ∷ index) [] inside = refl
along_distance (e ∷ shape) (i ∷ index) (s ∷ strides) inside =
    let same : i - 0 ≡ i = omega arith in
    ap (λ n. (pos n *ℤ s) +ℤ along strides (whole shape) index) same
    ∙ ap (λ d. (pos i *ℤ s) +ℤ d) (along_distance shape index strides inside.2)

-- ---- the order of rows

pub rows_none : (strides : List ℤ) → AreRows strides []
rows_none strides [] inside = refl
rows_none strides (i ∷ index) inside = absurd inside

-- one axis more, of one coordinate or with the stride of a row
pub rows_next : (stride : ℤ) (strides : List ℤ) (e : ℕ) (extents : List ℕ) → (e ≤ 1) ⊎ (stride ≡ pos (size_of extents)) → AreRows strides extents → AreRows (stride ∷ strides) (e ∷ extents)
rows_next stride strides e extents either rows [] inside = absurd inside
rows_next stride strides e extents (inl few) rows (i ∷ index) inside =
    let first : i ≡ 0 = omega (arith, inside.1, few) in
    let row : (i - 0) * size_of extents ≡ 0 = ap (λ n. (n - 0) * size_of extents) first ∙ omega arith in
    let far : pos i *ℤ stride ≡ pos 0 = ap (λ n. pos n *ℤ stride) first ∙ omega (arith, ints) in
    ap (λ d. d +ℤ distance index strides) far ∙ ap (pos 0 +ℤ◌) (rows index inside.2) ∙ omega (arith, ints, row)
rows_next stride strides e extents (inr is) rows (i ∷ index) inside =
    let same : i ≡ i - 0 = omega arith in
    let far : pos i *ℤ stride ≡ pos ((i - 0) * size_of extents) = ap (λ s. pos i *ℤ s) is ∙ ap (λ n. pos n *ℤ pos (size_of extents)) same ∙ omega (arith, ints) in
    ap (λ d. d +ℤ distance index strides) far ∙ ap (pos ((i - 0) * size_of extents) +ℤ◌) (rows index inside.2) ∙ omega (arith, ints)

-- a view of the root's shape whose places are those of the rows
pub rows_whole : (c : Chain) (root : List ℕ) (all : List (ℕ × ℕ)) (base : ℕ) (strides : List ℤ) → root_of c ≡ root → shape_of c ≡ root → all ≡ whole root → base ≡ 0 → AreRows strides root
    → ((index : List ℕ) → IsIn all index → pos (place_in all (mapped c index)) ≡ pos base +ℤ along strides all index) → layout_of c ≡ whole_layout root
rows_whole c root all base strides root_is shape all_is first rows places_are =
    λ i. record { shape = shape i; places = (lists ∙ whole_places root (λ index. index) (λ index h. refl)) i }
  where
    at : (k : ℕ) (index : List ℕ) → slice_get (places root) k ≡ Some index → place_of (root_of c) (mapped c index) ≡ place_of root index
    at k index is =
        let stands = stands_once (whole root) k index is in
        let lies : pos (place_of root (mapped c index)) ≡ pos 0 +ℤ distance index strides =
        ap (λ r. pos (place_in r (mapped c index))) (sym all_is) ∙ places_are index (subst (λ r. IsIn r index) (sym all_is) stands.0)
        ∙ ap (λ b. pos b +ℤ along strides all index) first ∙ ap (λ r. pos 0 +ℤ along strides r index) all_is ∙ ap (pos 0 +ℤ◌) (along_distance root index strides stands.0) in
        ap (λ r. place_of r (mapped c index)) root_is ∙ same_number _ _ (lies ∙ ap (pos 0 +ℤ◌) (rows index stands.0) ∙ omega (arith, ints))

    lists : (layout_of c).places ≡ map (λ index. place_of root index) (places root)
    lists = ap (λ s. map (λ index. place_of (root_of c) (mapped c index)) (places s)) shape
        ∙ map_within (λ index. place_of (root_of c) (mapped c index)) (λ index. place_of root index) (places root) at

-- what is said of an answer that is there
pub from_some : {P : Type 0} (o : Option ℕ) → IsTrue (is_some o) → IfSome o (λ (n : ℕ). P) → P
from_some None there h = absurd (no_truth there)
  where
    no_truth : false ≡ true → ⊥
    no_truth e = cc
from_some (Some n) there h = h
