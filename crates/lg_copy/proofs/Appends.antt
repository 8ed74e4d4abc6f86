-- Elements that are appended, axis after axis.
use Rattle.std.proofs.Common.{◌≡◌, ℕ, zero, suc, ◌+◌, ◌-◌, ◌*◌, ◌<◌, ◌≤◌, List, [], ◌∷◌, ◌++◌, length, map, take, drop, replicate, ◌⊎◌, inl, inr, Some, Result, Ok, Err, OnOk, get_or, slice_get, ℤ, pos, ◌+ℤ◌, ◌*ℤ◌, refl, sym, ap, subst, ◌∙◌, arith}
use Rattle.std.proofs.lemmas.Bool.{cases_lt}
use Rattle.std.proofs.lemmas.List.{length-append, length-take, length-drop, length-replicate}
use Rattle.std.proofs.lemmas.Option.{slice_get-get_or}
use Rattle.std.proofs.lemmas.Int.{ints}
use Rattle.lg_space.specs.Rectangle.{IsIn}
use Rattle.lg_space.proofs.Places.{place-below}
use Rattle.lg_shape.specs.Shapes.{whole, place_of, size_of}
use Rattle.lg_copy.specs.Appending.{distance, AllLie, AreRows, IsAppended}

-- ---- shapes with an index

-- a product that is not 0 has no factor 0
pub some_factors : (e s : ℕ) → 0 < (e - 0) * s → (0 < e) × (0 < s)
some_factors zero s h = absurd (omega (arith, h))
some_factors (suc e) zero h = absurd (omega (arith, h))
some_factors (suc e) (suc s) h = (omega arith, omega arith)

-- a factor is at most the product
pub factor_most : (e s : ℕ) → 0 < s → e ≤ (e - 0) * s
factor_most e zero h = absurd (omega (arith, h))
factor_most e (suc s) h = omega arith

pub rest_most : (e s : ℕ) → 0 < e → s ≤ (e - 0) * s
rest_most zero s h = absurd (omega (arith, h))
rest_most (suc e) s h =
    let f : suc e - 0 ≡ suc e = omega arith in
    let more : s ≤ suc e * s = omega arith in
    subst (λ n. s ≤ n * s) (sym f) more

-- one row more
next_row : (k s : ℕ) → (k + 1 - 0) * s ≡ (k - 0) * s + s
next_row k s =
    let e : k + 1 - 0 ≡ k + 1 = omega arith in
    let f : k ≡ k - 0 = omega arith in
    let both : (k + 1) * s ≡ k * s + s = omega arith in
    ap (λ n. n * s) e ∙ both ∙ ap (λ n. n * s + s) f

-- the first index
abbrev zeros : List ℕ → List ℕ
zeros extents = map (λ (extent : ℕ). 0) extents

zeros_in : (extents : List ℕ) → 0 < size_of extents → IsIn (whole extents) (zeros extents)
zeros_in [] h = tt
zeros_in (e ∷ extents) h = let p = some_factors e (size_of extents) h in (omega arith, p.0, zeros_in extents p.1)

zeros_distance : (extents : List ℕ) (strides : List ℤ) → distance (zeros extents) strides ≡ pos 0
zeros_distance [] strides = refl
zeros_distance (e ∷ extents) [] = refl
zeros_distance (e ∷ extents) (s ∷ strides) = omega (arith, ints, zeros_distance extents strides)

-- ---- one index further on the first axis

-- it lies somewhere
pub step_lies : (base count k e : ℕ) (stride : ℤ) (strides : List ℤ) (extents : List ℕ) → AllLie base (stride ∷ strides) (e ∷ extents) count → k < e → 0 < size_of extents
    → (next : ℕ) × (next < count) × (pos next ≡ pos base +ℤ (pos k *ℤ stride))
step_lies base count k e stride strides extents lie below some =
    let at = lie (k ∷ zeros extents) (omega arith, below, zeros_in extents some) in
    (at.place, at.below, omega (arith, ints, at.is, zeros_distance extents strides))

-- and the indices of the other axes behind it
pub rest_lie : (base count k e next : ℕ) (stride : ℤ) (strides : List ℤ) (extents : List ℕ) → AllLie base (stride ∷ strides) (e ∷ extents) count → k < e
    → pos next ≡ pos base +ℤ (pos k *ℤ stride) → AllLie next strides extents count
rest_lie base count k e next stride strides extents lie below is index inside =
    let at = lie (k ∷ index) (omega arith, below, inside) in
    record { place = at.place; below = at.below; is = omega (arith, ints, at.is, is) }

-- the first index of all
pub base_lies : (base count : ℕ) (strides : List ℤ) (extents : List ℕ) → AllLie base strides extents count → 0 < size_of extents → base < count
base_lies base count strides extents lie some =
    let at = lie (zeros extents) (zeros_in extents some) in
    omega (arith, ints, at.below, at.is, zeros_distance extents strides)

-- where the first axis is known
pub lie_split : (base count : ℕ) (strides rest : List ℤ) (extents inner : List ℕ) (stride : ℤ) (e : ℕ) → strides ≡ stride ∷ rest → extents ≡ e ∷ inner
    → AllLie base strides extents count → AllLie base (stride ∷ rest) (e ∷ inner) count
lie_split base count strides rest extents inner stride e is shape lie =
    subst (λ ss. AllLie base ss (e ∷ inner) count) is (subst (λ es. AllLie base strides es count) shape lie)

-- a single axis has one stride
pub lie_last : (base count : ℕ) (rest : List ℤ) (inner : List ℕ) (stride : ℤ) (e : ℕ) → length inner ≡ 0 → AllLie base (stride ∷ rest) (e ∷ inner) count → AllLie base (stride ∷ []) (e ∷ []) count
lie_last base count rest (e' ∷ inner) stride e none lie index inside = absurd (omega (arith, none))
lie_last base count rest [] stride e none lie [] inside = absurd inside
lie_last base count rest [] stride e none lie (i ∷ []) inside = let at = lie (i ∷ []) inside in record { place = at.place; below = at.below; is = at.is }
lie_last base count rest [] stride e none lie (i ∷ j ∷ index) inside = absurd inside.2

pub no_axes : (extents : List ℕ) → length extents ≡ 0 → [] ≡ extents
no_axes [] h = refl
no_axes (e ∷ extents) h = absurd (omega (arith, h))

-- ---- lists

got_before : {X : Type 0} (xs ys : List X) (k : ℕ) → k < length xs → slice_get (xs ++ ys) k ≡ slice_get xs k
got_before [] ys k h = absurd (omega (arith, h))
got_before (x ∷ xs) ys zero h = refl
got_before (x ∷ xs) ys (suc k) h = got_before xs ys k (omega (arith, h))

got_behind : {X : Type 0} (xs ys : List X) (k : ℕ) → slice_get (xs ++ ys) (length xs + k) ≡ slice_get ys k
got_behind [] ys k = ap (slice_get ys) (omega arith)
got_behind (x ∷ xs) ys k = let e : length (x ∷ xs) + k ≡ suc (length xs + k) = omega arith in ap (slice_get (x ∷ xs ++ ys)) e ∙ got_behind xs ys k

got_dropped : {X : Type 0} (xs : List X) (n k : ℕ) → slice_get (drop n xs) k ≡ slice_get xs (n + k)
got_dropped xs zero k = ap (slice_get xs) (omega arith)
got_dropped [] (suc n) k = refl
got_dropped (x ∷ xs) (suc n) k = let e : suc n + k ≡ suc (n + k) = omega arith in got_dropped xs n k ∙ ap (slice_get (x ∷ xs)) (sym e)

got_taken : {X : Type 0} (xs : List X) (n k : ℕ) → k < n → slice_get (take n xs) k ≡ slice_get xs k
got_taken xs zero k h = absurd (omega (arith, h))
got_taken [] (suc n) k h = refl
got_taken (x ∷ xs) (suc n) zero h = refl
got_taken (x ∷ xs) (suc n) (suc k) h = got_taken xs n k (omega (arith, h))

got_same : {X : Type 0} (n k : ℕ) (x : X) → k < n → slice_get (replicate n x) k ≡ Some x
got_same zero k x h = absurd (omega (arith, h))
got_same (suc n) zero x h = refl
got_same (suc n) (suc k) x h = got_same n k x (omega (arith, h))

-- ---- what is appended

pub same_number : (a b : ℕ) → pos a ≡ pos b → a ≡ b
same_number a b e = omega (arith, ints, e)

module _ {T : Type 0} (source : List T) where
  -- no index
  pub appended_none : (base : ℕ) (strides : List ℤ) (extents : List ℕ) (old : List T) → IsAppended source base strides (0 ∷ extents) old old
  appended_none base strides extents old = record {
    count = omega arith;
    kept = λ k h. refl;
    each = none;
  }
    where
      none : (index : List ℕ) (place : ℕ) → IsIn (whole (0 ∷ extents)) index → pos place ≡ pos base +ℤ distance index strides
          → slice_get old (length old + place_of (0 ∷ extents) index) ≡ slice_get source place
      none [] place inside is = absurd inside
      none (i ∷ index) place inside is = absurd (omega (arith, inside.1))

  -- the index without coordinates
  pub appended_one : (base : ℕ) (strides : List ℤ) (old : List T) (x : T) → slice_get source base ≡ Some x → IsAppended source base strides [] old (old ++ x ∷ [])
  appended_one base strides old x at = record {
    count = omega (arith, length-append old (x ∷ []));
    kept = λ k h. got_before old (x ∷ []) k h;
    each = one;
  }
    where
      one : (index : List ℕ) (place : ℕ) → IsIn (whole []) index → pos place ≡ pos base +ℤ distance index strides
          → slice_get (old ++ x ∷ []) (length old + place_of [] index) ≡ slice_get source place
      one [] place inside is = got_behind old (x ∷ []) 0 ∙ sym at ∙ ap (slice_get source) (omega (arith, ints, is))
      one (i ∷ index) place inside is = absurd inside

  pub appended_point : (base : ℕ) (strides : List ℤ) (extents : List ℕ) (old new : List T) (x d : T) → length extents ≡ 0 → base < length source
      → x ≡ get_or source base d → new ≡ old ++ x ∷ [] → IsAppended source base strides extents old new
  appended_point base strides extents old new x d none below is wrote =
      subst (λ es. IsAppended source base strides es old new) (no_axes extents none)
      (subst (IsAppended source base strides [] old) (sym wrote) (appended_one base strides old x (slice_get-get_or source base d below ∙ ap Some (sym is))))

  -- one index more on the first axis
  pub appended_more : (base next k : ℕ) (stride : ℤ) (strides : List ℤ) (extents : List ℕ) (old mid new : List T) → pos next ≡ pos base +ℤ (pos k *ℤ stride)
      → IsAppended source base (stride ∷ strides) (k ∷ extents) old mid → IsAppended source next strides extents mid new
      → IsAppended source base (stride ∷ strides) ((k + 1) ∷ extents) old new
  appended_more base next k stride strides extents old mid new at first second = record {
    count = omega (arith, first.count, second.count, next_row k (size_of extents));
    kept = λ j h. second.kept j (omega (arith, first.count, h)) ∙ first.kept j h;
    each = each;
  }
    where
      each : (index : List ℕ) (place : ℕ) → IsIn (whole ((k + 1) ∷ extents)) index → pos place ≡ pos base +ℤ distance index (stride ∷ strides)
          → slice_get new (length old + place_of ((k + 1) ∷ extents) index) ≡ slice_get source place
      each [] place inside is = absurd inside
      each (i ∷ index) place inside is = elim (cases_lt i k) [
        | inl lt ↦
            (let there : IsIn (whole (k ∷ extents)) (i ∷ index) = (omega arith, lt, inside.2) in
            second.kept (length old + place_of (k ∷ extents) (i ∷ index)) (omega (arith, first.count, place-below (whole (k ∷ extents)) (i ∷ index) there))
            ∙ first.each (i ∷ index) place there is)
        | inr le ↦
            (let here : k ≡ i = omega (arith, inside.1) in
            let slot : length old + place_of ((k + 1) ∷ extents) (i ∷ index) ≡ length mid + place_of extents index =
            ap (λ j. length old + place_of ((k + 1) ∷ extents) (j ∷ index)) (sym here) ∙ omega (arith, first.count) in
            let lies : pos place ≡ pos next +ℤ distance index strides =
            is ∙ ap (λ j. pos base +ℤ distance (j ∷ index) (stride ∷ strides)) (sym here) ∙ omega (arith, ints, at) in
            ap (slice_get new) slot ∙ second.each index place inside.2 lies)
      ]

  -- all elements, in the order of the rows
  pub appended_rows : (base : ℕ) (strides : List ℤ) (extents : List ℕ) (old : List T) → base + size_of extents ≤ length source → AreRows strides extents
      → IsAppended source base strides extents old (old ++ take (size_of extents) (drop base source))
  appended_rows base strides extents old fits rows = record {
    count = omega (arith, length-append old (take (size_of extents) (drop base source)), run_length);
    kept = λ k h. got_before old (take (size_of extents) (drop base source)) k h;
    each = each;
  }
    where
      run_length : length (take (size_of extents) (drop base source)) ≡ size_of extents
      run_length = omega (arith, fits, length-take (size_of extents) (drop base source), length-drop base source)

      each : (index : List ℕ) (place : ℕ) → IsIn (whole extents) index → pos place ≡ pos base +ℤ distance index strides
          → slice_get (old ++ take (size_of extents) (drop base source)) (length old + place_of extents index) ≡ slice_get source place
      each index place inside is =
          let lies : pos place ≡ pos base +ℤ pos (place_of extents index) = is ∙ ap (pos base +ℤ◌) (rows index inside) in
          got_behind old (take (size_of extents) (drop base source)) (place_of extents index)
          ∙ got_taken (drop base source) (size_of extents) (place_of extents index) (place-below (whole extents) index inside) ∙ got_dropped source base (place_of extents index)
          ∙ ap (slice_get source) (omega (arith, ints, lies))

  -- the same element at each index of one axis
  pub appended_same : (base count : ℕ) (old : List T) (x : T) → slice_get source base ≡ Some x
      → IsAppended source base (pos 0 ∷ []) (count ∷ []) old (old ++ replicate count x)
  appended_same base count old x at = record {
    count = omega (arith, length-append old (replicate count x), length-replicate count x);
    kept = λ k h. got_before old (replicate count x) k h;
    each = each;
  }
    where
      each : (index : List ℕ) (place : ℕ) → IsIn (whole (count ∷ [])) index → pos place ≡ pos base +ℤ distance index (pos 0 ∷ [])
          → slice_get (old ++ replicate count x) (length old + place_of (count ∷ []) index) ≡ slice_get source place
      each [] place inside is = absurd inside
      each (i ∷ []) place inside is =
          ap (λ k. slice_get (old ++ replicate count x) (length old + k)) (omega arith)
          ∙ got_behind old (replicate count x) i ∙ got_same count i x inside.1 ∙ sym at
          ∙ ap (slice_get source) (omega (arith, ints, is))
      each (i ∷ j ∷ index) place inside is = absurd inside.2

-- one element where the stride is 0, if there was memory
module _ {T E : Type 0} (r : Result (Unit {0}) E) (source old new : List T) (base extent : ℕ) (stride : ℤ) (x d : T) where
  pub same_appended : stride ≡ pos 0 → base < length source → x ≡ get_or source base d → OnOk r (new ≡ old ++ replicate extent x)
      → OnOk r (IsAppended source base (stride ∷ []) (extent ∷ []) old new)
  same_appended none below at is = by_result r is
    where
      by_result : (q : Result (Unit {0}) E) → OnOk q (new ≡ old ++ replicate extent x) → OnOk q (IsAppended source base (stride ∷ []) (extent ∷ []) old new)
      by_result (Ok y) e =
          subst (λ s. IsAppended source base (s ∷ []) (extent ∷ []) old new) (sym none)
          (subst (IsAppended source base (pos 0 ∷ []) (extent ∷ []) old) (sym e)
          (appended_same source base extent old x (slice_get-get_or source base d below ∙ ap Some (sym at))))
      by_result (Err y) e = tt

-- all elements in the order of the rows, if there was memory
module _ {T E : Type 0} (r : Result (Unit {0}) E) (source old new : List T) (base size : ℕ) (strides : List ℤ) (extents : List ℕ) where
  pub rows_appended : size ≡ size_of extents → base + size ≤ length source → AreRows strides extents → OnOk r (new ≡ old ++ take size (drop base source))
      → OnOk r (IsAppended source base strides extents old new)
  rows_appended all fits rows is = by_result r is
    where
      by_result : (q : Result (Unit {0}) E) → OnOk q (new ≡ old ++ take size (drop base source)) → OnOk q (IsAppended source base strides extents old new)
      by_result (Ok x) e =
          subst (IsAppended source base strides extents old) (sym (e ∙ ap (λ n. old ++ take n (drop base source)) all))
          (appended_rows source base strides extents old (subst (λ n. base + n ≤ length source) all fits) rows)
      by_result (Err x) e = tt

-- the last index of a shape
abbrev lasts : List ℕ → List ℕ
lasts extents = map (λ (extent : ℕ). extent - 1) extents

lasts_in : (extents : List ℕ) → 0 < size_of extents → IsIn (whole extents) (lasts extents)
lasts_in [] h = tt
lasts_in (e ∷ extents) h = let p = some_factors e (size_of extents) h in (omega arith, omega (arith, p.0), lasts_in extents p.1)

last_place : (extents : List ℕ) → 0 < size_of extents → place_of extents (lasts extents) + 1 ≡ size_of extents
last_place [] h = refl
last_place (zero ∷ extents) h = absurd (omega (arith, (some_factors zero (size_of extents) h).0))
last_place (suc e ∷ extents) h =
    let rest = last_place extents (some_factors (suc e) (size_of extents) h).1 in
    let first : suc e - 1 - 0 ≡ e = omega arith in
    let all : suc e - 0 ≡ suc e = omega arith in
    let more : e * size_of extents + size_of extents ≡ suc e * size_of extents = omega arith in
    ap (λ n. n * size_of extents + place_of extents (lasts extents) + 1) first ∙ omega (arith, rest, more) ∙ ap (λ n. n * size_of extents) (sym all)

-- the rows end inside
pub rows_fit : (base count : ℕ) (strides : List ℤ) (extents : List ℕ) → 0 < size_of extents → AllLie base strides extents count → AreRows strides extents → base + size_of extents ≤ count
rows_fit base count strides extents some lie rows =
    let inside = lasts_in extents some in
    let last = lie (lasts extents) inside in
    omega (arith, ints, last.is, rows (lasts extents) inside, last.below, last_place extents some)

-- ---- the order of rows

pub rows_none : (strides : List ℤ) → AreRows strides []
rows_none strides [] inside = refl
rows_none strides (i ∷ index) inside = absurd inside

-- one axis more, of one coordinate or with the stride of a row
pub rows_next : (stride : ℤ) (strides : List ℤ) (e : ℕ) (extents : List ℕ) → (e ≤ 1) ⊎ (stride ≡ pos (size_of extents)) → AreRows strides extents → AreRows (stride ∷ strides) (e ∷ extents)
rows_next stride strides e extents either rows [] inside = absurd inside
rows_next stride strides e extents (inl few) rows (i ∷ index) inside =
    let first : i ≡ 0 = omega (arith, inside.1, few) in
    let row : (i - 0) * size_of extents ≡ 0 = ap (λ n. (n - 0) * size_of extents) first ∙ omega arith in
    let far : pos i *ℤ stride ≡ pos 0 = ap (λ n. pos n *ℤ stride) first ∙ omega (arith, ints) in
    ap (λ d. d +ℤ distance index strides) far ∙ ap (pos 0 +ℤ◌) (rows index inside.2) ∙ omega (arith, ints, row)
rows_next stride strides e extents (inr is) rows (i ∷ index) inside =
    let same : i ≡ i - 0 = omega arith in
    let far : pos i *ℤ stride ≡ pos ((i - 0) * size_of extents) = ap (λ s. pos i *ℤ s) is ∙ ap (λ n. pos n *ℤ pos (size_of extents)) same ∙ omega (arith, ints) in
    ap (λ d. d +ℤ distance index strides) far ∙ ap (pos ((i - 0) * size_of extents) +ℤ◌) (rows index inside.2) ∙ omega (arith, ints)
