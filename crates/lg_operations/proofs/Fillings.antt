-- What a target takes of a value.
use Rattle.std.proofs.Common.{◌≡◌, ℕ, suc, zero, ◌+◌, ◌-◌, ◌*◌, ◌<◌, ◌==◌, eqb-true, Bool, true, false, ◌&&◌, ◌||◌, ◌⊎◌, inl, inr, List, [], ◌∷◌, ◌++◌, length, map, take, drop, reverse, replicate, get_or, Result, Ok, refl, sym, ap, subst, ◌∙◌, arith, append-nil, ℤ, pos}
use Rattle.std.specs.List.{list_all}
use Rattle.std.specs.Cmp.Lexicographic.{bytes_decides}
use Rattle.std.proofs.lemmas.Bool.{cases_lt}
use Rattle.std.proofs.lemmas.List.{reverse-append, take-append-drop, length-take-le, length-drop, length-reverse}
use Rattle.std.proofs.lemmas.Simd.{map-map}
use Rattle.lg_elem.specs.declared.dtype.DType.{DType}
use Rattle.lg_elem.specs.Types.{IsNumber, wrap}
use Rattle.lg_elem.proofs.WrapLemmas.{wrap_same}
use Rattle.lg_space.specs.Rectangle.{IsIn}
use Rattle.lg_space.proofs.Inside.{same_axes}
use Rattle.lg_shape.specs.Shapes.{size_of, broadcast, places, place_of, aligned, pinned, whole}
use Rattle.lg_meaning.specs.declared.fault.FaultKind.{FaultKind}
use Rattle.lg_meaning.specs.declared.fault.FaultKind.TheVariants.{Range, Shape}
use Rattle.lg_meaning.specs.Assignments.{is_taken, surplus, without_surplus, fills}
use Rattle.lg_meaning.specs.Faults.{needing}
use Rattle.lg_meaning.specs.Static.{Static, shape_of}
use Rattle.lg_meaning.specs.Value.{Value, spread}
use Rattle.lg_meaning.specs.Views.{broadcasts_to, is_exactly}
use Rattle.lg_operations.specs.Lending.{SpreadsTo}
use Rattle.lg_operations.specs.Repeating.{repeats_axes}
use Rattle.lg_operations.specs.Taking.{taking, taken_numbers}
use Rattle.lg_operations.proofs.Indexed.{along}
use Rattle.lg_operations.proofs.Joins.{FitsFromLast, joined_fits, spreads, same_fits, same_spreads}
use Rattle.lg_operations.proofs.Exactly.{joined_exactly}
use Rattle.lg_operations.proofs.Spreads.{length-whole}
use Rattle.lg_operations.proofs.Spreadings.{spread_self}

-- ---- which shapes fill a target

-- one more axis in front of those that were looked at
pub repeats_last : (own front : List ℕ) (x : ℕ) (shape back : List ℕ) (y : ℕ) (rest : Bool) → own ≡ front ++ x ∷ [] → shape ≡ back ++ y ∷ []
    → rest ≡ repeats_axes (reverse front) (reverse back) → ((x == 1 || x == y) && rest) ≡ repeats_axes (reverse own) (reverse shape)
repeats_last own front x shape back y rest first second others =
    let own_last : reverse own ≡ x ∷ reverse front = ap reverse first ∙ reverse-append front (x ∷ []) in
    let last : reverse shape ≡ y ∷ reverse back = ap reverse second ∙ reverse-append back (y ∷ []) in
    ap ((x == 1 || x == y) &&◌) others ∙ (λ i. repeats_axes (sym own_last i) (sym last i))

-- what is taken fills the target
pub taking_fills : (t : DType) (shape : List ℕ) (s : Static) → taking t shape s ≡ Ok tt → fills (shape_of s) shape ≡ true
taking_fills t shape s e = by (is_taken t s) (fills (shape_of s) shape) e
  where
    by : (a b : Bool) → ◌≡◌ {A = Result (Unit {0}) FaultKind} (needing a Range (needing b Shape (Ok tt))) (Ok tt) → b ≡ true
    by true true e = refl
    by true false e = cc
    by false b e = cc

ones : (xs : List ℕ) → list_all (λ extent. extent == 1) xs ≡ true → xs ≡ replicate (length xs) 1
ones [] all = refl
ones (x ∷ xs) all = let p = both (x == 1) (list_all (λ extent. extent == 1) xs) all in λ i. eqb-true x 1 p.0 i ∷ ones xs p.1 i
  where
    both : (a b : Bool) → (a && b) ≡ true → (a ≡ true) × (b ≡ true)
    both true b e = (refl, e)
    both false b e = cc

-- a shape that fills another one is as many axes of one element as it has surplus ones, and then one
-- that can be repeated to it
pub record Filling (own shape : List ℕ) : Type 0 where
  pub rest : List ℕ
  pub split : own ≡ replicate (surplus own shape) 1 ++ rest
  pub without : without_surplus own shape ≡ rest
  pub repeats : SpreadsTo rest shape
  pub axes : (surplus own shape ≡ 0) ⊎ (length rest ≡ length shape)

pub filling : (own shape : List ℕ) → fills own shape ≡ true → Filling own shape
filling own shape e =
    let k = surplus own shape in
    let p = both (list_all (λ extent. extent == 1) (take k own)) (broadcasts_to (drop k own) shape) e in
    let count : length (take k own) ≡ k = length-take-le k own (omega arith) in
    record {
      rest = drop k own;
      split = sym (take-append-drop k own) ∙ ap (λ l. l ++ drop k own) (ones (take k own) p.0 ∙ ap (λ n. replicate n 1) count);
      without = refl;
      repeats = joined_exactly (drop k own) shape p.1;
      axes = by_length;
    }
  where
    both : (a b : Bool) → (a && b) ≡ true → (a ≡ true) × (b ≡ true)
    both true b e = (refl, e)
    both false b e = cc

    by_length : (surplus own shape ≡ 0) ⊎ (length (drop (surplus own shape) own) ≡ length shape)
    by_length = elim (cases_lt (length shape) (length own)) [
      | inl more ↦ inr (length-drop (surplus own shape) own ∙ omega (arith, more))
      | inr less ↦ inl (omega (arith, less))
    ]

fits_append : (a b c : List ℕ) → length a ≡ length b → FitsFromLast a b → FitsFromLast (a ++ c) (b ++ c)
fits_append [] [] c count h = same_fits c
fits_append [] (y ∷ b) c count h = absurd (omega (arith, count))
fits_append (x ∷ a) [] c count h = absurd (omega (arith, count))
fits_append (x ∷ a) (y ∷ b) c count h = (h.0, fits_append a b c (omega (arith, count)) h.1)

-- the value can be repeated to the shape with as many axes of one element in front
pub padded_spreads : (own shape : List ℕ) → fills own shape ≡ true → SpreadsTo own (replicate (surplus own shape) 1 ++ shape)
padded_spreads own shape e =
    let f = filling own shape e in
    let k = surplus own shape in
    subst (λ s. SpreadsTo s (replicate k 1 ++ shape)) (sym f.split) (by k f.rest f.repeats f.axes)
  where
    by : (k : ℕ) (rest : List ℕ) → SpreadsTo rest shape → (k ≡ 0) ⊎ (length rest ≡ length shape) → SpreadsTo (replicate k 1 ++ rest) (replicate k 1 ++ shape)
    by k rest h (inl none) = subst (λ n. SpreadsTo (replicate n 1 ++ rest) (replicate n 1 ++ shape)) (sym none) h
    by k rest h (inr count) =
        let front = replicate k 1 in
        let fits = fits_append (reverse rest) (reverse shape) (reverse front) (length-reverse rest ∙ count ∙ sym (length-reverse shape)) (joined_fits rest shape shape h).0 in
        spreads (front ++ rest) (front ++ shape)
        (subst (λ l. FitsFromLast l (reverse (front ++ shape))) (sym (reverse-append front rest))
        (subst (FitsFromLast (reverse rest ++ reverse front)) (sym (reverse-append front shape)) fits))

pub size_padded : (k : ℕ) (shape : List ℕ) → size_of (replicate k 1 ++ shape) ≡ size_of shape
size_padded zero shape = refl
size_padded (suc k) shape = let rest = size_padded k shape in omega (arith, rest)

-- ---- the numbers

-- an axis of one element at both sides changes nothing
one_more : (a b : List ℕ) (xs : List ℤ) → length a ≡ length b → broadcast (1 ∷ a) xs (1 ∷ b) ≡ broadcast a xs b
one_more a b xs count =
    ap (map (λ index. get_or xs (place_of (1 ∷ a) (aligned (1 ∷ a) index)) (pos 0))) (append-nil (map (0 ∷◌) (places b)))
    ∙ map-map (λ index. get_or xs (place_of (1 ∷ a) (aligned (1 ∷ a) index)) (pos 0)) (0 ∷◌) (places b)
    ∙ along b _ (λ index. get_or xs (place_of a (aligned a index)) (pos 0)) same
  where
    same : (index : List ℕ) → IsIn (whole b) index → get_or xs (place_of (1 ∷ a) (aligned (1 ∷ a) (0 ∷ index))) (pos 0) ≡ get_or xs (place_of a (aligned a index)) (pos 0)
    same index inside =
        let none : length index - length a ≡ 0 = omega (arith, count, length-whole b, same_axes (whole b) index inside) in
        let more : suc (length index) - suc (length a) ≡ 0 = omega (arith, none) in
        let front : (0 - 0) * size_of a + place_of a (pinned a index) ≡ place_of a (pinned a index) = omega arith in
        ap (λ n. get_or xs (place_of (1 ∷ a) (pinned (1 ∷ a) (drop n (0 ∷ index)))) (pos 0)) more ∙ ap (λ k. get_or xs k (pos 0)) front
        ∙ sym (ap (λ n. get_or xs (place_of a (pinned a (drop n index))) (pos 0)) none)

length_padded : (k : ℕ) (a b : List ℕ) → length a ≡ length b → length (replicate k 1 ++ a) ≡ length (replicate k 1 ++ b)
length_padded zero a b count = count
length_padded (suc k) a b count = ap suc (length_padded k a b count)

more_ones : (k : ℕ) (a b : List ℕ) (xs : List ℤ) → length a ≡ length b → broadcast (replicate k 1 ++ a) xs (replicate k 1 ++ b) ≡ broadcast a xs b
more_ones zero a b xs count = refl
more_ones (suc k) a b xs count = one_more (replicate k 1 ++ a) (replicate k 1 ++ b) xs (length_padded k a b count) ∙ more_ones k a b xs count

-- what is repeated to the padded shape is what the target takes
pub padded_numbers : (t : DType) (shape : List ℕ) (v : Value) → fills v.shape shape ≡ true
    → map (wrap t) (spread (replicate (surplus v.shape shape) 1 ++ shape) v) ≡ taken_numbers t shape v
padded_numbers t shape v e =
    let f = filling v.shape shape e in
    let k = surplus v.shape shape in
    ap (map (wrap t)) (ap (λ s. broadcast s v.numbers (replicate k 1 ++ shape)) f.split ∙ by k f.rest f.axes ∙ ap (λ s. broadcast s v.numbers shape) (sym f.without))
  where
    by : (k : ℕ) (rest : List ℕ) → (k ≡ 0) ⊎ (length rest ≡ length shape) → broadcast (replicate k 1 ++ rest) v.numbers (replicate k 1 ++ shape) ≡ broadcast rest v.numbers shape
    by k rest (inl none) = ap (λ n. broadcast (replicate n 1 ++ rest) v.numbers (replicate n 1 ++ shape)) none
    by k rest (inr count) = more_ones k rest shape v.numbers count

-- ---- a value of the target's own type and shape

pub fills_self : (shape : List ℕ) → fills shape shape ≡ true
fills_self shape =
    let none : length shape - length shape ≡ 0 = omega arith in
    ap (λ k. list_all (λ extent. extent == 1) (take k shape) && broadcasts_to (drop k shape) shape) none
    ∙ ap (λ o. is_exactly o shape) (same_spreads shape) ∙ (bytes_decides shape shape).1 refl

each_same : (f : ℤ → ℤ) (xs : List ℤ) → ((place : ℕ) → place < length xs → f (get_or xs place (pos 0)) ≡ get_or xs place (pos 0)) → map f xs ≡ xs
each_same f [] same = refl
each_same f (x ∷ xs) same = λ i. same 0 (omega arith) i ∷ each_same f xs (λ place below. same (suc place) (omega (arith, below))) i

-- the numbers of a value that fills its own shape
pub self_broadcast : (shape : List ℕ) (v : Value) → v.shape ≡ shape → length v.numbers ≡ size_of shape → broadcast (without_surplus v.shape shape) v.numbers shape ≡ v.numbers
self_broadcast shape v same full =
    let none : surplus v.shape shape ≡ 0 = omega (arith, ap length same) in
    ap (λ k. broadcast (drop k v.shape) v.numbers shape) none ∙ spread_self v shape same full

pub taken_self : (t : DType) (shape : List ℕ) (v : Value) → v.shape ≡ shape → length v.numbers ≡ size_of shape → ((place : ℕ) → IsNumber t (get_or v.numbers place (pos 0)))
    → v.numbers ≡ taken_numbers t shape v
taken_self t shape v same full fits =
    sym (ap (map (wrap t)) (self_broadcast shape v same full) ∙ each_same (wrap t) v.numbers (λ place below. wrap_same t (get_or v.numbers place (pos 0)) (fits place)))
