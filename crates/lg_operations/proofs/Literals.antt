-- Arrays that a script writes.
use Rattle.std.proofs.Common.{◌≡◌, ℕ, ◌+◌, ◌-◌, ◌<◌, Bool, true, false, ◌&&◌, List, [], ◌∷◌, ◌++◌, length, map, take, replicate, get_or, slice_get, inl, inr, Option, Some, None, Result, Ok, Err, ℤ, pos, ◌+ℤ◌, ◌-ℤ◌, ◌<ℤ◌, refl, sym, ap, subst, ◌∙◌, arith}
use Rattle.std.specs.Prelude.{if◌then◌else◌, int_lt, unsigned_abs, slice_index}
use Rattle.std.specs.List.{All, range_with_len}
use Rattle.std.specs.Option.{IfSome, option_copied, unwrap_or}
use Rattle.std.proofs.Common.{Bor}
use Rattle.std.proofs.lemmas.Int.{ints}
use Rattle.std.proofs.lemmas.List.{map-append, take_more}
use Rattle.std.proofs.lemmas.List.FromFn.{length-range_with_len, get_or-range_with_len}
use Rattle.std.proofs.lemmas.Option.{get_or_from_slice_get, slice_get_past}
use Rattle.std.proofs.lemmas.Bool.{cases_lt}
use Rattle.std.proofs.lemmas.List.Elements.{All-nil, All-cons, All-head, All-tail}
use Rattle.lg_elem.specs.declared.dtype.DType.{DType}
use Rattle.lg_elem.specs.declared.dtype.DType.TheVariants.{Bool as Truth, Int8, Int16, Int32, Int64, UInt8, UInt16, UInt32, UInt64}
use Rattle.lg_elem.specs.Types.{IsNumber, wrap}
use Rattle.lg_elem.proofs.WrapLemmas.{wrap_same}
use Rattle.lg_space.specs.Rectangle.{indices}
use Rattle.lg_space.proofs.Places.{volume_counts}
use Rattle.lg_shape.specs.Shapes.{whole, places, place_of, size_of}
use Rattle.lg_tile.proofs.SectionLemmas.{map_along}
use Rattle.lg_map.specs.declared.operation.MapOp.{MapOp}
use Rattle.lg_map.specs.declared.operation.MapOp.TheVariants as ops
use Rattle.lg_map.specs.Mapping.{IsConstant, map_values}
use Rattle.lg_meaning.specs.declared.fault.FaultKind.{FaultKind}
use Rattle.lg_meaning.specs.declared.fault.FaultKind.TheVariants.{Range}
use Rattle.lg_meaning.specs.Weak as weak
use Rattle.lg_meaning.specs.Weak.{Weak, number_of}
use Rattle.lg_promote.specs.Literals.{is_number}
use Rattle.lg_meaning.specs.Faults.{needing}
use Rattle.lg_meaning.specs.Memory.{ArrayKind, writable}
use Rattle.lg_meaning.specs.Static.{Static, array_value, made}
use Rattle.lg_meaning.specs.Creation.{are_truths, are_literals, is_literal, arange_static}
use Rattle.lg_meaning.specs.Value.{Value}
use Rattle.lg_operations.specs.declared.values.Weak.{Weak as CodeWeak}
use Rattle.lg_operations.specs.declared.values.Fresh.{Fresh}
use Rattle.lg_operations.specs.declared.end.EvaluateEnd.{EvaluateEnd}
use Rattle.lg_operations.specs.declared.end.EvaluateEnd.TheVariants.{Fault, NoMemory}
use Rattle.lg_operations.specs.Operations.{weak_of, IsRanged, IsMade}
use Rattle.lg_operations.specs.Ruling.{IsNew}
use Rattle.lg_tile.proofs.SectionLemmas.{map-map}
use Rattle.lg_operations.proofs.Rows.{one_each}
use Rattle.lg_operations.proofs.Statics.{kind_with, needing_ok, made_ok, has_number_is}
use Rattle.lg_operations.proofs.Indexed.{by_places}
use Rattle.lg_operations.proofs.Made.{array_made, value_of_parts}

-- ---- lists of weak numbers

truths_last : (ws : List Weak) (w : Weak) → are_truths (ws ++ w ∷ []) ≡ (are_truths ws && are_truths (w ∷ []))
truths_last [] w = refl
truths_last (weak.truth b ∷ ws) w = truths_last ws w
truths_last (weak.integer x ∷ ws) w = refl

and_true : (b : Bool) → (b && true) ≡ b
and_true true = refl
and_true false = refl

and_and : (p q r : Bool) → (p && (q && r)) ≡ ((p && q) && r)
and_and true q r = refl
and_and false q r = refl

literals_last : (t : DType) (ws : List Weak) (w : Weak) → are_literals t (ws ++ w ∷ []) ≡ (are_literals t ws && is_literal t (number_of w))
literals_last t [] w = and_true (is_literal t (number_of w))
literals_last t (v ∷ ws) w = ap (is_literal t (number_of v) &&◌) (literals_last t ws w) ∙ and_and (is_literal t (number_of v)) (are_literals t ws) (is_literal t (number_of w))

weaks_more : (ws : List CodeWeak) (i : ℕ) (d : CodeWeak) → i < length ws → map weak_of (take (i + 1) ws) ≡ map weak_of (take i ws) ++ weak_of (get_or ws i d) ∷ []
weaks_more ws i d within = ap (map weak_of) (take_more ws i d within) ∙ map-append weak_of (take i ws) (get_or ws i d ∷ [])

pub truths_more : (ws : List CodeWeak) (i : ℕ) (d : CodeWeak) (all here : Bool) → i < length ws → all ≡ are_truths (map weak_of (take i ws)) → here ≡ are_truths (weak_of (get_or ws i d) ∷ [])
    → (all && here) ≡ are_truths (map weak_of (take (i + 1) ws))
truths_more ws i d all here within so kept =
    ap (λ b. b && here) so ∙ ap (are_truths (map weak_of (take i ws)) &&◌) kept ∙ sym (truths_last (map weak_of (take i ws)) (weak_of (get_or ws i d))) ∙ ap are_truths (sym (weaks_more ws i d within))

pub literals_more : (t : DType) (ws : List CodeWeak) (i : ℕ) (d : CodeWeak) (all here : Bool) → i < length ws → all ≡ are_literals t (map weak_of (take i ws))
    → here ≡ is_literal t (number_of (weak_of (get_or ws i d))) → (all && here) ≡ are_literals t (map weak_of (take (i + 1) ws))
literals_more t ws i d all here within so kept =
    ap (λ b. b && here) so ∙ ap (are_literals t (map weak_of (take i ws)) &&◌) kept ∙ sym (literals_last t (map weak_of (take i ws)) (weak_of (get_or ws i d))) ∙ ap (are_literals t) (sym (weaks_more ws i d within))

-- ---- numbers one after the other

abbrev pub counted_in : ℤ → ℤ → DType → Result Static FaultKind
counted_in from to t =
    if int_lt from to then needing (is_number t from && is_number t (to -ℤ pos 1)) Range (made t (unsigned_abs (to -ℤ from) ∷ [])) else made t (0 ∷ [])

pub counted_rule : (from to : ℤ) (t : DType) → ¬ (t ≡ Truth) → arange_static from to t ≡ counted_in from to t
counted_rule from to Truth other = absurd (other refl)
counted_rule from to Int8 other = refl
counted_rule from to Int16 other = refl
counted_rule from to Int32 other = refl
counted_rule from to Int64 other = refl
counted_rule from to UInt8 other = refl
counted_rule from to UInt16 other = refl
counted_rule from to UInt32 other = refl
counted_rule from to UInt64 other = refl

pub lt_true : (x y : ℤ) → x <ℤ y → int_lt x y ≡ true
lt_true x y h = by (int_lt x y) refl
  where
    by : (b : Bool) → int_lt x y ≡ b → b ≡ true
    by true e = refl
    by false e = absurd (omega (arith, ints, h, e))

pub counted_row : (from to : ℤ) (t : DType) (r : Result Static FaultKind) (n : ℕ) → int_lt from to ≡ true → (is_number t from && is_number t (to -ℤ pos 1)) ≡ true → n ≡ unsigned_abs (to -ℤ from)
    → r ≡ made t (n ∷ []) → r ≡ counted_in from to t
counted_row from to t r n order have size is =
    is ∙ ap (λ m. made t (m ∷ [])) size ∙ ap (λ b. needing b Range (made t (unsigned_abs (to -ℤ from) ∷ []))) (sym have)
    ∙ ap (λ b. if b then needing (is_number t from && is_number t (to -ℤ pos 1)) Range (made t (unsigned_abs (to -ℤ from) ∷ [])) else made t (0 ∷ [])) (sym order)

-- the shape has one axis, and each number is one of the type
pub record CountedOk (from : ℤ) (t : DType) (shape : List ℕ) : Type 0 where
  pub extent : ℕ
  pub row : shape ≡ extent ∷ []
  pub fits : (k : ℕ) → k < extent → IsNumber t (from +ℤ pos k)

abbrev shape_in : Static → List ℕ → List ℕ
shape_in (array_value k) s = k.shape
shape_in w s = s

abbrev dtype_in : Static → DType → DType
dtype_in (array_value k) t = k.dtype
dtype_in w t = t

below : (from to : ℤ) (t : DType) (k : ℕ) → int_lt from to ≡ true → is_number t from ≡ true → is_number t (to -ℤ pos 1) ≡ true → k < unsigned_abs (to -ℤ from) → IsNumber t (from +ℤ pos k)
below from to t k order first last within =
    let f = has_number_is t from first in
    let l = has_number_is t (to -ℤ pos 1) last in
    (omega (arith, ints, f.0), omega (arith, ints, l.1, order))

counted_in_ok : (from to : ℤ) (t u : DType) (shape : List ℕ) → Ok (array_value (kind_with u shape writable)) ≡ counted_in from to t → CountedOk from u shape
counted_in_ok from to t u shape e = by (int_lt from to) refl e
  where
    both : (p q : Bool) → (p && q) ≡ true → (p ≡ true) × (q ≡ true)
    both true q e = (refl, e)
    both false q e = cc

    by : (b : Bool) → int_lt from to ≡ b
        → Ok (array_value (kind_with u shape writable)) ≡ (if b then needing (is_number t from && is_number t (to -ℤ pos 1)) Range (made t (unsigned_abs (to -ℤ from) ∷ [])) else made t (0 ∷ []))
        → CountedOk from u shape
    by true order e =
        let k = array_value (kind_with u shape writable) in
        let h = needing_ok (is_number t from && is_number t (to -ℤ pos 1)) Range (made t (unsigned_abs (to -ℤ from) ∷ [])) k (sym e) in
        let m = made_ok t (unsigned_abs (to -ℤ from) ∷ []) writable u shape k h.1 in
        let two = both (is_number t from) (is_number t (to -ℤ pos 1)) h.0 in
        record {
          extent = unsigned_abs (to -ℤ from);
          row = sym (ap (λ s. shape_in s shape) m.1);
          fits = λ n within. subst (λ v. IsNumber v (from +ℤ pos n)) (ap (λ s. dtype_in s t) m.1) (below from to t n order two.0 two.1 within);
        }
    by false order e =
        let m = made_ok t (0 ∷ []) writable u shape (array_value (kind_with u shape writable)) (sym e) in
        record { extent = 0; row = sym (ap (λ s. shape_in s shape) m.1); fits = λ n within. absurd (omega arith) }

pub counted_ok : (from to : ℤ) (t u : DType) (shape : List ℕ) → Ok (array_value (kind_with u shape writable)) ≡ arange_static from to t → CountedOk from u shape
counted_ok from to Truth u shape e = cc
counted_ok from to Int8 u shape e = counted_in_ok from to Int8 u shape e
counted_ok from to Int16 u shape e = counted_in_ok from to Int16 u shape e
counted_ok from to Int32 u shape e = counted_in_ok from to Int32 u shape e
counted_ok from to Int64 u shape e = counted_in_ok from to Int64 u shape e
counted_ok from to UInt8 u shape e = counted_in_ok from to UInt8 u shape e
counted_ok from to UInt16 u shape e = counted_in_ok from to UInt16 u shape e
counted_ok from to UInt32 u shape e = counted_in_ok from to UInt32 u shape e
counted_ok from to UInt64 u shape e = counted_in_ok from to UInt64 u shape e

-- ---- the numbers

map_same : {A B : Type 0} (y : B) (xs : List A) → map (λ x. y) xs ≡ replicate (length xs) y
map_same y [] = refl
map_same y (x ∷ xs) = ap (y ∷◌) (map_same y xs)

pub filled_same : (x : ℤ) (t : DType) (shape : List ℕ) → map_values (ops.Fill x) t [] (whole shape) ≡ replicate (size_of shape) (wrap t x)
filled_same x t shape = map_same (wrap t x) (places shape) ∙ ap (λ n. replicate n (wrap t x)) (volume_counts (whole shape))

row_below : (n k c : ℕ) → slice_get (range_with_len 0 n) k ≡ Some c → c < n
row_below n k c at = elim (cases_lt k n) [
  | inl lt ↦ omega (arith, sym (get_or_from_slice_get (range_with_len 0 n) k c 0 at) ∙ get_or-range_with_len 0 n k 0 lt)
  | inr past ↦ absurd (none (sym (slice_get_past (range_with_len 0 n) k (omega (arith, length-range_with_len 0 n))) ∙ at))
]
  where
    none : ◌≡◌ {A = Option ℕ} None (Some c) → ⊥
    none e = cc

pub counted_same : (from : ℤ) (t : DType) (shape : List ℕ) → CountedOk from t shape → map_values (ops.Count from) t [] (whole shape) ≡ map (λ k. from +ℤ pos k) (range_with_len 0 (size_of shape))
counted_same from t shape ok =
    let n = ok.extent in
    let rows : indices (whole (n ∷ [])) ≡ map (λ c. c ∷ []) (range_with_len 0 (n - 0)) = one_each (λ c. c ∷ []) (range_with_len 0 (n - 0)) in
    let size : n - 0 ≡ n = omega arith in
    let whole_size : n ≡ size_of (n ∷ []) = omega arith in
    subst (λ s. map_values (ops.Count from) t [] (whole s) ≡ map (λ k. from +ℤ pos k) (range_with_len 0 (size_of s))) (sym ok.row)
    (ap (map (λ index. wrap t (from +ℤ pos (slice_index index 0)))) rows
    ∙ map-map (λ index. wrap t (from +ℤ pos (slice_index index 0))) (λ c. c ∷ []) (range_with_len 0 (n - 0))
    ∙ ap (λ m. map (λ c. wrap t (from +ℤ pos c)) (range_with_len 0 m)) size
    ∙ map_along (λ c. wrap t (from +ℤ pos c)) (λ c. from +ℤ pos c) (range_with_len 0 n) (λ k c at. wrap_same t (from +ℤ pos c) (ok.fits c (row_below n k c at)))
    ∙ ap (λ m. map (λ c. from +ℤ pos c) (range_with_len 0 m)) whole_size)

pub listed_same : (t : DType) (shape : List ℕ) (list : List ℤ) → length list ≡ size_of shape → map_values (ops.List shape list) t [] (whole shape) ≡ map (wrap t) list
listed_same t shape list full =
    sym (map-map (wrap t) (λ index. get_or list (place_of shape index) (pos 0)) (places shape)) ∙ ap (map (wrap t)) (by_places shape list full)

-- ---- the answer

pub new_answer : (static : Result Static FaultKind) (value : ArrayKind → Value) (op : MapOp) (t : DType) (shape : List ℕ) (r : Result Fresh EvaluateEnd)
    → IsNew op t shape r → Ok (array_value (kind_with t shape writable)) ≡ static → value_of_parts shape (map_values op t [] (whole shape)) None ≡ value (kind_with t shape writable) → IsMade static value r
new_answer static value op t shape (Ok fresh) new rule same =
    array_made static value fresh t shape writable rule new.dtype new.rect new.right ((λ i. value_of_parts shape (new.same i) (new.fault i)) ∙ same)
new_answer static value op t shape (Err (Fault kind)) new rule same = elim new [ ]
new_answer static value op t shape (Err NoMemory) new rule same = tt

-- numbers that a script can write
pub weak_constants : (ws : List CodeWeak) → All (λ w. IsRanged (weak_of w)) ws → All IsConstant (map (λ w. number_of (weak_of w)) ws)
weak_constants [] h = All-nil _
weak_constants (w ∷ ws) h = All-cons IsConstant (number_of (weak_of w)) (map (λ v. number_of (weak_of v)) ws) (All-head (λ v. IsRanged (weak_of v)) w ws h) (weak_constants ws (All-tail (λ v. IsRanged (weak_of v)) w ws h))

-- there are as many numbers as the shape has indices, where there is a shape
pub listed_full : (o : Option (Bor (List ℕ))) (n : ℕ) (shape : List ℕ) → IfSome o (λ s. n ≡ size_of s.now) → option_copied o ≡ Some shape → n ≡ size_of shape
listed_full None n shape h e = cc
listed_full (Some s) n shape h e = h ∙ ap (λ found. size_of (unwrap_or found shape)) e
