-- The steps of a loop that writes at each place.
use Rattle.std.proofs.Common.{◌≡◌, ℕ, ◌+◌, ◌<◌, ◌≤◌, List, [], ◌∷◌, ◌++◌, length, map, take, Bool, true, false, ◌||◌, refl, sym, ap, subst, ◌∙◌, arith, ℤ, pos}
use Rattle.std.specs.List.{All, slice_set, list_any}
use Rattle.std.proofs.lemmas.List.{take_more_set, map-append, take_all, length-map, get_or-map}
use Rattle.std.proofs.lemmas.List.FromFn.{map-range_with_len_more, fill_by_all}
use Rattle.std.proofs.lemmas.List.Folds.{list_any-append}
use Rattle.lg_elem.specs.declared.dtype.DType.{DType}
use Rattle.lg_elem.specs.Types.{IsNumber, wrap}
use Rattle.lg_elem.proofs.WrapLemmas.{wrap_same}
use Rattle.lg_map.specs.Columns.{item_at, listed}

-- one more place is written
pub one_more : {T A : Type 0} (number : T → A) (out : List T) (i : ℕ) (y : T) (f : ℕ → A) → i < length out → map number (take i out) ≡ listed f i → number y ≡ f i
    → map number (take (i + 1) (slice_set out i y)) ≡ listed f (i + 1)
one_more number out i y f within before is =
    ap (map number) (take_more_set out i y within) ∙ map-append number (take i out) (y ∷ [])
    ∙ ap (λ l. l ++ number y ∷ []) before ∙ ap (λ n. listed f i ++ n ∷ []) is
    ∙ sym (map-range_with_len_more f 0 i i (omega arith))

-- all are
pub all_listed : {T A : Type 0} (number : T → A) (out : List T) (i n : ℕ) (f : ℕ → A) → length out ≤ i → n ≡ i → map number (take i out) ≡ listed f i → map number out ≡ listed f n
all_listed number out i n f past is before = ap (map number) (sym (take_all i out past)) ∙ before ∙ ap (listed f) (sym is)

-- one more place is looked at
pub any_more : {A : Type 0} (test : A → Bool) (f : ℕ → A) (i : ℕ) (before after found : Bool) → before ≡ list_any test (listed f i) → found ≡ test (f i) → after ≡ (before || found)
    → after ≡ list_any test (listed f (i + 1))
any_more test f i before after found so is then =
    then ∙ ap (λ b. b || found) so ∙ ap (λ b. list_any test (listed f i) || b) (is ∙ sym (or-false (test (f i))))
    ∙ sym (ap (list_any test) (map-range_with_len_more f 0 i i (omega arith)) ∙ list_any-append test (listed f i) (f i ∷ []))
  where
    or-false : (b : Bool) → (b || false) ≡ b
    or-false true = refl
    or-false false = refl

-- ---- each by the same number

item_fits : {T : Type 0} (t : DType) (number : T → ℤ) (items : List T) (place : ℕ) → place < length items → All (λ x. IsNumber t (number x)) items → IsNumber t (item_at number items place)
item_fits t number [] place within all = absurd (omega arith)
item_fits t number (x ∷ items) place within all = subst (IsNumber t) (sym (get_or-map number (x ∷ items) place x (pos 0) within)) (all place x within)

pub all_by_constant : {T : Type 0} (t : DType) (number : T → ℤ) (f : ℤ → ℤ → ℤ) (items out : List T) (n : ℕ) (y v : ℤ) → length items ≡ n → v ≡ y → IsNumber t v
    → All (λ x. IsNumber t (number x)) items → map number out ≡ map (λ a. f a y) (map number items)
    → map number out ≡ listed (λ place. f (wrap t (item_at number items place)) (wrap t y)) n
all_by_constant t number f items out n y v full read fits all is =
    is ∙ fill_by_all _ (map (λ a. f a y) (map number items)) n (f (pos 0) y) (length-map (map number items) (λ a. f a y) ∙ length-map items number ∙ full) (λ place below.
    let within : place < length items = omega (arith, below, full) in
    get_or-map (λ a. f a y) (map number items) place (pos 0) (f (pos 0) y) (omega (arith, within, length-map items number))
    ∙ ap (λ a. f a y) (sym (wrap_same t (item_at number items place) (item_fits t number items place within all)))
    ∙ ap (f (wrap t (item_at number items place))) (sym (wrap_same t y (subst (IsNumber t) read fits))))
