-- What the digits of a number are, and which bytes are no number.
use Rattle.std.proofs.Common.{◌≡◌, ℕ, ◌+◌, ◌-◌, ◌*◌, ◌<◌, ◌≤◌, ◌^◌, true, false, List, [], ◌∷◌, ◌++◌, length, get_or, take, drop, decimal, refl, sym, ap, ◌∙◌, subst, arith, le_trans, le_refl, IsTrue, take_all, take-append-drop, inl, inr}
use Rattle.std.specs.Char.{digit_value}
use Rattle.std.specs.Int.{IsInRange}
use Rattle.std.specs.List.{AllByRecursion}
use Rattle.std.specs.Str.Parse.{AllDigits, digits_value, digits_value_after}
use Rattle.std.proofs.lemmas.Str.Parse.{IsNumeralModel, numerals_by_value, tells_digits, digit_from_value, digit_at}
use Rattle.std.proofs.lemmas.Int.Digits.{digits_more, digits_value_more}
use Rattle.std.proofs.lemmas.Fmt.{decimal_is_IsNumeral, first_decimal, decimal_digit, decimal-digits_value}
use Rattle.std.proofs.lemmas.Bool.{cases_eq, or_right, both_ways}
use Rattle.std.proofs.lemmas.Bool.Decides.{nat_tests}
use Rattle.lg_lex.specs.Bytes.{is_digit, is_word_byte, is_letter}
use Rattle.lg_lex.specs.Lexical.{IsNumber, MAX_NUMBER}

own : IsNumeralModel (AllDigits 10) (digits_value 10)
own = numerals_by_value (AllDigits 10) tells_digits

small : (n : ℕ) → n ≤ MAX_NUMBER → n < 2 ^ 64
small n h = omega (arith, h)

-- digits with no needless zero are what is written of their value
pub decimal_back : (ds : List ℕ) → AllDigits 10 ds → 0 < length ds → (get_or ds 0 0 ≡ 48 → length ds ≡ 1) → digits_value 10 ds ≤ MAX_NUMBER → decimal (digits_value 10 ds) ≡ ds
decimal_back ds digits some zero low = decimal-digits_value own ds digits some zero (small (digits_value 10 ds) low)

pub decimal_digits : (n : ℕ) → n ≤ MAX_NUMBER → AllDigits 10 (decimal n)
decimal_digits n low = (decimal_is_IsNumeral n (small n low)).0.1

pub decimal_some : (n : ℕ) → n ≤ MAX_NUMBER → 0 < length (decimal n)
decimal_some n low = (decimal_is_IsNumeral n (small n low)).0.0

pub decimal_value : (n : ℕ) → n ≤ MAX_NUMBER → digits_value 10 (decimal n) ≡ n
decimal_value n low = (decimal_is_IsNumeral n (small n low)).1

-- the bytes of a number: there is one, and they have its value
pub number_some : (ds : List ℕ) → IsNumber ds → 0 < length ds
number_some ds h =
    let some : 0 < length (decimal h.0) = decimal_some h.0 h.1.0 in
    let count : length ds ≡ length (decimal h.0) = ap length h.1.1 in
    omega arith

pub number_value : (ds : List ℕ) (n : ℕ) → n ≤ MAX_NUMBER → decimal n ≡ ds → digits_value 10 ds ≡ n
number_value ds n low e = ap (digits_value 10) (sym e) ∙ decimal_value n low

-- no number begins with a needless zero
pub refused_zero : (ds : List ℕ) → IsNumber ds → 1 < length ds → get_or ds 0 0 ≡ 48 → ⊥
refused_zero ds h long zero =
    let n = h.0 in
    let low = h.1.0 in
    let e = sym h.1.1 in
    elim (cases_eq n 0) [
      | inl nothing ↦ let one : length ds ≡ 1 = ap length (sym e ∙ ap decimal nothing ∙ decimal_digit 0 (omega arith)) in omega arith
      | inr some ↦
          let above : 48 < get_or (decimal n) 0 0 = first_decimal n (omega arith) (small n low) in
          let same : get_or (decimal n) 0 0 ≡ get_or ds 0 0 = ap (λ (xs : List ℕ). get_or xs 0 0) e in
          omega arith
    ]

-- no number has another byte than digits
pub refused_byte : (ds : List ℕ) (i : ℕ) → IsNumber ds → i < length ds → is_digit (get_or ds i 0) ≡ false → ⊥
refused_byte ds i h inside other =
    let digits : AllDigits 10 ds = subst (λ (xs : List ℕ). AllDigits 10 xs) (sym h.1.1) (decimal_digits h.0 h.1.0) in
    let range : IsInRange 48 57 (get_or ds i 0) = digit_at ds i digits inside in
    both_ways (is_digit (get_or ds i 0)) other (grind (arith, nat_tests))

after_grows : (n d : ℕ) → n ≤ n * 10 + d
after_grows n d = omega arith

after_ge : (n : ℕ) (ys : List ℕ) → n ≤ digits_value_after 10 n ys
after_ge n [] = le_refl n
after_ge n (y ∷ ys) = le_trans (after_grows n (digit_value y)) (after_ge (n * 10 + digit_value y) ys)

after_append : (n : ℕ) (xs ys : List ℕ) → digits_value_after 10 n (xs ++ ys) ≡ digits_value_after 10 (digits_value_after 10 n xs) ys
after_append n [] ys = refl
after_append n (x ∷ xs) ys = after_append (n * 10 + digit_value x) xs ys

-- the digits so far write no greater number than all
pub value_take : (ds : List ℕ) (i : ℕ) → digits_value 10 (take i ds) ≤ digits_value 10 ds
value_take ds i =
    let whole : digits_value 10 (take i ds ++ drop i ds) ≡ digits_value 10 ds = ap (digits_value 10) (take-append-drop i ds) in
    let cut : digits_value 10 (take i ds ++ drop i ds) ≡ digits_value_after 10 (digits_value 10 (take i ds)) (drop i ds) = after_append 0 (take i ds) (drop i ds) in
    let more : digits_value 10 (take i ds) ≤ digits_value_after 10 (digits_value 10 (take i ds)) (drop i ds) = after_ge (digits_value 10 (take i ds)) (drop i ds) in
    subst (λ (v : ℕ). digits_value 10 (take i ds) ≤ v) (sym cut ∙ whole) more

-- no number is above the limit
pub refused_value : (ds : List ℕ) (i v : ℕ) → IsNumber ds → v ≡ digits_value 10 (take i ds) → MAX_NUMBER < v → ⊥
refused_value ds i v h so_far above =
    let more : digits_value 10 (take i ds) ≤ digits_value 10 ds = value_take ds i in
    let same : digits_value 10 ds ≡ h.0 = ap (digits_value 10) h.1.1 ∙ decimal_value h.0 h.1.0 in
    let low : h.0 ≤ MAX_NUMBER = h.1.0 in
    omega arith

digit_byte : (c : ℕ) → IsInRange 48 57 c → is_digit c ≡ true
digit_byte c h = grind (arith, nat_tests)

pub digit_is : (c : ℕ) → digit_value c < 10 → is_digit c ≡ true
digit_is c h = digit_byte c (digit_from_value c h)

pub word_bytes_from_digits : (ds : List ℕ) → AllDigits 10 ds → AllByRecursion (λ b. IsTrue (is_word_byte b)) ds
word_bytes_from_digits [] h = tt
word_bytes_from_digits (d ∷ ds) h = (or_right (is_letter d) (is_digit d) (digit_is d h.0), word_bytes_from_digits ds h.1)

byte_range : (c : ℕ) → is_digit c ≡ true → (48 ≤ c) × (c ≤ 57)
byte_range c h = (grind (arith, nat_tests), grind (arith, nat_tests))

byte_value : (c : ℕ) → 48 ≤ c → c ≤ 57 → digit_value c ≡ c - 48
byte_value c low high = grind (arith, nat_tests)

byte_small : (c : ℕ) → 48 ≤ c → c ≤ 57 → digit_value c < 10
byte_small c low high = grind (arith, nat_tests)

pub digit_small : (c : ℕ) → is_digit c ≡ true → digit_value c < 10
digit_small c h = let range = byte_range c h in byte_small c range.0 range.1

-- one digit more
pub digits_step : (ds : List ℕ) (i : ℕ) → i < length ds → AllDigits 10 (take i ds) → is_digit (get_or ds i 0) ≡ true → AllDigits 10 (take (i + 1) ds)
digits_step ds i inside digits digit =
    let range = byte_range (get_or ds i 0) digit in
    digits_more 10 ds i inside digits (byte_small (get_or ds i 0) range.0 range.1)

-- and the value that is written then
pub value_step : (ds : List ℕ) (i v d : ℕ) → i < length ds → v ≡ digits_value 10 (take i ds) → is_digit (get_or ds i 0) ≡ true → d ≡ get_or ds i 0 - 48 → v * 10 + d ≡ digits_value 10 (take (i + 1) ds)
value_step ds i v d inside so_far digit e =
    let range = byte_range (get_or ds i 0) digit in
    let one : digit_value (get_or ds i 0) ≡ get_or ds i 0 - 48 = byte_value (get_or ds i 0) range.0 range.1 in
    ap (λ (x : ℕ). x * 10 + d) so_far ∙ ap (λ (x : ℕ). digits_value 10 (take i ds) * 10 + x) (e ∙ sym one) ∙ sym (digits_value_more 10 ds i inside)

-- the number at the end of the digits
pub value_found : (ds : List ℕ) (i v : ℕ) → length ds ≤ i → 0 < length ds → AllDigits 10 (take i ds) → v ≡ digits_value 10 (take i ds) → v ≤ MAX_NUMBER → (get_or ds 0 0 ≡ 48 → length ds ≡ 1) → decimal v ≡ ds
value_found ds i v all some digits e low plain =
    let whole : take i ds ≡ ds = take_all i ds all in
    let same : v ≡ digits_value 10 ds = e ∙ ap (digits_value 10) whole in
    let every : AllDigits 10 ds = subst (λ (xs : List ℕ). AllDigits 10 xs) whole digits in
    ap decimal same ∙ decimal_back ds every some plain (subst (λ (x : ℕ). x ≤ MAX_NUMBER) same low)
