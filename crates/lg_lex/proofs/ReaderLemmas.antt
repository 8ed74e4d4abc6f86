-- A reader that computes, by which worked examples are shown: what it answers holds of the line. It
-- is no part of the definition and none of the code.
use Rattle.std.proofs.Common.{◌≡◌, ℕ, zero, suc, ◌+◌, ◌-◌, ◌<◌, ◌≤◌, Bool, true, false, ◌&&◌, eqb, ltb, leb, Option, None, Some, List, [], ◌∷◌, ◌++◌, length, get_or, take, drop, decimal, refl, sym, ap, ◌∙◌, subst, arith, zero-le, length-drop, inl, inr, not}
use Rattle.std.specs.List.{prefix_len}
use Rattle.std.specs.Str.Parse.{AllDigits, digits_value}
use Rattle.std.proofs.lemmas.Bool.{and_parts, and_from, and_cases, both_ways, not-true, ltb-true, ltb-false, leb-true, le-leb, eqb-true, eqb-false}
use Rattle.std.proofs.lemmas.List.{length-take-le}
use Rattle.std.proofs.lemmas.List.Sums.{prefix_len-le-length}
use Rattle.lg_lex.specs.Bytes.{is_blank, begins_comment, is_letter, is_digit, is_word_byte}
use Rattle.lg_lex.specs.Lexical.{IsNumber, Begins, BeginsNone, MAX_NUMBER}
use Rattle.lg_lex.specs.Line.{Stands, Holds, Reads, IsFault, token}
use Rattle.lg_lex.specs.Operators.{three_at, two_at, one_at}
use Rattle.lg_lex.specs.declared.tokens.Token.{Token}
use Rattle.lg_lex.specs.declared.tokens.TokenKind.{TokenKind}
use Rattle.lg_lex.specs.declared.tokens.TokenKind.TheVariants.{Word, Number}
use Rattle.lg_lex.proofs.DecimalLemmas.{decimal_value, decimal_digits, decimal_back, digit_is, digit_small, refused_zero}
use Rattle.lg_lex.proofs.FrontLemmas.{word_begins, number_begins, no_number, three_begins, two_begins, one_begins, no_operator, begins_some}
use Rattle.lg_lex.proofs.LineLemmas.{holds_nothing, holds_blank, holds_token}

-- what is found in front
pub data Found : Type 0 where
  nothing : Found
  found : TokenKind → ℕ → Found

abbrev pub Tells : List ℕ → Found → Type 0
Tells bytes nothing = BeginsNone bytes
Tells bytes (found k n) = Begins bytes k n

-- the longest operator
abbrev pub by_one : Option TokenKind → Found
by_one None = nothing
by_one (Some k) = found k 1

abbrev pub by_two : Option TokenKind → Option TokenKind → Found
by_two None o = by_one o
by_two (Some k) o = found k 2

abbrev pub by_three : Option TokenKind → Option TokenKind → Option TokenKind → Found
by_three None p o = by_two p o
by_three (Some k) p o = found k 3

tells_one : (bytes : List ℕ) (o : Option TokenKind) → prefix_len is_word_byte bytes ≡ 0 → three_at bytes ≡ None → two_at bytes ≡ None → one_at bytes ≡ o → Tells bytes (by_one o)
tells_one bytes None run p q e = no_operator bytes run p q e
tells_one bytes (Some k) run p q e = one_begins bytes k run p q e

tells_two : (bytes : List ℕ) (o : Option TokenKind) → prefix_len is_word_byte bytes ≡ 0 → three_at bytes ≡ None → two_at bytes ≡ o → Tells bytes (by_two o (one_at bytes))
tells_two bytes None run p e = tells_one bytes (one_at bytes) run p e refl
tells_two bytes (Some k) run p e = two_begins bytes k run p e

tells_three : (bytes : List ℕ) (o : Option TokenKind) → prefix_len is_word_byte bytes ≡ 0 → three_at bytes ≡ o → Tells bytes (by_three o (two_at bytes) (one_at bytes))
tells_three bytes None run e = tells_two bytes (two_at bytes) run e refl
tells_three bytes (Some k) run e = three_begins bytes k run e

-- a number: digits, no needless zero in front, and not too great
abbrev pub all_digits : List ℕ → Bool
all_digits [] = true
all_digits (d ∷ ds) = is_digit d && all_digits ds

abbrev pub has_zero : List ℕ → Bool
has_zero ds = eqb (get_or ds 0 0) 48 && ltb 1 (length ds)

abbrev pub is_numeral : List ℕ → Bool
is_numeral ds = all_digits ds && (not (has_zero ds) && leb (digits_value 10 ds) MAX_NUMBER)

all_digits_from : (ds : List ℕ) → AllDigits 10 ds → all_digits ds ≡ true
all_digits_from [] h = refl
all_digits_from (d ∷ ds) h = and_from (is_digit d) (all_digits ds) (digit_is d h.0) (all_digits_from ds h.1)

all_digits_are : (ds : List ℕ) → all_digits ds ≡ true → AllDigits 10 ds
all_digits_are [] h = tt
all_digits_are (d ∷ ds) h = let parts = and_parts (is_digit d) (all_digits ds) h in (digit_small d parts.0, all_digits_are ds parts.1)

no_zero : (ds : List ℕ) → IsNumber ds → (t : Bool) → has_zero ds ≡ t → not t ≡ true
no_zero ds h false e = refl
no_zero ds h true e =
    let parts = and_parts (eqb (get_or ds 0 0) 48) (ltb 1 (length ds)) e in
    absurd (refused_zero ds h (ltb-true 1 (length ds) parts.1) (eqb-true (get_or ds 0 0) 48 parts.0))

plain_is : (ds : List ℕ) → 0 < length ds → has_zero ds ≡ false → get_or ds 0 0 ≡ 48 → length ds ≡ 1
plain_is ds some e first =
    elim (and_cases (eqb (get_or ds 0 0) 48) (ltb 1 (length ds)) e) [
      | inl other ↦ absurd (eqb-false (get_or ds 0 0) 48 other first)
      | inr short ↦ let least : length ds ≤ 1 = ltb-false 1 (length ds) short in omega arith
    ]

numeral_refused : (ds : List ℕ) → is_numeral ds ≡ false → IsNumber ds → ⊥
numeral_refused ds e h =
    let value : digits_value 10 ds ≡ h.0 = ap (digits_value 10) h.1.1 ∙ decimal_value h.0 h.1.0 in
    let low : digits_value 10 ds ≤ MAX_NUMBER = subst (λ (n : ℕ). n ≤ MAX_NUMBER) (sym value) h.1.0 in
    let digits : AllDigits 10 ds = subst (λ (z : List ℕ). AllDigits 10 z) (sym h.1.1) (decimal_digits h.0 h.1.0) in
    let plain : not (has_zero ds) ≡ true = no_zero ds h (has_zero ds) refl in
    let rest = and_from (not (has_zero ds)) (leb (digits_value 10 ds) MAX_NUMBER) plain (le-leb (digits_value 10 ds) MAX_NUMBER low) in
    both_ways (is_numeral ds) e (and_from (all_digits ds) _ (all_digits_from ds digits) rest)

numeral_is : (ds : List ℕ) → 0 < length ds → is_numeral ds ≡ true → (decimal (digits_value 10 ds) ≡ ds) × (digits_value 10 ds ≤ MAX_NUMBER)
numeral_is ds some e =
    let p = and_parts (all_digits ds) _ e in
    let q = and_parts (not (has_zero ds)) (leb (digits_value 10 ds) MAX_NUMBER) p.1 in
    let low : digits_value 10 ds ≤ MAX_NUMBER = leb-true (digits_value 10 ds) MAX_NUMBER q.1 in
    (decimal_back ds (all_digits_are ds p.0) some (plain_is ds some (not-true (has_zero ds) q.0)) low, low)

abbrev pub by_run : List ℕ → ℕ → Bool → Bool → Found
by_run bytes n true t = found Word n
by_run bytes n false true = found Number n
by_run bytes n false false = nothing

run_within : (bytes : List ℕ) (n : ℕ) → n ≡ prefix_len is_word_byte bytes → n ≤ length bytes
run_within bytes n run = omega (arith, prefix_len-le-length is_word_byte bytes)

tells_run : (bytes : List ℕ) (n : ℕ) (l t : Bool) → n ≡ prefix_len is_word_byte bytes → 0 < n → is_letter (get_or bytes 0 0) ≡ l → is_numeral (take n bytes) ≡ t → Tells bytes (by_run bytes n l t)
tells_run bytes n true t run some e f = word_begins bytes n run (run_within bytes n run) e
tells_run bytes n false true run some e f =
    let within : n ≤ length bytes = run_within bytes n run in
    let count : length (take n bytes) ≡ n = length-take-le n bytes within in
    let h = numeral_is (take n bytes) (omega arith) f in
    number_begins bytes n (digits_value 10 (take n bytes)) run some within h.0 h.1
tells_run bytes n false false run some e f = no_number bytes n run some e (numeral_refused (take n bytes) f)

-- the token in front
abbrev pub next_by : List ℕ → ℕ → Found
next_by bytes zero = by_three (three_at bytes) (two_at bytes) (one_at bytes)
next_by bytes (suc n) = by_run bytes (suc n) (is_letter (get_or bytes 0 0)) (is_numeral (take (suc n) bytes))

abbrev pub next : List ℕ → Found
next bytes = next_by bytes (prefix_len is_word_byte bytes)

tells_by : (bytes : List ℕ) (n : ℕ) → n ≡ prefix_len is_word_byte bytes → Tells bytes (next_by bytes n)
tells_by bytes zero run = tells_three bytes (three_at bytes) (sym run) refl
tells_by bytes (suc n) run = tells_run bytes (suc n) _ _ run (omega arith) refl refl

pub tells : (bytes : List ℕ) → Tells bytes (next bytes)
tells bytes = tells_by bytes (prefix_len is_word_byte bytes) refl

-- the whole line
pub data Outcome : Type 0 where
  unfinished : Outcome
  wrong : ℕ → Outcome
  read : List Token → Outcome

abbrev pub Says : List ℕ → Outcome → Type 0
Says line unfinished = Unit {0}
Says line (wrong place) = IsFault line place
Says line (read tokens) = Reads line tokens

abbrev pub after : (ℕ → List Token → Outcome) → ℕ → List Token → Found → Outcome
after go place done nothing = wrong place
after go place done (found k n) = go (place + n) (done ++ token k place (place + n) ∷ [])

abbrev pub run : ℕ → List ℕ → ℕ → List Token → Outcome
run zero line place done = unfinished
run (suc turns) line place done =
    elim (ltb place (length line)) [
      | false ↦ read done
      | true ↦ elim (is_blank (get_or line place 0)) [
        | true ↦ run turns line (place + 1) done
        | false ↦ elim (begins_comment (get_or line place 0)) [
          | true ↦ read done
          | false ↦ after (run turns line) place done (next (drop place line))
        ]
      ]
    ]

abbrev turn : ℕ → List ℕ → ℕ → List Token → Bool → Bool → Bool → Outcome
turn turns line place done in_line blank comment =
    elim in_line [
      | false ↦ read done
      | true ↦ elim blank [
        | true ↦ run turns line (place + 1) done
        | false ↦ elim comment [
          | true ↦ read done
          | false ↦ after (run turns line) place done (next (drop place line))
        ]
      ]
    ]

-- each turn says what holds
stands_found : (line : List ℕ) (place n : ℕ) (k : TokenKind) → place ≤ length line → Begins (drop place line) k n → Stands line (token k place (place + n))
stands_found line place n k inside h =
    let some : 0 < n = begins_some (drop place line) k n h in
    let within : n ≤ length (drop place line) = h.within in
    let same : (place + n) - place ≡ n = omega arith in
    record {
      forward = omega arith;
      within = omega (arith, length-drop place line);
      begins = subst (λ (i : ℕ). Begins (drop place line) k i) (sym same) h;
    }

says_after : (line : List ℕ) (go : ℕ → List Token → Outcome) (place : ℕ) (done : List Token) (f : Found) → ((to : ℕ) (tokens : List Token) → to ≤ length line → Holds line 0 tokens to → Says line (go to tokens)) → place < length line → is_blank (get_or line place 0) ≡ false → begins_comment (get_or line place 0) ≡ false → Holds line 0 done place → Tells (drop place line) f → Says line (after go place done f)
says_after line go place done nothing more inside solid plain h t = record { front = done; holds = h; inside = inside; solid = solid; plain = plain; none = t }
says_after line go place done (found k n) more inside solid plain h t =
    let s = stands_found line place n k (omega arith) t in
    more (place + n) (done ++ token k place (place + n) ∷ []) s.within (holds_token line 0 done (token k place (place + n)) s h)

says_turn : (turns : ℕ) (line : List ℕ) (place : ℕ) (done : List Token) (in_line blank comment : Bool) → ((to : ℕ) (tokens : List Token) → to ≤ length line → Holds line 0 tokens to → Says line (run turns line to tokens)) → ltb place (length line) ≡ in_line → is_blank (get_or line place 0) ≡ blank → begins_comment (get_or line place 0) ≡ comment → place ≤ length line → Holds line 0 done place → Says line (turn turns line place done in_line blank comment)
says_turn turns line place done false blank comment more e f g within h = record { end = place; holds = h; ends = inl (omega (arith, ltb-false place (length line) e)) }
says_turn turns line place done true true comment more e f g within h = more (place + 1) done (omega (arith, ltb-true place (length line) e)) (holds_blank line 0 done place f h)
says_turn turns line place done true false true more e f g within h = record { end = place; holds = h; ends = inr (ltb-true place (length line) e, g) }
says_turn turns line place done true false false more e f g within h =
    says_after line (run turns line) place done (next (drop place line)) more (ltb-true place (length line) e) f g h (tells (drop place line))

says_run : (turns : ℕ) (line : List ℕ) (place : ℕ) (done : List Token) → place ≤ length line → Holds line 0 done place → Says line (run turns line place done)
says_run zero line place done within h = tt
says_run (suc turns) line place done within h = says_turn turns line place done _ _ _ (says_run turns line) refl refl refl within h

-- what is read of a line, in at most 99 turns
pub example : (line : List ℕ) → Says line (run 99 line 0 [])
example line = says_run 99 line 0 [] zero-le (holds_nothing line)
