-- Words and numbers in front of bytes that begin with no letter, no digit and no `_`.
use Rattle.std.proofs.Common.{◌≡◌, ◌==◌, ◌&&◌, ℕ, suc, ◌+◌, ◌<◌, ◌≤◌, Bool, true, false, cond, not, List, [], ◌∷◌, ◌++◌, length, get_or, take, decimal, refl, sym, ap, ◌∙◌, arith}
use Rattle.std.specs.List.{prefix_len}
use Rattle.std.proofs.lemmas.List.{length-append}
use Rattle.std.proofs.lemmas.Bool.{or_left}
use Rattle.std.proofs.lemmas.Bool.Decides.{nat_tests}
use Rattle.lg_lex.specs.Bytes.{is_letter, is_digit, is_word_byte}
use Rattle.lg_lex.specs.Lexical.{IsWord, BeginsApart, Begins, MAX_NUMBER}
use Rattle.lg_lex.specs.declared.tokens.TokenKind.TheVariants.{Word, Number}
use Rattle.lg_lex.proofs.DecimalLemmas.{decimal_digits, decimal_some, word_bytes_from_digits}
use Rattle.lg_lex.proofs.FrontLemmas.{word_begins, number_begins}
use Rattle.lg_lex.proofs.KindLemmas.{AllWordBytes}

run_none : (rest : List ℕ) → BeginsApart rest → prefix_len is_word_byte rest ≡ 0
run_none [] h = refl
run_none (b ∷ bs) h = ap (λ (t : Bool). cond t (1 + prefix_len is_word_byte bs) 0) h

pub one_more : (n : ℕ) → 1 + n ≡ suc n
one_more n = omega arith

-- the run of word bytes ends where the text ends
run_of : (text rest : List ℕ) → AllWordBytes text → BeginsApart rest → prefix_len is_word_byte (text ++ rest) ≡ length text
run_of [] rest h g = run_none rest g
run_of (b ∷ bs) rest h g =
    ap (λ (t : Bool). cond t (1 + prefix_len is_word_byte (bs ++ rest)) 0) h.0 ∙ ap (λ (n : ℕ). 1 + n) (run_of bs rest h.1 g) ∙ one_more (length bs)

within : (text rest : List ℕ) → length text ≤ length (text ++ rest)
within text rest = omega (arith, length-append text rest)

pub word_some : (w : List ℕ) → IsWord w → 0 < length w
word_some [] h = absurd h
word_some (b ∷ bs) h = omega arith

word_bytes : (w : List ℕ) → IsWord w → AllWordBytes w
word_bytes [] h = absurd h
word_bytes (b ∷ bs) h = (or_left (is_letter b) (is_digit b) h.0, h.1)

starts_letter : (w rest : List ℕ) → IsWord w → is_letter (get_or (w ++ rest) 0 0) ≡ true
starts_letter [] rest h = absurd h
starts_letter (b ∷ bs) rest h = h.0

pub word_first : (w rest : List ℕ) → IsWord w → BeginsApart rest → Begins (w ++ rest) Word (length w)
word_first w rest h g =
    word_begins (w ++ rest) (length w) (sym (run_of w rest (word_bytes w h) g)) (within w rest) (starts_letter w rest h)

pub front_taken : (text rest : List ℕ) → take (length text) (text ++ rest) ≡ text
front_taken [] rest = refl
front_taken (b ∷ bs) rest = ap (λ (z : List ℕ). b ∷ z) (front_taken bs rest)

pub number_first : (n : ℕ) (rest : List ℕ) → n ≤ MAX_NUMBER → BeginsApart rest → Begins (decimal n ++ rest) Number (length (decimal n))
number_first n rest low g =
    number_begins (decimal n ++ rest) (length (decimal n)) n
    (sym (run_of (decimal n) rest (word_bytes_from_digits (decimal n) (decimal_digits n low)) g))
    (decimal_some n low) (within (decimal n) rest) (sym (front_taken (decimal n) rest)) low

-- ---- no byte of them ends a line

abbrev pub is_flat : List ℕ → Bool
is_flat [] = true
is_flat (b ∷ bs) = not (b == 10) && (not (b == 13) && is_flat bs)

byte_flat : (b : ℕ) → is_word_byte b ≡ true → (not (b == 10) ≡ true) × (not (b == 13) ≡ true)
byte_flat b h = (grind (arith, nat_tests), grind (arith, nat_tests))

both : (s t : Bool) → s ≡ true → t ≡ true → (s && t) ≡ true
both s t h g = ap (λ (x : Bool). x && t) h ∙ g

bytes_flat : (text : List ℕ) → AllWordBytes text → is_flat text ≡ true
bytes_flat [] h = refl
bytes_flat (b ∷ bs) h =
    let f = byte_flat b h.0 in
    both (not (b == 10)) (not (b == 13) && is_flat bs) f.0 (both (not (b == 13)) (is_flat bs) f.1 (bytes_flat bs h.1))

pub word_flat : (w : List ℕ) → IsWord w → is_flat w ≡ true
word_flat w h = bytes_flat w (word_bytes w h)

pub number_flat : (n : ℕ) → n ≤ MAX_NUMBER → is_flat (decimal n) ≡ true
number_flat n low = bytes_flat (decimal n) (word_bytes_from_digits (decimal n) (decimal_digits n low))

pub parts : (s t : Bool) → (s && t) ≡ true → (s ≡ true) × (t ≡ true)
parts true t h = (refl, h)
parts false t h = absurd (cc)

pub flat_append : (a b : List ℕ) → is_flat a ≡ true → is_flat b ≡ true → is_flat (a ++ b) ≡ true
flat_append [] b h g = g
flat_append (x ∷ a) b h g =
    let f = parts (not (x == 10)) (not (x == 13) && is_flat a) h in
    let s = parts (not (x == 13)) (is_flat a) f.1 in
    both (not (x == 10)) (not (x == 13) && is_flat (a ++ b)) f.0 (both (not (x == 13)) (is_flat (a ++ b)) s.0 (flat_append a b s.1 g))
