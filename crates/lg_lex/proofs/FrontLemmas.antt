-- Which token stands in front of bytes: found by its first byte, the run of word bytes, or the
-- longest operator.
use Rattle.std.proofs.Common.{◌≡◌, ℕ, ◌+◌, ◌<◌, ◌≤◌, Bool, true, false, cond, Option, None, Some, IfNone, inl, inr, zero, suc, List, [], ◌∷◌, ◌++◌, length, get_or, take, drop, decimal, refl, sym, ap, ◌∙◌, subst, arith, le_antisymm, zero-le, one-add, take-append-drop}
use Rattle.std.specs.List.{prefix_len}
use Rattle.std.proofs.lemmas.List.{length-take-le}
use Rattle.std.proofs.lemmas.Bool.{or_left, or_right, both_ways, cases_lt, eqb-true}
use Rattle.std.proofs.lemmas.Bool.Decides.{nat_tests}
use Rattle.lg_lex.specs.Bytes.{is_blank, begins_comment, is_letter, is_digit, is_word_byte}
use Rattle.lg_lex.specs.Lexical.{IsWord, IsNumber, HasText, BeginsApart, EndsWhole, Begins, BeginsNone, MAX_NUMBER}
use Rattle.lg_lex.specs.Operators.{three_at, two_at, one_at}
use Rattle.lg_lex.specs.declared.tokens.TokenKind.{TokenKind}
use Rattle.lg_lex.specs.declared.tokens.TokenKind.TheVariants.{Word, Number}
use Rattle.lg_lex.proofs.DecimalLemmas.{decimal_digits, decimal_some, word_bytes_from_digits}
use Rattle.lg_lex.proofs.KindLemmas.{AllWordBytes, IsSolid, Class, a_word, a_number, of_three, of_two, of_one, class_of, three_text, two_text, one_text, digits_head, kind_once}

-- the token in front is determined
pub count_once : (bytes : List ℕ) (k m : TokenKind) (n i : ℕ) → Begins bytes k n → Begins bytes m i → n ≡ i
count_once bytes k m n i h g = le_antisymm (g.longest k n h.within h.text) (h.longest m i g.within g.text)

pub begins_kind : (bytes : List ℕ) (k m : TokenKind) (n i : ℕ) → Begins bytes k n → Begins bytes m i → k ≡ m
begins_kind bytes k m n i h g =
    let same : i ≡ n = sym (count_once bytes k m n i h g) in
    kind_once k m (take n bytes) h.text (subst (λ (j : ℕ). HasText m (take j bytes)) same g.text)

-- the first byte of a text, and what it tells
head_of : (bytes : List ℕ) (n b : ℕ) (bs : List ℕ) → take n bytes ≡ b ∷ bs → get_or bytes 0 0 ≡ b
head_of bytes n b bs e =
    let cut : bytes ≡ (b ∷ bs) ++ drop n bytes = sym (take-append-drop n bytes) ∙ ap (λ (z : List ℕ). z ++ drop n bytes) e in
    ap (λ (z : List ℕ). get_or z 0 0) cut

-- what a text in front is, by the first byte
pub data Front (bytes : List ℕ) (k : TokenKind) (n : ℕ) : Type 0 where
  by_letter : k ≡ Word → is_letter (get_or bytes 0 0) ≡ true → AllWordBytes (take n bytes) → Front bytes k n
  by_digit : k ≡ Number → is_digit (get_or bytes 0 0) ≡ true → AllWordBytes (take n bytes) → Front bytes k n
  by_three : IsSolid (get_or bytes 0 0) → n ≡ 3 → three_at bytes ≡ Some k → Front bytes k n
  by_two : IsSolid (get_or bytes 0 0) → n ≡ 2 → two_at bytes ≡ Some k → Front bytes k n
  by_one : IsSolid (get_or bytes 0 0) → n ≡ 1 → one_at bytes ≡ Some k → Front bytes k n

counted : (bytes : List ℕ) (n : ℕ) (text : List ℕ) → n ≤ length bytes → take n bytes ≡ text → n ≡ length text
counted bytes n text within e = sym (length-take-le n bytes within) ∙ ap length e

front_by : (bytes : List ℕ) (k : TokenKind) (n : ℕ) (text : List ℕ) → n ≤ length bytes → text ≡ take n bytes → Class k text → Front bytes k n
front_by bytes k n text within e (a_word b bs l h) =
    let first : get_or bytes 0 0 ≡ b = head_of bytes n b bs (sym e) in
    by_letter refl (ap is_letter first ∙ l) (subst AllWordBytes e (or_left (is_letter b) (is_digit b) l, h))
front_by bytes k n text within e (a_number m low f) =
    let digits = decimal_digits m low in
    let h = digits_head (decimal m) (decimal_some m low) digits in
    let first : get_or bytes 0 0 ≡ h.0 = head_of bytes n h.0 h.1 (sym e ∙ f ∙ h.2.0) in
    by_digit refl (ap is_digit first ∙ h.2.1) (subst AllWordBytes (sym f ∙ e) (word_bytes_from_digits (decimal m) digits))
front_by bytes k n text within e (of_three a b c f h s) =
    let is : take n bytes ≡ a ∷ b ∷ c ∷ [] = sym e ∙ f in
    let cut : bytes ≡ a ∷ b ∷ c ∷ drop n bytes = sym (take-append-drop n bytes) ∙ ap (λ (z : List ℕ). z ++ drop n bytes) is in
    by_three (subst IsSolid (sym (head_of bytes n a (b ∷ c ∷ []) is)) s) (counted bytes n (a ∷ b ∷ c ∷ []) within is) (ap three_at cut ∙ h)
front_by bytes k n text within e (of_two a b f h s) =
    let is : take n bytes ≡ a ∷ b ∷ [] = sym e ∙ f in
    let cut : bytes ≡ a ∷ b ∷ drop n bytes = sym (take-append-drop n bytes) ∙ ap (λ (z : List ℕ). z ++ drop n bytes) is in
    by_two (subst IsSolid (sym (head_of bytes n a (b ∷ []) is)) s) (counted bytes n (a ∷ b ∷ []) within is) (ap two_at cut ∙ h)
front_by bytes k n text within e (of_one a f h s) =
    let is : take n bytes ≡ a ∷ [] = sym e ∙ f in
    let cut : bytes ≡ a ∷ drop n bytes = sym (take-append-drop n bytes) ∙ ap (λ (z : List ℕ). z ++ drop n bytes) is in
    by_one (subst IsSolid (sym (head_of bytes n a [] is)) s) (counted bytes n (a ∷ []) within is) (ap one_at cut ∙ h)

pub front_of : (bytes : List ℕ) (k : TokenKind) (n : ℕ) → n ≤ length bytes → HasText k (take n bytes) → Front bytes k n
front_of bytes k n within h = front_by bytes k n (take n bytes) within refl (class_of k (take n bytes) h)

-- a token has a byte, and begins with no blank
letter_solid : (b : ℕ) → is_letter b ≡ true → is_blank b ≡ false
letter_solid b h = grind (arith, nat_tests)

digit_solid : (b : ℕ) → is_digit b ≡ true → is_blank b ≡ false
digit_solid b h = grind (arith, nat_tests)

front_solid : {bytes : List ℕ} {k : TokenKind} {n : ℕ} → Front bytes k n → is_blank (get_or bytes 0 0) ≡ false
front_solid {bytes} (by_letter e l h) = letter_solid (get_or bytes 0 0) l
front_solid {bytes} (by_digit e d h) = digit_solid (get_or bytes 0 0) d
front_solid (by_three s e h) = s.solid
front_solid (by_two s e h) = s.solid
front_solid (by_one s e h) = s.solid

front_some : {bytes : List ℕ} {k : TokenKind} {n : ℕ} → Front bytes k n → HasText k (take n bytes) → 0 < n
front_some {n = zero} (by_letter e l h) t = absurd (subst (λ (z : TokenKind). HasText z []) e t)
front_some {n = zero} (by_digit e d h) t =
    let number : IsNumber [] = subst (λ (z : TokenKind). HasText z []) e t in
    let some : 0 < length (decimal number.0) = decimal_some number.0 number.1.0 in
    let none : 0 ≡ length (decimal number.0) = ap length number.1.1 in
    omega arith
front_some {n = zero} (by_three s e h) t = omega arith
front_some {n = zero} (by_two s e h) t = omega arith
front_some {n = zero} (by_one s e h) t = omega arith
front_some {n = suc n} f t = omega arith

pub begins_some : (bytes : List ℕ) (k : TokenKind) (n : ℕ) → Begins bytes k n → 0 < n
begins_some bytes k n h = front_some (front_of bytes k n h.within h.text) h.text

pub begins_solid : (bytes : List ℕ) (k : TokenKind) (n : ℕ) → Begins bytes k n → is_blank (get_or bytes 0 0) ≡ false
begins_solid bytes k n h = front_solid (front_of bytes k n h.within h.text)

-- the run of word bytes
letter_word : (b : ℕ) → is_letter b ≡ true → is_word_byte b ≡ true
letter_word b l = or_left (is_letter b) (is_digit b) l

digit_word : (b : ℕ) → is_digit b ≡ true → is_word_byte b ≡ true
digit_word b d = or_right (is_letter b) (is_digit b) d

run_zero : (b : ℕ) (bs : List ℕ) (n : ℕ) (t : Bool) → cond t (1 + n) 0 ≡ 0 → t ≡ false
run_zero b bs n true e = absurd (omega arith)
run_zero b bs n false e = refl

pub run_apart : (bs : List ℕ) → prefix_len is_word_byte bs ≡ 0 → is_word_byte (get_or bs 0 0) ≡ false
run_apart [] e = refl
run_apart (b ∷ bs) e = run_zero b bs (prefix_len is_word_byte bs) (is_word_byte b) e

runs_on : (n : ℕ) (t : Bool) → 0 < cond t (1 + n) 0 → t ≡ true
runs_on n true e = refl
runs_on n false e = absurd (omega arith)

pub run_begins : (bs : List ℕ) → 0 < prefix_len is_word_byte bs → is_word_byte (get_or bs 0 0) ≡ true
run_begins [] e = absurd (omega arith)
run_begins (b ∷ bs) e = runs_on (prefix_len is_word_byte bs) (is_word_byte b) e

runs_from : (b : ℕ) (bs : List ℕ) (n : ℕ) (t : Bool) → is_word_byte b ≡ t → AllWordBytes (take n bs) → AllWordBytes (take (cond t (1 + n) 0) (b ∷ bs))
runs_from b bs n true e h = rw one-add (e, h)
runs_from b bs n false e h = tt

pub run_words : (bs : List ℕ) → AllWordBytes (take (prefix_len is_word_byte bs) bs)
run_words [] = tt
run_words (b ∷ bs) = runs_from b bs (prefix_len is_word_byte bs) (is_word_byte b) refl (run_words bs)

apart_from : (b : ℕ) (bs : List ℕ) (n : ℕ) (t : Bool) → is_word_byte b ≡ t → BeginsApart (drop n bs) → BeginsApart (drop (cond t (1 + n) 0) (b ∷ bs))
apart_from b bs n true e h = rw one-add h
apart_from b bs n false e h = e

pub run_ends : (bs : List ℕ) → BeginsApart (drop (prefix_len is_word_byte bs) bs)
run_ends [] = tt
run_ends (b ∷ bs) = apart_from b bs (prefix_len is_word_byte bs) (is_word_byte b) refl (run_ends bs)

-- word bytes in front are no more than the run
run_step : (n m : ℕ) (t : Bool) → t ≡ true → m ≤ n → 1 + m ≤ cond t (1 + n) 0
run_step n m true e h = omega arith
run_step n m false e h = absurd (cc)

pub run_longest : (bs : List ℕ) (n : ℕ) → n ≤ length bs → AllWordBytes (take n bs) → n ≤ prefix_len is_word_byte bs
run_longest bs zero within h = zero-le
run_longest [] (suc n) within h = absurd (omega arith)
run_longest (b ∷ bs) (suc n) within h =
    let more : n ≤ prefix_len is_word_byte bs = run_longest bs n (omega arith) h.1 in
    rw one-add at (run_step (prefix_len is_word_byte bs) n (is_word_byte b) h.0 more)

-- a run that goes on apart ends there
run_whole : (bs : List ℕ) (n : ℕ) → n ≤ length bs → AllWordBytes (take n bs) → BeginsApart (drop n bs) → prefix_len is_word_byte bs ≤ n
run_whole [] n within h apart = zero-le
run_whole (b ∷ bs) zero within h apart = omega (arith, ap (λ (t : Bool). cond t (1 + prefix_len is_word_byte bs) 0) apart)
run_whole (b ∷ bs) (suc n) within h apart =
    let more : prefix_len is_word_byte bs ≤ n = run_whole bs n (omega arith) h.1 apart in
    omega (arith, ap (λ (t : Bool). cond t (1 + prefix_len is_word_byte bs) 0) h.0)

-- where a word byte stands in front, no text is longer than the run
pub front_longest : {bytes : List ℕ} {k : TokenKind} {n : ℕ} → n ≤ length bytes → is_word_byte (get_or bytes 0 0) ≡ true → Front bytes k n → n ≤ prefix_len is_word_byte bytes
front_longest {bytes} {k} {n} within w (by_letter e l h) = run_longest bytes n within h
front_longest {bytes} {k} {n} within w (by_digit e d h) = run_longest bytes n within h
front_longest within w (by_three s e h) = absurd (both_ways _ s.apart w)
front_longest within w (by_two s e h) = absurd (both_ways _ s.apart w)
front_longest within w (by_one s e h) = absurd (both_ways _ s.apart w)

word_from : (b : ℕ) (bs : List ℕ) (n : ℕ) (t : Bool) → t ≡ true → is_letter b ≡ true → AllWordBytes (take n bs) → IsWord (take (cond t (1 + n) 0) (b ∷ bs))
word_from b bs n true e l h = rw one-add (l, h)
word_from b bs n false e l h = absurd (cc)

run_word : (bs : List ℕ) → is_letter (get_or bs 0 0) ≡ true → IsWord (take (prefix_len is_word_byte bs) bs)
run_word [] l = absurd (cc)
run_word (b ∷ bs) l = word_from b bs (prefix_len is_word_byte bs) (is_word_byte b) (letter_word b l) l (run_words bs)

-- a word
pub word_begins : (bytes : List ℕ) (n : ℕ) → n ≡ prefix_len is_word_byte bytes → n ≤ length bytes → is_letter (get_or bytes 0 0) ≡ true → Begins bytes Word n
word_begins bytes n run within l = record {
  within = within;
  text = subst (λ (i : ℕ). IsWord (take i bytes)) (sym run) (run_word bytes l);
  whole = tt;
  longest = λ other more inside h.
      let least : more ≤ prefix_len is_word_byte bytes = front_longest inside (letter_word (get_or bytes 0 0) l) (front_of bytes other more inside h) in
      omega arith;
}

-- a number
pub number_begins : (bytes : List ℕ) (n value : ℕ) → n ≡ prefix_len is_word_byte bytes → 0 < n → n ≤ length bytes → decimal value ≡ take n bytes → value ≤ MAX_NUMBER → Begins bytes Number n
number_begins bytes n value run some within e low = record {
  within = within;
  text = (value, (low, sym e));
  whole = subst (λ (i : ℕ). BeginsApart (drop i bytes)) (sym run) (run_ends bytes);
  longest = λ other more inside h.
      let on : 0 < prefix_len is_word_byte bytes = omega arith in
      let least : more ≤ prefix_len is_word_byte bytes = front_longest inside (run_begins bytes on) (front_of bytes other more inside h) in
      omega arith;
}

no_number_front : {bytes : List ℕ} {k : TokenKind} {n : ℕ} → Begins bytes k n → is_letter (get_or bytes 0 0) ≡ false → is_word_byte (get_or bytes 0 0) ≡ true → (IsNumber (take (prefix_len is_word_byte bytes) bytes) → ⊥) → Front bytes k n → ⊥
no_number_front h l w none (by_letter e m words) = both_ways _ l m
no_number_front {bytes} {k} {n} h l w none (by_digit e d words) =
    let g : Begins bytes Number n = subst (λ (z : TokenKind). Begins bytes z n) e h in
    let same : n ≡ prefix_len is_word_byte bytes = le_antisymm (run_longest bytes n h.within words) (run_whole bytes n h.within words g.whole) in
    none (subst (λ (i : ℕ). IsNumber (take i bytes)) same g.text)
no_number_front h l w none (by_three s e m) = both_ways _ s.apart w
no_number_front h l w none (by_two s e m) = both_ways _ s.apart w
no_number_front h l w none (by_one s e m) = both_ways _ s.apart w

pub no_number : (bytes : List ℕ) (n : ℕ) → n ≡ prefix_len is_word_byte bytes → 0 < n → is_letter (get_or bytes 0 0) ≡ false → (IsNumber (take n bytes) → ⊥) → BeginsNone bytes
no_number bytes n run some l none k count h =
    let on : 0 < prefix_len is_word_byte bytes = omega arith in
    no_number_front h l (run_begins bytes on) (subst (λ (i : ℕ). IsNumber (take i bytes) → ⊥) run none) (front_of bytes k count h.within h.text)

-- the operators
not_number : (bytes : List ℕ) (n : ℕ) → is_word_byte (get_or bytes 0 0) ≡ false → IsNumber (take n bytes) → ⊥
not_number bytes n apart h =
    let digits = digits_head (decimal h.0) (decimal_some h.0 h.1.0) (decimal_digits h.0 h.1.0) in
    let first : get_or bytes 0 0 ≡ digits.0 = head_of bytes n digits.0 digits.1 (h.1.1 ∙ digits.2.0) in
    both_ways _ apart (digit_word (get_or bytes 0 0) (ap is_digit first ∙ digits.2.1))

ends_whole : (k : TokenKind) (rest : List ℕ) → (k ≡ Number → ⊥) → EndsWhole k rest
ends_whole Number rest h = absurd (h refl)
ends_whole k rest h = tt

none_some : (k : TokenKind) (o : Option TokenKind) → o ≡ None → o ≡ Some k → ⊥
none_some k o e f = cc

operator_longest : {bytes : List ℕ} {k : TokenKind} {i : ℕ} (n : ℕ) → is_word_byte (get_or bytes 0 0) ≡ false → 0 < n → (n < 3 → three_at bytes ≡ None) → (n < 2 → two_at bytes ≡ None) → Front bytes k i → i ≤ n
operator_longest {bytes} n apart some p q (by_letter e l h) = absurd (both_ways _ apart (letter_word (get_or bytes 0 0) l))
operator_longest {bytes} n apart some p q (by_digit e d h) = absurd (both_ways _ apart (digit_word (get_or bytes 0 0) d))
operator_longest {bytes} {k} {i} n apart some p q (by_three s e h) =
    elim (cases_lt n i) [ inl less ↦ absurd (none_some k _ (p (omega arith)) h) | inr more ↦ more ]
operator_longest {bytes} {k} {i} n apart some p q (by_two s e h) =
    elim (cases_lt n i) [ inl less ↦ absurd (none_some k _ (q (omega arith)) h) | inr more ↦ more ]
operator_longest n apart some p q (by_one s e h) = omega arith

operator_begins : (bytes : List ℕ) (k : TokenKind) (n : ℕ) → prefix_len is_word_byte bytes ≡ 0 → 0 < n → (n ≤ length bytes) × HasText k (take n bytes) → (n < 3 → three_at bytes ≡ None) → (n < 2 → two_at bytes ≡ None) → Begins bytes k n
operator_begins bytes k n run some h p q =
    let apart : is_word_byte (get_or bytes 0 0) ≡ false = run_apart bytes run in
    record {
      within = h.0;
      text = h.1;
      whole = ends_whole k (drop n bytes) (λ e. not_number bytes n apart (subst (λ (z : TokenKind). HasText z (take n bytes)) e h.1));
      longest = λ other more inside g. operator_longest n apart some p q (front_of bytes other more inside g);
    }

three_in : (bytes : List ℕ) (k : TokenKind) → three_at bytes ≡ Some k → (3 ≤ length bytes) × HasText k (take 3 bytes)
three_in [] k e = absurd (cc)
three_in (a ∷ []) k e = absurd (cc)
three_in (a ∷ b ∷ []) k e = absurd (cc)
three_in (a ∷ b ∷ c ∷ bytes) k e = (omega arith, three_text a b c k e)

two_in : (bytes : List ℕ) (k : TokenKind) → two_at bytes ≡ Some k → (2 ≤ length bytes) × HasText k (take 2 bytes)
two_in [] k e = absurd (cc)
two_in (a ∷ []) k e = absurd (cc)
two_in (a ∷ b ∷ bytes) k e = (omega arith, two_text a b k e)

one_in : (bytes : List ℕ) (k : TokenKind) → one_at bytes ≡ Some k → (1 ≤ length bytes) × HasText k (take 1 bytes)
one_in [] k e = absurd (cc)
one_in (a ∷ bytes) k e = (omega arith, one_text a k e)

pub three_begins : (bytes : List ℕ) (k : TokenKind) → prefix_len is_word_byte bytes ≡ 0 → three_at bytes ≡ Some k → Begins bytes k 3
three_begins bytes k run e = operator_begins bytes k 3 run (omega arith) (three_in bytes k e) (λ less. absurd (omega arith)) (λ less. absurd (omega arith))

pub two_begins : (bytes : List ℕ) (k : TokenKind) → prefix_len is_word_byte bytes ≡ 0 → three_at bytes ≡ None → two_at bytes ≡ Some k → Begins bytes k 2
two_begins bytes k run p e = operator_begins bytes k 2 run (omega arith) (two_in bytes k e) (λ less. p) (λ less. absurd (omega arith))

pub one_begins : (bytes : List ℕ) (k : TokenKind) → prefix_len is_word_byte bytes ≡ 0 → three_at bytes ≡ None → two_at bytes ≡ None → one_at bytes ≡ Some k → Begins bytes k 1
one_begins bytes k run p q e = operator_begins bytes k 1 run (omega arith) (one_in bytes k e) (λ less. p) (λ less. q)

no_front : {bytes : List ℕ} {k : TokenKind} {n : ℕ} → is_word_byte (get_or bytes 0 0) ≡ false → three_at bytes ≡ None → two_at bytes ≡ None → one_at bytes ≡ None → Front bytes k n → ⊥
no_front {bytes} apart p q r (by_letter e l h) = both_ways _ apart (letter_word (get_or bytes 0 0) l)
no_front {bytes} apart p q r (by_digit e d h) = both_ways _ apart (digit_word (get_or bytes 0 0) d)
no_front apart p q r (by_three s e h) = none_some _ _ p h
no_front apart p q r (by_two s e h) = none_some _ _ q h
no_front apart p q r (by_one s e h) = none_some _ _ r h

pub no_operator : (bytes : List ℕ) → prefix_len is_word_byte bytes ≡ 0 → three_at bytes ≡ None → two_at bytes ≡ None → one_at bytes ≡ None → BeginsNone bytes
no_operator bytes run p q r k n h = no_front (run_apart bytes run) p q r (front_of bytes k n h.within h.text)

-- no token begins with `#`
hash_runs : (b : ℕ) (bs : List ℕ) → is_word_byte b ≡ false → prefix_len is_word_byte (b ∷ bs) ≡ 0
hash_runs b bs h = ap (λ (t : Bool). cond t (1 + prefix_len is_word_byte bs) 0) h

hash_three : (bs : List ℕ) → three_at (35 ∷ bs) ≡ None
hash_three [] = refl
hash_three (b ∷ []) = refl
hash_three (b ∷ c ∷ bs) = refl

hash_two : (bs : List ℕ) → two_at (35 ∷ bs) ≡ None
hash_two [] = refl
hash_two (b ∷ bs) = refl

no_hash : (bs : List ℕ) → BeginsNone (35 ∷ bs)
no_hash bs = no_operator (35 ∷ bs) (hash_runs 35 bs refl) (hash_three bs) (hash_two bs) refl

pub comment_none : (bytes : List ℕ) → begins_comment (get_or bytes 0 0) ≡ true → BeginsNone bytes
comment_none [] h = absurd (cc)
comment_none (b ∷ bs) h = subst (λ (z : ℕ). BeginsNone (z ∷ bs)) (sym (eqb-true b 35 h)) (no_hash bs)

-- a fact that holds anyway
pub if_none : {X : Type 0} (o : Option X) (P : Type 0) → P → IfNone o P
if_none None P p = p
if_none (Some x) P p = tt
