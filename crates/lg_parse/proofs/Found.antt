-- What a parser finds in front of terminals, with what it leaves: a property of both. And how
-- parsers that stand behind one another find.
use Rattle.std.proofs.Common.{◌≡◌, ℕ, Bool, true, false, cond, Some, None, List, nat_le, refl}
use Rattle.lg_lex.specs.declared.tokens.TokenKind.{TokenKind}
use Rattle.lg_parse.specs.declared.words.Word.{Word}
use Rattle.lg_parse.specs.Terminal.{Terminal}
use Rattle.lg_parse.specs.Parsing.{Parser, Outcome, and_then, ◌>>=◌, ◌>>◌, pure, sees, sees_word, behind, eat, eat_word, expect, expect_word, low, made}
use Rattle.lg_parse.proofs.Steps.{Takes, TakesWord, seen, seen_word}

abbrev pub FoundAt : {A : Type 0} → (A → List Terminal → Type 0) → Outcome A → Type 0
FoundAt P None = Unit {0}
FoundAt P (Some r) = P r.0 r.1

pub record Found {A : Type 0} (P : A → List Terminal → Type 0) (p : Parser A) (ts : List Terminal) : Type 0 where
  pub found : FoundAt P (p ts)

then_at : {A B : Type 0} (P : A → List Terminal → Type 0) (Q : B → List Terminal → Type 0) (o : Outcome A) (f : A → Parser B) → FoundAt P o → ((a : A) (us : List Terminal) → P a us → Found Q (f a) us) → FoundAt Q (and_then o f)
then_at P Q None f h k = tt
then_at P Q (Some r) f h k = (k r.0 r.1 h).found

-- one parser behind another
pub then : {A B : Type 0} {P : A → List Terminal → Type 0} {Q : B → List Terminal → Type 0} {p : Parser A} {f : A → Parser B} {ts : List Terminal} → Found P p ts → ((a : A) (us : List Terminal) → P a us → Found Q (f a) us) → Found Q (p >>= f) ts
then {P = P} {Q = Q} {p = p} {f = f} {ts = ts} h k = record { found = then_at P Q (p ts) f h.found k }

pub pure_found : {A : Type 0} {Q : A → List Terminal → Type 0} {ts : List Terminal} (a : A) → Q a ts → Found Q (pure a) ts
pure_found a h = record { found = h }

pub refuse_found : {A : Type 0} {Q : A → List Terminal → Type 0} {ts : List Terminal} → Found Q (λ us. None) ts
refuse_found = record { found = tt }

low_at : {A : Type 0} (Q : A → List Terminal → Type 0) (a : A) (ts : List Terminal) (b : Bool) → Q a ts → FoundAt Q (made (cond b (Some a) None) ts)
low_at Q a ts true h = h
low_at Q a ts false h = tt

-- a tree that is not too high
pub low_found : {A : Type 0} {Q : A → List Terminal → Type 0} {ts : List Terminal} (height : A → ℕ) (a : A) → Q a ts → Found Q (made (low height a)) ts
unfolding low
low_found {Q = Q} {ts = ts} height a h = record { found = low_at Q a ts (nat_le (height a) 200) h }

choice_at : {A : Type 0} (Q : A → List Terminal → Type 0) (k : TokenKind) (ts : List Terminal) (p q : Parser A) (b : Bool) → sees k ts ≡ b → ((us : List Terminal) → Takes k ts us → Found Q p us) → Found Q q ts → FoundAt Q ((cond b p q) (cond b (behind ts) ts))
choice_at Q k ts p q true e h g = (h (behind ts) (seen k ts e)).found
choice_at Q k ts p q false e h g = g.found

-- one way where a sign stands in front, which is taken, and another where it does not
pub choice : {A : Type 0} {Q : A → List Terminal → Type 0} {p q : Parser A} {ts : List Terminal} (k : TokenKind) → ((us : List Terminal) → Takes k ts us → Found Q p us) → Found Q q ts → Found Q (eat k >>= (λ b. cond b p q)) ts
unfolding eat
choice {Q = Q} {p = p} {q = q} {ts = ts} k h g = record { found = choice_at Q k ts p q (sees k ts) refl h g }

word_at : {A : Type 0} (Q : A → List Terminal → Type 0) (w : Word) (ts : List Terminal) (p q : Parser A) (b : Bool) → sees_word w ts ≡ b → ((us : List Terminal) → TakesWord w ts us → Found Q p us) → Found Q q ts → FoundAt Q ((cond b p q) (cond b (behind ts) ts))
word_at Q w ts p q true e h g = (h (behind ts) (seen_word w ts e)).found
word_at Q w ts p q false e h g = g.found

pub word_choice : {A : Type 0} {Q : A → List Terminal → Type 0} {p q : Parser A} {ts : List Terminal} (w : Word) → ((us : List Terminal) → TakesWord w ts us → Found Q p us) → Found Q q ts → Found Q (eat_word w >>= (λ b. cond b p q)) ts
unfolding eat_word
word_choice {Q = Q} {p = p} {q = q} {ts = ts} w h g = record { found = word_at Q w ts p q (sees_word w ts) refl h g }

expect_at : {A : Type 0} (Q : A → List Terminal → Type 0) (k : TokenKind) (ts : List Terminal) (q : Parser A) (b : Bool) → sees k ts ≡ b → ((us : List Terminal) → Takes k ts us → Found Q q us) → FoundAt Q (and_then (cond b (Some (tt, behind ts)) None) (λ (_ : Unit {0}). q))
expect_at Q k ts q true e h = (h (behind ts) (seen k ts e)).found
expect_at Q k ts q false e h = tt

-- a sign that has to stand in front
pub behind_sign : {A : Type 0} {Q : A → List Terminal → Type 0} {q : Parser A} {ts : List Terminal} (k : TokenKind) → ((us : List Terminal) → Takes k ts us → Found Q q us) → Found Q (expect k >> q) ts
unfolding expect
behind_sign {Q = Q} {q = q} {ts = ts} k h = record { found = expect_at Q k ts q (sees k ts) refl h }

expect_word_at : {A : Type 0} (Q : A → List Terminal → Type 0) (w : Word) (ts : List Terminal) (q : Parser A) (b : Bool) → sees_word w ts ≡ b → ((us : List Terminal) → TakesWord w ts us → Found Q q us) → FoundAt Q (and_then (cond b (Some (tt, behind ts)) None) (λ (_ : Unit {0}). q))
expect_word_at Q w ts q true e h = (h (behind ts) (seen_word w ts e)).found
expect_word_at Q w ts q false e h = tt

-- a word that has to stand in front
pub behind_word : {A : Type 0} {Q : A → List Terminal → Type 0} {q : Parser A} {ts : List Terminal} (w : Word) → ((us : List Terminal) → TakesWord w ts us → Found Q q us) → Found Q (expect_word w >> q) ts
unfolding expect_word
behind_word {Q = Q} {q = q} {ts = ts} w h = record { found = expect_word_at Q w ts q (sees_word w ts) refl h }

weaker_at : {A : Type 0} (P Q : A → List Terminal → Type 0) (o : Outcome A) → ((a : A) (us : List Terminal) → P a us → Q a us) → FoundAt P o → FoundAt Q o
weaker_at P Q None k h = tt
weaker_at P Q (Some r) k h = k r.0 r.1 h

pub weaker : {A : Type 0} {P Q : A → List Terminal → Type 0} {p : Parser A} {ts : List Terminal} → ((a : A) (us : List Terminal) → P a us → Q a us) → Found P p ts → Found Q p ts
weaker {P = P} {Q = Q} {p = p} {ts = ts} k h = record { found = weaker_at P Q (p ts) k h.found }
