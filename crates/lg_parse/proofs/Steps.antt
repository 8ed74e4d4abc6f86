-- What the steps tell that take a sign or a word.
use Rattle.std.proofs.Common.{◌≡◌, true, List, ◌∷◌, sym, subst, rules}
use denote.Enum.Bare.{same_true}
use Rattle.lg_lex.specs.declared.tokens.TokenKind.{TokenKind}
use Rattle.lg_lex.specs.contracts.tokens.TokenKind.{the_type as kinds}
use Rattle.lg_parse.specs.contracts.words.Word.{the_type as words}
use Rattle.lg_parse.specs.declared.words.Word.{Word}
use Rattle.lg_parse.specs.Terminal.{Terminal, word, sign}
use Rattle.lg_parse.specs.Parsing.{same_kind, same_word, sees, sees_word, behind}

-- this sign stands in front of what is left
pub data Takes : TokenKind → List Terminal → List Terminal → Type 0 where
  takes : {k : TokenKind} {ts : List Terminal} → Takes k (sign k ∷ ts) ts

-- and this word
pub data TakesWord : Word → List Terminal → List Terminal → Type 0 where
  takes_word : {w : Word} {ts : List Terminal} → TakesWord w (word w ∷ ts) ts

-- one kind for another
pub same_is : (j k : TokenKind) → same_kind j k ≡ true → j ≡ k
unfolding same_kind
same_is j k e = same_true kinds (search rules) j k e

pub same_word_is : (v w : Word) → same_word v w ≡ true → v ≡ w
unfolding same_word
same_word_is v w e = same_true words (search rules) v w e

-- a sign that is seen stands in front
pub seen : (k : TokenKind) (ts : List Terminal) → sees k ts ≡ true → Takes k ts (behind ts)
seen k (sign j ∷ ts) e = subst (λ (z : TokenKind). Takes k (sign z ∷ ts) ts) (sym (same_is j k e)) takes
seen k _ e = absurd (cc)

pub seen_word : (w : Word) (ts : List Terminal) → sees_word w ts ≡ true → TakesWord w ts (behind ts)
seen_word w (word v ∷ ts) e = subst (λ (z : Word). TakesWord w (word z ∷ ts) ts) (sym (same_word_is v w e)) takes_word
seen_word w _ e = absurd (cc)
