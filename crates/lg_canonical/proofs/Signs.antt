-- Which operator stands in front of bytes, by what stands behind it.
use Rattle.std.proofs.Common.{◌≡◌, ◌==◌, ◌&&◌, ℕ, ◌<◌, false, None, Some, List, [], ◌∷◌, refl}
use Rattle.std.specs.Prelude.{⊤}
use Rattle.std.specs.List.{prefix_len}
use Rattle.lg_lex.specs.Bytes.{is_word_byte}
use Rattle.lg_lex.specs.Lexical.{Begins}
use Rattle.lg_lex.specs.Operators.{three, two, one, three_at, two_at}
use Rattle.lg_lex.specs.declared.tokens.TokenKind.{TokenKind}
use Rattle.lg_lex.proofs.FrontLemmas.{one_begins, two_begins, three_begins}

abbrev pub NoThree : ℕ → Type 0
NoThree a = (b c : ℕ) → three a b c ≡ None

none_of_three : (a : ℕ) (rest : List ℕ) → NoThree a → three_at (a ∷ rest) ≡ None
none_of_three a [] h = refl
none_of_three a (b ∷ []) h = refl
none_of_three a (b ∷ c ∷ rest) h = h b c

none_of_two : (a : ℕ) (rest : List ℕ) → ((b : ℕ) → two a b ≡ None) → two_at (a ∷ rest) ≡ None
none_of_two a [] h = refl
none_of_two a (b ∷ rest) h = h b

-- a sign of one byte that begins no other
pub lone : (a : ℕ) (k : TokenKind) → ((rest : List ℕ) → prefix_len is_word_byte (a ∷ rest) ≡ 0) → ((b : ℕ) → two a b ≡ None) → NoThree a → one a ≡ Some k → (rest : List ℕ) → Begins (a ∷ rest) k 1
lone a k run p q e rest = one_begins (a ∷ rest) k (run rest) (none_of_three a rest q) (none_of_two a rest p) e

-- the first byte is a space
abbrev pub BeginsSpace : List ℕ → Type 0
BeginsSpace [] = ⊥
BeginsSpace (b ∷ bs) = b ≡ 32

-- it is no `=`
abbrev pub BeginsPlain : List ℕ → Type 0
BeginsPlain [] = ⊤
BeginsPlain (b ∷ bs) = (b == 61) ≡ false

plain_two : (a : ℕ) (rest : List ℕ) → ((b : ℕ) → (b == 61) ≡ false → two a b ≡ None) → BeginsPlain rest → two_at (a ∷ rest) ≡ None
plain_two a [] h p = refl
plain_two a (b ∷ rest) h p = h b p

-- a sign of one byte that goes on only with `=`
pub before_plain : (a : ℕ) (k : TokenKind) → ((rest : List ℕ) → prefix_len is_word_byte (a ∷ rest) ≡ 0) → ((b : ℕ) → (b == 61) ≡ false → two a b ≡ None) → NoThree a → one a ≡ Some k → (rest : List ℕ) → BeginsPlain rest → Begins (a ∷ rest) k 1
before_plain a k run p q e rest h = one_begins (a ∷ rest) k (run rest) (none_of_three a rest q) (plain_two a rest p h) e

three_space : (a : ℕ) (rest : List ℕ) → ((c : ℕ) → three a 32 c ≡ None) → three_at (a ∷ 32 ∷ rest) ≡ None
three_space a [] h = refl
three_space a (c ∷ rest) h = h c

-- signs before a space
pub one_spaced : (a : ℕ) (k : TokenKind) → ((rest : List ℕ) → prefix_len is_word_byte (a ∷ rest) ≡ 0) → two a 32 ≡ None → ((c : ℕ) → three a 32 c ≡ None) → one a ≡ Some k → (rest : List ℕ) → Begins (a ∷ 32 ∷ rest) k 1
one_spaced a k run p q e rest = one_begins (a ∷ 32 ∷ rest) k (run (32 ∷ rest)) (three_space a rest q) p e

pub two_spaced : (a b : ℕ) (k : TokenKind) → ((rest : List ℕ) → prefix_len is_word_byte (a ∷ rest) ≡ 0) → three a b 32 ≡ None → two a b ≡ Some k → (rest : List ℕ) → Begins (a ∷ b ∷ 32 ∷ rest) k 2
two_spaced a b k run q e rest = two_begins (a ∷ b ∷ 32 ∷ rest) k (run (b ∷ 32 ∷ rest)) q e

pub three_first : (a b c : ℕ) (k : TokenKind) → ((rest : List ℕ) → prefix_len is_word_byte (a ∷ rest) ≡ 0) → three a b c ≡ Some k → (rest : List ℕ) → Begins (a ∷ b ∷ c ∷ rest) k 3
three_first a b c k run e rest = three_begins (a ∷ b ∷ c ∷ rest) k (run (b ∷ c ∷ rest)) e
