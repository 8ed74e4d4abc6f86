-- The lexical grammar: which bytes make a token of each kind, and which token stands in front of
-- bytes. It is this project's own, a part of Python's.
use Rattle.std.specs.Prelude.{◌≡◌, ◌≤◌, ℕ, false, List, [], ◌∷◌, IsTrue, codes, decimal, ⊤, length, take, drop}
use Rattle.std.specs.List.{AllByRecursion}
use Rattle.lg_lex.specs.Bytes.{is_letter, is_word_byte}
use Rattle.lg_lex.specs.declared.tokens.TokenKind.{TokenKind}
use Rattle.lg_lex.specs.declared.tokens.TokenKind.TheVariants.{
  Word,
  Number,
  DoubleStarEqual,
  DoubleSlashEqual,
  LeftShiftEqual,
  RightShiftEqual,
  Ellipsis,
  DoubleStar,
  DoubleSlash,
  LeftShift,
  RightShift,
  LessEqual,
  GreaterEqual,
  EqualEqual,
  NotEqual,
  PlusEqual,
  MinusEqual,
  StarEqual,
  PercentEqual,
  AmpersandEqual,
  BarEqual,
  CircumflexEqual,
  Plus,
  Minus,
  Star,
  Percent,
  At,
  Ampersand,
  Bar,
  Circumflex,
  Tilde,
  Less,
  Greater,
  Equal,
  LeftParenthesis,
  RightParenthesis,
  LeftBracket,
  RightBracket,
  Comma,
  Colon,
  Dot,
}

-- a letter or `_`, and then letters, digits and `_`
abbrev pub IsWord : List ℕ → Type 0
IsWord [] = ⊥
IsWord (b ∷ bs) = IsTrue (is_letter b) × AllByRecursion (λ c. IsTrue (is_word_byte c)) bs

-- the greatest number, 2 ^ 64 - 1
abbrev pub MAX_NUMBER : ℕ
MAX_NUMBER = 18446744073709551615

-- the decimal digits of a number: `0`, or a digit from 1 to 9 and further digits
abbrev pub IsNumber : List ℕ → Type 0
IsNumber text = (n : ℕ) × ((n ≤ MAX_NUMBER) × (text ≡ decimal n))

-- the bytes that a token of this kind can have
abbrev pub HasText : TokenKind → List ℕ → Type 0
HasText Word text = IsWord text
HasText Number text = IsNumber text
HasText DoubleStarEqual text = text ≡ codes "**="
HasText DoubleSlashEqual text = text ≡ codes "//="
HasText LeftShiftEqual text = text ≡ codes "<<="
HasText RightShiftEqual text = text ≡ codes ">>="
HasText Ellipsis text = text ≡ codes "..."
HasText DoubleStar text = text ≡ codes "**"
HasText DoubleSlash text = text ≡ codes "//"
HasText LeftShift text = text ≡ codes "<<"
HasText RightShift text = text ≡ codes ">>"
HasText LessEqual text = text ≡ codes "<="
HasText GreaterEqual text = text ≡ codes ">="
HasText EqualEqual text = text ≡ codes "=="
HasText NotEqual text = text ≡ codes "!="
HasText PlusEqual text = text ≡ codes "+="
HasText MinusEqual text = text ≡ codes "-="
HasText StarEqual text = text ≡ codes "*="
HasText PercentEqual text = text ≡ codes "%="
HasText AmpersandEqual text = text ≡ codes "&="
HasText BarEqual text = text ≡ codes "|="
HasText CircumflexEqual text = text ≡ codes "^="
HasText Plus text = text ≡ codes "+"
HasText Minus text = text ≡ codes "-"
HasText Star text = text ≡ codes "*"
HasText Percent text = text ≡ codes "%"
HasText At text = text ≡ codes "@"
HasText Ampersand text = text ≡ codes "&"
HasText Bar text = text ≡ codes "|"
HasText Circumflex text = text ≡ codes "^"
HasText Tilde text = text ≡ codes "~"
HasText Less text = text ≡ codes "<"
HasText Greater text = text ≡ codes ">"
HasText Equal text = text ≡ codes "="
HasText LeftParenthesis text = text ≡ codes "("
HasText RightParenthesis text = text ≡ codes ")"
HasText LeftBracket text = text ≡ codes "["
HasText RightBracket text = text ≡ codes "]"
HasText Comma text = text ≡ codes ","
HasText Colon text = text ≡ codes ":"
HasText Dot text = text ≡ codes "."

-- the bytes begin with no letter, no digit and no `_`
abbrev pub BeginsApart : List ℕ → Type 0
BeginsApart [] = ⊤
BeginsApart (b ∷ bs) = is_word_byte b ≡ false

-- a number goes to the end of its run of digits, and no letter and no `_` stands behind it
abbrev pub EndsWhole : TokenKind → List ℕ → Type 0
EndsWhole Number rest = BeginsApart rest
EndsWhole kind rest = ⊤

-- so many bytes in front are a token of this kind: they have its text, and no token's text that
-- stands there is longer
pub record Begins (bytes : List ℕ) (kind : TokenKind) (count : ℕ) : Type 0 where
  pub within : count ≤ length bytes
  pub text : HasText kind (take count bytes)
  pub whole : EndsWhole kind (drop count bytes)
  pub longest : (other : TokenKind) (more : ℕ) → more ≤ length bytes
      → HasText other (take more bytes) → more ≤ count

-- no token stands in front
abbrev pub BeginsNone : List ℕ → Type 0
BeginsNone bytes = (kind : TokenKind) (count : ℕ) → Begins bytes kind count → ⊥
