-- The tokens of a line, and where a line that has none is wrong. Blanks between tokens, before the
-- first and after the last one are skipped, and so is a comment behind them.
use Rattle.std.specs.Prelude.{◌≡◌, ℕ, ◌-◌, ◌<◌, ◌≤◌, ◌⊎◌, false, List, [], ◌∷◌, IsTrue, length, drop, slice_index, ⊤}
use Rattle.lg_lex.specs.Bytes.{is_blank, begins_comment}
use Rattle.lg_lex.specs.Lexical.{Begins, BeginsNone}
use Rattle.lg_lex.specs.declared.tokens.Token.{Token}
use Rattle.lg_lex.specs.declared.tokens.TokenKind.{TokenKind}
use Rattle.lg_lex.specs.declared.tokens.LexEnd.{LexEnd}
use Rattle.lg_lex.specs.declared.tokens.LexEnd.TheVariants.{Fault, NoMemory}

-- a token of this kind, from its start to its end
abbrev pub token : TokenKind → ℕ → ℕ → Token
token kind start end = record { kind = kind; start = start; end = end }

-- from one place to another stand blanks alone
pub record IsBlank (line : List ℕ) (from to : ℕ) : Type 0 where
  pub forward : from ≤ to
  pub blank : (place : ℕ) → from ≤ place → place < to → IsTrue (is_blank (slice_index line place))

-- the token stands in the line, from its start to its end
pub record Stands (line : List ℕ) (t : Token) : Type 0 where
  pub forward : t.start < t.end
  pub within : t.end ≤ length line
  pub begins : Begins (drop t.start line) t.kind (t.end - t.start)

-- from one place to another stand these tokens, with blanks before, between and after them
abbrev pub Holds : List ℕ → ℕ → List Token → ℕ → Type 0
Holds line from [] to = IsBlank line from to
Holds line from (t ∷ tokens) to = IsBlank line from t.start × Stands line t
    × Holds line t.end tokens to

-- here the line ends, or a comment begins, which goes to the end of the line and may have any bytes
abbrev pub EndsAt : List ℕ → ℕ → Type 0
EndsAt line place = (place ≡ length line)
    ⊎ ((place < length line) × IsTrue (begins_comment (slice_index line place)))

-- the whole line is these tokens, with blanks, and perhaps a comment behind them
pub record Reads (line : List ℕ) (tokens : List Token) : Type 0 where
  pub end : ℕ
  pub holds : Holds line 0 tokens end
  pub ends : EndsAt line end

-- no tokens are the whole line
abbrev pub ReadsNone : List ℕ → Type 0
ReadsNone line = (tokens : List Token) → Reads line tokens → ⊥

-- behind tokens and blanks stands at this place a byte that is no blank and begins no comment and
-- no token
pub record IsFault (line : List ℕ) (place : ℕ) : Type 0 where
  pub front : List Token
  pub holds : Holds line 0 front place
  pub inside : place < length line
  pub solid : is_blank (slice_index line place) ≡ false
  pub plain : begins_comment (slice_index line place) ≡ false
  pub none : BeginsNone (drop place line)

-- what it says of a line that reading it ended so
abbrev pub EndsLexing : List ℕ → LexEnd → Type 0
EndsLexing line (Fault place) = IsFault line place
EndsLexing line NoMemory = ⊤

-- and of its tokens
abbrev pub HasNone : List ℕ → LexEnd → Type 0
HasNone line (Fault place) = ReadsNone line
HasNone line NoMemory = ⊤
