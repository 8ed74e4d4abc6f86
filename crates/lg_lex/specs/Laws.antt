-- Laws of the tokens of a line.
use Rattle.std.specs.Prelude.{◌≡◌, ℕ, List}
use Rattle.lg_lex.specs.Line.{Reads, ReadsNone, IsFault}
use Rattle.lg_lex.specs.declared.tokens.Token.{Token}

-- a line is the whole of one list of tokens at most
abbrev pub ReadsOnce : Type 0
ReadsOnce = (line : List ℕ) (a b : List Token) → Reads line a → Reads line b → a ≡ b

-- a line is wrong at one place at most
abbrev pub FaultsOnce : Type 0
FaultsOnce = (line : List ℕ) (a b : ℕ) → IsFault line a → IsFault line b → a ≡ b

-- and where it is wrong somewhere, no tokens are the whole line
abbrev pub FaultsOrReads : Type 0
FaultsOrReads = (line : List ℕ) (place : ℕ) → IsFault line place → ReadsNone line
