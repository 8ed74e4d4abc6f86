-- How deep brackets nest. The limit is this project's own.
use Rattle.std.specs.Prelude.{◌≡◌, ℕ, ◌+◌, ◌≤◌, List, [], ◌∷◌, ◌++◌}
use Rattle.lg_lex.specs.declared.tokens.TokenKind.{TokenKind}
use Rattle.lg_lex.specs.declared.tokens.TokenKind.TheVariants.{
  LeftParenthesis,
  RightParenthesis,
  LeftBracket,
  RightBracket,
}
use Rattle.lg_parse.specs.Terminal.{Terminal, sign}

-- how many brackets a sign opens
abbrev pub opens : TokenKind → ℕ
opens LeftParenthesis = 1
opens LeftBracket = 1
opens _ = 0

-- how many it closes
abbrev pub closes : TokenKind → ℕ
closes RightParenthesis = 1
closes RightBracket = 1
closes _ = 0

-- how many brackets one terminal opens
abbrev pub opened_by : Terminal → ℕ
opened_by (sign k) = opens k
opened_by _ = 0

-- how many it closes
abbrev pub closed_by : Terminal → ℕ
closed_by (sign k) = closes k
closed_by _ = 0

-- how many brackets the terminals open
abbrev pub opened : List Terminal → ℕ
opened [] = 0
opened (t ∷ ts) = opened_by t + opened ts

-- how many they close
abbrev pub closed : List Terminal → ℕ
closed [] = 0
closed (t ∷ ts) = closed_by t + closed ts

-- at no place are so many brackets open and one more
abbrev pub NestsAtMost : ℕ → List Terminal → Type 0
NestsAtMost most ts = (front rest : List Terminal) → ts ≡ front ++ rest
    → opened front ≤ most + closed front

-- the greatest number of brackets that may be open
abbrev pub MAX_NESTING : ℕ
MAX_NESTING = 64
