-- Long lines for the worked examples of the limits.
use Rattle.std.specs.Prelude.{ℕ, zero, suc, List, [], ◌∷◌}
use Rattle.lg_lex.specs.declared.tokens.TokenKind.{TokenKind}
use Rattle.lg_lex.specs.declared.tokens.TokenKind.TheVariants.{Minus, LeftParenthesis, RightParenthesis}
use Rattle.lg_tree.specs.Tree.{Tree, number, neg}
use Rattle.lg_parse.specs.declared.words.Word.TheVariants.{Print}
use Rattle.lg_parse.specs.Terminal.{Terminal, word, sign}
use Rattle.lg_parse.specs.Terminal as t

-- a sign so many times, and then what stands behind
abbrev pub many : ℕ → TokenKind → List Terminal → List Terminal
many zero k ts = ts
many (suc n) k ts = sign k ∷ many n k ts

-- `print((1))`, with so many parentheses
abbrev pub nested : ℕ → List Terminal
nested n = word Print ∷ many n LeftParenthesis (t.number 1 ∷ many n RightParenthesis [])

-- `print(--1)`, with so many signs
abbrev pub negated : ℕ → List Terminal
negated n = word Print ∷ sign LeftParenthesis ∷ many n Minus (t.number 1 ∷ sign RightParenthesis ∷ [])

-- its tree
abbrev pub negative : ℕ → Tree
negative zero = number 1
negative (suc n) = neg (negative n)
