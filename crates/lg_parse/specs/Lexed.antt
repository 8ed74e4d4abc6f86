-- The terminals that the tokens of a line are.
use Rattle.std.specs.Prelude.{ℕ, ◌-◌, Option, None, Some, List, map, take, drop}
use Rattle.std.specs.Str.Parse.{digits_value}
use Rattle.lg_lex.specs.declared.tokens.Token.{Token}
use Rattle.lg_lex.specs.declared.tokens.TokenKind.{TokenKind}
use Rattle.lg_lex.specs.declared.tokens.TokenKind.TheVariants.{Word, Number}
use Rattle.lg_parse.specs.declared.words.Keyword.{Keyword}
use Rattle.lg_parse.specs.declared.words.Keyword.TheVariants.{Itself, Element, Call}
use Rattle.lg_parse.specs.Terminal.{Terminal, name, number, word, element, function, sign}
use Rattle.lg_parse.specs.Keywords.{keyword_of}

-- a word, which may be reserved
abbrev pub word_from : Option Keyword → List ℕ → Terminal
word_from None text = name text
word_from (Some (Itself w)) text = word w
word_from (Some (Element t)) text = element t
word_from (Some (Call f)) text = function f

-- a token of this kind with this text
abbrev pub terminal_from : TokenKind → List ℕ → Terminal
terminal_from Word text = word_from (keyword_of text) text
terminal_from Number text = number (digits_value 10 text)
terminal_from k text = sign k

-- the token that stands in the line from its start to its end
abbrev pub terminal_at : List ℕ → Token → Terminal
terminal_at line t = terminal_from t.kind (take (t.end - t.start) (drop t.start line))

-- the tokens that stand in the line
abbrev pub terminals_of : List ℕ → List Token → List Terminal
terminals_of line tokens = map (terminal_at line) tokens
