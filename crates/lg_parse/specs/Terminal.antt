-- The terminals of the grammar: what the tokens of a line are to it.
use Rattle.std.specs.Prelude.{ℕ, List}
use Rattle.lg_elem.specs.declared.dtype.DType.{DType}
use Rattle.lg_lex.specs.declared.tokens.TokenKind.{TokenKind}
use Rattle.lg_parse.specs.declared.words.Word.{Word}
use Rattle.lg_parse.specs.declared.words.Function.{Function}

pub data Terminal : Type 0 where
  -- a word that is not reserved
  name : List ℕ → Terminal
  number : ℕ → Terminal
  -- a reserved word that stands for itself
  word : Word → Terminal
  -- the reserved word that names an element type
  element : DType → Terminal
  -- the reserved word of a function
  function : Function → Terminal
  -- an operator or a delimiter
  sign : TokenKind → Terminal
