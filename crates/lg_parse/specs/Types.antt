-- The type of a call's elements, which stands behind its arguments or is left out:
--
--     ["," type]
--     type = ["dtype" "="] TYPE
use Rattle.std.specs.Prelude.{Option, Some, None, List, ◌∷◌}
use Rattle.lg_elem.specs.declared.dtype.DType.{DType}
use Rattle.lg_lex.specs.declared.tokens.TokenKind.TheVariants.{Comma, Equal}
use Rattle.lg_parse.specs.declared.words.Word.TheVariants.{Dtype}
use Rattle.lg_parse.specs.Terminal.{Terminal, word, element, sign}

-- from the first terminals up to the second ones stands the optional type
pub data SpellsType : List Terminal → List Terminal → Option DType → Type 0 where
  no_type : {rest : List Terminal} → SpellsType rest rest None
  plain_type : {rest : List Terminal} (t : DType)
      → SpellsType (sign Comma ∷ element t ∷ rest) rest (Some t)
  named_type : {rest : List Terminal} (t : DType)
      → SpellsType (sign Comma ∷ word Dtype ∷ sign Equal ∷ element t ∷ rest) rest (Some t)
