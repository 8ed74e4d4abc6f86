-- The operators between two operands. Which of them binds more tightly is as in Python's reference,
-- "Operator precedence".
use Rattle.std.specs.Prelude.{ℕ, Option, Some, None}
use Rattle.lg_elem.specs.declared.kinds.Compare.{Compare}
use Rattle.lg_elem.specs.declared.kinds.Compare.TheVariants.{Eq, Ne, Lt, Le, Gt, Ge}
use Rattle.lg_lex.specs.declared.tokens.TokenKind.{TokenKind}
use Rattle.lg_lex.specs.declared.tokens.TokenKind.TheVariants.{
  DoubleStarEqual,
  DoubleSlashEqual,
  LeftShiftEqual,
  RightShiftEqual,
  PlusEqual,
  MinusEqual,
  StarEqual,
  PercentEqual,
  AmpersandEqual,
  BarEqual,
  CircumflexEqual,
  Plus,
  Minus,
  Star,
  DoubleSlash,
  Percent,
  At,
  Ampersand,
  Bar,
  Circumflex,
  LeftShift,
  RightShift,
  EqualEqual,
  NotEqual,
  Less,
  LessEqual,
  Greater,
  GreaterEqual,
}
use Rattle.lg_tree.specs.declared.kinds.Arith.{Arith}
use Rattle.lg_tree.specs.declared.kinds.Arith.TheVariants.{
  Add,
  Sub,
  Mul,
  FloorDiv,
  Rem,
  Pow,
  BitAnd,
  BitOr,
  BitXor,
  Shl,
  Shr,
}
use Rattle.lg_tree.specs.Tree.{Tree, arith, matmul}
use Rattle.lg_parse.specs.declared.operators.Operator.{Operator}
use Rattle.lg_parse.specs.declared.operators.Operator.TheVariants.{Each, Matrix}

-- The level and the operation of an operator. The lower its level, the more tightly it binds; those
-- of one level group from the left
abbrev pub operation : TokenKind → Option (ℕ × Operator)
operation Star = Some (1, Each Mul)
operation DoubleSlash = Some (1, Each FloorDiv)
operation Percent = Some (1, Each Rem)
operation At = Some (1, Matrix)
operation Plus = Some (2, Each Add)
operation Minus = Some (2, Each Sub)
operation LeftShift = Some (3, Each Shl)
operation RightShift = Some (3, Each Shr)
operation Ampersand = Some (4, Each BitAnd)
operation Circumflex = Some (5, Each BitXor)
operation Bar = Some (6, Each BitOr)
operation _ = None

-- the highest level
abbrev pub WIDEST : ℕ
WIDEST = 6

-- the operation on two operands
abbrev pub operated : Operator → Tree → Tree → Tree
operated (Each o) a b = arith o a b
operated Matrix a b = matmul a b

-- the comparison of an operator, which binds less tightly than any level
abbrev pub comparison : TokenKind → Option Compare
comparison EqualEqual = Some Eq
comparison NotEqual = Some Ne
comparison Less = Some Lt
comparison LessEqual = Some Le
comparison Greater = Some Gt
comparison GreaterEqual = Some Ge
comparison _ = None

-- the operation of an assigning operator
abbrev pub assigning : TokenKind → Option Arith
assigning PlusEqual = Some Add
assigning MinusEqual = Some Sub
assigning StarEqual = Some Mul
assigning DoubleSlashEqual = Some FloorDiv
assigning PercentEqual = Some Rem
assigning DoubleStarEqual = Some Pow
assigning AmpersandEqual = Some BitAnd
assigning BarEqual = Some BitOr
assigning CircumflexEqual = Some BitXor
assigning LeftShiftEqual = Some Shl
assigning RightShiftEqual = Some Shr
assigning _ = None
