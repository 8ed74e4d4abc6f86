-- The operator that stands in front of bytes, by its length.
use Rattle.std.specs.Prelude.{ℕ, List, [], ◌∷◌, Option, Some, None, if◌then◌else◌, ◌==◌, ◌&&◌}
use Rattle.lg_lex.specs.declared.tokens.TokenKind.{TokenKind}
use Rattle.lg_lex.specs.declared.tokens.TokenKind.TheVariants.{
  DoubleStarEqual,
  DoubleSlashEqual,
  LeftShiftEqual,
  RightShiftEqual,
  Ellipsis,
  DoubleStar,
  DoubleSlash,
  LeftShift,
  RightShift,
  LessEqual,
  GreaterEqual,
  EqualEqual,
  NotEqual,
  PlusEqual,
  MinusEqual,
  StarEqual,
  PercentEqual,
  AmpersandEqual,
  BarEqual,
  CircumflexEqual,
  Plus,
  Minus,
  Star,
  Percent,
  At,
  Ampersand,
  Bar,
  Circumflex,
  Tilde,
  Less,
  Greater,
  Equal,
  LeftParenthesis,
  RightParenthesis,
  LeftBracket,
  RightBracket,
  Comma,
  Colon,
  Dot,
}

-- the operator that these three bytes are
abbrev pub three : ℕ → ℕ → ℕ → Option TokenKind
three a b c =
    if a == 42 && (b == 42 && c == 61) then Some DoubleStarEqual
    else (if a == 47 && (b == 47 && c == 61) then Some DoubleSlashEqual
    else (if a == 60 && (b == 60 && c == 61) then Some LeftShiftEqual
    else (if a == 62 && (b == 62 && c == 61) then Some RightShiftEqual
    else (if a == 46 && (b == 46 && c == 46) then Some Ellipsis else None))))

-- the operator that these two bytes are
abbrev pub two : ℕ → ℕ → Option TokenKind
two a b =
    if a == 42 && b == 42 then Some DoubleStar
    else (if a == 47 && b == 47 then Some DoubleSlash
    else (if a == 60 && b == 60 then Some LeftShift
    else (if a == 62 && b == 62 then Some RightShift
    else (if a == 60 && b == 61 then Some LessEqual
    else (if a == 62 && b == 61 then Some GreaterEqual
    else (if a == 61 && b == 61 then Some EqualEqual
    else (if a == 33 && b == 61 then Some NotEqual
    else (if a == 43 && b == 61 then Some PlusEqual
    else (if a == 45 && b == 61 then Some MinusEqual
    else (if a == 42 && b == 61 then Some StarEqual
    else (if a == 37 && b == 61 then Some PercentEqual
    else (if a == 38 && b == 61 then Some AmpersandEqual
    else (if a == 124 && b == 61 then Some BarEqual
    else (if a == 94 && b == 61 then Some CircumflexEqual else None))))))))))))))

-- the operator that this byte is
abbrev pub one : ℕ → Option TokenKind
one b =
    if b == 43 then Some Plus
    else (if b == 45 then Some Minus
    else (if b == 42 then Some Star
    else (if b == 37 then Some Percent
    else (if b == 64 then Some At
    else (if b == 38 then Some Ampersand
    else (if b == 124 then Some Bar
    else (if b == 94 then Some Circumflex
    else (if b == 126 then Some Tilde
    else (if b == 60 then Some Less
    else (if b == 62 then Some Greater
    else (if b == 61 then Some Equal
    else (if b == 40 then Some LeftParenthesis
    else (if b == 41 then Some RightParenthesis
    else (if b == 91 then Some LeftBracket
    else (if b == 93 then Some RightBracket
    else (if b == 44 then Some Comma
    else (if b == 58 then Some Colon
    else (if b == 46 then Some Dot else None))))))))))))))))))

-- the same of the bytes in front
abbrev pub three_at : List ℕ → Option TokenKind
three_at [] = None
three_at (a ∷ []) = None
three_at (a ∷ b ∷ []) = None
three_at (a ∷ b ∷ c ∷ bytes) = three a b c

abbrev pub two_at : List ℕ → Option TokenKind
two_at [] = None
two_at (a ∷ []) = None
two_at (a ∷ b ∷ bytes) = two a b

abbrev pub one_at : List ℕ → Option TokenKind
one_at [] = None
one_at (b ∷ bytes) = one b
