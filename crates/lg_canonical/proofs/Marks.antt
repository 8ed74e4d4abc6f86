-- The signs of canonical text.
use Rattle.std.proofs.Common.{◌≡◌, ◌==◌, ◌&&◌, ℕ, ◌<◌, Bool, true, false, None, Some, List, [], ◌∷◌, ◌++◌, length, codes, refl, sym, ap, subst, arith, if◌then◌else◌}
use Rattle.std.specs.Prelude.{⊤}
use Rattle.lg_elem.specs.declared.kinds.Compare.{Compare}
use Rattle.lg_elem.specs.declared.kinds.Compare.TheVariants.{Eq, Ne, Lt, Le, Gt, Ge}
use Rattle.lg_tree.specs.declared.kinds.Arith.{Arith}
use Rattle.lg_tree.specs.declared.kinds.Arith.TheVariants.{Add, Sub, Mul, FloorDiv, Rem, Pow, BitAnd, BitOr, BitXor, Shl, Shr}
use Rattle.lg_lex.specs.Lexical.{Begins}
use Rattle.lg_lex.specs.Operators.{three_at, two_at}
use Rattle.lg_lex.specs.declared.tokens.TokenKind.{TokenKind}
use Rattle.lg_lex.specs.declared.tokens.TokenKind.TheVariants.{Plus, Minus, Star, DoubleSlash, Percent, DoubleStar, Ampersand, Bar, Circumflex, LeftShift, RightShift, PlusEqual, MinusEqual, StarEqual, DoubleSlashEqual, PercentEqual, DoubleStarEqual, AmpersandEqual, BarEqual, CircumflexEqual, LeftShiftEqual, RightShiftEqual, EqualEqual, NotEqual, Less, LessEqual, Greater, GreaterEqual, At, Equal, Tilde, Ellipsis, LeftParenthesis, RightParenthesis, LeftBracket, RightBracket, Comma, Colon, Dot}
use Rattle.lg_lex.proofs.FrontLemmas.{one_begins}
use Rattle.lg_text.specs.Words.{arith_text, compare_text}
use Rattle.lg_parse.specs.Terminal.{sign}
use Rattle.lg_parse.specs.Lexed.{terminal_from}
use Rattle.lg_canonical.proofs.Signs.{lone, BeginsSpace, BeginsPlain, before_plain, one_spaced, two_spaced, three_first}
use Rattle.lg_canonical.proofs.Words.{is_flat}
use Rattle.lg_canonical.proofs.Running.{Anything, Runs, lead, a_space, a_token}

-- ---- signs before anything

lone_sign : (a : ℕ) (k : TokenKind) → is_flat (a ∷ []) ≡ true → terminal_from k (a ∷ []) ≡ sign k → ((rest : List ℕ) → Begins (a ∷ rest) k 1) → Runs Anything (a ∷ []) (λ ts. sign k ∷ ts)
lone_sign a k flat e begins = a_token Anything k (a ∷ []) (sign k) flat (omega arith) e (λ rest p. begins rest)

pub opening : Runs Anything (codes "(") (λ ts. sign LeftParenthesis ∷ ts)
opening = lone_sign 40 LeftParenthesis refl refl (lone 40 LeftParenthesis (λ rest. refl) (λ b. refl) (λ b c. refl) refl)

pub closing : Runs Anything (codes ")") (λ ts. sign RightParenthesis ∷ ts)
closing = lone_sign 41 RightParenthesis refl refl (lone 41 RightParenthesis (λ rest. refl) (λ b. refl) (λ b c. refl) refl)

pub opening_bracket : Runs Anything (codes "[") (λ ts. sign LeftBracket ∷ ts)
opening_bracket = lone_sign 91 LeftBracket refl refl (lone 91 LeftBracket (λ rest. refl) (λ b. refl) (λ b c. refl) refl)

pub closing_bracket : Runs Anything (codes "]") (λ ts. sign RightBracket ∷ ts)
closing_bracket = lone_sign 93 RightBracket refl refl (lone 93 RightBracket (λ rest. refl) (λ b. refl) (λ b c. refl) refl)

pub comma : Runs Anything (codes ",") (λ ts. sign Comma ∷ ts)
comma = lone_sign 44 Comma refl refl (lone 44 Comma (λ rest. refl) (λ b. refl) (λ b c. refl) refl)

pub colon : Runs Anything (codes ":") (λ ts. sign Colon ∷ ts)
colon = lone_sign 58 Colon refl refl (lone 58 Colon (λ rest. refl) (λ b. refl) (λ b c. refl) refl)

pub tilde : Runs Anything (codes "~") (λ ts. sign Tilde ∷ ts)
tilde = lone_sign 126 Tilde refl refl (lone 126 Tilde (λ rest. refl) (λ b. refl) (λ b c. refl) refl)

-- a comma and a space
pub comma_space : Runs Anything (codes ", ") (λ ts. sign Comma ∷ ts)
comma_space = lead comma a_space

pub dots : Runs Anything (codes "...") (λ ts. sign Ellipsis ∷ ts)
dots = a_token Anything Ellipsis (46 ∷ 46 ∷ 46 ∷ []) (sign Ellipsis) refl (omega arith) refl (λ rest p. three_first 46 46 46 Ellipsis (λ more. refl) refl rest)

-- ---- signs before bytes that do not begin with `=`

plain_sign : (a : ℕ) (k : TokenKind) → is_flat (a ∷ []) ≡ true → terminal_from k (a ∷ []) ≡ sign k → ((rest : List ℕ) → BeginsPlain rest → Begins (a ∷ rest) k 1) → Runs BeginsPlain (a ∷ []) (λ ts. sign k ∷ ts)
plain_sign a k flat e begins = a_token BeginsPlain k (a ∷ []) (sign k) flat (omega arith) e (λ rest p. begins rest p)

pub minus : Runs BeginsPlain (codes "-") (λ ts. sign Minus ∷ ts)
minus = plain_sign 45 Minus refl refl (before_plain 45 Minus (λ rest. refl) (λ b h. ap (λ (t : Bool). if t then Some MinusEqual else None) h) (λ b c. refl) refl)

pub equal : Runs BeginsPlain (codes "=") (λ ts. sign Equal ∷ ts)
equal = plain_sign 61 Equal refl refl (before_plain 61 Equal (λ rest. refl) (λ b h. ap (λ (t : Bool). if t then Some EqualEqual else None) h) (λ b c. refl) refl)

-- ---- the dot before a method

abbrev pub BeginsUndotted : List ℕ → Type 0
BeginsUndotted [] = ⊤
BeginsUndotted (b ∷ bs) = (b == 46) ≡ false

undotted_three : (rest : List ℕ) → BeginsUndotted rest → three_at (46 ∷ rest) ≡ None
undotted_three [] h = refl
undotted_three (b ∷ []) h = refl
undotted_three (b ∷ c ∷ rest) h = ap (λ (t : Bool). if t && (c == 46) then Some Ellipsis else None) h

undotted_two : (rest : List ℕ) → two_at (46 ∷ rest) ≡ None
undotted_two [] = refl
undotted_two (b ∷ rest) = refl

pub dot : Runs BeginsUndotted (codes ".") (λ ts. sign Dot ∷ ts)
dot = a_token BeginsUndotted Dot (46 ∷ []) (sign Dot) refl (omega arith) refl (λ rest p. one_begins (46 ∷ rest) Dot refl (undotted_three rest p) (undotted_two rest) refl)

-- ---- signs before a space

before_space : (text : List ℕ) (k : TokenKind) → ((rest : List ℕ) → Begins (text ++ (32 ∷ rest)) k (length text)) → (rest : List ℕ) → BeginsSpace rest → Begins (text ++ rest) k (length text)
before_space text k begins [] p = absurd p
before_space text k begins (b ∷ rest) p = subst (λ (c : ℕ). Begins (text ++ (c ∷ rest)) k (length text)) (sym p) (begins rest)

spaced : (text : List ℕ) (k : TokenKind) → is_flat text ≡ true → 0 < length text → terminal_from k text ≡ sign k → ((rest : List ℕ) → Begins (text ++ (32 ∷ rest)) k (length text)) → Runs BeginsSpace text (λ ts. sign k ∷ ts)
spaced text k flat some e begins = a_token BeginsSpace k text (sign k) flat some e (before_space text k begins)

pub equal_spaced : Runs BeginsSpace (codes "=") (λ ts. sign Equal ∷ ts)
equal_spaced = spaced (61 ∷ []) Equal refl (omega arith) refl (one_spaced 61 Equal (λ rest. refl) refl (λ c. refl) refl)

pub at_spaced : Runs BeginsSpace (codes "@") (λ ts. sign At ∷ ts)
at_spaced = spaced (64 ∷ []) At refl (omega arith) refl (one_spaced 64 At (λ rest. refl) refl (λ c. refl) refl)

-- the sign of an operation
abbrev pub arith_sign : Arith → TokenKind
arith_sign Add = Plus
arith_sign Sub = Minus
arith_sign Mul = Star
arith_sign FloorDiv = DoubleSlash
arith_sign Rem = Percent
arith_sign Pow = DoubleStar
arith_sign BitAnd = Ampersand
arith_sign BitOr = Bar
arith_sign BitXor = Circumflex
arith_sign Shl = LeftShift
arith_sign Shr = RightShift

pub arith_spaced : (o : Arith) → Runs BeginsSpace (arith_text o) (λ ts. sign (arith_sign o) ∷ ts)
arith_spaced Add = spaced (43 ∷ []) Plus refl (omega arith) refl (one_spaced 43 Plus (λ rest. refl) refl (λ c. refl) refl)
arith_spaced Sub = spaced (45 ∷ []) Minus refl (omega arith) refl (one_spaced 45 Minus (λ rest. refl) refl (λ c. refl) refl)
arith_spaced Mul = spaced (42 ∷ []) Star refl (omega arith) refl (one_spaced 42 Star (λ rest. refl) refl (λ c. refl) refl)
arith_spaced FloorDiv = spaced (47 ∷ 47 ∷ []) DoubleSlash refl (omega arith) refl (two_spaced 47 47 DoubleSlash (λ rest. refl) refl refl)
arith_spaced Rem = spaced (37 ∷ []) Percent refl (omega arith) refl (one_spaced 37 Percent (λ rest. refl) refl (λ c. refl) refl)
arith_spaced Pow = spaced (42 ∷ 42 ∷ []) DoubleStar refl (omega arith) refl (two_spaced 42 42 DoubleStar (λ rest. refl) refl refl)
arith_spaced BitAnd = spaced (38 ∷ []) Ampersand refl (omega arith) refl (one_spaced 38 Ampersand (λ rest. refl) refl (λ c. refl) refl)
arith_spaced BitOr = spaced (124 ∷ []) Bar refl (omega arith) refl (one_spaced 124 Bar (λ rest. refl) refl (λ c. refl) refl)
arith_spaced BitXor = spaced (94 ∷ []) Circumflex refl (omega arith) refl (one_spaced 94 Circumflex (λ rest. refl) refl (λ c. refl) refl)
arith_spaced Shl = spaced (60 ∷ 60 ∷ []) LeftShift refl (omega arith) refl (two_spaced 60 60 LeftShift (λ rest. refl) refl refl)
arith_spaced Shr = spaced (62 ∷ 62 ∷ []) RightShift refl (omega arith) refl (two_spaced 62 62 RightShift (λ rest. refl) refl refl)

-- and of its assigning operator
abbrev pub assigning_sign : Arith → TokenKind
assigning_sign Add = PlusEqual
assigning_sign Sub = MinusEqual
assigning_sign Mul = StarEqual
assigning_sign FloorDiv = DoubleSlashEqual
assigning_sign Rem = PercentEqual
assigning_sign Pow = DoubleStarEqual
assigning_sign BitAnd = AmpersandEqual
assigning_sign BitOr = BarEqual
assigning_sign BitXor = CircumflexEqual
assigning_sign Shl = LeftShiftEqual
assigning_sign Shr = RightShiftEqual

pub assigning_spaced : (o : Arith) → Runs BeginsSpace (arith_text o ++ codes "=") (λ ts. sign (assigning_sign o) ∷ ts)
assigning_spaced Add = spaced (43 ∷ 61 ∷ []) PlusEqual refl (omega arith) refl (two_spaced 43 61 PlusEqual (λ rest. refl) refl refl)
assigning_spaced Sub = spaced (45 ∷ 61 ∷ []) MinusEqual refl (omega arith) refl (two_spaced 45 61 MinusEqual (λ rest. refl) refl refl)
assigning_spaced Mul = spaced (42 ∷ 61 ∷ []) StarEqual refl (omega arith) refl (two_spaced 42 61 StarEqual (λ rest. refl) refl refl)
assigning_spaced FloorDiv = spaced (47 ∷ 47 ∷ 61 ∷ []) DoubleSlashEqual refl (omega arith) refl (λ rest. three_first 47 47 61 DoubleSlashEqual (λ more. refl) refl (32 ∷ rest))
assigning_spaced Rem = spaced (37 ∷ 61 ∷ []) PercentEqual refl (omega arith) refl (two_spaced 37 61 PercentEqual (λ rest. refl) refl refl)
assigning_spaced Pow = spaced (42 ∷ 42 ∷ 61 ∷ []) DoubleStarEqual refl (omega arith) refl (λ rest. three_first 42 42 61 DoubleStarEqual (λ more. refl) refl (32 ∷ rest))
assigning_spaced BitAnd = spaced (38 ∷ 61 ∷ []) AmpersandEqual refl (omega arith) refl (two_spaced 38 61 AmpersandEqual (λ rest. refl) refl refl)
assigning_spaced BitOr = spaced (124 ∷ 61 ∷ []) BarEqual refl (omega arith) refl (two_spaced 124 61 BarEqual (λ rest. refl) refl refl)
assigning_spaced BitXor = spaced (94 ∷ 61 ∷ []) CircumflexEqual refl (omega arith) refl (two_spaced 94 61 CircumflexEqual (λ rest. refl) refl refl)
assigning_spaced Shl = spaced (60 ∷ 60 ∷ 61 ∷ []) LeftShiftEqual refl (omega arith) refl (λ rest. three_first 60 60 61 LeftShiftEqual (λ more. refl) refl (32 ∷ rest))
assigning_spaced Shr = spaced (62 ∷ 62 ∷ 61 ∷ []) RightShiftEqual refl (omega arith) refl (λ rest. three_first 62 62 61 RightShiftEqual (λ more. refl) refl (32 ∷ rest))

-- the sign of a comparison
abbrev pub compare_sign : Compare → TokenKind
compare_sign Eq = EqualEqual
compare_sign Ne = NotEqual
compare_sign Lt = Less
compare_sign Le = LessEqual
compare_sign Gt = Greater
compare_sign Ge = GreaterEqual

pub compare_spaced : (o : Compare) → Runs BeginsSpace (compare_text o) (λ ts. sign (compare_sign o) ∷ ts)
compare_spaced Eq = spaced (61 ∷ 61 ∷ []) EqualEqual refl (omega arith) refl (two_spaced 61 61 EqualEqual (λ rest. refl) refl refl)
compare_spaced Ne = spaced (33 ∷ 61 ∷ []) NotEqual refl (omega arith) refl (two_spaced 33 61 NotEqual (λ rest. refl) refl refl)
compare_spaced Lt = spaced (60 ∷ []) Less refl (omega arith) refl (one_spaced 60 Less (λ rest. refl) refl (λ c. refl) refl)
compare_spaced Le = spaced (60 ∷ 61 ∷ []) LessEqual refl (omega arith) refl (two_spaced 60 61 LessEqual (λ rest. refl) refl refl)
compare_spaced Gt = spaced (62 ∷ []) Greater refl (omega arith) refl (one_spaced 62 Greater (λ rest. refl) refl (λ c. refl) refl)
compare_spaced Ge = spaced (62 ∷ 61 ∷ []) GreaterEqual refl (omega arith) refl (two_spaced 62 61 GreaterEqual (λ rest. refl) refl refl)
