-- What kind of token a text is: it is of one kind at most.
use Rattle.std.proofs.Common.{◌≡◌, ℕ, ◌<◌, ◌≤◌, Bool, true, false, cond, if◌then◌else◌, ◌&&◌, eqb, Option, None, Some, List, [], ◌∷◌, length, decimal, refl, sym, ap, ◌∙◌, subst, arith, IsTrue}
use Rattle.std.specs.Str.Parse.{AllDigits}
use Rattle.std.specs.List.{AllByRecursion}
use Rattle.std.proofs.lemmas.Bool.{and_parts, or_parts, cond-true, cond-false, eqb-true}
use Rattle.std.proofs.lemmas.Bool.Decides.{nat_tests}
use Rattle.lg_lex.specs.Bytes.{is_blank, is_letter, is_digit, is_word_byte}
use Rattle.lg_lex.specs.Lexical.{HasText, MAX_NUMBER}
use Rattle.lg_lex.specs.Operators.{three, two, one}
use Rattle.lg_lex.specs.declared.tokens.TokenKind.{TokenKind}
use Rattle.lg_lex.specs.declared.tokens.TokenKind.TheVariants.{
  Word,
  Number,
  DoubleStarEqual,
  DoubleSlashEqual,
  LeftShiftEqual,
  RightShiftEqual,
  Ellipsis,
  DoubleStar,
  DoubleSlash,
  LeftShift,
  RightShift,
  LessEqual,
  GreaterEqual,
  EqualEqual,
  NotEqual,
  PlusEqual,
  MinusEqual,
  StarEqual,
  PercentEqual,
  AmpersandEqual,
  BarEqual,
  CircumflexEqual,
  Plus,
  Minus,
  Star,
  Percent,
  At,
  Ampersand,
  Bar,
  Circumflex,
  Tilde,
  Less,
  Greater,
  Equal,
  LeftParenthesis,
  RightParenthesis,
  LeftBracket,
  RightBracket,
  Comma,
  Colon,
  Dot,
}
use Rattle.lg_lex.proofs.DecimalLemmas.{decimal_digits, decimal_some, digit_is}

abbrev pub AllWordBytes : List ℕ → Type 0
AllWordBytes bs = AllByRecursion (λ b. IsTrue (is_word_byte b)) bs

-- a byte that begins an operator
pub record IsSolid (b : ℕ) : Type 0 where
  pub apart : is_word_byte b ≡ false
  pub solid : is_blank b ≡ false

-- a text of a kind, by what it begins with and how long it is
pub data Class : TokenKind → List ℕ → Type 0 where
  a_word : (b : ℕ) (bs : List ℕ) → is_letter b ≡ true → AllWordBytes bs → Class Word (b ∷ bs)
  a_number : {text : List ℕ} (n : ℕ) → n ≤ MAX_NUMBER → text ≡ decimal n → Class Number text
  of_three : {k : TokenKind} {text : List ℕ} (a b c : ℕ) → text ≡ a ∷ b ∷ c ∷ [] → three a b c ≡ Some k → IsSolid a → Class k text
  of_two : {k : TokenKind} {text : List ℕ} (a b : ℕ) → text ≡ a ∷ b ∷ [] → two a b ≡ Some k → IsSolid a → Class k text
  of_one : {k : TokenKind} {text : List ℕ} (a : ℕ) → text ≡ a ∷ [] → one a ≡ Some k → IsSolid a → Class k text

abbrev sure : {b : ℕ} → is_word_byte b ≡ false → is_blank b ≡ false → IsSolid b
sure p q = record { apart = p; solid = q }

pub class_of : (k : TokenKind) (text : List ℕ) → HasText k text → Class k text
class_of Word [] h = absurd h
class_of Word (b ∷ bs) h = a_word b bs h.0 h.1
class_of Number text h = a_number h.0 h.1.0 h.1.1
class_of DoubleStarEqual text h = of_three 42 42 61 h refl (sure refl refl)
class_of DoubleSlashEqual text h = of_three 47 47 61 h refl (sure refl refl)
class_of LeftShiftEqual text h = of_three 60 60 61 h refl (sure refl refl)
class_of RightShiftEqual text h = of_three 62 62 61 h refl (sure refl refl)
class_of Ellipsis text h = of_three 46 46 46 h refl (sure refl refl)
class_of DoubleStar text h = of_two 42 42 h refl (sure refl refl)
class_of DoubleSlash text h = of_two 47 47 h refl (sure refl refl)
class_of LeftShift text h = of_two 60 60 h refl (sure refl refl)
class_of RightShift text h = of_two 62 62 h refl (sure refl refl)
class_of LessEqual text h = of_two 60 61 h refl (sure refl refl)
class_of GreaterEqual text h = of_two 62 61 h refl (sure refl refl)
class_of EqualEqual text h = of_two 61 61 h refl (sure refl refl)
class_of NotEqual text h = of_two 33 61 h refl (sure refl refl)
class_of PlusEqual text h = of_two 43 61 h refl (sure refl refl)
class_of MinusEqual text h = of_two 45 61 h refl (sure refl refl)
class_of StarEqual text h = of_two 42 61 h refl (sure refl refl)
class_of PercentEqual text h = of_two 37 61 h refl (sure refl refl)
class_of AmpersandEqual text h = of_two 38 61 h refl (sure refl refl)
class_of BarEqual text h = of_two 124 61 h refl (sure refl refl)
class_of CircumflexEqual text h = of_two 94 61 h refl (sure refl refl)
class_of Plus text h = of_one 43 h refl (sure refl refl)
class_of Minus text h = of_one 45 h refl (sure refl refl)
class_of Star text h = of_one 42 h refl (sure refl refl)
class_of Percent text h = of_one 37 h refl (sure refl refl)
class_of At text h = of_one 64 h refl (sure refl refl)
class_of Ampersand text h = of_one 38 h refl (sure refl refl)
class_of Bar text h = of_one 124 h refl (sure refl refl)
class_of Circumflex text h = of_one 94 h refl (sure refl refl)
class_of Tilde text h = of_one 126 h refl (sure refl refl)
class_of Less text h = of_one 60 h refl (sure refl refl)
class_of Greater text h = of_one 62 h refl (sure refl refl)
class_of Equal text h = of_one 61 h refl (sure refl refl)
class_of LeftParenthesis text h = of_one 40 h refl (sure refl refl)
class_of RightParenthesis text h = of_one 41 h refl (sure refl refl)
class_of LeftBracket text h = of_one 91 h refl (sure refl refl)
class_of RightBracket text h = of_one 93 h refl (sure refl refl)
class_of Comma text h = of_one 44 h refl (sure refl refl)
class_of Colon text h = of_one 58 h refl (sure refl refl)
class_of Dot text h = of_one 46 h refl (sure refl refl)

-- the operators in turn
if_some : (t : Bool) (k m : TokenKind) (r : Option TokenKind) (P : TokenKind → Type 0) → (t ≡ true → P k) → (r ≡ Some m → P m) → (if t then Some k else r) ≡ Some m → P m
if_some true k m r P f g e = let same : k ≡ m = cc in subst P same (f refl)
if_some false k m r P f g e = g e

one_is : (a x : ℕ) → eqb a x ≡ true → a ∷ [] ≡ x ∷ []
one_is a x t = ap (λ (z : ℕ). z ∷ []) (eqb-true a x t)

two_is : (a b x y : ℕ) → (eqb a x && eqb b y) ≡ true → a ∷ b ∷ [] ≡ x ∷ y ∷ []
two_is a b x y t =
    let h = and_parts (eqb a x) (eqb b y) t in
    ap (λ (z : ℕ). z ∷ b ∷ []) (eqb-true a x h.0) ∙ ap (λ (z : List ℕ). x ∷ z) (one_is b y h.1)

three_is : (a b c x y z : ℕ) → (eqb a x && (eqb b y && eqb c z)) ≡ true → a ∷ b ∷ c ∷ [] ≡ x ∷ y ∷ z ∷ []
three_is a b c x y z t =
    let h = and_parts (eqb a x) (eqb b y && eqb c z) t in
    ap (λ (v : ℕ). v ∷ b ∷ c ∷ []) (eqb-true a x h.0) ∙ ap (λ (v : List ℕ). x ∷ v) (two_is b c y z h.1)

none_some : (m : TokenKind) → None ≡ Some m → ⊥
none_some m e = cc

pub three_text : (a b c : ℕ) (m : TokenKind) → three a b c ≡ Some m → HasText m (a ∷ b ∷ c ∷ [])
three_text a b c m e =
    let P : TokenKind → Type 0 = λ (k : TokenKind). HasText k (a ∷ b ∷ c ∷ []) in
    if_some _ DoubleStarEqual m _ P (three_is a b c 42 42 61) (λ e0.
    if_some _ DoubleSlashEqual m _ P (three_is a b c 47 47 61) (λ e1.
    if_some _ LeftShiftEqual m _ P (three_is a b c 60 60 61) (λ e2.
    if_some _ RightShiftEqual m _ P (three_is a b c 62 62 61) (λ e3.
    if_some _ Ellipsis m _ P (three_is a b c 46 46 46) (λ e4.
    absurd (none_some m e4)) e3) e2) e1) e0) e

pub two_text : (a b : ℕ) (m : TokenKind) → two a b ≡ Some m → HasText m (a ∷ b ∷ [])
two_text a b m e =
    let P : TokenKind → Type 0 = λ (k : TokenKind). HasText k (a ∷ b ∷ []) in
    if_some _ DoubleStar m _ P (two_is a b 42 42) (λ e0.
    if_some _ DoubleSlash m _ P (two_is a b 47 47) (λ e1.
    if_some _ LeftShift m _ P (two_is a b 60 60) (λ e2.
    if_some _ RightShift m _ P (two_is a b 62 62) (λ e3.
    if_some _ LessEqual m _ P (two_is a b 60 61) (λ e4.
    if_some _ GreaterEqual m _ P (two_is a b 62 61) (λ e5.
    if_some _ EqualEqual m _ P (two_is a b 61 61) (λ e6.
    if_some _ NotEqual m _ P (two_is a b 33 61) (λ e7.
    if_some _ PlusEqual m _ P (two_is a b 43 61) (λ e8.
    if_some _ MinusEqual m _ P (two_is a b 45 61) (λ e9.
    if_some _ StarEqual m _ P (two_is a b 42 61) (λ e10.
    if_some _ PercentEqual m _ P (two_is a b 37 61) (λ e11.
    if_some _ AmpersandEqual m _ P (two_is a b 38 61) (λ e12.
    if_some _ BarEqual m _ P (two_is a b 124 61) (λ e13.
    if_some _ CircumflexEqual m _ P (two_is a b 94 61) (λ e14.
    absurd (none_some m e14)) e13) e12) e11) e10) e9) e8) e7) e6) e5) e4) e3) e2) e1) e0) e

pub one_text : (a : ℕ) (m : TokenKind) → one a ≡ Some m → HasText m (a ∷ [])
one_text a m e =
    let P : TokenKind → Type 0 = λ (k : TokenKind). HasText k (a ∷ []) in
    if_some _ Plus m _ P (one_is a 43) (λ e0.
    if_some _ Minus m _ P (one_is a 45) (λ e1.
    if_some _ Star m _ P (one_is a 42) (λ e2.
    if_some _ Percent m _ P (one_is a 37) (λ e3.
    if_some _ At m _ P (one_is a 64) (λ e4.
    if_some _ Ampersand m _ P (one_is a 38) (λ e5.
    if_some _ Bar m _ P (one_is a 124) (λ e6.
    if_some _ Circumflex m _ P (one_is a 94) (λ e7.
    if_some _ Tilde m _ P (one_is a 126) (λ e8.
    if_some _ Less m _ P (one_is a 60) (λ e9.
    if_some _ Greater m _ P (one_is a 62) (λ e10.
    if_some _ Equal m _ P (one_is a 61) (λ e11.
    if_some _ LeftParenthesis m _ P (one_is a 40) (λ e12.
    if_some _ RightParenthesis m _ P (one_is a 41) (λ e13.
    if_some _ LeftBracket m _ P (one_is a 91) (λ e14.
    if_some _ RightBracket m _ P (one_is a 93) (λ e15.
    if_some _ Comma m _ P (one_is a 44) (λ e16.
    if_some _ Colon m _ P (one_is a 58) (λ e17.
    if_some _ Dot m _ P (one_is a 46) (λ e18.
    absurd (none_some m e18)) e17) e16) e15) e14) e13) e12) e11) e10) e9) e8) e7) e6) e5) e4) e3) e2) e1) e0) e

-- the kind of a whole text
named : List ℕ → Option TokenKind
named [] = None
named (a ∷ []) = one a
named (a ∷ b ∷ []) = two a b
named (a ∷ b ∷ c ∷ []) = three a b c
named (a ∷ b ∷ c ∷ d ∷ bs) = None

abbrev by_head : List ℕ → ℕ → Option TokenKind
by_head text b = cond (is_letter b) (Some Word) (cond (is_digit b) (Some Number) (named text))

kind_at : List ℕ → Option TokenKind
kind_at [] = None
kind_at (b ∷ bs) = by_head (b ∷ bs) b

digit_no_letter : (b : ℕ) → is_digit b ≡ true → is_letter b ≡ false
digit_no_letter b h = grind (arith, nat_tests)

by_letter : (text : List ℕ) (b : ℕ) → is_letter b ≡ true → by_head text b ≡ Some Word
by_letter text b h = cond-true (is_letter b) _ _ h

by_digit : (text : List ℕ) (b : ℕ) → is_digit b ≡ true → by_head text b ≡ Some Number
by_digit text b h = cond-false (is_letter b) _ _ (digit_no_letter b h) ∙ cond-true (is_digit b) _ _ h

by_solid : (text : List ℕ) (b : ℕ) → IsSolid b → by_head text b ≡ named text
by_solid text b h =
    let parts = or_parts (is_letter b) (is_digit b) h.apart in
    cond-false (is_letter b) _ _ parts.0 ∙ cond-false (is_digit b) _ _ parts.1

pub digits_head : (ds : List ℕ) → 0 < length ds → AllDigits 10 ds → (b : ℕ) × (bs : List ℕ) × ((ds ≡ b ∷ bs) × (is_digit b ≡ true))
digits_head [] some h = absurd (omega arith)
digits_head (d ∷ ds) some h = (d, ds, (refl, digit_is d h.0))

kind_is : {k : TokenKind} {text : List ℕ} → Class k text → kind_at text ≡ Some k
unfolding kind_at named
kind_is (a_word b bs l h) = by_letter (b ∷ bs) b l
kind_is (a_number n low e) =
    let h = digits_head (decimal n) (decimal_some n low) (decimal_digits n low) in
    ap kind_at (e ∙ h.2.0) ∙ by_digit (h.0 ∷ h.1) h.0 h.2.1
kind_is (of_three a b c e h s) = ap kind_at e ∙ by_solid (a ∷ b ∷ c ∷ []) a s ∙ h
kind_is (of_two a b e h s) = ap kind_at e ∙ by_solid (a ∷ b ∷ []) a s ∙ h
kind_is (of_one a e h s) = ap kind_at e ∙ by_solid (a ∷ []) a s ∙ h

pub kind_once : (k m : TokenKind) (text : List ℕ) → HasText k text → HasText m text → k ≡ m
kind_once k m text h g =
    let e : Some k ≡ Some m = sym (kind_is (class_of k text h)) ∙ kind_is (class_of m text g) in
    cc
