-- With which terminals an expression can begin.
use Rattle.std.proofs.Common.{◌≡◌, Bool, true, false, ◌||◌, List, [], ◌∷◌, refl}
use Rattle.lg_lex.specs.declared.tokens.TokenKind.{TokenKind}
use Rattle.lg_lex.specs.declared.tokens.TokenKind.TheVariants.{Minus, Tilde, Comma, Colon, Ellipsis, LeftParenthesis, RightParenthesis, LeftBracket, RightBracket}
use Rattle.lg_tree.specs.Tree.{Tree}
use Rattle.lg_parse.specs.declared.words.Word.{Word}
use Rattle.lg_parse.specs.declared.words.Word.TheVariants.{True, False, NewAxis, Axis, Dtype, Load}
use Rattle.lg_parse.specs.Terminal.{Terminal, word, element, function, sign}
use Rattle.lg_parse.specs.Terminal as t
use Rattle.lg_parse.specs.Expressions.{Form, Spells, uncompared, compared, tightest, single, joined, negative, inverted, unsigned, alone, raised, bare, suffixed, a_number, a_truth, a_falsehood, a_name, enclosed, a_call}
use Rattle.lg_parse.specs.Parsing.{same_kind, same_word, sees, sees_word, sees_type, has_comma, sees_tuple, sees_end}
use Rattle.lg_parse.proofs.Passing.{spans}

abbrev pub starts_word : Word → Bool
starts_word True = true
starts_word False = true
starts_word _ = false

abbrev pub starts_sign : TokenKind → Bool
starts_sign Minus = true
starts_sign Tilde = true
starts_sign LeftParenthesis = true
starts_sign _ = false

abbrev pub starts : List Terminal → Bool
starts [] = false
starts (t.name w ∷ ts) = true
starts (t.number n ∷ ts) = true
starts (word w ∷ ts) = starts_word w
starts (element d ∷ ts) = false
starts (function f ∷ ts) = true
starts (sign k ∷ ts) = starts_sign k

-- how an expression begins
pub begins : {f : Form} {ts rest : List Terminal} {e : Tree} → Spells f ts rest e → starts ts ≡ true
begins (uncompared d) = begins d
begins (compared k o h d e) = begins d
begins (tightest d) = begins d
begins (single d) = begins d
begins (joined k o h d e) = begins d
begins (negative d) = refl
begins (inverted d) = refl
begins (unsigned d) = begins d
begins (alone d) = begins d
begins (raised d e) = begins d
begins (bare d) = begins d
begins (suffixed d s) = begins d
begins (a_number n) = refl
begins a_truth = refl
begins a_falsehood = refl
begins (a_name w) = refl
begins (enclosed d) = refl
begins (a_call c) = refl

-- a sign with which none begins
pub record IsBehind (k : TokenKind) : Type 0 where
  pub none : (j : TokenKind) → starts_sign j ≡ true → same_kind j k ≡ false

not_comma : (j : TokenKind) → starts_sign j ≡ true → same_kind j Comma ≡ false
unfolding same_kind
not_comma Comma h = absurd (cc)
not_comma _ h = refl

not_colon : (j : TokenKind) → starts_sign j ≡ true → same_kind j Colon ≡ false
unfolding same_kind
not_colon Colon h = absurd (cc)
not_colon _ h = refl

not_ellipsis : (j : TokenKind) → starts_sign j ≡ true → same_kind j Ellipsis ≡ false
unfolding same_kind
not_ellipsis Ellipsis h = absurd (cc)
not_ellipsis _ h = refl

not_closing : (j : TokenKind) → starts_sign j ≡ true → same_kind j RightParenthesis ≡ false
unfolding same_kind
not_closing RightParenthesis h = absurd (cc)
not_closing _ h = refl

not_opening : (j : TokenKind) → starts_sign j ≡ true → same_kind j LeftBracket ≡ false
unfolding same_kind
not_opening LeftBracket h = absurd (cc)
not_opening _ h = refl

not_bracket : (j : TokenKind) → starts_sign j ≡ true → same_kind j RightBracket ≡ false
unfolding same_kind
not_bracket RightBracket h = absurd (cc)
not_bracket _ h = refl

pub comma_behind : IsBehind Comma
comma_behind = record { none = not_comma }

pub colon_behind : IsBehind Colon
colon_behind = record { none = not_colon }

pub ellipsis_behind : IsBehind Ellipsis
ellipsis_behind = record { none = not_ellipsis }

pub parenthesis_behind : IsBehind RightParenthesis
parenthesis_behind = record { none = not_closing }

pub opening_behind : IsBehind LeftBracket
opening_behind = record { none = not_opening }

pub bracket_behind : IsBehind RightBracket
bracket_behind = record { none = not_bracket }

pub unseen : (k : TokenKind) → IsBehind k → (ts : List Terminal) → starts ts ≡ true → sees k ts ≡ false
unseen k b [] h = refl
unseen k b (t.name w ∷ ts) h = refl
unseen k b (t.number n ∷ ts) h = refl
unseen k b (word w ∷ ts) h = refl
unseen k b (element d ∷ ts) h = refl
unseen k b (function f ∷ ts) h = refl
unseen k b (sign j ∷ ts) h = b.none j h

axis_word : (w : Word) → starts_word w ≡ true → same_word w Axis ≡ false
unfolding same_word
axis_word True h = refl
axis_word False h = refl
axis_word _ h = absurd (cc)

new_word : (w : Word) → starts_word w ≡ true → same_word w NewAxis ≡ false
unfolding same_word
new_word True h = refl
new_word False h = refl
new_word _ h = absurd (cc)

type_word : (w : Word) → starts_word w ≡ true → same_word w Dtype ≡ false
unfolding same_word
type_word True h = refl
type_word False h = refl
type_word _ h = absurd (cc)

load_word : (w : Word) → starts_word w ≡ true → same_word w Load ≡ false
unfolding same_word
load_word True h = refl
load_word False h = refl
load_word _ h = absurd (cc)

word_unseen : (v : Word) → ((w : Word) → starts_word w ≡ true → same_word w v ≡ false) → (ts : List Terminal) → starts ts ≡ true → sees_word v ts ≡ false
word_unseen v b [] h = refl
word_unseen v b (t.name w ∷ ts) h = refl
word_unseen v b (t.number n ∷ ts) h = refl
word_unseen v b (word w ∷ ts) h = b w h
word_unseen v b (element d ∷ ts) h = refl
word_unseen v b (function f ∷ ts) h = refl
word_unseen v b (sign k ∷ ts) h = refl

pub no_axis_word : (ts : List Terminal) → starts ts ≡ true → sees_word Axis ts ≡ false
no_axis_word = word_unseen Axis axis_word

pub no_new_word : (ts : List Terminal) → starts ts ≡ true → sees_word NewAxis ts ≡ false
no_new_word = word_unseen NewAxis new_word

pub no_load_word : (ts : List Terminal) → starts ts ≡ true → sees_word Load ts ≡ false
no_load_word = word_unseen Load load_word

pub no_type_front : (ts : List Terminal) → starts ts ≡ true → sees_type ts ≡ false
no_type_front [] h = refl
no_type_front (t.name w ∷ ts) h = refl
no_type_front (t.number n ∷ ts) h = refl
no_type_front (word w ∷ ts) h = type_word w h
no_type_front (element d ∷ ts) h = absurd (cc)
no_type_front (function f ∷ ts) h = refl
no_type_front (sign k ∷ ts) h = refl

-- ---- an expression is no tuple

-- in the parentheses in front, if there are some, stand an expression and no comma
abbrev pub Leads : List Terminal → Type 0
Leads (sign LeftParenthesis ∷ ts) = (has_comma ts 0 ≡ false) × (starts ts ≡ true)
Leads _ = Unit {0}

pub leads : {f : Form} {ts rest : List Terminal} {e : Tree} → Spells f ts rest e → Leads ts
leads (uncompared d) = leads d
leads (compared k o h d e) = leads d
leads (tightest d) = leads d
leads (single d) = leads d
leads (joined k o h d e) = leads d
leads (negative d) = tt
leads (inverted d) = tt
leads (unsigned d) = leads d
leads (alone d) = leads d
leads (raised d e) = leads d
leads (bare d) = leads d
leads (suffixed d s) = leads d
leads (a_number n) = tt
leads a_truth = tt
leads a_falsehood = tt
leads (a_name w) = tt
leads (enclosed d) = ((spans d).outside 0, begins d)
leads (a_call c) = tt

or_false : (a b : Bool) → a ≡ false → b ≡ false → (a || b) ≡ false
or_false true b p q = absurd (cc)
or_false false b p q = q

no_tuple_sign : (k : TokenKind) (ts : List Terminal) → Leads (sign k ∷ ts) → sees_tuple (sign k ∷ ts) ≡ false
unfolding same_kind
no_tuple_sign LeftParenthesis ts l = or_false (sees RightParenthesis ts) (has_comma ts 0) (unseen RightParenthesis parenthesis_behind ts l.1) l.0
no_tuple_sign _ ts l = refl

pub no_tuple : (ts : List Terminal) → Leads ts → sees_tuple ts ≡ false
no_tuple [] l = refl
no_tuple (t.name w ∷ ts) l = refl
no_tuple (t.number n ∷ ts) l = refl
no_tuple (word w ∷ ts) l = refl
no_tuple (element d ∷ ts) l = refl
no_tuple (function f ∷ ts) l = refl
no_tuple (sign k ∷ ts) l = no_tuple_sign k ts l

or_right : (a b : Bool) → b ≡ true → (a || b) ≡ true
or_right true b q = refl
or_right false b q = q

-- and a tuple is told by its comma
pub a_tuple_front : (ts : List Terminal) → has_comma ts 0 ≡ true → sees_tuple (sign LeftParenthesis ∷ ts) ≡ true
unfolding same_kind
a_tuple_front ts h = or_right (sees RightParenthesis ts) (has_comma ts 0) h

pub an_empty_front : (ts : List Terminal) → sees_tuple (sign LeftParenthesis ∷ sign RightParenthesis ∷ ts) ≡ true
unfolding same_kind
an_empty_front ts = refl

-- where a part of a slice is left out
pub no_end : (ts : List Terminal) → starts ts ≡ true → sees_end ts ≡ false
no_end ts h = or_false (sees Colon ts) (sees Comma ts || sees RightBracket ts) (unseen Colon colon_behind ts h) (or_false (sees Comma ts) (sees RightBracket ts) (unseen Comma comma_behind ts h) (unseen RightBracket bracket_behind ts h))
