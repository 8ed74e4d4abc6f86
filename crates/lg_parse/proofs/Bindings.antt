-- How tightly the terminal in front binds to what stands before it, and what the steps of the parser
-- reach.
use Rattle.std.proofs.Common.{◌≡◌, ℕ, suc, ◌<◌, ◌≤◌, Bool, true, false, cond, eqb, nat_le, Option, Some, None, List, [], ◌∷◌, refl, ap, ◌∙◌, arith, rules}
use Rattle.std.proofs.lemmas.Bool.{eqb-true, le-leb}
use Rattle.lg_elem.specs.declared.kinds.Compare.{Compare}
use Rattle.lg_lex.specs.declared.tokens.TokenKind.{TokenKind}
use Rattle.lg_lex.specs.declared.tokens.TokenKind.TheVariants.{Word, Dot, LeftBracket, DoubleStar, Star, DoubleSlash, Percent, At, Plus, Minus, LeftShift, RightShift, Ampersand, Circumflex, Bar, EqualEqual, NotEqual, Less, LessEqual, Greater, GreaterEqual}
use Rattle.lg_parse.specs.declared.operators.Operator.{Operator}
use Rattle.lg_parse.specs.declared.words.Word.{Word as Reserved}
use Rattle.lg_parse.specs.declared.words.Word.TheVariants.{Unused}
use Rattle.lg_parse.specs.Terminal.{Terminal, word, element, function, sign}
use Rattle.lg_parse.specs.Terminal as t
use Rattle.lg_parse.specs.Operators.{operation, comparison}
use Rattle.lg_parse.specs.Parsing.{Parser, Outcome, and_then, ◌>>=◌, same_kind, same_word, sees, sees_word, behind, eat, eat_word, expect, expect_word, at_level, operator_ahead, comparison_ahead, low, made}

-- 0 for what stands behind an operand, 1 for `**`, one more than the level of an operator, 8 for a
-- comparison, and 9 for what goes on with nothing
abbrev pub binding_of : TokenKind → ℕ
binding_of LeftBracket = 0
binding_of Dot = 0
binding_of DoubleStar = 1
binding_of Star = 2
binding_of DoubleSlash = 2
binding_of Percent = 2
binding_of At = 2
binding_of Plus = 3
binding_of Minus = 3
binding_of LeftShift = 4
binding_of RightShift = 4
binding_of Ampersand = 5
binding_of Circumflex = 6
binding_of Bar = 7
binding_of EqualEqual = 8
binding_of NotEqual = 8
binding_of Less = 8
binding_of LessEqual = 8
binding_of Greater = 8
binding_of GreaterEqual = 8
binding_of _ = 9

abbrev pub binding : List Terminal → ℕ
binding [] = 9
binding (t.name w ∷ ts) = 9
binding (t.number n ∷ ts) = 9
binding (word w ∷ ts) = 9
binding (element d ∷ ts) = 9
binding (function f ∷ ts) = 9
binding (sign k ∷ ts) = binding_of k

abbrev pub entry : ℕ → Operator → Option (ℕ × Operator)
entry l o = Some (l, o)

abbrev level_of : Option (ℕ × Operator) → ℕ
level_of None = 0
level_of (Some p) = p.0

same_entry : (l m : ℕ) (o q : Operator) → entry l o ≡ entry m q → l ≡ m
same_entry l m o q h = ap level_of h

one_more : (l m : ℕ) (o q : Operator) → entry l o ≡ entry m q → suc l ≡ suc m
one_more l m o q h = ap suc (same_entry l m o q h)

-- an operator binds as its level says
pub operation_binds : (k : TokenKind) (l : ℕ) (o : Operator) → operation k ≡ entry l o → binding_of k ≡ suc l
operation_binds Star l o h = one_more 1 l _ o h
operation_binds DoubleSlash l o h = one_more 1 l _ o h
operation_binds Percent l o h = one_more 1 l _ o h
operation_binds At l o h = one_more 1 l _ o h
operation_binds Plus l o h = one_more 2 l _ o h
operation_binds Minus l o h = one_more 2 l _ o h
operation_binds LeftShift l o h = one_more 3 l _ o h
operation_binds RightShift l o h = one_more 3 l _ o h
operation_binds Ampersand l o h = one_more 4 l _ o h
operation_binds Circumflex l o h = one_more 5 l _ o h
operation_binds Bar l o h = one_more 6 l _ o h
operation_binds _ l o h = absurd (cc)

own_at : (o : Operator) (b : Bool) → b ≡ true → cond b (Some o) None ≡ Some o
own_at o true h = refl
own_at o false h = absurd (cc)

own : (l : ℕ) (o : Operator) → at_level l (Some (l, o)) ≡ Some o
own l o = own_at o (eqb l l) (search rules)

-- and stands between operands of that level
pub operation_here : (k : TokenKind) (l : ℕ) (o : Operator) → operation k ≡ entry l o → at_level l (operation k) ≡ Some o
operation_here k l o h = ap (at_level l) h ∙ own l o

apart_at : (l m : ℕ) (o : Operator) (b : Bool) → eqb m l ≡ b → l < m → cond b (Some o) None ≡ None
apart_at l m o true e h = let same : m ≡ l = eqb-true m l e in absurd (omega arith)
apart_at l m o false e h = refl

-- what binds less tightly is no operator of a level
apart : (l m : ℕ) (o : Operator) → suc l < suc m → at_level l (entry m o) ≡ None
apart l m o h = apart_at l m o (eqb m l) refl (omega arith)

no_operation : (l : ℕ) (k : TokenKind) → suc l < binding_of k → at_level l (operation k) ≡ None
no_operation l Star h = apart l 1 _ h
no_operation l DoubleSlash h = apart l 1 _ h
no_operation l Percent h = apart l 1 _ h
no_operation l At h = apart l 1 _ h
no_operation l Plus h = apart l 2 _ h
no_operation l Minus h = apart l 2 _ h
no_operation l LeftShift h = apart l 3 _ h
no_operation l RightShift h = apart l 3 _ h
no_operation l Ampersand h = apart l 4 _ h
no_operation l Circumflex h = apart l 5 _ h
no_operation l Bar h = apart l 6 _ h
no_operation l _ h = refl

pub no_operator : (l : ℕ) (ts : List Terminal) → suc l < binding ts → operator_ahead l ts ≡ None
no_operator l [] h = refl
no_operator l (t.name w ∷ ts) h = refl
no_operator l (t.number n ∷ ts) h = refl
no_operator l (word w ∷ ts) h = refl
no_operator l (element d ∷ ts) h = refl
no_operator l (function f ∷ ts) h = refl
no_operator l (sign k ∷ ts) h = no_operation l k h

pub comparison_binds : (k : TokenKind) (o : Compare) → comparison k ≡ Some o → binding_of k ≡ 8
comparison_binds EqualEqual o h = refl
comparison_binds NotEqual o h = refl
comparison_binds Less o h = refl
comparison_binds LessEqual o h = refl
comparison_binds Greater o h = refl
comparison_binds GreaterEqual o h = refl
comparison_binds _ o h = absurd (cc)

no_comparison_sign : (k : TokenKind) → 8 < binding_of k → comparison k ≡ None
no_comparison_sign EqualEqual h = absurd (omega arith)
no_comparison_sign NotEqual h = absurd (omega arith)
no_comparison_sign Less h = absurd (omega arith)
no_comparison_sign LessEqual h = absurd (omega arith)
no_comparison_sign Greater h = absurd (omega arith)
no_comparison_sign GreaterEqual h = absurd (omega arith)
no_comparison_sign _ h = refl

pub no_comparison : (ts : List Terminal) → 8 < binding ts → comparison_ahead ts ≡ None
no_comparison [] h = refl
no_comparison (t.name w ∷ ts) h = refl
no_comparison (t.number n ∷ ts) h = refl
no_comparison (word w ∷ ts) h = refl
no_comparison (element d ∷ ts) h = refl
no_comparison (function f ∷ ts) h = refl
no_comparison (sign k ∷ ts) h = no_comparison_sign k h

no_power_sign : (k : TokenKind) → 1 < binding_of k → same_kind k DoubleStar ≡ false
unfolding same_kind
no_power_sign DoubleStar h = absurd (omega arith)
no_power_sign _ h = refl

no_index_sign : (k : TokenKind) → 0 < binding_of k → same_kind k LeftBracket ≡ false
unfolding same_kind
no_index_sign LeftBracket h = absurd (omega arith)
no_index_sign _ h = refl

no_dot_sign : (k : TokenKind) → 0 < binding_of k → same_kind k Dot ≡ false
unfolding same_kind
no_dot_sign Dot h = absurd (omega arith)
no_dot_sign _ h = refl

unseen_by : (n : ℕ) (j : TokenKind) → ((k : TokenKind) → n < binding_of k → same_kind k j ≡ false) → (ts : List Terminal) → n < binding ts → sees j ts ≡ false
unseen_by n j f [] h = refl
unseen_by n j f (t.name w ∷ ts) h = refl
unseen_by n j f (t.number m ∷ ts) h = refl
unseen_by n j f (word w ∷ ts) h = refl
unseen_by n j f (element d ∷ ts) h = refl
unseen_by n j f (function g ∷ ts) h = refl
unseen_by n j f (sign k ∷ ts) h = f k h

pub no_power : (ts : List Terminal) → 1 < binding ts → sees DoubleStar ts ≡ false
no_power = unseen_by 1 DoubleStar no_power_sign

pub no_index : (ts : List Terminal) → 0 < binding ts → sees LeftBracket ts ≡ false
no_index = unseen_by 0 LeftBracket no_index_sign

pub no_dot : (ts : List Terminal) → 0 < binding ts → sees Dot ts ≡ false
no_dot = unseen_by 0 Dot no_dot_sign

-- ---- steps

abbrev pub got : {A : Type 0} → A → List Terminal → Outcome A
got a ts = Some (a, ts)

same_self : (k : TokenKind) → same_kind k k ≡ true
unfolding same_kind
same_self Word = refl
same_self _ = refl

same_word_self : (w : Reserved) → same_word w w ≡ true
unfolding same_word
same_word_self Unused = refl
same_word_self _ = refl

took_at : (t : Terminal) (ts : List Terminal) (b : Bool) → b ≡ true → got b (cond b ts (t ∷ ts)) ≡ got true ts
took_at t ts true h = refl
took_at t ts false h = absurd (cc)

pub took : (k : TokenKind) (ts : List Terminal) → eat k (sign k ∷ ts) ≡ got true ts
unfolding eat
took k ts = took_at (sign k) ts (same_kind k k) (same_self k)

pub took_word : (w : Reserved) (ts : List Terminal) → eat_word w (word w ∷ ts) ≡ got true ts
unfolding eat_word
took_word w ts = took_at (word w) ts (same_word w w) (same_word_self w)

left_at : (ts us : List Terminal) (b : Bool) → b ≡ false → got b (cond b us ts) ≡ got false ts
left_at ts us true h = absurd (cc)
left_at ts us false h = refl

pub passed : (k : TokenKind) (ts : List Terminal) → sees k ts ≡ false → eat k ts ≡ got false ts
unfolding eat
passed k ts h = left_at ts (behind ts) (sees k ts) h

pub passed_word : (w : Reserved) (ts : List Terminal) → sees_word w ts ≡ false → eat_word w ts ≡ got false ts
unfolding eat_word
passed_word w ts h = left_at ts (behind ts) (sees_word w ts) h

abbrev pub done : List Terminal → Outcome (Unit {0})
done ts = Some (tt, ts)

abbrev not_done : Outcome (Unit {0})
not_done = None

expected_at : (ts : List Terminal) (b : Bool) → b ≡ true → cond b (done ts) not_done ≡ done ts
expected_at ts true h = refl
expected_at ts false h = absurd (cc)

pub expected : (k : TokenKind) (ts : List Terminal) → expect k (sign k ∷ ts) ≡ done ts
unfolding expect
expected k ts = expected_at ts (same_kind k k) (same_self k)

pub expected_word : (w : Reserved) (ts : List Terminal) → expect_word w (word w ∷ ts) ≡ done ts
unfolding expect_word
expected_word w ts = expected_at ts (same_word w w) (same_word_self w)

low_here : {A : Type 0} (a : A) (ts : List Terminal) (b : Bool) → b ≡ true → made (cond b (Some a) None) ts ≡ got a ts
low_here a ts true h = refl
low_here a ts false h = absurd (cc)

pub is_low : {A : Type 0} (height : A → ℕ) (a : A) (ts : List Terminal) → height a ≤ 200 → made (low height a) ts ≡ got a ts
unfolding low
is_low height a ts h = low_here a ts (nat_le (height a) 200) (le-leb (height a) 200 h)

pub chosen : {A : Type 0} (x y : Outcome A) (b : Bool) → b ≡ false → cond b x y ≡ y
chosen x y true h = absurd (cc)
chosen x y false h = refl

pub first : {A : Type 0} (x y : Outcome A) (b : Bool) → b ≡ true → cond b x y ≡ x
first x y true h = refl
first x y false h = absurd (cc)

-- one parser behind another
pub step : {A B : Type 0} (p : Parser A) (f : A → Parser B) {ts us : List Terminal} {a : A} → p ts ≡ got a us → (p >>= f) ts ≡ f a us
step p f e = ap (λ (o : Outcome _). and_then o f) e
