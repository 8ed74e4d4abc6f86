-- What the parsers of operands and levels find.
use Rattle.std.proofs.Common.{◌≡◌, ℕ, zero, suc, Bool, true, false, cond, eqb, Option, Some, None, List, [], ◌∷◌, length, refl, sym, ap, ◌∙◌, subst}
use Rattle.std.proofs.lemmas.Bool.{eqb-true}
use Rattle.lg_elem.specs.declared.dtype.DType.{DType}
use Rattle.lg_elem.specs.declared.kinds.Compare.{Compare}
use Rattle.lg_lex.specs.declared.tokens.TokenKind.{TokenKind}
use Rattle.lg_lex.specs.declared.tokens.TokenKind.TheVariants.{Minus, Tilde, DoubleStar, Dot, LeftParenthesis, RightParenthesis, LeftBracket}
use Rattle.lg_tree.specs.declared.kinds.Arith.TheVariants.{Pow}
use Rattle.lg_tree.specs.declared.kinds.Red.{Red}
use Rattle.lg_tree.specs.Tree.{Tree, truth, neg, invert, arith, compare, index, reduce, transpose, copy, flatten, as_type, reshape, no_tree, some_tree, no_shape, some_shape, ShapeTree, ItemTrees}
use Rattle.lg_tree.specs.Measures.{height}
use Rattle.lg_parse.specs.declared.methods.Method.{Method}
use Rattle.lg_parse.specs.declared.methods.Method.TheVariants.{Turned, Copy, Flatten, AsType, Reshape}
use Rattle.lg_parse.specs.declared.operators.Operator.{Operator}
use Rattle.lg_parse.specs.declared.rules.Rule.{Rule}
use Rattle.lg_parse.specs.declared.rules.Rule.TheVariants.{Expression, Unary}
use Rattle.lg_parse.specs.declared.words.Function.{Function}
use Rattle.lg_parse.specs.declared.words.Function.TheVariants.{Transpose, Reduce}
use Rattle.lg_parse.specs.declared.words.Word.{Word}
use Rattle.lg_parse.specs.declared.words.Word.TheVariants.{True, False}
use Rattle.lg_parse.specs.Methods.{method_word, method_of}
use Rattle.lg_parse.specs.Operators.{operation, operated, comparison, WIDEST}
use Rattle.lg_parse.specs.Terminal.{Terminal, word, element, function, sign}
use Rattle.lg_parse.specs.Terminal as t
use Rattle.lg_parse.specs.Expressions.{expr, unary, power, postfix, atom, level, Spells, uncompared, compared, tightest, single, joined, negative, inverted, unsigned, alone, raised, bare, suffixed, a_number, a_truth, a_falsehood, a_name, enclosed, a_call, SpellsAlong, SpellsSuffix, indexed, turned, copied, flattened, cast, reshaped, reversed, transposed, reduced, reduced_along, SpellsSeveral}
use Rattle.lg_parse.specs.Parsing.{Parser, ◌>>=◌, ◌>>◌, pure, behind, node, empty, operator_ahead, comparison_ahead, at_level, more, more_by, suffixes, casting, reshaping, transposing, reducing, named_method, method_function, method_by, method, indexing, parse}
use Rattle.lg_parse.specs.Parsing as p
use Rattle.lg_parse.proofs.MethodLemmas.{word_is}
use Rattle.lg_parse.proofs.Steps.{Takes, takes, same_is}
use Rattle.lg_parse.proofs.Found.{FoundAt, Found, then, pure_found, refuse_found, low_found, choice, behind_sign, weaker}
use Rattle.lg_parse.proofs.FoundParts.{form_of, FindsInner, CastsTo, casts_to, cast_found, along_found, several_found, Indexes, indexes, items_found}
use Rattle.lg_parse.proofs.FoundCalls.{Inside, inside_found}

-- ---- atoms

enclosed_is : {e : Tree} {ts us rest : List Terminal} → Spells expr ts us e → Takes RightParenthesis us rest → Spells atom (sign LeftParenthesis ∷ ts) rest e
enclosed_is d takes = enclosed d

enclosed_found : {inner : Rule → Parser Tree} {deep : ℕ} → FindsInner inner deep → (ts : List Terminal) → Found (λ e rest. Spells atom (sign LeftParenthesis ∷ ts) rest e) (p.enclosed inner deep) ts
unfolding p.enclosed
enclosed_found h ts = then (h.find Expression ts) (λ e us d. behind_sign RightParenthesis (λ vs w. pure_found e (enclosed_is d w)))

call_is : {f : Function} {e : Tree} {ts us rest : List Terminal} → Takes LeftParenthesis ts us → Inside f us e rest → Spells atom (function f ∷ ts) rest e
call_is takes d = a_call d

called_found : {inner : Rule → Parser Tree} {deep : ℕ} (f : Function) → FindsInner inner deep → (ts : List Terminal) → Found (λ e rest. Spells atom (function f ∷ ts) rest e) (p.called inner deep f) ts
unfolding p.called
called_found f h ts = behind_sign LeftParenthesis (λ us w. weaker (λ e rest d. call_is w d) (inside_found f h us))

itself_found : {inner : Rule → Parser Tree} {deep : ℕ} → FindsInner inner deep → (w : Word) (ts : List Terminal) → Found (λ e rest. Spells atom (word w ∷ ts) rest e) (p.itself inner deep w) ts
itself_found h True ts = pure_found (truth true) a_truth
itself_found h False ts = pure_found (truth false) a_falsehood
itself_found h _ ts = refuse_found

sign_at : (inner : Rule → Parser Tree) (deep : ℕ) → FindsInner inner deep → (k : TokenKind) (ts : List Terminal) (b : Bool) → p.same_kind k LeftParenthesis ≡ b → FoundAt (λ e rest. Spells atom (sign k ∷ ts) rest e) (cond b (p.enclosed inner deep ts) None)
sign_at inner deep h k ts true e =
    subst (λ (z : TokenKind). FoundAt (λ e rest. Spells atom (sign z ∷ ts) rest e) (p.enclosed inner deep ts)) (sym (same_is k LeftParenthesis e)) (enclosed_found {deep = deep} h ts).found
sign_at inner deep h k ts false e = tt

atom_at : (inner : Rule → Parser Tree) (deep : ℕ) → FindsInner inner deep → (ts : List Terminal) → FoundAt (λ e rest. Spells atom ts rest e) (p.atom_by inner deep ts)
atom_at inner deep h [] = tt
atom_at inner deep h (t.name w ∷ ts) = a_name w
atom_at inner deep h (t.number n ∷ ts) = a_number n
atom_at inner deep h (word w ∷ ts) = (itself_found h w ts).found
atom_at inner deep h (element d ∷ ts) = tt
atom_at inner deep h (function f ∷ ts) = (called_found {deep = deep} f h ts).found
atom_at inner deep h (sign k ∷ ts) = sign_at inner deep h k ts (p.same_kind k LeftParenthesis) refl

atom_found : {inner : Rule → Parser Tree} {deep : ℕ} → FindsInner inner deep → (ts : List Terminal) → Found (λ e rest. Spells atom ts rest e) (p.atom inner deep) ts
unfolding p.atom
atom_found {inner} {deep} h ts = record { found = atom_at inner deep h ts }

-- ---- methods, from behind their word on

-- behind the dot stands a method of `a`
abbrev pub Method_at : Tree → List Terminal → Tree → List Terminal → Type 0
Method_at a ts e rest = SpellsSuffix a (sign Dot ∷ ts) rest e

-- the two parentheses of a method
data Empty : List Terminal → List Terminal → Type 0 where
  is_empty : {ts : List Terminal} → Empty (sign LeftParenthesis ∷ sign RightParenthesis ∷ ts) ts

empty_is : {ts us vs : List Terminal} → Takes LeftParenthesis ts us → Takes RightParenthesis us vs → Empty ts vs
empty_is takes takes = is_empty

empty_at : {A : Type 0} (Q : A → List Terminal → Type 0) (q : Parser A) (ts : List Terminal) (o : p.Outcome (Unit {0})) → p.expect LeftParenthesis ts ≡ o → FoundAt Q (p.and_then o (λ (_ : Unit {0}). p.expect RightParenthesis >> q)) → FoundAt Q (p.and_then (p.and_then o (λ (_ : Unit {0}). p.expect RightParenthesis)) (λ (_ : Unit {0}). q))
empty_at Q q ts None e h = tt
empty_at Q q ts (Some r) e h = h

empty_found : {A : Type 0} {Q : A → List Terminal → Type 0} {q : Parser A} (ts : List Terminal) → ((us : List Terminal) → Empty ts us → Found Q q us) → Found Q (empty >> q) ts
unfolding empty
empty_found {A} {Q} {q} ts k = record { found = empty_at Q q ts (p.expect LeftParenthesis ts) refl (behind_sign {Q = Q} {q = p.expect RightParenthesis >> q} LeftParenthesis (λ us w. behind_sign RightParenthesis (λ vs v. k vs (empty_is w v)))).found }

copy_is : {a : Tree} {ts us : List Terminal} → Empty ts us → SpellsSuffix a (sign Dot ∷ t.name (method_word Copy) ∷ ts) us (copy a)
copy_is is_empty = copied

flatten_is : {a : Tree} {ts us : List Terminal} → Empty ts us → SpellsSuffix a (sign Dot ∷ t.name (method_word Flatten) ∷ ts) us (flatten a)
flatten_is is_empty = flattened

cast_is : {a : Tree} {d : DType} {ts us rest : List Terminal} → Takes LeftParenthesis ts us → CastsTo us rest d → SpellsSuffix a (sign Dot ∷ t.name (method_word AsType) ∷ ts) rest (as_type a d)
cast_is takes casts_to = cast _

casting_found : {inner : Rule → Parser Tree} {deep : ℕ} → FindsInner inner deep → (a : Tree) (ts : List Terminal) → Found (Method_at a (t.name (method_word AsType) ∷ ts)) (casting inner deep a) ts
unfolding casting
casting_found h a ts = behind_sign LeftParenthesis (λ us w. cast_found us (λ d vs h. low_found height (as_type a d) (cast_is w h)))

reshape_is : {a : Tree} {s : ShapeTree} {ts us vs rest : List Terminal} → Takes LeftParenthesis ts us → SpellsSeveral us vs s → Takes RightParenthesis vs rest → SpellsSuffix a (sign Dot ∷ t.name (method_word Reshape) ∷ ts) rest (reshape a s)
reshape_is takes d takes = reshaped d

reshaping_found : {inner : Rule → Parser Tree} {deep : ℕ} → FindsInner inner deep → (a : Tree) (ts : List Terminal) → Found (Method_at a (t.name (method_word Reshape) ∷ ts)) (reshaping inner deep a) ts
unfolding reshaping
reshaping_found h a ts = behind_sign LeftParenthesis (λ us w. then (several_found h us) (λ s vs d. behind_sign RightParenthesis (λ ws v. low_found height (reshape a s) (reshape_is w d v))))

reversed_is : {a : Tree} {ts us rest : List Terminal} → Takes LeftParenthesis ts us → Takes RightParenthesis us rest → SpellsSuffix a (sign Dot ∷ function Transpose ∷ ts) rest (transpose a no_shape)
reversed_is takes takes = reversed

transposed_is : {a : Tree} {s : ShapeTree} {ts us vs rest : List Terminal} → Takes LeftParenthesis ts us → SpellsSeveral us vs s → Takes RightParenthesis vs rest → SpellsSuffix a (sign Dot ∷ function Transpose ∷ ts) rest (transpose a (some_shape s))
transposed_is takes d takes = transposed d

transposing_found : {inner : Rule → Parser Tree} {deep : ℕ} → FindsInner inner deep → (a : Tree) (ts : List Terminal) → Found (Method_at a (function Transpose ∷ ts)) (transposing inner deep a) ts
unfolding transposing
transposing_found h a ts =
    behind_sign LeftParenthesis (λ us w. choice RightParenthesis (λ vs v. low_found height (transpose a no_shape) (reversed_is w v)) (then (several_found h us) (λ s vs d. behind_sign RightParenthesis (λ ws v. low_found height (transpose a (some_shape s)) (transposed_is w d v)))))

reduced_is : {a : Tree} {r : Red} {ts us rest : List Terminal} → Takes LeftParenthesis ts us → Takes RightParenthesis us rest → SpellsSuffix a (sign Dot ∷ function (Reduce r) ∷ ts) rest (reduce r a no_tree)
reduced_is takes takes = reduced _

along_is : {a e : Tree} {r : Red} {ts us vs rest : List Terminal} → Takes LeftParenthesis ts us → SpellsAlong us vs e → Takes RightParenthesis vs rest → SpellsSuffix a (sign Dot ∷ function (Reduce r) ∷ ts) rest (reduce r a (some_tree e))
along_is takes d takes = reduced_along _ d

reducing_found : {inner : Rule → Parser Tree} {deep : ℕ} → FindsInner inner deep → (r : Red) (a : Tree) (ts : List Terminal) → Found (Method_at a (function (Reduce r) ∷ ts)) (reducing inner deep r a) ts
unfolding reducing
reducing_found h r a ts =
    behind_sign LeftParenthesis (λ us w. choice RightParenthesis (λ vs v. low_found height (reduce r a no_tree) (reduced_is w v)) (then (along_found h us) (λ e vs d. behind_sign RightParenthesis (λ ws v. low_found height (reduce r a (some_tree e)) (along_is w d v)))))

named_found : {inner : Rule → Parser Tree} {deep : ℕ} (m : Method) → FindsInner inner deep → (a : Tree) (ts : List Terminal) → Found (Method_at a (t.name (method_word m) ∷ ts)) (named_method inner deep a (Some m)) ts
named_found Turned h a ts = low_found height (transpose a no_shape) turned
named_found Copy h a ts = empty_found ts (λ us w. low_found height (copy a) (copy_is w))
named_found Flatten h a ts = empty_found ts (λ us w. low_found height (flatten a) (flatten_is w))
named_found AsType h a ts = casting_found h a ts
named_found Reshape h a ts = reshaping_found h a ts

function_found : {inner : Rule → Parser Tree} {deep : ℕ} (f : Function) → FindsInner inner deep → (a : Tree) (ts : List Terminal) → Found (Method_at a (function f ∷ ts)) (method_function inner deep a f) ts
function_found Transpose h a ts = transposing_found h a ts
function_found (Reduce r) h a ts = reducing_found h r a ts
function_found _ h a ts = refuse_found

name_at : (inner : Rule → Parser Tree) (deep : ℕ) → FindsInner inner deep → (a : Tree) (w : List ℕ) (ts : List Terminal) (o : Option Method) → method_of w ≡ o → FoundAt (Method_at a (t.name w ∷ ts)) (named_method inner deep a o ts)
name_at inner deep h a w ts None e = tt
name_at inner deep h a w ts (Some m) e =
    subst (λ (z : List ℕ). FoundAt (Method_at a (t.name z ∷ ts)) (named_method inner deep a (Some m) ts)) (sym (word_is w m e)) (named_found {deep = deep} m h a ts).found

method_at : (inner : Rule → Parser Tree) (deep : ℕ) → FindsInner inner deep → (a : Tree) (ts : List Terminal) → FoundAt (Method_at a ts) (method_by inner deep a ts)
method_at inner deep h a [] = tt
method_at inner deep h a (t.name w ∷ ts) = name_at inner deep h a w ts (method_of w) refl
method_at inner deep h a (t.number n ∷ ts) = tt
method_at inner deep h a (word w ∷ ts) = tt
method_at inner deep h a (element d ∷ ts) = tt
method_at inner deep h a (function f ∷ ts) = (function_found {deep = deep} f h a ts).found
method_at inner deep h a (sign k ∷ ts) = tt

method_found : {inner : Rule → Parser Tree} {deep : ℕ} → FindsInner inner deep → (a : Tree) (ts : List Terminal) → Found (Method_at a ts) (method inner deep a) ts
unfolding method
method_found {inner} {deep} h a ts = record { found = method_at inner deep h a ts }

index_is : {a : Tree} {ts us rest : List Terminal} {is : ItemTrees} → Takes LeftBracket ts us → Indexes us rest is → SpellsSuffix a ts rest (index a is)
index_is takes (indexes d) = indexed d

indexing_found : {inner : Rule → Parser Tree} {deep : ℕ} → FindsInner inner deep → (a : Tree) (ts us : List Terminal) → Takes LeftBracket ts us → Found (λ e rest. SpellsSuffix a ts rest e) (indexing inner deep a) us
unfolding indexing
indexing_found h a ts us w = then (items_found h us) (λ is vs d. low_found height (index a is) (index_is w d))

-- ---- operands

dot_is : {a e : Tree} {ts us rest : List Terminal} → Takes Dot ts us → Method_at a us e rest → SpellsSuffix a ts rest e
dot_is takes d = d

suffixes_found : {inner : Rule → Parser Tree} {deep : ℕ} → FindsInner inner deep → (n : ℕ) (a : Tree) (ts us : List Terminal) → Spells postfix ts us a → Found (λ e rest. Spells postfix ts rest e) (suffixes inner deep n a) us
unfolding suffixes
suffixes_found h zero a ts us d = refuse_found
suffixes_found {inner} {deep} h (suc n) a ts us d =
    choice LeftBracket (λ vs w. then (indexing_found h a us vs w) (λ e ws k. suffixes_found h n e ts ws (suffixed d k)))
    (choice Dot (λ vs w. then (method_found h a vs) (λ e ws k. suffixes_found h n e ts ws (suffixed d (dot_is w k)))) (pure_found a d))

postfix_found : {inner : Rule → Parser Tree} {deep : ℕ} → FindsInner inner deep → (ts : List Terminal) → Found (λ e rest. Spells postfix ts rest e) (p.postfix inner deep) ts
unfolding p.postfix
postfix_found {inner} {deep} h ts = record { found = (then {Q = λ e rest. Spells postfix ts rest e} (atom_found {deep = deep} h ts) (λ a us d. suffixes_found {deep = deep} h (length ts) a ts us (bare d))).found }

power_is : {a b : Tree} {ts us vs rest : List Terminal} → Spells postfix ts us a → Takes DoubleStar us vs → Spells unary vs rest b → Spells power ts rest (arith Pow a b)
power_is d takes e = raised d e

power_found : {inner : Rule → Parser Tree} {deep : ℕ} → FindsInner inner deep → (ts : List Terminal) → Found (λ e rest. Spells power ts rest e) (p.power inner deep) ts
unfolding p.power
power_found h ts = then (postfix_found h ts) (λ a us d. choice DoubleStar (λ vs w. then (h.find Unary vs) (λ b ws e. low_found height (arith Pow a b) (power_is d w e))) (pure_found a (alone d)))

neg_is : {a : Tree} {ts us rest : List Terminal} → Takes Minus ts us → Spells unary us rest a → Spells unary ts rest (neg a)
neg_is takes d = negative d

invert_is : {a : Tree} {ts us rest : List Terminal} → Takes Tilde ts us → Spells unary us rest a → Spells unary ts rest (invert a)
invert_is takes d = inverted d

unary_found : {inner : Rule → Parser Tree} {deep : ℕ} → FindsInner inner deep → (ts : List Terminal) → Found (λ e rest. Spells unary ts rest e) (p.unary inner deep) ts
unfolding p.unary
unary_found h ts =
    choice Minus (λ us w. then (h.find Unary us) (λ a vs d. low_found height (neg a) (neg_is w d)))
    (choice Tilde (λ us w. then (h.find Unary us) (λ a vs d. low_found height (invert a) (invert_is w d))) (weaker (λ e rest d. unsigned d) (power_found h ts)))

-- ---- levels

abbrev entry : ℕ → Operator → Option (ℕ × Operator)
entry l o = Some (l, o)

operator_is : (l : ℕ) (o : Operator) (m : ℕ) (q : Operator) (b : Bool) → eqb m l ≡ b → cond b (Some q) None ≡ Some o → entry m q ≡ entry l o
operator_is l o m q true e h = let low : m ≡ l = eqb-true m l e in let same : q ≡ o = cc in ap (λ (z : ℕ). entry z q) low ∙ ap (entry l) same
operator_is l o m q false e h = absurd (cc)

level_is : (l : ℕ) (o : Operator) (x : Option (ℕ × Operator)) → at_level l x ≡ Some o → x ≡ entry l o
level_is l o None h = absurd (cc)
level_is l o (Some (m, q)) h = operator_is l o m q (eqb m l) refl h

-- an operator of this level stands in front of what is left
data Operates : ℕ → Operator → List Terminal → List Terminal → Type 0 where
  operates : {l : ℕ} {o : Operator} {ts : List Terminal} (k : TokenKind) → operation k ≡ entry l o → Operates l o (sign k ∷ ts) ts

operator_seen : (l : ℕ) (o : Operator) (ts : List Terminal) → operator_ahead l ts ≡ Some o → Operates l o ts (behind ts)
operator_seen l o (sign k ∷ ts) h = operates k (level_is l o (operation k) h)
operator_seen l o _ h = absurd (cc)

joined_is : {l : ℕ} {o : Operator} {a b : Tree} {ts us vs rest : List Terminal} → Spells (level (suc l)) ts us a → Operates (suc l) o us vs → Spells (level l) vs rest b → Spells (level (suc l)) ts rest (operated o a b)
joined_is d (operates k h) e = joined k _ h d e

turn_at : (operand : Parser Tree) (l : ℕ) (again : Tree → Parser Tree) (a : Tree) (ts us : List Terminal) (o : Option Operator) → operator_ahead (suc l) us ≡ o → ((vs : List Terminal) → Found (λ e rest. Spells (level l) vs rest e) operand vs) → Spells (level (suc l)) ts us a → ((b : Tree) (vs : List Terminal) → Spells (level (suc l)) ts vs b → Found (λ e rest. Spells (level (suc l)) ts rest e) (again b) vs) → FoundAt (λ e rest. Spells (level (suc l)) ts rest e) (more_by operand again a o us)
turn_at operand l again a ts us None e h d k = d
turn_at operand l again a ts us (Some o) e h d k =
    (then {Q = λ e rest. Spells (level (suc l)) ts rest e} {f = again}
    (then {Q = λ e rest. Spells (level (suc l)) ts rest e} {f = λ b. node (operated o a b)} (h (behind us)) (λ b vs w. low_found height (operated o a b) (joined_is d (operator_seen (suc l) o us e) w)))
    k).found

more_found : {operand : Parser Tree} (l n : ℕ) (a : Tree) (ts us : List Terminal) → ((vs : List Terminal) → Found (λ e rest. Spells (level l) vs rest e) operand vs) → Spells (level (suc l)) ts us a → Found (λ e rest. Spells (level (suc l)) ts rest e) (more operand (suc l) n a) us
unfolding more
more_found l zero a ts us h d = refuse_found
more_found {operand} l (suc n) a ts us h d = record { found = turn_at operand l (more operand (suc l) n) a ts us (operator_ahead (suc l) us) refl h d (λ b vs e. more_found l n b ts vs h e) }

level_found : {inner : Rule → Parser Tree} {deep : ℕ} (l : ℕ) → FindsInner inner deep → (ts : List Terminal) → Found (λ e rest. Spells (level l) ts rest e) (p.level inner deep l) ts
unfolding p.level
level_found zero h ts = weaker (λ e rest d. tightest d) (unary_found h ts)
level_found {inner} {deep} (suc l) h ts = record { found = (then {Q = λ e rest. Spells (level (suc l)) ts rest e} (level_found {deep = deep} l h ts) (λ a us d. more_found l (length ts) a ts us (level_found {deep = deep} l h) (single d))).found }

-- a comparison stands in front of what is left
data Compares : Compare → List Terminal → List Terminal → Type 0 where
  compares : {o : Compare} {ts : List Terminal} (k : TokenKind) → comparison k ≡ Some o → Compares o (sign k ∷ ts) ts

comparison_seen : (o : Compare) (ts : List Terminal) → comparison_ahead ts ≡ Some o → Compares o ts (behind ts)
comparison_seen o (sign k ∷ ts) h = compares k h
comparison_seen o _ h = absurd (cc)

compared_is : {o : Compare} {a b : Tree} {ts us vs rest : List Terminal} → Spells (level WIDEST) ts us a → Compares o us vs → Spells (level WIDEST) vs rest b → Spells expr ts rest (compare o a b)
compared_is d (compares k h) e = compared k _ h d e

compared_at : (inner : Rule → Parser Tree) (deep : ℕ) → FindsInner inner deep → (a : Tree) (ts us : List Terminal) (o : Option Compare) → comparison_ahead us ≡ o → Spells (level WIDEST) ts us a → FoundAt (λ e rest. Spells expr ts rest e) (p.compared_by inner deep a o us)
compared_at inner deep h a ts us None e d = uncompared d
compared_at inner deep h a ts us (Some o) e d =
    (then {Q = λ e rest. Spells expr ts rest e} {f = λ b. node (compare o a b)} (level_found {deep = deep} WIDEST h (behind us)) (λ b vs w. low_found height (compare o a b) (compared_is d (comparison_seen o us e) w))).found

expression_found : {inner : Rule → Parser Tree} {deep : ℕ} → FindsInner inner deep → (ts : List Terminal) → Found (λ e rest. Spells expr ts rest e) (p.expression inner deep) ts
unfolding p.expression
expression_found {inner} {deep} h ts = then (level_found WIDEST h ts) (λ a us d. record { found = compared_at inner deep h a ts us (comparison_ahead us) refl d })

parse_rule : (n : ℕ) → FindsInner (parse n) n → (r : Rule) (ts : List Terminal) → Found (λ e rest. Spells (form_of r) ts rest e) (parse (suc n) r) ts
unfolding parse
parse_rule n h Expression ts = expression_found h ts
parse_rule n h Unary ts = unary_found h ts

-- whatever is found in front is the grammar's
pub parse_finds : (n : ℕ) → FindsInner (parse n) n
unfolding parse
parse_finds zero = record { find = λ r ts. refuse_found }
parse_finds (suc n) = record { find = parse_rule n (parse_finds n) }
