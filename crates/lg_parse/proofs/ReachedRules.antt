-- The parsers of operands and levels reach what the grammar spells.
use Rattle.std.proofs.Common.{◌≡◌, ℕ, zero, suc, ◌+◌, ◌-◌, ◌<◌, ◌≤◌, max, true, false, Option, Some, List, ◌∷◌, length, refl, ap, ◌∙◌, arith}
use Rattle.lg_elem.specs.declared.dtype.DType.{DType}
use Rattle.lg_elem.specs.declared.kinds.Compare.{Compare}
use Rattle.lg_lex.specs.declared.tokens.TokenKind.{TokenKind}
use Rattle.lg_lex.specs.declared.tokens.TokenKind.TheVariants.{Minus, Tilde, DoubleStar, Dot, LeftParenthesis, RightParenthesis, LeftBracket, RightBracket}
use Rattle.lg_tree.specs.declared.kinds.Arith.TheVariants.{Pow}
use Rattle.lg_tree.specs.declared.kinds.Red.{Red}
use Rattle.lg_tree.specs.Tree.{Tree, number, truth, name, neg, invert, arith as arithmetic, compare, index, reduce, transpose, copy, flatten, as_type, reshape, no_tree, some_tree, no_shape, some_shape, ShapeTree, ItemTree, ItemTrees, more_items}
use Rattle.lg_tree.specs.Measures.{height, shape_height, item_height, items_height}
use Rattle.lg_parse.specs.declared.methods.Method.{Method}
use Rattle.lg_parse.specs.declared.methods.Method.TheVariants.{Turned, Copy, Flatten, AsType, Reshape}
use Rattle.lg_parse.specs.declared.operators.Operator.{Operator}
use Rattle.lg_parse.specs.declared.operators.Operator.TheVariants.{Each, Matrix}
use Rattle.lg_parse.specs.declared.rules.Rule.{Rule}
use Rattle.lg_parse.specs.declared.rules.Rule.TheVariants.{Expression, Unary}
use Rattle.lg_parse.specs.declared.words.Function.{Function}
use Rattle.lg_parse.specs.declared.words.Function.TheVariants.{Transpose, Reduce}
use Rattle.lg_parse.specs.declared.words.Word.TheVariants.{True, False}
use Rattle.lg_parse.specs.Brackets.{opened_by, closed_by}
use Rattle.lg_parse.specs.Methods.{method_word}
use Rattle.lg_parse.specs.Operators.{operation, operated, comparison, WIDEST}
use Rattle.lg_parse.specs.Terminal.{Terminal, word, element, function, sign}
use Rattle.lg_parse.specs.Terminal as t
use Rattle.lg_parse.specs.Expressions.{Form, expr, level, unary, power, postfix, atom, Spells, uncompared, compared, tightest, single, joined, negative, inverted, unsigned, alone, raised, bare, suffixed, a_number, a_truth, a_falsehood, a_name, enclosed, a_call, SpellsAlong, plain_axis, named_axis, one_extent, no_extent, a_tuple, SpellsSuffix, indexed, turned, copied, flattened, cast, reshaped, reversed, transposed, reduced, reduced_along, SpellsSeveral, as_shape, side_by_side, SpellsItems}
use Rattle.lg_parse.specs.Parsing.{Parser, ◌>>=◌, pure, behind, eat, expect, several, along, items, node, empty, element_type, sees, same_kind, operator_ahead, comparison_ahead, more, more_by, suffixes, casting, reshaping, transposing, reducing, named_method, method, indexing, parse}
use Rattle.lg_parse.specs.Parsing as p
use Rattle.lg_parse.proofs.FoundParts.{form_of}
use Rattle.lg_parse.proofs.MethodLemmas.{method_is}
use Rattle.lg_parse.proofs.Passing.{spans, suffix, comparing, operator}
use Rattle.lg_parse.proofs.Fronts.{begins, unseen, parenthesis_behind}
use Rattle.lg_parse.proofs.Bindings.{binding, entry, operation_binds, operation_here, no_operator, comparison_binds, no_comparison, no_power, no_index, no_dot, got, took, passed, expected, is_low, step}
use Rattle.lg_parse.proofs.Rooms.{fits_base, Room, Space, space_past, space_next, enter, below}
use Rattle.lg_parse.proofs.ReachedParts.{strength, Reaches, argument, along_reached, several_reached, items_reached}
use Rattle.lg_parse.proofs.ReachedCalls.{inside_reached}

-- ---- methods

-- what there is room for is not too high
fits : {k a h : ℕ} {ts : List Terminal} (n : ℕ) → Space k a h ts → n ≤ h → n ≤ 200
fits {h = h} n w l = let top : h ≤ 200 = w.low in omega arith

empty_reached : (rest : List Terminal) → empty (sign LeftParenthesis ∷ sign RightParenthesis ∷ rest) ≡ got tt rest
unfolding empty expect same_kind
empty_reached rest = refl

by_name : (inner : Rule → Parser Tree) (k : ℕ) (a e : Tree) (m : Method) (ts rest : List Terminal) → named_method inner k a (Some m) ts ≡ got e rest → method inner k a (t.name (method_word m) ∷ ts) ≡ got e rest
unfolding method
by_name inner k a e m ts rest h = ap (λ (o : Option Method). named_method inner k a o ts) (method_is m) ∙ h

copy_reached : (inner : Rule → Parser Tree) (k : ℕ) (a : Tree) (rest : List Terminal) → suc (height a) ≤ 200 → named_method inner k a (Some Copy) (sign LeftParenthesis ∷ sign RightParenthesis ∷ rest) ≡ got (copy a) rest
copy_reached inner k a rest l = step empty _ (empty_reached rest) ∙ is_low height (copy a) rest l

flatten_reached : (inner : Rule → Parser Tree) (k : ℕ) (a : Tree) (rest : List Terminal) → suc (height a) ≤ 200 → named_method inner k a (Some Flatten) (sign LeftParenthesis ∷ sign RightParenthesis ∷ rest) ≡ got (flatten a) rest
flatten_reached inner k a rest l = step empty _ (empty_reached rest) ∙ is_low height (flatten a) rest l

type_reached : (d : DType) (ts : List Terminal) → element_type (element d ∷ ts) ≡ got d ts
unfolding element_type
type_reached d ts = refl

cast_reached : (inner : Rule → Parser Tree) (k : ℕ) (a : Tree) (d : DType) (rest : List Terminal) → suc (height a) ≤ 200 → casting inner k a (sign LeftParenthesis ∷ element d ∷ sign RightParenthesis ∷ rest) ≡ got (as_type a d) rest
unfolding casting
cast_reached inner k a d rest l =
    step (expect LeftParenthesis) _ (expected LeftParenthesis (element d ∷ sign RightParenthesis ∷ rest))
    ∙ step element_type _ (type_reached d (sign RightParenthesis ∷ rest))
    ∙ step (expect RightParenthesis) _ (expected RightParenthesis rest)
    ∙ is_low height (as_type a d) rest l

reshape_reached : {inner : Rule → Parser Tree} {k b h : ℕ} {ts rest : List Terminal} {s : ShapeTree} → Reaches inner k → (a : Tree) → SpellsSeveral ts (sign RightParenthesis ∷ rest) s → Room k b h ts → suc (max (height a) (shape_height s)) ≤ h → reshaping inner k a (sign LeftParenthesis ∷ ts) ≡ got (reshape a s) rest
unfolding reshaping
reshape_reached {inner = inner} {k = k} {h = h} {ts = ts} {rest = rest} {s = s} r a d w l =
    let top : h ≤ 200 = w.low in
    let low : suc (max (height a) (shape_height s)) ≤ 200 = omega arith in
    step (expect LeftParenthesis) _ (expected LeftParenthesis ts)
    ∙ step (several inner k) _ (several_reached r d w (omega arith))
    ∙ step (expect RightParenthesis) _ (expected RightParenthesis rest)
    ∙ is_low height (reshape a s) rest low

reversed_reached : (inner : Rule → Parser Tree) (k : ℕ) (a : Tree) (rest : List Terminal) → suc (max (height a) 0) ≤ 200 → transposing inner k a (sign LeftParenthesis ∷ sign RightParenthesis ∷ rest) ≡ got (transpose a no_shape) rest
unfolding transposing
reversed_reached inner k a rest l =
    step (expect LeftParenthesis) _ (expected LeftParenthesis (sign RightParenthesis ∷ rest))
    ∙ step (eat RightParenthesis) _ (took RightParenthesis rest)
    ∙ is_low height (transpose a no_shape) rest l

opening_no_close : (ts : List Terminal) → sees RightParenthesis (sign LeftParenthesis ∷ ts) ≡ false
unfolding same_kind
opening_no_close ts = refl

several_front : {ts rest : List Terminal} {s : ShapeTree} → SpellsSeveral ts rest s → sees RightParenthesis ts ≡ false
several_front {ts = ts} (as_shape (one_extent d)) = unseen RightParenthesis parenthesis_behind ts (begins d)
several_front {rest = rest} (as_shape no_extent) = opening_no_close (sign RightParenthesis ∷ rest)
several_front (as_shape (a_tuple {ts = us} d m)) = opening_no_close us
several_front {ts = ts} (side_by_side d m) = unseen RightParenthesis parenthesis_behind ts (begins d)

along_starts : {ts rest : List Terminal} {e : Tree} → SpellsAlong ts rest e → sees RightParenthesis ts ≡ false
along_starts {ts = ts} (plain_axis d) = unseen RightParenthesis parenthesis_behind ts (begins d)
along_starts (named_axis d) = refl

transposed_reached : {inner : Rule → Parser Tree} {k b h : ℕ} {ts rest : List Terminal} {s : ShapeTree} → Reaches inner k → (a : Tree) → SpellsSeveral ts (sign RightParenthesis ∷ rest) s → Room k b h ts → suc (max (height a) (shape_height s)) ≤ h → transposing inner k a (sign LeftParenthesis ∷ ts) ≡ got (transpose a (some_shape s)) rest
unfolding transposing
transposed_reached {inner = inner} {k = k} {h = h} {ts = ts} {rest = rest} {s = s} r a d w l =
    let top : h ≤ 200 = w.low in
    let low : suc (max (height a) (shape_height s)) ≤ 200 = omega arith in
    step (expect LeftParenthesis) _ (expected LeftParenthesis ts)
    ∙ step (eat RightParenthesis) _ (passed RightParenthesis ts (several_front d))
    ∙ step (several inner k) _ (several_reached r d w (omega arith))
    ∙ step (expect RightParenthesis) _ (expected RightParenthesis rest)
    ∙ is_low height (transpose a (some_shape s)) rest low

reduced_reached : (inner : Rule → Parser Tree) (k : ℕ) (o : Red) (a : Tree) (rest : List Terminal) → suc (max (height a) 0) ≤ 200 → reducing inner k o a (sign LeftParenthesis ∷ sign RightParenthesis ∷ rest) ≡ got (reduce o a no_tree) rest
unfolding reducing
reduced_reached inner k o a rest l =
    step (expect LeftParenthesis) _ (expected LeftParenthesis (sign RightParenthesis ∷ rest))
    ∙ step (eat RightParenthesis) _ (took RightParenthesis rest)
    ∙ is_low height (reduce o a no_tree) rest l

reduced_along_reached : {inner : Rule → Parser Tree} {k b h : ℕ} {ts rest : List Terminal} {e : Tree} → Reaches inner k → (o : Red) (a : Tree) → SpellsAlong ts (sign RightParenthesis ∷ rest) e → Room k b h ts → suc (max (height a) (height e)) ≤ h → reducing inner k o a (sign LeftParenthesis ∷ ts) ≡ got (reduce o a (some_tree e)) rest
unfolding reducing
reduced_along_reached {inner = inner} {k = k} {h = h} {ts = ts} {rest = rest} {e = e} r o a d w l =
    let top : h ≤ 200 = w.low in
    let low : suc (max (height a) (height e)) ≤ 200 = omega arith in
    step (expect LeftParenthesis) _ (expected LeftParenthesis ts)
    ∙ step (eat RightParenthesis) _ (passed RightParenthesis ts (along_starts d))
    ∙ step (along inner k) _ (along_reached r d w (omega arith) (omega arith))
    ∙ step (expect RightParenthesis) _ (expected RightParenthesis rest)
    ∙ is_low height (reduce o a (some_tree e)) rest low

by_function : (inner : Rule → Parser Tree) (k : ℕ) (a e : Tree) (f : Function) (ts rest : List Terminal) → p.method_function inner k a f ts ≡ got e rest → method inner k a (function f ∷ ts) ≡ got e rest
unfolding method
by_function inner k a e f ts rest h = h

index_reached : {inner : Rule → Parser Tree} {k b h : ℕ} {ts rest : List Terminal} {i : ItemTree} {is : ItemTrees} → Reaches inner k → (a : Tree) → SpellsItems ts (sign RightBracket ∷ rest) (more_items i is) → Room k b h ts → suc (max (height a) (max (item_height i) (items_height is))) ≤ h → indexing inner k a ts ≡ got (index a (more_items i is)) rest
unfolding indexing
index_reached {inner = inner} {k = k} {h = h} {rest = rest} {i = i} {is = is} r a d w l =
    let top : h ≤ 200 = w.low in
    let low : suc (max (height a) (max (item_height i) (items_height is))) ≤ 200 = omega arith in
    step (items inner k) _ (items_reached r d w (omega arith))
    ∙ is_low height (index a (more_items i is)) rest low

dot_no_bracket : (ts : List Terminal) → sees LeftBracket (sign Dot ∷ ts) ≡ false
unfolding same_kind
dot_no_bracket ts = refl

-- a method is one turn
dot_turn : (inner : Rule → Parser Tree) (k n : ℕ) (a e : Tree) (ts rest : List Terminal) → method inner k a ts ≡ got e rest → suffixes inner k (suc n) a (sign Dot ∷ ts) ≡ suffixes inner k n e rest
unfolding suffixes
dot_turn inner k n a e ts rest h =
    step (eat LeftBracket) _ (passed LeftBracket (sign Dot ∷ ts) (dot_no_bracket ts))
    ∙ step (eat Dot) _ (took Dot ts)
    ∙ step (method inner k a) (suffixes inner k n) h

bracket_turn : (inner : Rule → Parser Tree) (k n : ℕ) (a e : Tree) (ts rest : List Terminal) → indexing inner k a ts ≡ got e rest → suffixes inner k (suc n) a (sign LeftBracket ∷ ts) ≡ suffixes inner k n e rest
unfolding suffixes
bracket_turn inner k n a e ts rest h = step (eat LeftBracket) _ (took LeftBracket ts) ∙ step (indexing inner k a) (suffixes inner k n) h

-- behind the dot, the word of the method and its parenthesis
inside_method : {k b h : ℕ} {t : Terminal} {ts : List Terminal} → Space k b h (sign Dot ∷ t ∷ sign LeftParenthesis ∷ ts) → (opened_by t ≡ 0) × (closed_by t ≡ 0) → Room k (suc b) h ts
inside_method w o = enter (space_next (space_next w refl refl) o.0 o.1) refl refl

suffix_turn : {inner : Rule → Parser Tree} {k b h : ℕ} {a e : Tree} {ts rest : List Terminal} → Reaches inner k → SpellsSuffix a ts rest e → Space k b h ts → height e ≤ h → (n : ℕ) → suffixes inner k (suc n) a ts ≡ suffixes inner k n e rest
suffix_turn {inner} {k} {a = a} {rest = rest} r (indexed {ts = us} d) w l n = bracket_turn inner k n a _ us rest (index_reached r a d (enter w refl refl) l)
suffix_turn {inner} {k} {a = a} {rest = rest} r turned w l n = dot_turn inner k n a _ (t.name (method_word Turned) ∷ rest) rest (by_name inner k a _ Turned rest rest (is_low height (transpose a no_shape) rest (fits (suc (max (height a) 0)) w l)))
suffix_turn {inner} {k} {a = a} {rest = rest} r copied w l n = dot_turn inner k n a _ _ rest (by_name inner k a _ Copy _ rest (copy_reached inner k a rest (fits (suc (height a)) w l)))
suffix_turn {inner} {k} {a = a} {rest = rest} r flattened w l n = dot_turn inner k n a _ _ rest (by_name inner k a _ Flatten _ rest (flatten_reached inner k a rest (fits (suc (height a)) w l)))
suffix_turn {inner} {k} {a = a} {rest = rest} r (cast d) w l n = dot_turn inner k n a _ _ rest (by_name inner k a _ AsType _ rest (cast_reached inner k a d rest (fits (suc (height a)) w l)))
suffix_turn {inner} {k} {a = a} {rest = rest} r (reshaped {ts = us} d) w l n = dot_turn inner k n a _ _ rest (by_name inner k a _ Reshape _ rest (reshape_reached r a d (inside_method w (refl, refl)) l))
suffix_turn {inner} {k} {a = a} {rest = rest} r reversed w l n = dot_turn inner k n a _ _ rest (by_function inner k a _ Transpose _ rest (reversed_reached inner k a rest (fits (suc (max (height a) 0)) w l)))
suffix_turn {inner} {k} {a = a} {rest = rest} r (transposed {ts = us} d) w l n = dot_turn inner k n a _ _ rest (by_function inner k a _ Transpose _ rest (transposed_reached r a d (inside_method w (refl, refl)) l))
suffix_turn {inner} {k} {a = a} {rest = rest} r (reduced o) w l n = dot_turn inner k n a _ _ rest (by_function inner k a _ (Reduce o) _ rest (reduced_reached inner k o a rest (fits (suc (max (height a) 0)) w l)))
suffix_turn {inner} {k} {a = a} {rest = rest} r (reduced_along {ts = us} o d) w l n = dot_turn inner k n a _ _ rest (by_function inner k a _ (Reduce o) _ rest (reduced_along_reached r o a d (inside_method w (refl, refl)) l))

-- ---- chains

-- an operand and what stands behind it, for so many turns
abbrev pub behind_atom : (Rule → Parser Tree) → ℕ → ℕ → Parser Tree
behind_atom inner k turns = p.atom inner k >>= suffixes inner k turns

pub record Suffixed (inner : Rule → Parser Tree) (k : ℕ) (ts rest : List Terminal) (e : Tree) : Type 0 where
  pub count : ℕ
  pub few : count + length rest < length ts
  pub runs : (n : ℕ) → behind_atom inner k (count + n) ts ≡ suffixes inner k n e rest

abbrev pub chain : (Rule → Parser Tree) → ℕ → ℕ → ℕ → Parser Tree
chain inner k l turns = p.level inner k l >>= more (p.level inner k l) (suc l) turns

-- a level whose operators stand so many times in the terminals
pub record Chain (inner : Rule → Parser Tree) (k l : ℕ) (ts rest : List Terminal) (e : Tree) : Type 0 where
  pub count : ℕ
  pub few : count + length rest < length ts
  pub runs : (n : ℕ) → suc l < binding rest → chain inner k l (count + n) ts ≡ more (p.level inner k l) (suc l) n e rest

-- what is reached by a form, before what does not go on with it
abbrev pub Reached : (Rule → Parser Tree) → ℕ → Form → List Terminal → List Terminal → Tree → Type 0
Reached inner k expr ts rest e = 8 < binding rest → p.expression inner k ts ≡ got e rest
Reached inner k (level zero) ts rest e = 1 < binding rest → p.level inner k zero ts ≡ got e rest
Reached inner k (level (suc l)) ts rest e = Chain inner k l ts rest e
Reached inner k unary ts rest e = 1 < binding rest → p.unary inner k ts ≡ got e rest
Reached inner k power ts rest e = 1 < binding rest → p.power inner k ts ≡ got e rest
Reached inner k postfix ts rest e = Suffixed inner k ts rest e
Reached inner k atom ts rest e = p.atom inner k ts ≡ got e rest

bare_reached : (inner : Rule → Parser Tree) (k : ℕ) (ts rest : List Terminal) (e : Tree) → length rest < length ts → p.atom inner k ts ≡ got e rest → Suffixed inner k ts rest e
bare_reached inner k ts rest e some h = record {
  count = 0;
  few = omega arith;
  runs = λ n.
      let same : 0 + n ≡ n = omega arith in
      ap (λ (m : ℕ). behind_atom inner k m ts) same ∙ step (p.atom inner k) (suffixes inner k n) h;
}

suffixed_reached : (inner : Rule → Parser Tree) (k : ℕ) (ts us rest : List Terminal) (a e : Tree) → Suffixed inner k ts us a → length rest < length us → ((n : ℕ) → suffixes inner k (suc n) a us ≡ suffixes inner k n e rest) → Suffixed inner k ts rest e
suffixed_reached inner k ts us rest a e h shorter turn = record {
  count = suc h.count;
  few = let few : h.count + length us < length ts = h.few in omega arith;
  runs = λ n.
      let turns : suc h.count + n ≡ h.count + suc n = omega arith in
      ap (λ (m : ℕ). behind_atom inner k m ts) turns ∙ h.runs (suc n) ∙ turn n;
}

suffixes_stop : (inner : Rule → Parser Tree) (k n : ℕ) (e : Tree) (rest : List Terminal) → 0 < binding rest → suffixes inner k (suc n) e rest ≡ got e rest
unfolding suffixes
suffixes_stop inner k n e rest stop = step (eat LeftBracket) _ (passed LeftBracket rest (no_index rest stop)) ∙ step (eat Dot) _ (passed Dot rest (no_dot rest stop))

postfix_whole : (inner : Rule → Parser Tree) (k : ℕ) (ts rest : List Terminal) (e : Tree) → Suffixed inner k ts rest e → 0 < binding rest → p.postfix inner k ts ≡ got e rest
unfolding p.postfix
postfix_whole inner k ts rest e h stop =
    let few : h.count + length rest < length ts = h.few in
    let left = length ts - suc h.count in
    let turns : length ts ≡ h.count + suc left = omega arith in
    ap (λ (m : ℕ). behind_atom inner k m ts) turns ∙ h.runs (suc left) ∙ suffixes_stop inner k left e rest stop

stops : (operand : Parser Tree) (l n : ℕ) (a : Tree) (rest : List Terminal) → suc l < binding rest → more operand l (suc n) a rest ≡ got a rest
unfolding more
stops operand l n a rest h = ap (λ (o : Option Operator). more_by operand (more operand l n) a o rest) (no_operator l rest h)

-- the whole of a level, before what does not go on with it
whole : (inner : Rule → Parser Tree) (k l : ℕ) (ts rest : List Terminal) (e : Tree) → Reached inner k (level l) ts rest e → suc l < binding rest → p.level inner k l ts ≡ got e rest
unfolding p.level
whole inner k zero ts rest e h stop = h stop
whole inner k (suc l) ts rest e h stop =
    let few : h.count + length rest < length ts = h.few in
    let left = length ts - suc h.count in
    let turns : length ts ≡ h.count + suc left = omega arith in
    ap (λ (n : ℕ). chain inner k l n ts) turns ∙ h.runs (suc left) (omega arith) ∙ stops (p.level inner k l) (suc l) left e rest stop

single_reached : (inner : Rule → Parser Tree) (k l : ℕ) (ts rest : List Terminal) (e : Tree) → length rest < length ts → Reached inner k (level l) ts rest e → Chain inner k l ts rest e
single_reached inner k l ts rest e some h = record {
  count = 0;
  few = omega arith;
  runs = λ n stop.
      let same : 0 + n ≡ n = omega arith in
      ap (λ (m : ℕ). chain inner k l m ts) same ∙ step (p.level inner k l) (more (p.level inner k l) (suc l) n) (whole inner k l ts rest e h stop);
}

joined_turn : (inner : Rule → Parser Tree) (k l n : ℕ) (a b : Tree) (j : TokenKind) (o : Operator) (us rest : List Terminal) → operation j ≡ entry (suc l) o → p.level inner k l us ≡ got b rest → height (operated o a b) ≤ 200 → more (p.level inner k l) (suc l) (suc n) a (sign j ∷ us) ≡ more (p.level inner k l) (suc l) n (operated o a b) rest
unfolding more
joined_turn inner k l n a b j o us rest op h low =
    ap (λ (q : Option Operator). more_by (p.level inner k l) (more (p.level inner k l) (suc l) n) a q (sign j ∷ us)) (operation_here j (suc l) o op)
    ∙ step (p.level inner k l >>= (λ c. node (operated o a c))) (more (p.level inner k l) (suc l) n) (step (p.level inner k l) (λ c. node (operated o a c)) h ∙ is_low height (operated o a b) rest low)

joined_reached : (inner : Rule → Parser Tree) (k l : ℕ) (ts us rest : List Terminal) (a b : Tree) (j : TokenKind) (o : Operator) → operation j ≡ entry (suc l) o → Chain inner k l ts (sign j ∷ us) a → Reached inner k (level l) us rest b → length rest < length us → height (operated o a b) ≤ 200 → Chain inner k l ts rest (operated o a b)
joined_reached inner k l ts us rest a b j o op h g shorter low = record {
  count = suc h.count;
  few = let few : h.count + length (sign j ∷ us) < length ts = h.few in omega arith;
  runs = λ n stop.
      let turns : suc h.count + n ≡ h.count + suc n = omega arith in
      let binds : binding (sign j ∷ us) ≡ suc (suc l) = operation_binds j (suc l) o op in
      ap (λ (m : ℕ). chain inner k l m ts) turns
      ∙ h.runs (suc n) (omega arith)
      ∙ joined_turn inner k l n a b j o us rest op (whole inner k l us rest b g stop) low;
}

uncompared_reached : (inner : Rule → Parser Tree) (k : ℕ) (ts rest : List Terminal) (e : Tree) → Reached inner k (level WIDEST) ts rest e → Reached inner k expr ts rest e
unfolding p.expression
uncompared_reached inner k ts rest e h stop =
    step (p.level inner k WIDEST) (λ a us. p.compared_by inner k a (comparison_ahead us) us) (whole inner k WIDEST ts rest e h (omega arith))
    ∙ ap (λ (o : Option Compare). p.compared_by inner k e o rest) (no_comparison rest stop)

compared_reached : (inner : Rule → Parser Tree) (k : ℕ) (ts us rest : List Terminal) (a b : Tree) (j : TokenKind) (o : Compare) → comparison j ≡ Some o → Reached inner k (level WIDEST) ts (sign j ∷ us) a → Reached inner k (level WIDEST) us rest b → height (compare o a b) ≤ 200 → Reached inner k expr ts rest (compare o a b)
unfolding p.expression
compared_reached inner k ts us rest a b j o op h g low stop =
    let binds : binding (sign j ∷ us) ≡ 8 = comparison_binds j o op in
    step (p.level inner k WIDEST) (λ c vs. p.compared_by inner k c (comparison_ahead vs) vs) (whole inner k WIDEST ts (sign j ∷ us) a h (omega arith))
    ∙ ap (λ (q : Option Compare). p.compared_by inner k a q (sign j ∷ us)) op
    ∙ step (p.level inner k WIDEST) (λ c. node (compare o a c)) (whole inner k WIDEST us rest b g (omega arith))
    ∙ is_low height (compare o a b) rest low

raised_reached : {inner : Rule → Parser Tree} {k b h : ℕ} {ts us rest : List Terminal} {x y : Tree} → Reaches inner k → Suffixed inner k ts (sign DoubleStar ∷ us) x → Spells unary us rest y → Room k b h us → height y ≤ h → height (arithmetic Pow x y) ≤ 200 → Reached inner k power ts rest (arithmetic Pow x y)
unfolding p.power
raised_reached {inner} {k} {b} {h} {ts} {us} {rest} {x} {y} r g d w l low stop =
    step (p.postfix inner k) _ (postfix_whole inner k ts (sign DoubleStar ∷ us) x g (omega arith))
    ∙ step (eat DoubleStar) _ (took DoubleStar us)
    ∙ step (inner Unary) _ (r.reach Unary us rest y d b h w l stop)
    ∙ is_low height (arithmetic Pow x y) rest low

alone_reached : (inner : Rule → Parser Tree) (k : ℕ) (ts rest : List Terminal) (e : Tree) → Suffixed inner k ts rest e → Reached inner k power ts rest e
unfolding p.power
alone_reached inner k ts rest e h stop =
    step (p.postfix inner k) _ (postfix_whole inner k ts rest e h (omega arith))
    ∙ step (eat DoubleStar) _ (passed DoubleStar rest (no_power rest stop))

-- ---- signs

-- no sign of an operand stands in front
record NoSign (ts : List Terminal) : Type 0 where
  minus : sees Minus ts ≡ false
  tilde : sees Tilde ts ≡ false

abbrev Plain : Form → List Terminal → Type 0
Plain power ts = NoSign ts
Plain postfix ts = NoSign ts
Plain atom ts = NoSign ts
Plain expr ts = Unit {0}
Plain (level l) ts = Unit {0}
Plain unary ts = Unit {0}

plain : {f : Form} {ts rest : List Terminal} {e : Tree} → Spells f ts rest e → Plain f ts
unfolding same_kind
plain (uncompared d) = tt
plain (compared k o h d e) = tt
plain (tightest d) = tt
plain (single d) = tt
plain (joined k o h d e) = tt
plain (negative d) = tt
plain (inverted d) = tt
plain (unsigned d) = tt
plain (alone d) = plain d
plain (raised d e) = plain d
plain (bare d) = plain d
plain (suffixed d s) = plain d
plain (a_number n) = record { minus = refl; tilde = refl }
plain a_truth = record { minus = refl; tilde = refl }
plain a_falsehood = record { minus = refl; tilde = refl }
plain (a_name w) = record { minus = refl; tilde = refl }
plain (enclosed d) = record { minus = refl; tilde = refl }
plain (a_call c) = record { minus = refl; tilde = refl }

tilde_no_minus : (ts : List Terminal) → sees Minus (sign Tilde ∷ ts) ≡ false
unfolding same_kind
tilde_no_minus ts = refl

negative_reached : {inner : Rule → Parser Tree} {k b h : ℕ} {ts rest : List Terminal} {a : Tree} → Reaches inner k → Spells unary ts rest a → Room k b h ts → height a ≤ h → height (neg a) ≤ 200 → Reached inner k unary (sign Minus ∷ ts) rest (neg a)
unfolding p.unary
negative_reached {inner = inner} {b = b} {h = h} {ts = ts} {rest = rest} {a = a} r d w l low stop =
    step (eat Minus) _ (took Minus ts)
    ∙ step (inner Unary) _ (r.reach Unary ts rest a d b h w l stop)
    ∙ is_low height (neg a) rest low

inverted_reached : {inner : Rule → Parser Tree} {k b h : ℕ} {ts rest : List Terminal} {a : Tree} → Reaches inner k → Spells unary ts rest a → Room k b h ts → height a ≤ h → height (invert a) ≤ 200 → Reached inner k unary (sign Tilde ∷ ts) rest (invert a)
unfolding p.unary
inverted_reached {inner = inner} {b = b} {h = h} {ts = ts} {rest = rest} {a = a} r d w l low stop =
    step (eat Minus) _ (passed Minus (sign Tilde ∷ ts) (tilde_no_minus ts))
    ∙ step (eat Tilde) _ (took Tilde ts)
    ∙ step (inner Unary) _ (r.reach Unary ts rest a d b h w l stop)
    ∙ is_low height (invert a) rest low

unsigned_reached : (inner : Rule → Parser Tree) (k : ℕ) (ts rest : List Terminal) (e : Tree) → NoSign ts → Reached inner k power ts rest e → Reached inner k unary ts rest e
unfolding p.unary
unsigned_reached inner k ts rest e none h stop =
    step (eat Minus) _ (passed Minus ts none.minus)
    ∙ step (eat Tilde) _ (passed Tilde ts none.tilde)
    ∙ h stop

tightest_reached : (inner : Rule → Parser Tree) (k : ℕ) (ts rest : List Terminal) (e : Tree) → Reached inner k unary ts rest e → Reached inner k (level zero) ts rest e
unfolding p.level
tightest_reached inner k ts rest e h stop = h stop

-- ---- atoms

number_reached : (inner : Rule → Parser Tree) (k n : ℕ) (rest : List Terminal) → p.atom inner k (t.number n ∷ rest) ≡ got (number n) rest
unfolding p.atom
number_reached inner k n rest = refl

name_reached : (inner : Rule → Parser Tree) (k : ℕ) (w : List ℕ) (rest : List Terminal) → p.atom inner k (t.name w ∷ rest) ≡ got (name w) rest
unfolding p.atom
name_reached inner k w rest = refl

truth_reached : (inner : Rule → Parser Tree) (k : ℕ) (rest : List Terminal) → p.atom inner k (word True ∷ rest) ≡ got (truth true) rest
unfolding p.atom
truth_reached inner k rest = refl

falsehood_reached : (inner : Rule → Parser Tree) (k : ℕ) (rest : List Terminal) → p.atom inner k (word False ∷ rest) ≡ got (truth false) rest
unfolding p.atom
falsehood_reached inner k rest = refl

enclosed_reached : {inner : Rule → Parser Tree} {k b h : ℕ} {ts rest : List Terminal} {e : Tree} → Reaches inner k → Spells expr ts (sign RightParenthesis ∷ rest) e → Room k b h ts → height e ≤ h → p.enclosed inner k ts ≡ got e rest
unfolding p.enclosed
enclosed_reached {inner = inner} {rest = rest} r d w l = step (inner Expression) _ (argument r d w l (omega arith)) ∙ step (expect RightParenthesis) _ (expected RightParenthesis rest)

parenthesis_reached : {inner : Rule → Parser Tree} {k b h : ℕ} {ts rest : List Terminal} {e : Tree} → Reaches inner k → Spells expr ts (sign RightParenthesis ∷ rest) e → Room k b h ts → height e ≤ h → p.atom inner k (sign LeftParenthesis ∷ ts) ≡ got e rest
unfolding p.atom same_kind
parenthesis_reached r d w l = enclosed_reached r d w l

called_reached : (inner : Rule → Parser Tree) (k : ℕ) (f : Function) (ts rest : List Terminal) (e : Tree) → p.inside inner k f ts ≡ got e rest → p.called inner k f (sign LeftParenthesis ∷ ts) ≡ got e rest
unfolding p.called
called_reached inner k f ts rest e h = step (expect LeftParenthesis) _ (expected LeftParenthesis ts) ∙ h

call_reached : (inner : Rule → Parser Tree) (k : ℕ) (f : Function) (ts rest : List Terminal) (e : Tree) → p.inside inner k f ts ≡ got e rest → p.atom inner k (function f ∷ sign LeftParenthesis ∷ ts) ≡ got e rest
unfolding p.atom
call_reached inner k f ts rest e h = called_reached inner k f ts rest e h

-- ---- all of them

joined_height : (o : Operator) (a b : Tree) → height (operated o a b) ≡ suc (max (height a) (height b))
joined_height (Each o) a b = refl
joined_height Matrix a b = refl

left_below : (o : Operator) (a b : Tree) (h : ℕ) → height (operated o a b) ≤ h → height a ≤ h
left_below o a b h l = let e : height (operated o a b) ≡ suc (max (height a) (height b)) = joined_height o a b in omega arith

right_below : (o : Operator) (a b : Tree) (h : ℕ) → height (operated o a b) ≤ h → height b ≤ h
right_below o a b h l = let e : height (operated o a b) ≡ suc (max (height a) (height b)) = joined_height o a b in omega arith

max_left : (n m : ℕ) → n ≤ suc (max n m)
max_left n m = omega arith

suffix_height : {a e : Tree} {ts rest : List Terminal} → SpellsSuffix a ts rest e → height a ≤ height e
suffix_height {a} (indexed {i = i} {is = is} d) = max_left (height a) (max (item_height i) (items_height is))
suffix_height {a} turned = max_left (height a) 0
suffix_height {a} copied = omega arith
suffix_height {a} flattened = omega arith
suffix_height {a} (cast d) = omega arith
suffix_height {a} (reshaped {s = s} d) = max_left (height a) (shape_height s)
suffix_height {a} reversed = max_left (height a) 0
suffix_height {a} (transposed {s = s} d) = max_left (height a) (shape_height s)
suffix_height {a} (reduced o) = max_left (height a) 0
suffix_height {a} (reduced_along {e = e} o d) = max_left (height a) (height e)

complete : {inner : Rule → Parser Tree} {k b h : ℕ} {f : Form} {ts rest : List Terminal} {e : Tree} → Reaches inner k → Spells f ts rest e → Space k b h ts → height e ≤ h → Reached inner k f ts rest e
complete {inner} {k} {ts = ts} {rest = rest} {e = e} r (uncompared d) w l = uncompared_reached inner k ts rest e (complete r d w l)
complete {inner} {k} {ts = ts} {rest = rest} r (compared {us = us} {a = x} {b = y} j o op d e) w l =
    compared_reached inner k ts us rest x y j o op (complete r d w (omega arith)) (complete r e (space_past (comparing j o op).passes (space_past (spans d).passes w)) (omega arith)) (fits (suc (max (height x) (height y))) w l)
complete {inner} {k} {ts = ts} {rest = rest} {e = e} r (tightest d) w l = tightest_reached inner k ts rest e (complete r d w l)
complete {inner} {k} {ts = ts} {rest = rest} {e = e} r (single {l = n} d) w l = single_reached inner k n ts rest e (spans d).some (complete r d w l)
complete {inner} {k} {h = h} {ts = ts} {rest = rest} r (joined {l = n} {us = us} {a = x} {b = y} j o op d e) w l =
    joined_reached inner k n ts us rest x y j o op (complete r d w (left_below o x y h l)) (complete r e (space_past (operator j _ op).passes (space_past (spans d).passes w)) (right_below o x y h l)) (spans e).some (fits (height (operated o x y)) w l)
complete r (negative {e = x} d) w l = negative_reached r d (below (height x) l (space_next w refl refl)) (omega arith) (fits (suc (height x)) w l)
complete r (inverted {e = x} d) w l = inverted_reached r d (below (height x) l (space_next w refl refl)) (omega arith) (fits (suc (height x)) w l)
complete {inner} {k} {ts = ts} {rest = rest} {e = e} r (unsigned d) w l = unsigned_reached inner k ts rest e (plain d) (complete r d w l)
complete {inner} {k} {ts = ts} {rest = rest} {e = e} r (alone d) w l = alone_reached inner k ts rest e (complete r d w l)
complete r (raised {a = x} {b = y} d e) w l =
    raised_reached r (complete r d w (omega arith)) e (below (height y) (omega arith) (space_next (space_past (spans d).passes w) refl refl)) (omega arith) (fits (suc (max (height x) (height y))) w l)
complete {inner} {k} {ts = ts} {rest = rest} {e = e} r (bare d) w l = bare_reached inner k ts rest e (spans d).some (complete r d w l)
complete {inner} {k} {ts = ts} {rest = rest} {e = e} r (suffixed {us = us} {a = x} d s) w l =
    let under : height x ≤ height e = suffix_height s in
    suffixed_reached inner k ts us rest x e (complete r d w (omega arith)) (suffix s).some (suffix_turn r s (space_past (spans d).passes w) l)
complete {inner} {k} {rest = rest} r (a_number n) w l = number_reached inner k n rest
complete {inner} {k} {rest = rest} r a_truth w l = truth_reached inner k rest
complete {inner} {k} {rest = rest} r a_falsehood w l = falsehood_reached inner k rest
complete {inner} {k} {rest = rest} r (a_name n) w l = name_reached inner k n rest
complete r (enclosed d) w l = parenthesis_reached r d (enter w refl refl) l
complete {inner} {k} {rest = rest} {e = e} r (a_call {f = f} {ts = us} c) w l = call_reached inner k f us rest e (inside_reached r c (enter (space_next w refl refl) refl refl) l)

-- one level down
here : {n a h : ℕ} {ts : List Terminal} → Room (suc n) a h ts → Space n a h ts
here {n} {a} {h} w = let f : 64 + h < a + suc n = w.fuel in record { fits = w.fits; fuel = omega arith; low = w.low }

deeper : {n : ℕ} → Reaches (parse n) n → (q : Rule) (ts rest : List Terminal) (e : Tree) → Spells (form_of q) ts rest e → (a h : ℕ) → Room (suc n) a h ts → height e ≤ h → strength q < binding rest → parse (suc n) q ts ≡ got e rest
unfolding parse
deeper r Expression ts rest e d a h w l stop = complete r d (here w) l stop
deeper r Unary ts rest e d a h w l stop = complete r d (here w) l stop

no_room : {a h : ℕ} {ts : List Terminal} → Room 0 a h ts → ⊥
no_room {a} {h} w = let b : a ≤ 64 = fits_base w.fits in let f : 64 + h < a + 0 = w.fuel in omega arith

pub ready : (n : ℕ) → Reaches (parse n) n
ready zero = record { reach = λ q ts rest e d a h w l stop. absurd (no_room w) }
ready (suc n) = record { reach = deeper (ready n) }
