-- What stands between the terminals before a form and those behind it: as many brackets are closed
-- there as are opened, and outside of them stands no comma.
use Rattle.std.proofs.Common.{◌≡◌, ℕ, suc, ◌+◌, ◌<◌, ◌≤◌, Bool, Option, Some, List, [], ◌∷◌, ◌++◌, length, refl, sym, ap, ◌∙◌, arith, append_assoc, length-append}
use Rattle.lg_elem.specs.declared.dtype.DType.{DType}
use Rattle.lg_elem.specs.declared.kinds.Compare.{Compare}
use Rattle.lg_lex.specs.declared.tokens.TokenKind.{TokenKind}
use Rattle.lg_lex.specs.declared.tokens.TokenKind.TheVariants.{Minus, Tilde, DoubleStar, Equal, Colon, Dot, Ellipsis, Comma, LeftParenthesis, RightParenthesis, LeftBracket, RightBracket}
use Rattle.lg_tree.specs.Tree.{Tree, MaybeTree, Trees, ShapeTree, ItemTree, ItemTrees, ListTree, ListTrees}
use Rattle.lg_parse.specs.declared.operators.Operator.{Operator}
use Rattle.lg_parse.specs.declared.words.Function.{Function}
use Rattle.lg_parse.specs.declared.words.Word.{Word}
use Rattle.lg_parse.specs.Terminal.{Terminal, word, element, function, sign}
use Rattle.lg_parse.specs.Terminal as t
use Rattle.lg_parse.specs.Brackets.{opens, closes, opened_by, closed_by, opened, closed}
use Rattle.lg_parse.specs.Operators.{operation, comparison}
use Rattle.lg_parse.specs.Types.{SpellsType, no_type, plain_type, named_type}
use Rattle.lg_parse.specs.Expressions.{Form, Spells, uncompared, compared, tightest, single, joined, negative, inverted, unsigned, alone, raised, bare, suffixed, a_number, a_truth, a_falsehood, a_name, enclosed, a_call, SpellsCall, a_full, some_zeros, some_ones, a_range_to, a_range, an_array, an_abs, a_minimum, a_maximum, a_choice, a_reduction, a_scan, a_take, a_reversal, a_transpose, a_broadcast, a_stencil, an_application, SpellsAlong, plain_axis, named_axis, SpellsAxis, no_axis, an_axis, SpellsSuffix, indexed, turned, copied, flattened, cast, reshaped, reversed, transposed, reduced, reduced_along, SpellsItem, a_place, a_slice, a_stepped, an_axis_more, the_others, SpellsPart, no_part, a_part, SpellsItems, nothing, last_item, next_item, SpellsShape, one_extent, no_extent, a_tuple, SpellsMembers, no_members, last_member, next_member, SpellsSeveral, as_shape, side_by_side, SpellsExtents, last_extent, next_extent, SpellsList, a_list, SpellsEntries, no_entries, last_entry, next_entry, SpellsEntry, inner_list, one_entry}
use Rattle.lg_parse.specs.Parsing.{has_comma, comma_behind}

pub opened-append : (ts us : List Terminal) → opened (ts ++ us) ≡ opened ts + opened us
opened-append [] us = omega arith
opened-append (t ∷ ts) us = let e : opened (ts ++ us) ≡ opened ts + opened us = opened-append ts us in omega arith

pub closed-append : (ts us : List Terminal) → closed (ts ++ us) ≡ closed ts + closed us
closed-append [] us = omega arith
closed-append (t ∷ ts) us = let e : closed (ts ++ us) ≡ closed ts + closed us = closed-append ts us in omega arith

-- as many brackets are closed as are opened, and inside of a bracket a comma is not told from none
pub record Passes (ts rest : List Terminal) : Type 0 where
  pub front : List Terminal
  pub cut : ts ≡ front ++ rest
  pub even : opened front ≡ closed front
  pub inside : (d : ℕ) → has_comma ts (suc d) ≡ has_comma rest (suc d)

-- and no comma stands there outside of brackets
pub record Spans (ts rest : List Terminal) : Type 0 where
  pub passes : Passes ts rest
  pub some : length rest < length ts
  pub outside : (d : ℕ) → has_comma ts d ≡ has_comma rest d

pub here : {ts : List Terminal} → Passes ts ts
here = record { front = []; cut = refl; even = refl; inside = λ d. refl }

pub on : {ts us rest : List Terminal} → Passes ts us → Passes us rest → Passes ts rest
on {ts} {us} {rest} p q = record {
  front = p.front ++ q.front;
  cut = p.cut ∙ ap (λ (z : List Terminal). p.front ++ z) q.cut ∙ sym (append_assoc p.front q.front rest);
  even = let e : opened p.front ≡ closed p.front = p.even in let f : opened q.front ≡ closed q.front = q.even in omega (arith, opened-append p.front q.front, closed-append p.front q.front);
  inside = λ d. p.inside d ∙ q.inside d;
}

pub over : {ts us rest : List Terminal} → Spans ts us → Spans us rest → Spans ts rest
over {ts} {us} {rest} p q = record {
  passes = on p.passes q.passes;
  some = let a : length us < length ts = p.some in let b : length rest < length us = q.some in omega arith;
  outside = λ d. p.outside d ∙ q.outside d;
}

-- a terminal that is neither a bracket nor a comma
one_more : {ts : List Terminal} (t : Terminal) → opened_by t ≡ 0 → closed_by t ≡ 0 → ((d : ℕ) → has_comma (t ∷ ts) d ≡ has_comma ts d) → Spans (t ∷ ts) ts
one_more {ts} t o c h = record {
  passes = record { front = t ∷ []; cut = refl; even = omega arith; inside = λ d. h (suc d) };
  some = omega arith;
  outside = h;
}

a_mark : {ts : List Terminal} (k : TokenKind) → opens k ≡ 0 → closes k ≡ 0 → ((go : ℕ → Bool) (d : ℕ) → comma_behind k go d ≡ go d) → Spans (sign k ∷ ts) ts
a_mark {ts} k o c h = one_more (sign k) o c (λ d. h (has_comma ts) d)

pub comma : {ts : List Terminal} → Passes (sign Comma ∷ ts) ts
comma = record { front = sign Comma ∷ []; cut = refl; even = refl; inside = λ d. refl }

-- in brackets
bracket : {ts rest : List Terminal} (k j : TokenKind) → opens k ≡ 1 → closes k ≡ 0 → opens j ≡ 0 → closes j ≡ 1 → ((go : ℕ → Bool) (d : ℕ) → comma_behind k go d ≡ go (suc d)) → ((go : ℕ → Bool) (d : ℕ) → comma_behind j go (suc d) ≡ go d) → Passes ts (sign j ∷ rest) → Spans (sign k ∷ ts) rest
bracket {ts} {rest} k j a b c d h i p =
    let skip : (n : ℕ) → has_comma (sign k ∷ ts) n ≡ has_comma rest n = λ n. h (has_comma ts) n ∙ p.inside n ∙ i (has_comma rest) n in
    let e : opened p.front ≡ closed p.front = p.even in
    let l : length ts ≡ length (p.front ++ (sign j ∷ rest)) = ap length p.cut in
    record {
      passes = record {
        front = sign k ∷ (p.front ++ (sign j ∷ []));
        cut = ap (λ (z : List Terminal). sign k ∷ z) (p.cut ∙ sym (append_assoc p.front (sign j ∷ []) rest));
        even = omega (arith, opened-append p.front (sign j ∷ []), closed-append p.front (sign j ∷ []));
        inside = λ n. skip (suc n);
      };
      some = omega (arith, length-append p.front (sign j ∷ rest));
      outside = skip;
    }

pub parentheses : {ts rest : List Terminal} → Passes ts (sign RightParenthesis ∷ rest) → Spans (sign LeftParenthesis ∷ ts) rest
parentheses p = bracket LeftParenthesis RightParenthesis refl refl refl refl (λ go d. refl) (λ go d. refl) p

pub brackets : {ts rest : List Terminal} → Passes ts (sign RightBracket ∷ rest) → Spans (sign LeftBracket ∷ ts) rest
brackets p = bracket LeftBracket RightBracket refl refl refl refl (λ go d. refl) (λ go d. refl) p

pub operator : {ts : List Terminal} (k : TokenKind) (p : ℕ × Operator) → operation k ≡ Some p → Spans (sign k ∷ ts) ts
operator LeftParenthesis p h = absurd (cc)
operator RightParenthesis p h = absurd (cc)
operator LeftBracket p h = absurd (cc)
operator RightBracket p h = absurd (cc)
operator Comma p h = absurd (cc)
operator k p h = a_mark k refl refl (λ go d. refl)

pub comparing : {ts : List Terminal} (k : TokenKind) (o : Compare) → comparison k ≡ Some o → Spans (sign k ∷ ts) ts
comparing LeftParenthesis o h = absurd (cc)
comparing RightParenthesis o h = absurd (cc)
comparing LeftBracket o h = absurd (cc)
comparing RightBracket o h = absurd (cc)
comparing Comma o h = absurd (cc)
comparing k o h = a_mark k refl refl (λ go d. refl)

a_sign : {ts : List Terminal} (k : TokenKind) → opens k ≡ 0 → closes k ≡ 0 → ((go : ℕ → Bool) (d : ℕ) → comma_behind k go d ≡ go d) → Spans (sign k ∷ ts) ts
a_sign = a_mark

a_word : {ts : List Terminal} {w : Word} → Spans (word w ∷ ts) ts
a_word {w = w} = one_more (word w) refl refl (λ d. refl)

a_type : {ts : List Terminal} {d : DType} → Spans (element d ∷ ts) ts
a_type {d = d} = one_more (element d) refl refl (λ n. refl)

a_function : {ts : List Terminal} {f : Function} → Spans (function f ∷ ts) ts
a_function {f = f} = one_more (function f) refl refl (λ d. refl)

the_name : {ts : List Terminal} {w : List ℕ} → Spans (t.name w ∷ ts) ts
the_name {w = w} = one_more (t.name w) refl refl (λ d. refl)

the_number : {ts : List Terminal} {n : ℕ} → Spans (t.number n ∷ ts) ts
the_number {n = n} = one_more (t.number n) refl refl (λ d. refl)

pub type_passes : {ts rest : List Terminal} {d : Option DType} → SpellsType ts rest d → Passes ts rest
type_passes no_type = here
type_passes (plain_type d) = on comma a_type.passes
type_passes (named_type d) = on comma (over (over a_word (a_sign Equal refl refl (λ go n. refl))) a_type).passes

colon : {ts : List Terminal} → Spans (sign Colon ∷ ts) ts
colon = a_sign Colon refl refl (λ go n. refl)

-- the empty parentheses of a method
empty : {ts : List Terminal} → Spans (sign LeftParenthesis ∷ sign RightParenthesis ∷ ts) ts
empty = parentheses here

mutual
  pub spans : {f : Form} {ts rest : List Terminal} {e : Tree} → Spells f ts rest e → Spans ts rest
  spans (uncompared d) = spans d
  spans (compared k o h d e) = over (over (spans d) (comparing k o h)) (spans e)
  spans (tightest d) = spans d
  spans (single d) = spans d
  spans (joined k o h d e) = over (over (spans d) (operator k _ h)) (spans e)
  spans (negative d) = over (a_sign Minus refl refl (λ go n. refl)) (spans d)
  spans (inverted d) = over (a_sign Tilde refl refl (λ go n. refl)) (spans d)
  spans (unsigned d) = spans d
  spans (alone d) = spans d
  spans (raised d e) = over (over (spans d) (a_sign DoubleStar refl refl (λ go n. refl))) (spans e)
  spans (bare d) = spans d
  spans (suffixed d s) = over (spans d) (suffix s)
  spans (a_number n) = the_number
  spans a_truth = a_word
  spans a_falsehood = a_word
  spans (a_name w) = the_name
  spans (enclosed d) = parentheses (spans d).passes
  spans (a_call c) = over a_function (parentheses (call c))

  pub call : {f : Function} {ts rest : List Terminal} {e : Tree} → SpellsCall f ts rest e → Passes ts rest
  call (a_full s x t) = on (on (on (a_shape s).passes comma) (spans x).passes) (type_passes t)
  call (some_zeros s t) = on (a_shape s).passes (type_passes t)
  call (some_ones s t) = on (a_shape s).passes (type_passes t)
  call (a_range_to x t) = on (spans x).passes (type_passes t)
  call (a_range x y t) = on (on (on (spans x).passes comma) (spans y).passes) (type_passes t)
  call (an_array l t) = on (list_spans l).passes (type_passes t)
  call (an_abs x) = (spans x).passes
  call (a_minimum x y) = on (on (spans x).passes comma) (spans y).passes
  call (a_maximum x y) = on (on (spans x).passes comma) (spans y).passes
  call (a_choice c x y) = on (on (on (on (spans c).passes comma) (spans x).passes) comma) (spans y).passes
  call (a_reduction r x k) = on (spans x).passes (axis k)
  call (a_scan c x k) = on (spans x).passes (axis k)
  call (a_take x i k) = on (on (on (spans x).passes comma) (spans i).passes) (axis k)
  call (a_reversal x) = (spans x).passes
  call (a_transpose x s) = on (on (spans x).passes comma) (a_shape s).passes
  call (a_broadcast x s) = on (on (spans x).passes comma) (a_shape s).passes
  call (a_stencil x l) = on (on (spans x).passes comma) (list_spans l).passes
  call (an_application w x y) = on (on (on (on the_name.passes comma) (spans x).passes) comma) (spans y).passes

  pub along : {ts rest : List Terminal} {e : Tree} → SpellsAlong ts rest e → Spans ts rest
  along (plain_axis d) = spans d
  along (named_axis d) = over (over a_word (a_sign Equal refl refl (λ go n. refl))) (spans d)

  pub axis : {ts rest : List Terminal} {k : MaybeTree} → SpellsAxis ts rest k → Passes ts rest
  axis no_axis = here
  axis (an_axis d) = on comma (along d).passes

  pub suffix : {a e : Tree} {ts rest : List Terminal} → SpellsSuffix a ts rest e → Spans ts rest
  suffix (indexed is) = brackets (items_pass is)
  suffix turned = over (a_sign Dot refl refl (λ go n. refl)) the_name
  suffix copied = over (over (a_sign Dot refl refl (λ go n. refl)) the_name) empty
  suffix flattened = over (over (a_sign Dot refl refl (λ go n. refl)) the_name) empty
  suffix (cast d) = over (over (a_sign Dot refl refl (λ go n. refl)) the_name) (parentheses a_type.passes)
  suffix (reshaped s) = over (over (a_sign Dot refl refl (λ go n. refl)) the_name) (parentheses (several s))
  suffix reversed = over (over (a_sign Dot refl refl (λ go n. refl)) a_function) empty
  suffix (transposed s) = over (over (a_sign Dot refl refl (λ go n. refl)) a_function) (parentheses (several s))
  suffix (reduced r) = over (over (a_sign Dot refl refl (λ go n. refl)) a_function) empty
  suffix (reduced_along r d) = over (over (a_sign Dot refl refl (λ go n. refl)) a_function) (parentheses (along d).passes)

  pub item_passes : {ts rest : List Terminal} {i : ItemTree} → SpellsItem ts rest i → Passes ts rest
  item_passes (a_place d) = (spans d).passes
  item_passes (a_slice a b) = on (on (part a) colon.passes) (part b)
  item_passes (a_stepped a b c) = on (on (on (on (part a) colon.passes) (part b)) colon.passes) (part c)
  item_passes an_axis_more = a_word.passes
  item_passes the_others = (a_sign Ellipsis refl refl (λ go n. refl)).passes

  pub part : {ts rest : List Terminal} {e : MaybeTree} → SpellsPart ts rest e → Passes ts rest
  part no_part = here
  part (a_part d) = (spans d).passes

  pub items_pass : {ts rest : List Terminal} {is : ItemTrees} → SpellsItems ts rest is → Passes ts rest
  items_pass nothing = here
  items_pass (last_item d) = item_passes d
  items_pass (next_item d h) = on (on (item_passes d) comma) (items_pass h)

  pub a_shape : {ts rest : List Terminal} {s : ShapeTree} → SpellsShape ts rest s → Spans ts rest
  a_shape (one_extent d) = spans d
  a_shape no_extent = empty
  a_shape (a_tuple d h) = parentheses (on (on (spans d).passes comma) (members_pass h))

  pub members_pass : {ts rest : List Terminal} {es : Trees} → SpellsMembers ts rest es → Passes ts rest
  members_pass no_members = here
  members_pass (last_member d) = (spans d).passes
  members_pass (next_member d h) = on (on (spans d).passes comma) (members_pass h)

  pub several : {ts rest : List Terminal} {s : ShapeTree} → SpellsSeveral ts rest s → Passes ts rest
  several (as_shape s) = (a_shape s).passes
  several (side_by_side d h) = on (on (spans d).passes comma) (extents_pass h)

  pub extents_pass : {ts rest : List Terminal} {es : Trees} → SpellsExtents ts rest es → Passes ts rest
  extents_pass (last_extent d) = (spans d).passes
  extents_pass (next_extent d h) = on (on (spans d).passes comma) (extents_pass h)

  pub list_spans : {ts rest : List Terminal} {l : ListTree} → SpellsList ts rest l → Spans ts rest
  list_spans (a_list h) = brackets (entries_pass h)

  pub entries_pass : {ts rest : List Terminal} {ls : ListTrees} → SpellsEntries ts rest ls → Passes ts rest
  entries_pass no_entries = here
  entries_pass (last_entry d) = (entry_spans d).passes
  entries_pass (next_entry d h) = on (on (entry_spans d).passes comma) (entries_pass h)

  pub entry_spans : {ts rest : List Terminal} {l : ListTree} → SpellsEntry ts rest l → Spans ts rest
  entry_spans (inner_list l) = list_spans l
  entry_spans (one_entry d) = spans d

pub passes_length : {ts rest : List Terminal} → Passes ts rest → length rest ≤ length ts
passes_length {ts} {rest} p = let l : length ts ≡ length (p.front ++ rest) = ap length p.cut in omega (arith, length-append p.front rest)

-- an item takes a terminal
pub item_some : {ts rest : List Terminal} {i : ItemTree} → SpellsItem ts rest i → length rest < length ts
item_some (a_place d) = (spans d).some
item_some {ts} {rest} (a_slice {us = us} a b) =
    let p : length (sign Colon ∷ us) ≤ length ts = passes_length (part a) in
    let q : length rest ≤ length us = passes_length (part b) in
    omega arith
item_some {ts} {rest} (a_stepped {us = us} {vs = vs} a b c) =
    let p : length (sign Colon ∷ us) ≤ length ts = passes_length (part a) in
    let q : length (sign Colon ∷ vs) ≤ length us = passes_length (part b) in
    let r : length rest ≤ length vs = passes_length (part c) in
    omega arith
item_some an_axis_more = omega arith
item_some the_others = omega arith
