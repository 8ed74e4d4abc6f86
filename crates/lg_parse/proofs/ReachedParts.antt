-- The parsers of types, axes, shapes, lists and items reach what the grammar spells.
use Rattle.std.proofs.Common.{◌≡◌, ℕ, zero, suc, ◌+◌, ◌<◌, ◌≤◌, max, true, false, Option, List, [], ◌∷◌, ◌++◌, length, refl, sym, ap, ◌∙◌, subst, arith, append_assoc, append-nil}
use Rattle.lg_elem.specs.declared.dtype.DType.{DType}
use Rattle.lg_lex.specs.declared.tokens.TokenKind.{TokenKind}
use Rattle.lg_lex.specs.declared.tokens.TokenKind.TheVariants.{Comma, Colon, Equal, Ellipsis, LeftParenthesis, RightParenthesis, LeftBracket, RightBracket}
use Rattle.lg_tree.specs.Tree.{Tree, MaybeTree, no_tree, some_tree, Trees, no_trees, more_trees, ShapeTree, tuple, ItemTree, at, slice, new_axis, ellipsis, ItemTrees, no_items, more_items, ListTree, list, ListTrees, no_lists, more_lists}
use Rattle.lg_tree.specs.Measures.{height, maybe_height, part_height, trees_height, shape_height, item_height, items_height, list_height, lists_height}
use Rattle.lg_tree.specs.View.{trees, item_trees, list_trees}
use Rattle.lg_parse.specs.declared.rules.Rule.{Rule}
use Rattle.lg_parse.specs.declared.rules.Rule.TheVariants.{Expression, Unary}
use Rattle.lg_parse.specs.declared.words.Word.TheVariants.{Axis, NewAxis}
use Rattle.lg_parse.specs.Brackets.{opens, closes}
use Rattle.lg_parse.specs.Terminal.{Terminal, word, sign}
use Rattle.lg_parse.specs.Types.{SpellsType, no_type, plain_type, named_type}
use Rattle.lg_parse.specs.Expressions.{expr, Spells, SpellsAlong, plain_axis, named_axis, SpellsAxis, no_axis, an_axis, SpellsItem, a_place, a_slice, a_stepped, an_axis_more, the_others, SpellsPart, no_part, a_part, SpellsItems, nothing, last_item, next_item, SpellsShape, one_extent, no_extent, a_tuple, SpellsMembers, no_members, last_member, next_member, SpellsSeveral, as_shape, side_by_side, SpellsExtents, last_extent, next_extent, SpellsList, a_list, SpellsEntries, no_entries, last_entry, next_entry, SpellsEntry, inner_list, one_entry}
use Rattle.lg_parse.specs.Parsing.{Parser, Outcome, ◌>>=◌, ◌>>◌, pure, made, low, same_kind, same_word, sees, sees_type, begins_type, sees_tuple, sees_end, has_comma, eat, eat_word, expect, ending, dtype, element_type, members, extents, next, last, tuple_shape, filled_tuple, other_members, shape, next_shape, other_extents, plain_extents, several, leaf_entry, entry_by, bracketed, along, axis, axis_ending, second, part, sliced, placed, item, items}
use Rattle.lg_parse.specs.Parsing as p
use Rattle.lg_parse.proofs.FoundParts.{form_of, Listed, listed_none, listed_last, listed_more, Row, row_end, row_on, Expr, Entry, Item}
use Rattle.lg_parse.proofs.Passing.{spans, item_passes, item_some, part as part_passes, entry_spans}
use Rattle.lg_parse.proofs.Fronts.{begins, leads, unseen, colon_behind, ellipsis_behind, parenthesis_behind, opening_behind, bracket_behind, no_axis_word, no_new_word, no_type_front, no_tuple, a_tuple_front, an_empty_front, no_end}
use Rattle.lg_parse.proofs.Bindings.{binding, got, took, took_word, passed, passed_word, expected, is_low, chosen, first, step}
use Rattle.lg_parse.proofs.Rooms.{fits_in, fits_base, Room, past, beyond}

-- what must not stand behind a rule binds as tightly as this
abbrev pub strength : Rule → ℕ
strength Expression = 8
strength Unary = 1

-- what there is room for is reached
pub record Reaches (inner : Rule → Parser Tree) (k : ℕ) : Type 0 where
  pub reach : (r : Rule) (ts rest : List Terminal) (e : Tree) → Spells (form_of r) ts rest e → (a h : ℕ) → Room k a h ts → height e ≤ h → strength r < binding rest → inner r ts ≡ got e rest

pub argument : {inner : Rule → Parser Tree} {k a h : ℕ} {ts rest : List Terminal} {e : Tree} → Reaches inner k → Spells expr ts rest e → Room k a h ts → height e ≤ h → 8 < binding rest → inner Expression ts ≡ got e rest
argument {a = a} {h = h} {ts = ts} {rest = rest} {e = e} r d w l stop = r.reach Expression ts rest e d a h w l stop

-- ---- types

pub type_stops : {ts rest : List Terminal} {t : Option DType} → SpellsType ts (sign RightParenthesis ∷ rest) t → 8 < binding ts
type_stops no_type = omega arith
type_stops (plain_type t) = omega arith
type_stops (named_type t) = omega arith

pub ending_reached : {ts rest : List Terminal} {t : Option DType} → SpellsType ts (sign RightParenthesis ∷ rest) t → ending ts ≡ got t rest
unfolding ending dtype p.named_type element_type expect eat_word same_kind same_word
ending_reached no_type = refl
ending_reached (plain_type t) = refl
ending_reached (named_type t) = refl

-- ---- arguments

pub next_reached : {inner : Rule → Parser Tree} {k a h : ℕ} {ts rest : List Terminal} {e : Tree} → Reaches inner k → Spells expr ts rest e → Room k a h ts → height e ≤ h → 8 < binding rest → next inner k (sign Comma ∷ ts) ≡ got e rest
unfolding next
next_reached {ts = ts} r d w l stop = step (expect Comma) _ (expected Comma ts) ∙ argument r d w l stop

pub last_reached : {inner : Rule → Parser Tree} {k a h : ℕ} {ts rest : List Terminal} {e : Tree} → Reaches inner k → Spells expr ts (sign RightParenthesis ∷ rest) e → Room k a h ts → height e ≤ h → last inner k (sign Comma ∷ ts) ≡ got e rest
unfolding last
last_reached {inner = inner} {k = k} {rest = rest} r d w l = step (next inner k) _ (next_reached r d w l (omega arith)) ∙ step (expect RightParenthesis) _ (expected RightParenthesis rest)

pub no_second_here : (inner : Rule → Parser Tree) (k : ℕ) {ts rest : List Terminal} {t : Option DType} → SpellsType ts (sign RightParenthesis ∷ rest) t → second inner k ts ≡ got no_tree ts
unfolding second eat same_kind same_word
no_second_here inner k no_type = refl
no_second_here inner k (plain_type t) = refl
no_second_here inner k (named_type t) = refl

no_type_behind : (ts : List Terminal) → sees_type ts ≡ false → begins_type (sign Comma ∷ ts) ≡ false
unfolding same_kind
no_type_behind ts h = h

pub second_reached : {inner : Rule → Parser Tree} {k a h : ℕ} {ts rest : List Terminal} {e : Tree} → Reaches inner k → Spells expr ts rest e → Room k a h ts → height e ≤ h → 8 < binding rest → second inner k (sign Comma ∷ ts) ≡ got (some_tree e) rest
unfolding second
second_reached {inner = inner} {ts = ts} r d w l stop =
    chosen _ _ (begins_type (sign Comma ∷ ts)) (no_type_behind ts (no_type_front ts (begins d)))
    ∙ step (eat Comma) _ (took Comma ts)
    ∙ step (inner Expression) _ (argument r d w l stop)

pub along_reached : {inner : Rule → Parser Tree} {k a h : ℕ} {ts rest : List Terminal} {e : Tree} → Reaches inner k → SpellsAlong ts rest e → Room k a h ts → height e ≤ h → 8 < binding rest → along inner k ts ≡ got e rest
unfolding along
along_reached {ts = ts} r (plain_axis d) w l stop = step (eat_word Axis) _ (passed_word Axis ts (no_axis_word ts (begins d))) ∙ argument r d w l stop
along_reached r (named_axis {ts = us} d) w l stop =
    step (eat_word Axis) _ (took_word Axis (sign Equal ∷ us))
    ∙ step (expect Equal) _ (expected Equal us)
    ∙ argument r d (beyond (beyond w refl refl) refl refl) l stop

close_no_comma : (rest : List Terminal) → sees Comma (sign RightParenthesis ∷ rest) ≡ false
unfolding same_kind
close_no_comma rest = refl

axis_reached : {inner : Rule → Parser Tree} {k a h : ℕ} {ts rest : List Terminal} {e : MaybeTree} → Reaches inner k → SpellsAxis ts (sign RightParenthesis ∷ rest) e → Room k a h ts → maybe_height e ≤ h → axis inner k ts ≡ got e (sign RightParenthesis ∷ rest)
unfolding axis
axis_reached {rest = rest} r no_axis w l = step (eat Comma) _ (passed Comma (sign RightParenthesis ∷ rest) (close_no_comma rest))
axis_reached {inner = inner} {k = k} r (an_axis {ts = us} d) w l = step (eat Comma) _ (took Comma us) ∙ step (along inner k) _ (along_reached r d (beyond w refl refl) l (omega arith))

pub axis_ending_reached : {inner : Rule → Parser Tree} {k a h : ℕ} {ts rest : List Terminal} {e : MaybeTree} → Reaches inner k → SpellsAxis ts (sign RightParenthesis ∷ rest) e → Room k a h ts → maybe_height e ≤ h → axis_ending inner k ts ≡ got e rest
unfolding axis_ending
axis_ending_reached {inner = inner} {k = k} {rest = rest} r d w l = step (axis inner k) _ (axis_reached r d w l) ∙ step (expect RightParenthesis) _ (expected RightParenthesis rest)

pub axis_stops : {ts rest : List Terminal} {e : MaybeTree} → SpellsAxis ts (sign RightParenthesis ∷ rest) e → 8 < binding ts
axis_stops no_axis = omega arith
axis_stops (an_axis d) = omega arith

-- ---- members

-- what is known of each member
pub record Each {A : Type 0} (M : List Terminal → List Terminal → A → Type 0) (member : Parser A) (close : TokenKind) (P S : List Terminal → Type 0) (size : A → ℕ) (h : ℕ) : Type 0 where
  pub reach : (ts us : List Terminal) (x : A) → M ts us x → P ts → size x ≤ h → S us → member ts ≡ got x us
  pub at_comma : (us : List Terminal) → S (sign Comma ∷ us)
  pub at_close : (us : List Terminal) → S (sign close ∷ us)
  pub past_it : (ts us : List Terminal) (x : A) → M ts us x → P ts → P us
  pub past_comma : (us : List Terminal) → P (sign Comma ∷ us) → P us
  pub front : (ts us : List Terminal) (x : A) → M ts us x → sees close ts ≡ false
  pub shorter : (ts us : List Terminal) (x : A) → M ts us x → length us < length ts
  pub apart : (us : List Terminal) → sees Comma (sign close ∷ us) ≡ false

pub members_reached : {A : Type 0} {M : List Terminal → List Terminal → A → Type 0} {member : Parser A} {close : TokenKind} {P S : List Terminal → Type 0} {size : A → ℕ} {h : ℕ} → Each M member close P S size h → (top : List A → ℕ) → ((x : A) (xs : List A) → top (x ∷ xs) ≡ max (size x) (top xs)) → (n : ℕ) (found : List A) (ts rest : List Terminal) (xs : List A) → Listed M ts (sign close ∷ rest) xs → P ts → top xs ≤ h → length ts ≤ n → members member close n found ts ≡ got (found ++ xs) rest
unfolding members
members_reached e top split zero found _ rest _ listed_none w l turns = absurd (omega arith)
members_reached {close = close} e top split zero found ts rest _ (listed_last {a = x} d) w l turns = absurd (let s : length (sign close ∷ rest) < length ts = e.shorter ts _ x d in omega arith)
members_reached e top split zero found ts rest _ (listed_more {us = us} {a = x} d k) w l turns = absurd (let s : length (sign Comma ∷ us) < length ts = e.shorter ts _ x d in omega arith)
members_reached {close = close} e top split (suc n) found _ rest _ listed_none w l turns =
    step (eat close) _ (took close rest)
    ∙ ap (λ (z : List _). got z rest) (sym (append-nil found))
members_reached {member = member} {close = close} {size = size} {h = h} e top split (suc n) found ts rest _ (listed_last {a = x} d) w l turns =
    let m : top (x ∷ []) ≡ max (size x) (top []) = split x [] in
    let low : size x ≤ h = omega arith in
    step (eat close) _ (passed close ts (e.front ts _ x d))
    ∙ step member _ (e.reach ts (sign close ∷ rest) x d w low (e.at_close rest))
    ∙ step (eat Comma) _ (passed Comma (sign close ∷ rest) (e.apart rest))
    ∙ step (expect close) _ (expected close rest)
members_reached {member = member} {close = close} {size = size} {h = h} e top split (suc n) found ts rest _ (listed_more {us = us} {a = x} {others = others} d k) w l turns =
    let m : top (x ∷ others) ≡ max (size x) (top others) = split x others in
    let low : size x ≤ h = omega arith in
    let rest_low : top others ≤ h = omega arith in
    let s : length (sign Comma ∷ us) < length ts = e.shorter ts _ x d in
    step (eat close) _ (passed close ts (e.front ts _ x d))
    ∙ step member _ (e.reach ts (sign Comma ∷ us) x d w low (e.at_comma us))
    ∙ step (eat Comma) _ (took Comma us)
    ∙ members_reached e top split n (found ++ x ∷ []) us rest others k (e.past_comma us (e.past_it ts (sign Comma ∷ us) x d w)) rest_low (omega arith)
    ∙ ap (λ (z : List _). got z rest) (append_assoc found (x ∷ []) others)

extents_reached : {A : Type 0} {M : List Terminal → List Terminal → A → Type 0} {member : Parser A} {close : TokenKind} {P S : List Terminal → Type 0} {size : A → ℕ} {h : ℕ} → Each M member close P S size h → (top : List A → ℕ) → ((x : A) (xs : List A) → top (x ∷ xs) ≡ max (size x) (top xs)) → (n : ℕ) (found : List A) (ts rest : List Terminal) (xs : List A) → Row M ts (sign close ∷ rest) xs → P ts → top xs ≤ h → length ts ≤ n → extents member n found ts ≡ got (found ++ xs) (sign close ∷ rest)
unfolding extents
extents_reached {close = close} e top split zero found ts rest _ (row_end {a = x} d) w l turns = absurd (let s : length (sign close ∷ rest) < length ts = e.shorter ts _ x d in omega arith)
extents_reached e top split zero found ts rest _ (row_on {us = us} {a = x} d k) w l turns = absurd (let s : length (sign Comma ∷ us) < length ts = e.shorter ts _ x d in omega arith)
extents_reached {member = member} {close = close} {size = size} {h = h} e top split (suc n) found ts rest _ (row_end {a = x} d) w l turns =
    let m : top (x ∷ []) ≡ max (size x) (top []) = split x [] in
    let low : size x ≤ h = omega arith in
    step member _ (e.reach ts (sign close ∷ rest) x d w low (e.at_close rest))
    ∙ step (eat Comma) _ (passed Comma (sign close ∷ rest) (e.apart rest))
extents_reached {member = member} {close = close} {size = size} {h = h} e top split (suc n) found ts rest _ (row_on {us = us} {a = x} {others = others} d k) w l turns =
    let m : top (x ∷ others) ≡ max (size x) (top others) = split x others in
    let low : size x ≤ h = omega arith in
    let rest_low : top others ≤ h = omega arith in
    let s : length (sign Comma ∷ us) < length ts = e.shorter ts _ x d in
    step member _ (e.reach ts (sign Comma ∷ us) x d w low (e.at_comma us))
    ∙ step (eat Comma) _ (took Comma us)
    ∙ extents_reached e top split n (found ++ x ∷ []) us rest others k (e.past_comma us (e.past_it ts (sign Comma ∷ us) x d w)) rest_low (omega arith)
    ∙ ap (λ (z : List _). got z (sign close ∷ rest)) (append_assoc found (x ∷ []) others)

-- ---- shapes

abbrev Loose : List Terminal → Type 0
Loose us = 8 < binding us

each_extent : {inner : Rule → Parser Tree} {k a h : ℕ} → Reaches inner k → Each Expr (inner Expression) RightParenthesis (Room k a h) Loose height h
each_extent {inner} {k} {a} {h} r = record {
  reach = λ ts us x d w l stop. argument r d w l stop;
  at_comma = λ us. omega arith;
  at_close = λ us. omega arith;
  past_it = λ ts us x d w. past (spans d).passes w;
  past_comma = λ us w. beyond w refl refl;
  front = λ ts us x d. unseen RightParenthesis parenthesis_behind ts (begins d);
  shorter = λ ts us x d. (spans d).some;
  apart = close_no_comma;
}

abbrev pub trees_list : Trees → List Tree
trees_list no_trees = []
trees_list (more_trees e es) = e ∷ trees_list es

trees_back : (es : Trees) → trees (trees_list es) ≡ es
trees_back no_trees = refl
trees_back (more_trees e es) = ap (more_trees e) (trees_back es)

abbrev top_tree : List Tree → ℕ
top_tree es = trees_height (trees es)

members_listed : {ts rest : List Terminal} {es : Trees} → SpellsMembers ts rest es → Listed Expr ts rest (trees_list es)
members_listed no_members = listed_none
members_listed (last_member d) = listed_last d
members_listed (next_member d h) = listed_more d (members_listed h)

extents_row : {ts rest : List Terminal} {es : Trees} → SpellsExtents ts rest es → Row Expr ts rest (trees_list es)
extents_row (last_extent d) = row_end d
extents_row (next_extent d h) = row_on d (extents_row h)

members_after : {inner : Rule → Parser Tree} {k a h : ℕ} {ts rest : List Terminal} {es : Trees} → Reaches inner k → (e : Tree) → SpellsMembers ts (sign RightParenthesis ∷ rest) es → Room k a h ts → trees_height es ≤ h → shape_height (tuple (more_trees e es)) ≤ 200 → other_members inner k e ts ≡ got (tuple (more_trees e es)) rest
unfolding other_members
members_after {inner = inner} {k = k} {a = a} {h = h} {ts = ts} {rest = rest} {es = es} r e m w l fits =
    let back : trees (trees_list es) ≡ es = trees_back es in
    let whole : tuple (trees (e ∷ trees_list es)) ≡ tuple (more_trees e es) = ap (λ (z : Trees). tuple (more_trees e z)) back in
    let lower : top_tree (trees_list es) ≤ h = subst (λ (z : Trees). trees_height z ≤ h) (sym back) l in
    let low_shape : shape_height (tuple (trees (e ∷ trees_list es))) ≤ 200 = subst (λ (z : ShapeTree). shape_height z ≤ 200) (sym whole) fits in
    step (members (inner Expression) RightParenthesis (length ts) (e ∷ [])) _ (members_reached (each_extent {a = a} {h = h} r) top_tree (λ x xs. refl) (length ts) (e ∷ []) ts rest (trees_list es) (members_listed m) w lower (omega arith))
    ∙ is_low shape_height (tuple (trees (e ∷ trees_list es))) rest low_shape
    ∙ ap (λ (z : ShapeTree). got z rest) whole

-- in a bracket there is as much room
pub inward : {k a h : ℕ} {ts : List Terminal} {j : TokenKind} → Room k a h (sign j ∷ ts) → opens j ≡ 1 → closes j ≡ 0 → Room k (suc a) h ts
inward {k} {a} {h} w o c = let f : 64 + h < a + k = w.fuel in record { fits = fits_in w.fits o c; fuel = omega arith; low = w.low }

tuple_reached : {inner : Rule → Parser Tree} {k a h : ℕ} {ts us rest : List Terminal} {e : Tree} {es : Trees} → Reaches inner k → Spells expr ts (sign Comma ∷ us) e → SpellsMembers us (sign RightParenthesis ∷ rest) es → Room k a h (sign LeftParenthesis ∷ ts) → suc (max (height e) (trees_height es)) ≤ h → tuple_shape inner k (sign LeftParenthesis ∷ ts) ≡ got (tuple (more_trees e es)) rest
unfolding tuple_shape filled_tuple
tuple_reached {inner = inner} {k = k} {a = a} {h = h} {ts = ts} {us = us} {rest = rest} {e = e} {es = es} r d m w l =
    let i : Room k (suc a) h ts = inward w refl refl in
    let j : Room k (suc a) h us = beyond (past (spans d).passes i) refl refl in
    let top : h ≤ 200 = w.low in
    let fits : suc (max (height e) (trees_height es)) ≤ 200 = omega arith in
    step (expect LeftParenthesis) _ (expected LeftParenthesis ts)
    ∙ step (eat RightParenthesis) _ (passed RightParenthesis ts (unseen RightParenthesis parenthesis_behind ts (begins d)))
    ∙ step (inner Expression) _ (argument r d i (omega arith) (omega arith))
    ∙ step (expect Comma) _ (expected Comma us)
    ∙ members_after r e m j (omega arith) fits

empty_reached : (inner : Rule → Parser Tree) (k : ℕ) (rest : List Terminal) → tuple_shape inner k (sign LeftParenthesis ∷ sign RightParenthesis ∷ rest) ≡ got (tuple no_trees) rest
unfolding tuple_shape
empty_reached inner k rest =
    step (expect LeftParenthesis) _ (expected LeftParenthesis (sign RightParenthesis ∷ rest))
    ∙ step (eat RightParenthesis) _ (took RightParenthesis rest)
    ∙ is_low shape_height (tuple no_trees) rest (omega arith)

comma_there : (us : List Terminal) → has_comma (sign Comma ∷ us) 0 ≡ true
comma_there us = refl

pub shape_reached : {inner : Rule → Parser Tree} {k a h : ℕ} {ts rest : List Terminal} {s : ShapeTree} → Reaches inner k → SpellsShape ts rest s → Room k a h ts → shape_height s ≤ h → 8 < binding rest → shape inner k ts ≡ got s rest
unfolding shape
shape_reached {inner = inner} {ts = ts} r (one_extent d) w l stop = chosen _ _ (sees_tuple ts) (no_tuple ts (leads d)) ∙ step (inner Expression) _ (argument r d w l stop)
shape_reached {inner = inner} {k = k} {rest = rest} r no_extent w l stop =
    first _ _ (sees_tuple (sign LeftParenthesis ∷ sign RightParenthesis ∷ rest)) (an_empty_front rest) ∙ empty_reached inner k rest
shape_reached r (a_tuple {ts = us} {us = vs} d m) w l stop =
    first _ _ (sees_tuple (sign LeftParenthesis ∷ us)) (a_tuple_front us ((spans d).outside 0 ∙ comma_there vs)) ∙ tuple_reached r d m w l

pub next_shape_reached : {inner : Rule → Parser Tree} {k a h : ℕ} {ts rest : List Terminal} {s : ShapeTree} → Reaches inner k → SpellsShape ts rest s → Room k a h ts → shape_height s ≤ h → 8 < binding rest → next_shape inner k (sign Comma ∷ ts) ≡ got s rest
unfolding next_shape
next_shape_reached {ts = ts} r d w l stop = step (expect Comma) _ (expected Comma ts) ∙ shape_reached r d w l stop

extents_after : {inner : Rule → Parser Tree} {k a h : ℕ} {ts rest : List Terminal} {es : Trees} → Reaches inner k → (e : Tree) → SpellsExtents ts (sign RightParenthesis ∷ rest) es → Room k a h ts → trees_height es ≤ h → shape_height (tuple (more_trees e es)) ≤ 200 → other_extents inner k e ts ≡ got (tuple (more_trees e es)) (sign RightParenthesis ∷ rest)
unfolding other_extents
extents_after {inner = inner} {a = a} {h = h} {ts = ts} {rest = rest} {es = es} r e m w l fits =
    let back : trees (trees_list es) ≡ es = trees_back es in
    let whole : tuple (trees (e ∷ trees_list es)) ≡ tuple (more_trees e es) = ap (λ (z : Trees). tuple (more_trees e z)) back in
    let lower : top_tree (trees_list es) ≤ h = subst (λ (z : Trees). trees_height z ≤ h) (sym back) l in
    let low_shape : shape_height (tuple (trees (e ∷ trees_list es))) ≤ 200 = subst (λ (z : ShapeTree). shape_height z ≤ 200) (sym whole) fits in
    step (extents (inner Expression) (length ts) (e ∷ [])) _ (extents_reached (each_extent {a = a} {h = h} r) top_tree (λ x xs. refl) (length ts) (e ∷ []) ts rest (trees_list es) (extents_row m) w lower (omega arith))
    ∙ is_low shape_height (tuple (trees (e ∷ trees_list es))) (sign RightParenthesis ∷ rest) low_shape
    ∙ ap (λ (z : ShapeTree). got z (sign RightParenthesis ∷ rest)) whole

pub several_reached : {inner : Rule → Parser Tree} {k a h : ℕ} {ts rest : List Terminal} {s : ShapeTree} → Reaches inner k → SpellsSeveral ts (sign RightParenthesis ∷ rest) s → Room k a h ts → shape_height s ≤ h → several inner k ts ≡ got s (sign RightParenthesis ∷ rest)
unfolding several plain_extents
several_reached {inner = inner} {ts = ts} {rest = rest} r (as_shape (one_extent d)) w l =
    chosen _ _ (sees_tuple ts) (no_tuple ts (leads d))
    ∙ step (inner Expression) _ (argument r d w l (omega arith))
    ∙ step (eat Comma) _ (passed Comma (sign RightParenthesis ∷ rest) (close_no_comma rest))
several_reached {inner = inner} {k = k} {rest = rest} r (as_shape no_extent) w l =
    first _ _ (sees_tuple (sign LeftParenthesis ∷ sign RightParenthesis ∷ sign RightParenthesis ∷ rest)) (an_empty_front (sign RightParenthesis ∷ rest)) ∙ empty_reached inner k (sign RightParenthesis ∷ rest)
several_reached r (as_shape (a_tuple {ts = us} {us = vs} d m)) w l =
    first _ _ (sees_tuple (sign LeftParenthesis ∷ us)) (a_tuple_front us ((spans d).outside 0 ∙ comma_there vs)) ∙ tuple_reached r d m w l
several_reached {inner = inner} {k = k} {a = a} {h = h} {ts = ts} {rest = rest} r (side_by_side {us = us} {e = e} {es = es} d m) w l =
    let j : Room k a h us = beyond (past (spans d).passes w) refl refl in
    let top : h ≤ 200 = w.low in
    let fits : suc (max (height e) (trees_height es)) ≤ 200 = omega arith in
    chosen _ _ (sees_tuple ts) (no_tuple ts (leads d))
    ∙ step (inner Expression) _ (argument r d w (omega arith) (omega arith))
    ∙ step (eat Comma) _ (took Comma us)
    ∙ extents_after r e m j (omega arith) fits

-- ---- lists

abbrev pub lists_list : ListTrees → List ListTree
lists_list no_lists = []
lists_list (more_lists l ls) = l ∷ lists_list ls

lists_back : (ls : ListTrees) → list_trees (lists_list ls) ≡ ls
lists_back no_lists = refl
lists_back (more_lists l ls) = ap (more_lists l) (lists_back ls)

abbrev top_list : List ListTree → ℕ
top_list ls = lists_height (list_trees ls)

entries_listed : {ts rest : List Terminal} {ls : ListTrees} → SpellsEntries ts rest ls → Listed Entry ts rest (lists_list ls)
entries_listed no_entries = listed_none
entries_listed (last_entry d) = listed_last d
entries_listed (next_entry d h) = listed_more d (entries_listed h)

opening_seen : (ts : List Terminal) → sees LeftBracket (sign LeftBracket ∷ ts) ≡ true
unfolding same_kind
opening_seen ts = refl

-- lists are reached that stand no deeper inside one another
abbrev pub ListsTo : Parser ListTree → ℕ → ℕ → ℕ → ℕ → Type 0
ListsTo lists k a h m = (ts rest : List Terminal) (l : ListTree) → SpellsList ts rest l → Room k a h ts → list_height l ≤ m → lists ts ≡ got l rest

entry_reached : {inner : Rule → Parser Tree} {k a h m : ℕ} {lists : Parser ListTree} → Reaches inner k → ListsTo lists k a h m → (ts rest : List Terminal) (l : ListTree) → SpellsEntry ts rest l → Room k a h ts → m ≤ h → list_height l ≤ m → 8 < binding rest → entry_by inner k lists ts ≡ got l rest
unfolding entry_by leaf_entry
entry_reached r deeper _ rest _ (inner_list (a_list {ts = us} {ls = ls} d)) w lower low stop =
    first _ _ (sees LeftBracket (sign LeftBracket ∷ us)) (opening_seen us) ∙ deeper (sign LeftBracket ∷ us) rest (list ls) (a_list d) w low
entry_reached {inner = inner} r deeper ts rest _ (one_entry d) w lower low stop =
    chosen _ _ (sees LeftBracket ts) (unseen LeftBracket opening_behind ts (begins d)) ∙ step (inner Expression) _ (argument r d w (omega arith) stop)

bracket_no_comma : (rest : List Terminal) → sees Comma (sign RightBracket ∷ rest) ≡ false
unfolding same_kind
bracket_no_comma rest = refl

list_no_bracket : (ts : List Terminal) → sees RightBracket (sign LeftBracket ∷ ts) ≡ false
unfolding same_kind
list_no_bracket ts = refl

entry_front : {ts rest : List Terminal} {l : ListTree} → SpellsEntry ts rest l → sees RightBracket ts ≡ false
entry_front (inner_list (a_list {ts = us} d)) = list_no_bracket us
entry_front {ts = ts} (one_entry d) = unseen RightBracket bracket_behind ts (begins d)

each_entry : {inner : Rule → Parser Tree} {k a h m : ℕ} {lists : Parser ListTree} → Reaches inner k → ListsTo lists k a h m → m ≤ h → Each Entry (entry_by inner k lists) RightBracket (Room k a h) Loose list_height m
each_entry r deeper lower = record {
  reach = λ ts us x d w l stop. entry_reached r deeper ts us x d w lower l stop;
  at_comma = λ us. omega arith;
  at_close = λ us. omega arith;
  past_it = λ ts us x d w. past (entry_spans d).passes w;
  past_comma = λ us w. beyond w refl refl;
  front = λ ts us x d. entry_front d;
  shorter = λ ts us x d. (entry_spans d).some;
  apart = bracket_no_comma;
}

pub bracketed_reached : {inner : Rule → Parser Tree} {k : ℕ} → Reaches inner k → (n a h : ℕ) (ts rest : List Terminal) (l : ListTree) → SpellsList ts rest l → Room k a h ts → 64 + list_height l < a + n → list_height l ≤ h → bracketed inner k n ts ≡ got l rest
unfolding bracketed
bracketed_reached r zero a h ts rest l d w fuel low = let b : a ≤ 64 = fits_base w.fits in absurd (omega arith)
bracketed_reached {inner} {k} r (suc n) a h _ rest _ (a_list {ts = us} {ls = ls} d) w fuel low =
    let i : Room k (suc a) h us = inward w refl refl in
    let back : list_trees (lists_list ls) ≡ ls = lists_back ls in
    let whole : list (list_trees (lists_list ls)) ≡ list ls = ap list back in
    let lower : top_list (lists_list ls) ≤ lists_height ls = subst (λ (z : ListTrees). lists_height z ≤ lists_height ls) (sym back) (omega arith) in
    let top : h ≤ 200 = w.low in
    let here : suc (lists_height ls) ≤ 200 = omega arith in
    let fits : list_height (list (list_trees (lists_list ls))) ≤ 200 = subst (λ (z : ListTree). list_height z ≤ 200) (sym whole) here in
    let deeper : ListsTo (bracketed inner k n) k (suc a) h (lists_height ls) = λ vs us' x e v m. bracketed_reached r n (suc a) h vs us' x e v (omega arith) (omega arith) in
    step (expect LeftBracket) _ (expected LeftBracket us)
    ∙ step (members (entry_by inner k (bracketed inner k n)) RightBracket (suc (length us)) []) _ (members_reached (each_entry r deeper (omega arith)) top_list (λ x xs. refl) (suc (length us)) [] us rest (lists_list ls) (entries_listed d) i lower (omega arith))
    ∙ is_low list_height (list (list_trees (lists_list ls))) rest fits
    ∙ ap (λ (z : ListTree). got z rest) whole

-- ---- items

-- behind a part of a slice
pub record PartEnds (ts : List Terminal) : Type 0 where
  pub loose : 8 < binding ts
  pub seen_end : sees_end ts ≡ true

part_reached : {inner : Rule → Parser Tree} {k a h : ℕ} {ts rest : List Terminal} {e : MaybeTree} → Reaches inner k → SpellsPart ts rest e → Room k a h ts → part_height e ≤ h → PartEnds rest → part inner k ts ≡ got e rest
unfolding part
part_reached {ts = ts} r no_part w l stop = first _ _ (sees_end ts) stop.seen_end
part_reached {inner = inner} {ts = ts} r (a_part d) w l stop = chosen _ _ (sees_end ts) (no_end ts (begins d)) ∙ step (inner Expression) _ (argument r d w (omega arith) stop.loose)

-- behind an item
pub record ItemEnds (ts : List Terminal) : Type 0 where
  pub ends : PartEnds ts
  pub no_colon : sees Colon ts ≡ false

at_colon : (ts : List Terminal) → PartEnds (sign Colon ∷ ts)
unfolding same_kind
at_colon ts = record { loose = omega arith; seen_end = refl }

comma_ends : (ts : List Terminal) → ItemEnds (sign Comma ∷ ts)
unfolding same_kind
comma_ends ts = record { ends = record { loose = omega arith; seen_end = refl }; no_colon = refl }

bracket_ends : (ts : List Terminal) → ItemEnds (sign RightBracket ∷ ts)
unfolding same_kind
bracket_ends ts = record { ends = record { loose = omega arith; seen_end = refl }; no_colon = refl }

no_step_here : (inner : Rule → Parser Tree) (k : ℕ) (ts : List Terminal) → sees Colon ts ≡ false → p.step inner k ts ≡ got no_tree ts
unfolding p.step
no_step_here inner k ts h = step (eat Colon) _ (passed Colon ts h)

step_reached : {inner : Rule → Parser Tree} {k a h : ℕ} {ts rest : List Terminal} {e : MaybeTree} → Reaches inner k → SpellsPart ts rest e → Room k a h ts → part_height e ≤ h → PartEnds rest → p.step inner k (sign Colon ∷ ts) ≡ got e rest
unfolding p.step
step_reached {ts = ts} r d w l stop = step (eat Colon) _ (took Colon ts) ∙ part_reached r d w l stop

slice_reached : {inner : Rule → Parser Tree} {k a h : ℕ} {ts rest : List Terminal} {to : MaybeTree} → Reaches inner k → (from : MaybeTree) → SpellsPart ts rest to → Room k a h ts → item_height (slice from to no_tree) ≤ h → ItemEnds rest → sliced inner k from ts ≡ got (slice from to no_tree) rest
unfolding sliced
slice_reached {inner = inner} {k = k} {h = h} {rest = rest} {to = to} r from d w l stop =
    let top : h ≤ 200 = w.low in
    let fits : max (part_height from) (max (part_height to) 0) ≤ 200 = omega arith in
    step (part inner k) _ (part_reached r d w (omega arith) stop.ends)
    ∙ step (p.step inner k) _ (no_step_here inner k rest stop.no_colon)
    ∙ is_low item_height (slice from to no_tree) rest fits

stepped_reached : {inner : Rule → Parser Tree} {k a h : ℕ} {ts us rest : List Terminal} {to by : MaybeTree} → Reaches inner k → (from : MaybeTree) → SpellsPart ts (sign Colon ∷ us) to → SpellsPart us rest by → Room k a h ts → item_height (slice from to by) ≤ h → ItemEnds rest → sliced inner k from ts ≡ got (slice from to by) rest
unfolding sliced
stepped_reached {inner = inner} {k = k} {a = a} {h = h} {us = us} {rest = rest} {to = to} {by = by} r from d e w l stop =
    let top : h ≤ 200 = w.low in
    let fits : max (part_height from) (max (part_height to) (part_height by)) ≤ 200 = omega arith in
    let v : Room k a h us = beyond (past (part_passes d) w) refl refl in
    step (part inner k) _ (part_reached r d w (omega arith) (at_colon us))
    ∙ step (p.step inner k) _ (step_reached r e v (omega arith) stop.ends)
    ∙ is_low item_height (slice from to by) rest fits

colon_no_ellipsis : (ts : List Terminal) → sees Ellipsis (sign Colon ∷ ts) ≡ false
unfolding same_kind
colon_no_ellipsis ts = refl

-- an item that begins with its colon
from_colon : (inner : Rule → Parser Tree) (k : ℕ) (ts rest : List Terminal) (i : ItemTree) → sliced inner k no_tree ts ≡ got i rest → item inner k (sign Colon ∷ ts) ≡ got i rest
unfolding item
from_colon inner k ts rest i h =
    step (eat_word NewAxis) _ (passed_word NewAxis (sign Colon ∷ ts) refl)
    ∙ step (eat Ellipsis) _ (passed Ellipsis (sign Colon ∷ ts) (colon_no_ellipsis ts))
    ∙ step (eat Colon) _ (took Colon ts)
    ∙ h

-- an item that begins with an expression
from_place : (inner : Rule → Parser Tree) (k : ℕ) {ts us : List Terminal} {e : Tree} (rest : List Terminal) (i : ItemTree) → Spells expr ts us e → placed inner k ts ≡ got i rest → item inner k ts ≡ got i rest
unfolding item
from_place inner k {ts} rest i d h =
    step (eat_word NewAxis) _ (passed_word NewAxis ts (no_new_word ts (begins d)))
    ∙ step (eat Ellipsis) _ (passed Ellipsis ts (unseen Ellipsis ellipsis_behind ts (begins d)))
    ∙ step (eat Colon) _ (passed Colon ts (unseen Colon colon_behind ts (begins d)))
    ∙ h

place_reached : {inner : Rule → Parser Tree} {k a h : ℕ} {ts rest : List Terminal} {e : Tree} → Reaches inner k → Spells expr ts rest e → Room k a h ts → suc (height e) ≤ h → ItemEnds rest → placed inner k ts ≡ got (at e) rest
unfolding placed
place_reached {inner = inner} {h = h} {rest = rest} {e = e} r d w l stop =
    let top : h ≤ 200 = w.low in
    let fits : suc (height e) ≤ 200 = omega arith in
    step (inner Expression) _ (argument r d w (omega arith) stop.ends.loose)
    ∙ step (eat Colon) _ (passed Colon rest stop.no_colon)
    ∙ is_low item_height (at e) rest fits

placed_slice : {inner : Rule → Parser Tree} {k a h : ℕ} {ts us : List Terminal} {e : Tree} → Reaches inner k → (rest : List Terminal) (i : ItemTree) → Spells expr ts (sign Colon ∷ us) e → Room k a h ts → height e ≤ h → sliced inner k (some_tree e) us ≡ got i rest → placed inner k ts ≡ got i rest
unfolding placed
placed_slice {inner = inner} {us = us} r rest i d w l h = step (inner Expression) _ (argument r d w l (omega arith)) ∙ step (eat Colon) _ (took Colon us) ∙ h

new_reached : (inner : Rule → Parser Tree) (k : ℕ) (rest : List Terminal) → item inner k (word NewAxis ∷ rest) ≡ got new_axis rest
unfolding item
new_reached inner k rest = step (eat_word NewAxis) _ (took_word NewAxis rest)

others_reached : (inner : Rule → Parser Tree) (k : ℕ) (rest : List Terminal) → item inner k (sign Ellipsis ∷ rest) ≡ got ellipsis rest
unfolding item
others_reached inner k rest = step (eat_word NewAxis) _ (passed_word NewAxis (sign Ellipsis ∷ rest) refl) ∙ step (eat Ellipsis) _ (took Ellipsis rest)

pub item_reached : {inner : Rule → Parser Tree} {k a h : ℕ} {ts rest : List Terminal} {i : ItemTree} → Reaches inner k → SpellsItem ts rest i → Room k a h ts → item_height i ≤ h → ItemEnds rest → item inner k ts ≡ got i rest
item_reached {inner} {k} {rest = rest} r (a_place {e = e} d) w l stop = from_place inner k rest (at e) d (place_reached r d w l stop)
item_reached {inner} {k} {rest = rest} r (a_slice {us = us} {to = to} no_part b) w l stop = from_colon inner k us rest (slice no_tree to no_tree) (slice_reached r no_tree b (beyond w refl refl) l stop)
item_reached {inner} {k} {rest = rest} r (a_slice {us = us} {to = to} (a_part {e = e} d) b) w l stop =
    from_place inner k rest (slice (some_tree e) to no_tree) d (placed_slice r rest (slice (some_tree e) to no_tree) d w (omega arith) (slice_reached r (some_tree e) b (beyond (past (spans d).passes w) refl refl) l stop))
item_reached {inner} {k} {rest = rest} r (a_stepped {us = us} {to = to} {by = by} no_part b c) w l stop = from_colon inner k us rest (slice no_tree to by) (stepped_reached r no_tree b c (beyond w refl refl) l stop)
item_reached {inner} {k} {rest = rest} r (a_stepped {us = us} {to = to} {by = by} (a_part {e = e} d) b c) w l stop =
    from_place inner k rest (slice (some_tree e) to by) d (placed_slice r rest (slice (some_tree e) to by) d w (omega arith) (stepped_reached r (some_tree e) b c (beyond (past (spans d).passes w) refl refl) l stop))
item_reached {inner} {k} {rest = rest} r an_axis_more w l stop = new_reached inner k rest
item_reached {inner} {k} {rest = rest} r the_others w l stop = others_reached inner k rest

colon_no_bracket : (ts : List Terminal) → sees RightBracket (sign Colon ∷ ts) ≡ false
unfolding same_kind
colon_no_bracket ts = refl

ellipsis_no_bracket : (ts : List Terminal) → sees RightBracket (sign Ellipsis ∷ ts) ≡ false
unfolding same_kind
ellipsis_no_bracket ts = refl

item_front : {ts rest : List Terminal} {i : ItemTree} → SpellsItem ts rest i → sees RightBracket ts ≡ false
item_front {ts = ts} (a_place d) = unseen RightBracket bracket_behind ts (begins d)
item_front (a_slice {us = us} no_part b) = colon_no_bracket us
item_front {ts = ts} (a_slice (a_part d) b) = unseen RightBracket bracket_behind ts (begins d)
item_front (a_stepped {us = us} no_part b c) = colon_no_bracket us
item_front {ts = ts} (a_stepped (a_part d) b c) = unseen RightBracket bracket_behind ts (begins d)
item_front an_axis_more = refl
item_front {rest = rest} the_others = ellipsis_no_bracket rest

each_item : {inner : Rule → Parser Tree} {k a h : ℕ} → Reaches inner k → Each Item (item inner k) RightBracket (Room k a h) ItemEnds item_height h
each_item r = record {
  reach = λ ts us x d w l stop. item_reached r d w l stop;
  at_comma = comma_ends;
  at_close = bracket_ends;
  past_it = λ ts us x d w. past (item_passes d) w;
  past_comma = λ us w. beyond w refl refl;
  front = λ ts us x d. item_front d;
  shorter = λ ts us x d. item_some d;
  apart = bracket_no_comma;
}

abbrev pub items_list : ItemTrees → List ItemTree
items_list no_items = []
items_list (more_items i is) = i ∷ items_list is

items_back : (is : ItemTrees) → item_trees (items_list is) ≡ is
items_back no_items = refl
items_back (more_items i is) = ap (more_items i) (items_back is)

abbrev top_item : List ItemTree → ℕ
top_item is = items_height (item_trees is)

items_listed : {ts rest : List Terminal} {is : ItemTrees} → SpellsItems ts rest is → Listed Item ts rest (items_list is)
items_listed nothing = listed_none
items_listed (last_item d) = listed_last d
items_listed (next_item d h) = listed_more d (items_listed h)

items_front : {ts rest : List Terminal} {i : ItemTree} {is : ItemTrees} → SpellsItems ts rest (more_items i is) → sees RightBracket ts ≡ false
items_front (last_item d) = item_front d
items_front (next_item d h) = item_front d

pub items_reached : {inner : Rule → Parser Tree} {k a h : ℕ} {ts rest : List Terminal} {i : ItemTree} {is : ItemTrees} → Reaches inner k → SpellsItems ts (sign RightBracket ∷ rest) (more_items i is) → Room k a h ts → max (item_height i) (items_height is) ≤ h → items inner k ts ≡ got (more_items i is) rest
unfolding items
items_reached {inner = inner} {k = k} {a = a} {h = h} {ts = ts} {rest = rest} {i = i} {is = is} r d w l =
    let all = more_items i is in
    let back : item_trees (items_list all) ≡ all = items_back all in
    let lower : top_item (items_list all) ≤ h = subst (λ (z : ItemTrees). items_height z ≤ h) (sym back) l in
    chosen _ _ (sees RightBracket ts) (items_front d)
    ∙ step (members (item inner k) RightBracket (length ts) []) _ (members_reached (each_item {a = a} {h = h} r) top_item (λ x xs. refl) (length ts) [] ts rest (items_list all) (items_listed d) w lower (omega arith))
    ∙ ap (λ (z : ItemTrees). got z rest) back
