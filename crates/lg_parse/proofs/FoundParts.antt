-- What the parsers of types, axes, shapes, lists and items find.
use Rattle.std.proofs.Common.{◌≡◌, ℕ, zero, suc, Bool, true, false, cond, Option, Some, None, List, [], ◌∷◌, ◌++◌, ◌&&◌, length, refl, sym, ◌∙◌, subst, append_assoc, append-nil}
use Rattle.lg_elem.specs.declared.dtype.DType.{DType}
use Rattle.lg_lex.specs.declared.tokens.TokenKind.{TokenKind}
use Rattle.lg_lex.specs.declared.tokens.TokenKind.TheVariants.{Comma, Colon, Equal, Ellipsis, LeftParenthesis, RightParenthesis, LeftBracket, RightBracket}
use Rattle.lg_tree.specs.Tree.{Tree, MaybeTree, no_tree, some_tree, no_trees, ShapeTree, one, tuple, ItemTree, at, slice, new_axis, ellipsis, ItemTrees, more_items, ListTree, leaf, list}
use Rattle.lg_tree.specs.Measures.{shape_height, item_height, list_height}
use Rattle.lg_tree.specs.View.{trees, item_trees, list_trees}
use Rattle.lg_parse.specs.declared.rules.Rule.{Rule}
use Rattle.lg_parse.specs.declared.rules.Rule.TheVariants.{Expression, Unary}
use Rattle.lg_parse.specs.declared.words.Word.TheVariants.{Axis, Dtype, NewAxis}
use Rattle.lg_parse.specs.Terminal.{Terminal, word, element, sign}
use Rattle.lg_parse.specs.Terminal as t
use Rattle.lg_parse.specs.Types.{SpellsType, no_type, plain_type, named_type}
use Rattle.lg_parse.specs.Expressions.{Form, expr, unary, Spells, SpellsAlong, plain_axis, named_axis, SpellsAxis, no_axis, an_axis, SpellsItem, a_place, a_slice, a_stepped, an_axis_more, the_others, SpellsPart, no_part, a_part, SpellsItems, nothing, last_item, next_item, SpellsShape, one_extent, no_extent, a_tuple, SpellsMembers, no_members, last_member, next_member, SpellsSeveral, as_shape, side_by_side, SpellsExtents, last_extent, next_extent, SpellsList, a_list, SpellsEntries, no_entries, last_entry, next_entry, SpellsEntry, inner_list, one_entry}
use Rattle.lg_parse.specs.Parsing.{Parser, ◌>>=◌, ◌>>◌, pure, sees, behind, sees_type, begins_type, type_ahead, name_ahead, made, low, element_type, dtype, ending, a_word, members, extents, next, last, tuple_shape, filled_tuple, other_members, shape, next_shape, other_extents, plain_extents, several, leaf_entry, entry_by, bracketed, along, axis, axis_ending, second, part, step, sliced, placed, item, items, sees_tuple, sees_end}
use Rattle.lg_parse.specs.Parsing as p
use Rattle.lg_parse.proofs.Steps.{Takes, takes, TakesWord, takes_word, seen}
use Rattle.lg_parse.proofs.Found.{FoundAt, Found, then, pure_found, refuse_found, low_found, choice, word_choice, behind_sign, weaker}

abbrev pub form_of : Rule → Form
form_of Expression = expr
form_of Unary = unary

-- what stands inside is found, where lists may stand so deep inside one another
pub record FindsInner (inner : Rule → Parser Tree) (deep : ℕ) : Type 0 where
  pub find : (r : Rule) (ts : List Terminal) → Found (λ e rest. Spells (form_of r) ts rest e) (inner r) ts

-- ---- types and names

data IsElement : List Terminal → List Terminal → DType → Type 0 where
  an_element : {d : DType} {ts : List Terminal} → IsElement (element d ∷ ts) ts d

element_at : (ts : List Terminal) → FoundAt (λ d rest. IsElement ts rest d) (element_type ts)
unfolding element_type
element_at (element d ∷ ts) = an_element
element_at [] = tt
element_at (t.name w ∷ ts) = tt
element_at (t.number n ∷ ts) = tt
element_at (word w ∷ ts) = tt
element_at (t.function f ∷ ts) = tt
element_at (sign k ∷ ts) = tt

element_found : (ts : List Terminal) → Found (λ d rest. IsElement ts rest d) element_type ts
element_found ts = record { found = element_at ts }

-- a type that has to stand here, in front of a sign that has to stand behind it
pub data CastsTo : List Terminal → List Terminal → DType → Type 0 where
  casts_to : {d : DType} {ts : List Terminal} → CastsTo (element d ∷ sign RightParenthesis ∷ ts) ts d

casts_is : {d : DType} {ts us vs : List Terminal} → IsElement ts us d → Takes RightParenthesis us vs → CastsTo ts vs d
casts_is an_element takes = casts_to

pub cast_found : {A : Type 0} {Q : A → List Terminal → Type 0} {f : DType → Parser A} (ts : List Terminal) → ((d : DType) (us : List Terminal) → CastsTo ts us d → Found Q (f d) us) → Found Q (element_type >>= (λ d. p.expect RightParenthesis >> f d)) ts
cast_found ts k = then (element_found ts) (λ d us h. behind_sign RightParenthesis (λ vs w. k d vs (casts_is h w)))

data NamedType : List Terminal → List Terminal → DType → Type 0 where
  plain : {d : DType} {ts : List Terminal} → NamedType (element d ∷ ts) ts d
  named : {d : DType} {ts : List Terminal} → NamedType (word Dtype ∷ sign Equal ∷ element d ∷ ts) ts d

plain_is : {d : DType} {ts us : List Terminal} → IsElement ts us d → NamedType ts us d
plain_is an_element = plain

named_is : {d : DType} {ts us vs rest : List Terminal} → TakesWord Dtype ts us → Takes Equal us vs → IsElement vs rest d → NamedType ts rest d
named_is takes_word takes an_element = named

named_found : (ts : List Terminal) → Found (λ d rest. NamedType ts rest d) p.named_type ts
unfolding p.named_type
named_found ts =
    word_choice Dtype (λ us w. behind_sign Equal (λ vs v. weaker (λ d rest h. named_is w v h) (element_found vs))) (weaker (λ d rest h. plain_is h) (element_found ts))

type_is : {d : DType} {ts us rest : List Terminal} → Takes Comma ts us → NamedType us rest d → SpellsType ts rest (Some d)
type_is takes plain = plain_type _
type_is takes named = named_type _

left_true : (a b : Bool) → (a && b) ≡ true → a ≡ true
left_true true b e = refl
left_true false b e = absurd (cc)

dtype_at : (ts : List Terminal) (b : Bool) → begins_type ts ≡ b → FoundAt (λ d rest. SpellsType ts rest d) (cond b ((p.named_type >>= (λ d. pure (Some d))) (behind ts)) (Some (None, ts)))
dtype_at ts true e =
    (then {Q = λ d rest. SpellsType ts rest d} {f = λ d. pure (Some d)} (named_found (behind ts)) (λ d us h. pure_found (Some d) (type_is (seen Comma ts (left_true (sees Comma ts) (sees_type (behind ts)) e)) h))).found
dtype_at ts false e = no_type

dtype_found : (ts : List Terminal) → Found (λ d rest. SpellsType ts rest d) dtype ts
unfolding dtype
dtype_found ts = record { found = dtype_at ts (begins_type ts) refl }

type_ends : {d : Option DType} {ts us vs : List Terminal} → SpellsType ts us d → Takes RightParenthesis us vs → SpellsType ts (sign RightParenthesis ∷ vs) d
type_ends h takes = h

-- the end of a call
pub ending_found : (ts : List Terminal) → Found (λ d rest. SpellsType ts (sign RightParenthesis ∷ rest) d) ending ts
unfolding ending
ending_found ts = then (dtype_found ts) (λ d us h. behind_sign RightParenthesis (λ vs w. pure_found d (type_ends h w)))

pub data IsName : List Terminal → List Terminal → List ℕ → Type 0 where
  is_name : {w : List ℕ} {ts : List Terminal} → IsName (t.name w ∷ ts) ts w

word_at : (ts : List Terminal) → FoundAt (λ w rest. IsName ts rest w) (a_word ts)
unfolding a_word
word_at (t.name w ∷ ts) = is_name
word_at [] = tt
word_at (t.number n ∷ ts) = tt
word_at (word w ∷ ts) = tt
word_at (element d ∷ ts) = tt
word_at (t.function f ∷ ts) = tt
word_at (sign k ∷ ts) = tt

pub word_found : (ts : List Terminal) → Found (λ w rest. IsName ts rest w) a_word ts
word_found ts = record { found = word_at ts }

-- ---- arguments

pub data Next : List Terminal → List Terminal → Tree → Type 0 where
  next_is : {e : Tree} {ts rest : List Terminal} → Spells expr ts rest e → Next (sign Comma ∷ ts) rest e

comma_next : {e : Tree} {ts us rest : List Terminal} → Takes Comma ts us → Spells expr us rest e → Next ts rest e
comma_next takes d = next_is d

pub next_found : {inner : Rule → Parser Tree} {deep : ℕ} → FindsInner inner deep → (ts : List Terminal) → Found (λ e rest. Next ts rest e) (next inner deep) ts
unfolding next
next_found h ts = behind_sign Comma (λ us w. weaker (λ e rest d. comma_next w d) (h.find Expression us))

-- the last argument, and its parenthesis
pub data Last : List Terminal → List Terminal → Tree → Type 0 where
  final_is : {e : Tree} {ts rest : List Terminal} → Spells expr ts (sign RightParenthesis ∷ rest) e → Last (sign Comma ∷ ts) rest e

next_ends : {e : Tree} {ts us rest : List Terminal} → Next ts us e → Takes RightParenthesis us rest → Last ts rest e
next_ends (next_is d) takes = final_is d

pub last_found : {inner : Rule → Parser Tree} {deep : ℕ} → FindsInner inner deep → (ts : List Terminal) → Found (λ e rest. Last ts rest e) (last inner deep) ts
unfolding last
last_found h ts = then (next_found h ts) (λ e us d. behind_sign RightParenthesis (λ vs w. pure_found e (next_ends d w)))

pub data Second : List Terminal → List Terminal → MaybeTree → Type 0 where
  no_second : {ts : List Terminal} → Second ts ts no_tree
  a_second : {e : Tree} {ts rest : List Terminal} → Spells expr ts rest e → Second (sign Comma ∷ ts) rest (some_tree e)

second_is : {e : Tree} {ts us rest : List Terminal} → Takes Comma ts us → Spells expr us rest e → Second ts rest (some_tree e)
second_is takes d = a_second d

second_at : (inner : Rule → Parser Tree) (deep : ℕ) → FindsInner inner deep → (ts : List Terminal) (b : Bool) → FoundAt (λ e rest. Second ts rest e) (cond b (Some (no_tree, ts)) ((p.eat Comma >>= (λ goes_on. cond goes_on (inner Expression >>= (λ e. pure (some_tree e))) (pure no_tree))) ts))
second_at inner deep h ts true = no_second
second_at inner deep h ts false =
    (choice {Q = λ e rest. Second ts rest e} Comma (λ us w. then (h.find Expression us) (λ e rest d. pure_found (some_tree e) (second_is w d))) (pure_found no_tree no_second)).found

pub second_found : {inner : Rule → Parser Tree} {deep : ℕ} → FindsInner inner deep → (ts : List Terminal) → Found (λ e rest. Second ts rest e) (second inner deep) ts
unfolding second
second_found {inner} {deep} h ts = record { found = second_at inner deep h ts (begins_type ts) }

along_is : {e : Tree} {ts us vs rest : List Terminal} → TakesWord Axis ts us → Takes Equal us vs → Spells expr vs rest e → SpellsAlong ts rest e
along_is takes_word takes d = named_axis d

pub along_found : {inner : Rule → Parser Tree} {deep : ℕ} → FindsInner inner deep → (ts : List Terminal) → Found (λ e rest. SpellsAlong ts rest e) (along inner deep) ts
unfolding along
along_found h ts =
    word_choice Axis (λ us w. behind_sign Equal (λ vs v. weaker (λ e rest d. along_is w v d) (h.find Expression vs))) (weaker (λ e rest d. plain_axis d) (h.find Expression ts))

axis_is : {e : Tree} {ts us rest : List Terminal} → Takes Comma ts us → SpellsAlong us rest e → SpellsAxis ts rest (some_tree e)
axis_is takes d = an_axis d

axis_found : {inner : Rule → Parser Tree} {deep : ℕ} → FindsInner inner deep → (ts : List Terminal) → Found (λ k rest. SpellsAxis ts rest k) (axis inner deep) ts
unfolding axis
axis_found h ts = choice Comma (λ us w. then (along_found h us) (λ e rest d. pure_found (some_tree e) (axis_is w d))) (pure_found no_tree no_axis)

axis_ends : {k : MaybeTree} {ts us vs : List Terminal} → SpellsAxis ts us k → Takes RightParenthesis us vs → SpellsAxis ts (sign RightParenthesis ∷ vs) k
axis_ends h takes = h

pub axis_ending_found : {inner : Rule → Parser Tree} {deep : ℕ} → FindsInner inner deep → (ts : List Terminal) → Found (λ k rest. SpellsAxis ts (sign RightParenthesis ∷ rest) k) (axis_ending inner deep) ts
unfolding axis_ending
axis_ending_found h ts = then (axis_found h ts) (λ k us d. behind_sign RightParenthesis (λ vs w. pure_found k (axis_ends d w)))

-- ---- members, with a comma between two of them and perhaps one behind the last

pub data Listed {A : Type 0} (M : List Terminal → List Terminal → A → Type 0) : List Terminal → List Terminal → List A → Type 0 where
  listed_none : {ts : List Terminal} → Listed M ts ts []
  listed_last : {ts rest : List Terminal} {a : A} → M ts rest a → Listed M ts rest (a ∷ [])
  listed_more : {ts us rest : List Terminal} {a : A} {others : List A} → M ts (sign Comma ∷ us) a → Listed M us rest others → Listed M ts rest (a ∷ others)

pub record Members {A : Type 0} (M : List Terminal → List Terminal → A → Type 0) (close : TokenKind) (found : List A) (ts : List Terminal) (result : List A) (rest : List Terminal) : Type 0 where
  pub others : List A
  pub is : result ≡ found ++ others
  pub listed : Listed M ts (sign close ∷ rest) others

closed_is : {A : Type 0} {M : List Terminal → List Terminal → A → Type 0} {close : TokenKind} {ts us : List Terminal} (found : List A) → Takes close ts us → Members M close found ts found us
closed_is found takes = record { others = []; is = sym (append-nil found); listed = listed_none }

last_is : {A : Type 0} {M : List Terminal → List Terminal → A → Type 0} {close : TokenKind} {ts us vs : List Terminal} (found : List A) (a : A) → M ts us a → Takes close us vs → Members M close found ts (found ++ a ∷ []) vs
last_is found a d takes = record { others = a ∷ []; is = refl; listed = listed_last d }

more_is : {A : Type 0} {M : List Terminal → List Terminal → A → Type 0} {close : TokenKind} {ts us vs rest : List Terminal} (found result : List A) (a : A) → M ts us a → Takes Comma us vs → Members M close (found ++ a ∷ []) vs result rest → Members M close found ts result rest
more_is found result a d takes h = record {
  others = a ∷ h.others;
  is = h.is ∙ append_assoc found (a ∷ []) h.others;
  listed = listed_more d h.listed;
}

pub members_found : {A : Type 0} {M : List Terminal → List Terminal → A → Type 0} {member : Parser A} → ((ts : List Terminal) → Found (λ a rest. M ts rest a) member ts) → (close : TokenKind) (n : ℕ) (found : List A) (ts : List Terminal) → Found (Members M close found ts) (members member close n found) ts
unfolding members
members_found h close zero found ts = refuse_found
members_found {member = member} h close (suc n) found ts =
    choice close (λ us w. pure_found found (closed_is found w))
    (then (h ts) (λ a us d. choice Comma (λ vs w. weaker (λ result rest k. more_is found result a d w k) (members_found h close n (found ++ a ∷ []) vs)) (behind_sign close (λ vs w. pure_found (found ++ a ∷ []) (last_is found a d w)))))

-- a listing without a comma behind the last one
pub data Row {A : Type 0} (M : List Terminal → List Terminal → A → Type 0) : List Terminal → List Terminal → List A → Type 0 where
  row_end : {ts rest : List Terminal} {a : A} → M ts rest a → Row M ts rest (a ∷ [])
  row_on : {ts us rest : List Terminal} {a : A} {others : List A} → M ts (sign Comma ∷ us) a → Row M us rest others → Row M ts rest (a ∷ others)

pub record Extents {A : Type 0} (M : List Terminal → List Terminal → A → Type 0) (found : List A) (ts : List Terminal) (result : List A) (rest : List Terminal) : Type 0 where
  pub others : List A
  pub is : result ≡ found ++ others
  pub row : Row M ts rest others

end_is : {A : Type 0} {M : List Terminal → List Terminal → A → Type 0} {ts us : List Terminal} (found : List A) (a : A) → M ts us a → Extents M found ts (found ++ a ∷ []) us
end_is found a d = record { others = a ∷ []; is = refl; row = row_end d }

on_is : {A : Type 0} {M : List Terminal → List Terminal → A → Type 0} {ts us vs rest : List Terminal} (found result : List A) (a : A) → M ts us a → Takes Comma us vs → Extents M (found ++ a ∷ []) vs result rest → Extents M found ts result rest
on_is found result a d takes h = record {
  others = a ∷ h.others;
  is = h.is ∙ append_assoc found (a ∷ []) h.others;
  row = row_on d h.row;
}

extents_found : {A : Type 0} {M : List Terminal → List Terminal → A → Type 0} {member : Parser A} → ((ts : List Terminal) → Found (λ a rest. M ts rest a) member ts) → (n : ℕ) (found : List A) (ts : List Terminal) → Found (Extents M found ts) (extents member n found) ts
unfolding extents
extents_found h zero found ts = refuse_found
extents_found h (suc n) found ts =
    then (h ts) (λ a us d. choice Comma (λ vs w. weaker (λ result rest k. on_is found result a d w k) (extents_found h n (found ++ a ∷ []) vs)) (pure_found (found ++ a ∷ []) (end_is found a d)))

-- ---- shapes

abbrev pub Expr : List Terminal → List Terminal → Tree → Type 0
Expr ts rest e = Spells expr ts rest e

pub tree_members : {ts rest : List Terminal} {es : List Tree} → Listed Expr ts rest es → SpellsMembers ts rest (trees es)
tree_members listed_none = no_members
tree_members (listed_last d) = last_member d
tree_members (listed_more d h) = next_member d (tree_members h)

tuple_is : {ts us vs ws rest : List Terminal} {e : Tree} {es : List Tree} → Takes LeftParenthesis ts us → Spells expr us vs e → Takes Comma vs ws → Members Expr RightParenthesis (e ∷ []) ws es rest → SpellsShape ts rest (tuple (trees es))
tuple_is {ts} {us} {vs} {ws} {rest} {e} {es} takes d takes h =
    subst (λ (z : List Tree). SpellsShape ts rest (tuple (trees z))) (sym h.is) (a_tuple d (tree_members h.listed))

empty_is : {ts us vs : List Terminal} → Takes LeftParenthesis ts us → Takes RightParenthesis us vs → SpellsShape ts vs (tuple no_trees)
empty_is takes takes = no_extent

filled_found : {inner : Rule → Parser Tree} {deep : ℕ} → FindsInner inner deep → (ts us : List Terminal) → Takes LeftParenthesis ts us → Found (λ s rest. SpellsShape ts rest s) (filled_tuple inner deep) us
unfolding filled_tuple other_members
filled_found {inner} h ts us w =
    then (h.find Expression us) (λ e vs d. behind_sign Comma (λ ws c. record { found = (then {Q = λ s rest. SpellsShape ts rest s} (members_found (h.find Expression) RightParenthesis (length ws) (e ∷ []) ws) (λ es rest k. low_found shape_height (tuple (trees es)) (tuple_is w d c k))).found }))

tuple_found : {inner : Rule → Parser Tree} {deep : ℕ} → FindsInner inner deep → (ts : List Terminal) → Found (λ s rest. SpellsShape ts rest s) (tuple_shape inner deep) ts
unfolding tuple_shape
tuple_found h ts = behind_sign LeftParenthesis (λ us w. choice RightParenthesis (λ vs v. low_found shape_height (tuple no_trees) (empty_is w v)) (filled_found h ts us w))

shape_at : (inner : Rule → Parser Tree) (deep : ℕ) → FindsInner inner deep → (ts : List Terminal) (b : Bool) → FoundAt (λ s rest. SpellsShape ts rest s) (cond b (tuple_shape inner deep ts) ((inner Expression >>= (λ e. pure (one e))) ts))
shape_at inner deep h ts true = (tuple_found h ts).found
shape_at inner deep h ts false = (then {Q = λ s rest. SpellsShape ts rest s} {f = λ e. pure (one e)} (h.find Expression ts) (λ e us d. pure_found (one e) (one_extent d))).found

pub shape_found : {inner : Rule → Parser Tree} {deep : ℕ} → FindsInner inner deep → (ts : List Terminal) → Found (λ s rest. SpellsShape ts rest s) (shape inner deep) ts
unfolding shape
shape_found {inner} {deep} h ts = record { found = shape_at inner deep h ts (sees_tuple ts) }

pub data NextShape : List Terminal → List Terminal → ShapeTree → Type 0 where
  next_shape_is : {s : ShapeTree} {ts rest : List Terminal} → SpellsShape ts rest s → NextShape (sign Comma ∷ ts) rest s

comma_shape : {s : ShapeTree} {ts us rest : List Terminal} → Takes Comma ts us → SpellsShape us rest s → NextShape ts rest s
comma_shape takes d = next_shape_is d

pub next_shape_found : {inner : Rule → Parser Tree} {deep : ℕ} → FindsInner inner deep → (ts : List Terminal) → Found (λ s rest. NextShape ts rest s) (next_shape inner deep) ts
unfolding next_shape
next_shape_found h ts = behind_sign Comma (λ us w. weaker (λ s rest d. comma_shape w d) (shape_found h us))

tree_extents : {ts rest : List Terminal} {es : List Tree} → Row Expr ts rest es → SpellsExtents ts rest (trees es)
tree_extents (row_end d) = last_extent d
tree_extents (row_on d h) = next_extent d (tree_extents h)

side_is : {ts us vs rest : List Terminal} {e : Tree} {es : List Tree} → Spells expr ts us e → Takes Comma us vs → Extents Expr (e ∷ []) vs es rest → SpellsSeveral ts rest (tuple (trees es))
side_is {ts} {us} {vs} {rest} {e} {es} d takes h =
    subst (λ (z : List Tree). SpellsSeveral ts rest (tuple (trees z))) (sym h.is) (side_by_side d (tree_extents h.row))

other_found : {inner : Rule → Parser Tree} {deep : ℕ} → FindsInner inner deep → (ts us vs : List Terminal) (e : Tree) → Spells expr ts us e → Takes Comma us vs → Found (λ s rest. SpellsSeveral ts rest s) (other_extents inner deep e) vs
unfolding other_extents
other_found {inner} h ts us vs e d w =
    record { found = (then {Q = λ s rest. SpellsSeveral ts rest s} (extents_found (h.find Expression) (length vs) (e ∷ []) vs) (λ es rest k. low_found shape_height (tuple (trees es)) (side_is d w k))).found }

plain_found : {inner : Rule → Parser Tree} {deep : ℕ} → FindsInner inner deep → (ts : List Terminal) → Found (λ s rest. SpellsSeveral ts rest s) (plain_extents inner deep) ts
unfolding plain_extents
plain_found h ts = then (h.find Expression ts) (λ e us d. choice Comma (λ vs w. other_found h ts us vs e d w) (pure_found (one e) (as_shape (one_extent d))))

several_at : (inner : Rule → Parser Tree) (deep : ℕ) → FindsInner inner deep → (ts : List Terminal) (b : Bool) → FoundAt (λ s rest. SpellsSeveral ts rest s) (cond b (tuple_shape inner deep ts) (plain_extents inner deep ts))
several_at inner deep h ts true = (weaker {Q = λ s rest. SpellsSeveral ts rest s} (λ s rest d. as_shape d) (tuple_found {deep = deep} h ts)).found
several_at inner deep h ts false = (plain_found h ts).found

pub several_found : {inner : Rule → Parser Tree} {deep : ℕ} → FindsInner inner deep → (ts : List Terminal) → Found (λ s rest. SpellsSeveral ts rest s) (several inner deep) ts
unfolding several
several_found {inner} {deep} h ts = record { found = several_at inner deep h ts (sees_tuple ts) }

-- ---- lists

abbrev pub Entry : List Terminal → List Terminal → ListTree → Type 0
Entry ts rest l = SpellsEntry ts rest l

list_entries : {ts rest : List Terminal} {ls : List ListTree} → Listed Entry ts rest ls → SpellsEntries ts rest (list_trees ls)
list_entries listed_none = no_entries
list_entries (listed_last d) = last_entry d
list_entries (listed_more d h) = next_entry d (list_entries h)

leaf_found : {inner : Rule → Parser Tree} {deep : ℕ} → FindsInner inner deep → (ts : List Terminal) → Found (λ l rest. SpellsEntry ts rest l) (leaf_entry inner deep) ts
unfolding leaf_entry
leaf_found h ts = then (h.find Expression ts) (λ e us d. pure_found (leaf e) (one_entry d))

entry_at : (inner : Rule → Parser Tree) (deep : ℕ) (lists : Parser ListTree) → FindsInner inner deep → ((ts : List Terminal) → Found (λ l rest. SpellsList ts rest l) lists ts) → (ts : List Terminal) (b : Bool) → FoundAt (λ l rest. SpellsEntry ts rest l) (cond b (lists ts) (leaf_entry inner deep ts))
entry_at inner deep lists h k ts true = (weaker {Q = λ l rest. SpellsEntry ts rest l} (λ l rest d. inner_list d) (k ts)).found
entry_at inner deep lists h k ts false = (leaf_found h ts).found

entry_found : {inner : Rule → Parser Tree} {deep : ℕ} {lists : Parser ListTree} → FindsInner inner deep → ((ts : List Terminal) → Found (λ l rest. SpellsList ts rest l) lists ts) → (ts : List Terminal) → Found (λ l rest. SpellsEntry ts rest l) (entry_by inner deep lists) ts
unfolding entry_by
entry_found {inner} {deep} {lists} h k ts = record { found = entry_at inner deep lists h k ts (sees LeftBracket ts) }

list_is : {ts us rest : List Terminal} {ls : List ListTree} → Takes LeftBracket ts us → Members Entry RightBracket [] us ls rest → SpellsList ts rest (list (list_trees ls))
list_is {ts} {us} {rest} {ls} takes h = subst (λ (z : List ListTree). SpellsList ts rest (list (list_trees z))) (sym h.is) (a_list (list_entries h.listed))

pub bracketed_found : {inner : Rule → Parser Tree} {deep : ℕ} → FindsInner inner deep → (n : ℕ) (ts : List Terminal) → Found (λ l rest. SpellsList ts rest l) (bracketed inner deep n) ts
unfolding bracketed
bracketed_found h zero ts = refuse_found
bracketed_found {inner} {deep} h (suc n) ts =
    record { found = (behind_sign {Q = λ l rest. SpellsList ts rest l} LeftBracket (λ us w. then (members_found (entry_found h (bracketed_found {deep = deep} h n)) RightBracket (length ts) [] us) (λ ls rest k. low_found list_height (list (list_trees ls)) (list_is w k)))).found }

-- ---- items

part_at : (inner : Rule → Parser Tree) (deep : ℕ) → FindsInner inner deep → (ts : List Terminal) (b : Bool) → FoundAt (λ e rest. SpellsPart ts rest e) (cond b (Some (no_tree, ts)) ((inner Expression >>= (λ e. pure (some_tree e))) ts))
part_at inner deep h ts true = no_part
part_at inner deep h ts false = (then {Q = λ e rest. SpellsPart ts rest e} {f = λ e. pure (some_tree e)} (h.find Expression ts) (λ e us d. pure_found (some_tree e) (a_part d))).found

part_found : {inner : Rule → Parser Tree} {deep : ℕ} → FindsInner inner deep → (ts : List Terminal) → Found (λ e rest. SpellsPart ts rest e) (part inner deep) ts
unfolding part
part_found {inner} {deep} h ts = record { found = part_at inner deep h ts (sees_end ts) }

-- the step with its colon, if there is one
pub data Stepped : List Terminal → List Terminal → MaybeTree → Type 0 where
  no_step : {ts : List Terminal} → Stepped ts ts no_tree
  a_step : {e : MaybeTree} {ts rest : List Terminal} → SpellsPart ts rest e → Stepped (sign Colon ∷ ts) rest e

step_is : {e : MaybeTree} {ts us rest : List Terminal} → Takes Colon ts us → SpellsPart us rest e → Stepped ts rest e
step_is takes d = a_step d

step_found : {inner : Rule → Parser Tree} {deep : ℕ} → FindsInner inner deep → (ts : List Terminal) → Found (λ e rest. Stepped ts rest e) (step inner deep) ts
unfolding step
step_found h ts = choice Colon (λ us w. weaker (λ e rest d. step_is w d) (part_found h us)) (pure_found no_tree no_step)

slice_is : {ts us vs ws rest : List Terminal} {from to by : MaybeTree} → SpellsPart ts us from → Takes Colon us vs → SpellsPart vs ws to → Stepped ws rest by → SpellsItem ts rest (slice from to by)
slice_is d takes e no_step = a_slice d e
slice_is d takes e (a_step k) = a_stepped d e k

sliced_found : {inner : Rule → Parser Tree} {deep : ℕ} → FindsInner inner deep → (ts us vs : List Terminal) (from : MaybeTree) → SpellsPart ts us from → Takes Colon us vs → Found (λ i rest. SpellsItem ts rest i) (sliced inner deep from) vs
unfolding sliced
sliced_found h ts us vs from d w = then (part_found h vs) (λ to ws e. then (step_found h ws) (λ by rest k. low_found item_height (slice from to by) (slice_is d w e k)))

placed_found : {inner : Rule → Parser Tree} {deep : ℕ} → FindsInner inner deep → (ts : List Terminal) → Found (λ i rest. SpellsItem ts rest i) (placed inner deep) ts
unfolding placed
placed_found h ts =
    then (h.find Expression ts) (λ e us d. choice Colon (λ vs w. sliced_found h ts us vs (some_tree e) (a_part d) w) (low_found item_height (at e) (a_place d)))

new_is : {ts us : List Terminal} → TakesWord NewAxis ts us → SpellsItem ts us new_axis
new_is takes_word = an_axis_more

others_is : {ts us : List Terminal} → Takes Ellipsis ts us → SpellsItem ts us ellipsis
others_is takes = the_others

item_found : {inner : Rule → Parser Tree} {deep : ℕ} → FindsInner inner deep → (ts : List Terminal) → Found (λ i rest. SpellsItem ts rest i) (item inner deep) ts
unfolding item
item_found h ts =
    word_choice NewAxis (λ us w. pure_found new_axis (new_is w))
    (choice Ellipsis (λ us w. pure_found ellipsis (others_is w))
    (choice Colon (λ us w. sliced_found h ts ts us no_tree no_part w) (placed_found h ts)))

abbrev pub Item : List Terminal → List Terminal → ItemTree → Type 0
Item ts rest i = SpellsItem ts rest i

index_items : {ts rest : List Terminal} {is : List ItemTree} → Listed Item ts rest is → SpellsItems ts rest (item_trees is)
index_items listed_none = nothing
index_items (listed_last d) = last_item d
index_items (listed_more d h) = next_item d (index_items h)

-- the items of an index, one at least
pub data Indexes : List Terminal → List Terminal → ItemTrees → Type 0 where
  indexes : {ts rest : List Terminal} {i : ItemTree} {is : ItemTrees} → SpellsItems ts (sign RightBracket ∷ rest) (more_items i is) → Indexes ts rest (more_items i is)

closing_seen : (ts : List Terminal) → sees RightBracket (sign RightBracket ∷ ts) ≡ true
unfolding p.same_kind
closing_seen ts = refl

some_items : (ts rest : List Terminal) (is : List ItemTree) → sees RightBracket ts ≡ false → Listed Item ts (sign RightBracket ∷ rest) is → Indexes ts rest (item_trees is)
some_items _ rest _ e listed_none = absurd (let s : sees RightBracket (sign RightBracket ∷ rest) ≡ true = closing_seen rest in cc)
some_items ts rest _ e (listed_last d) = indexes (last_item d)
some_items ts rest _ e (listed_more d h) = indexes (next_item d (index_items h))

items_is : {ts rest : List Terminal} {is : List ItemTree} → sees RightBracket ts ≡ false → Members Item RightBracket [] ts is rest → Indexes ts rest (item_trees is)
items_is {ts} {rest} {is} e h = subst (λ (z : List ItemTree). Indexes ts rest (item_trees z)) (sym h.is) (some_items ts rest h.others e h.listed)

items_at : (inner : Rule → Parser Tree) (deep : ℕ) → FindsInner inner deep → (ts : List Terminal) (b : Bool) → sees RightBracket ts ≡ b → FoundAt (λ is rest. Indexes ts rest is) (cond b None ((members (item inner deep) RightBracket (length ts) [] >>= (λ is. pure (item_trees is))) ts))
items_at inner deep h ts true e = tt
items_at inner deep h ts false e =
    (then {Q = λ is rest. Indexes ts rest is} {f = λ is. pure (item_trees is)} (members_found (item_found {deep = deep} h) RightBracket (length ts) [] ts) (λ is rest k. pure_found (item_trees is) (items_is e k))).found

pub items_found : {inner : Rule → Parser Tree} {deep : ℕ} → FindsInner inner deep → (ts : List Terminal) → Found (λ is rest. Indexes ts rest is) (items inner deep) ts
unfolding items
items_found {inner} {deep} h ts = record { found = items_at inner deep h ts (sees RightBracket ts) refl }
