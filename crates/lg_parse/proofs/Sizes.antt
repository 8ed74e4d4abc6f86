-- A form has no more nodes than terminals.
use Rattle.std.proofs.Common.{◌≡◌, ℕ, suc, ◌+◌, ◌≤◌, ◌==◌, Bool, true, false, cond, Option, List, ◌∷◌, length, refl, arith, le_refl}
use Rattle.lg_elem.specs.declared.dtype.DType.{DType}
use Rattle.lg_tree.specs.Tree.{Tree, MaybeTree, Trees, ShapeTree, ItemTree, ItemTrees, ListTree, ListTrees}
use Rattle.lg_tree.specs.Measures.{nodes, maybe_nodes, trees_nodes, shape_nodes, item_nodes, items_nodes, list_nodes, lists_nodes, with_itself}
use Rattle.lg_parse.specs.declared.operators.Operator.{Operator}
use Rattle.lg_parse.specs.declared.operators.Operator.TheVariants.{Each, Matrix}
use Rattle.lg_parse.specs.declared.words.Function.{Function}
use Rattle.lg_lex.specs.declared.tokens.TokenKind.TheVariants.{DoubleStar, Comma, Colon, RightParenthesis, RightBracket}
use Rattle.lg_parse.specs.Terminal.{Terminal, sign}
use Rattle.lg_parse.specs.Operators.{operated}
use Rattle.lg_parse.specs.Types.{SpellsType, no_type, plain_type, named_type}
use Rattle.lg_parse.specs.Expressions.{Form, Spells, uncompared, compared, tightest, single, joined, negative, inverted, unsigned, alone, raised, bare, suffixed, a_number, a_truth, a_falsehood, a_name, enclosed, a_call, SpellsCall, a_full, some_zeros, some_ones, a_range_to, a_range, an_array, an_abs, a_minimum, a_maximum, a_choice, a_reduction, a_scan, a_take, a_reversal, a_transpose, a_broadcast, a_stencil, an_application, SpellsAlong, plain_axis, named_axis, SpellsAxis, no_axis, an_axis, SpellsSuffix, indexed, turned, copied, flattened, cast, reshaped, reversed, transposed, reduced, reduced_along, SpellsItem, a_place, a_slice, a_stepped, an_axis_more, the_others, SpellsPart, no_part, a_part, SpellsItems, nothing, last_item, next_item, SpellsShape, one_extent, no_extent, a_tuple, SpellsMembers, no_members, last_member, next_member, SpellsSeveral, as_shape, side_by_side, SpellsExtents, last_extent, next_extent, SpellsList, a_list, SpellsEntries, no_entries, last_entry, next_entry, SpellsEntry, inner_list, one_entry}

joined_nodes : (o : Operator) (a b : Tree) → nodes (operated o a b) ≡ suc (nodes a + nodes b)
joined_nodes (Each o) a b = refl
joined_nodes Matrix a b = refl

type_small : {ts rest : List Terminal} {d : Option DType} → SpellsType ts rest d → length rest ≤ length ts
type_small no_type = le_refl _
type_small (plain_type d) = omega arith
type_small (named_type d) = omega arith

one_at : (n : ℕ) (b : Bool) → cond b 0 (suc n) ≤ suc n
one_at n true = omega arith
one_at n false = le_refl (suc n)

-- an item is one node more at most
itself : (n : ℕ) → with_itself n ≤ suc n
itself n = one_at n (n == 0)

mutual
  pub small : {f : Form} {ts rest : List Terminal} {e : Tree} → Spells f ts rest e → nodes e + length rest ≤ length ts
  small (uncompared d) = small d
  small (tightest d) = small d
  small (single d) = small d
  small (unsigned d) = small d
  small (alone d) = small d
  small (bare d) = small d
  small {ts = ts} {rest = rest} (compared {us = us} {a = a} {b = b} k o h d e) = let p : nodes a + length (sign k ∷ us) ≤ length ts = small d in let q : nodes b + length rest ≤ length us = small e in omega arith
  small {ts = ts} {rest = rest} (joined {us = us} {a = a} {b = b} k o h d e) = let p : nodes a + length (sign k ∷ us) ≤ length ts = small d in let q : nodes b + length rest ≤ length us = small e in let m : nodes (operated o a b) ≡ suc (nodes a + nodes b) = joined_nodes o a b in omega arith
  small {rest = rest} (negative {ts = us} {e = a} d) = let p : nodes a + length rest ≤ length us = small d in omega arith
  small {rest = rest} (inverted {ts = us} {e = a} d) = let p : nodes a + length rest ≤ length us = small d in omega arith
  small {ts = ts} {rest = rest} (raised {us = us} {a = a} {b = b} d e) = let p : nodes a + length (sign DoubleStar ∷ us) ≤ length ts = small d in let q : nodes b + length rest ≤ length us = small e in omega arith
  small {ts = ts} {rest = rest} (suffixed {us = us} {a = a} {e = e} d s) = let p : nodes a + length us ≤ length ts = small d in let q : nodes e + length rest ≤ nodes a + length us = small_suffix s in omega arith
  small (a_number n) = omega arith
  small a_truth = omega arith
  small a_falsehood = omega arith
  small (a_name w) = omega arith
  small {rest = rest} (enclosed {ts = us} {e = a} d) = let p : nodes a + length (sign RightParenthesis ∷ rest) ≤ length us = small d in omega arith
  small {rest = rest} (a_call {ts = us} {e = a} c) = let p : nodes a + length (sign RightParenthesis ∷ rest) ≤ suc (length us) = small_call c in omega arith

  -- the word of the call is a terminal more
  small_call : {f : Function} {ts rest : List Terminal} {e : Tree} → SpellsCall f ts rest e → nodes e + length rest ≤ suc (length ts)
  small_call {ts = ts} {rest = rest} (a_full {us = us} {vs = vs} {s = s} {x = x} a b t) = let p : shape_nodes s + length (sign Comma ∷ us) ≤ length ts = small_shape a in let q : nodes x + length vs ≤ length us = small b in let r : length rest ≤ length vs = type_small t in omega arith
  small_call {ts = ts} {rest = rest} (some_zeros {us = us} {s = s} a t) = let p : shape_nodes s + length us ≤ length ts = small_shape a in let r : length rest ≤ length us = type_small t in omega arith
  small_call {ts = ts} {rest = rest} (some_ones {us = us} {s = s} a t) = let p : shape_nodes s + length us ≤ length ts = small_shape a in let r : length rest ≤ length us = type_small t in omega arith
  small_call {ts = ts} {rest = rest} (a_range_to {us = us} {x = x} a t) = let p : nodes x + length us ≤ length ts = small a in let r : length rest ≤ length us = type_small t in omega arith
  small_call {ts = ts} {rest = rest} (a_range {us = us} {vs = vs} {x = x} {y = y} a b t) = let p : nodes x + length (sign Comma ∷ us) ≤ length ts = small a in let q : nodes y + length vs ≤ length us = small b in let r : length rest ≤ length vs = type_small t in omega arith
  small_call {ts = ts} {rest = rest} (an_array {us = us} {l = l} a t) = let p : list_nodes l + length us ≤ length ts = small_list a in let r : length rest ≤ length us = type_small t in omega arith
  small_call {ts = ts} {rest = rest} (an_abs {x = x} a) = let p : nodes x + length rest ≤ length ts = small a in omega arith
  small_call {ts = ts} {rest = rest} (a_minimum {us = us} {x = x} {y = y} a b) = let p : nodes x + length (sign Comma ∷ us) ≤ length ts = small a in let q : nodes y + length rest ≤ length us = small b in omega arith
  small_call {ts = ts} {rest = rest} (a_maximum {us = us} {x = x} {y = y} a b) = let p : nodes x + length (sign Comma ∷ us) ≤ length ts = small a in let q : nodes y + length rest ≤ length us = small b in omega arith
  small_call {ts = ts} {rest = rest} (a_choice {us = us} {vs = vs} {c = c} {x = x} {y = y} a b d) = let p : nodes c + length (sign Comma ∷ us) ≤ length ts = small a in let q : nodes x + length (sign Comma ∷ vs) ≤ length us = small b in let r : nodes y + length rest ≤ length vs = small d in omega arith
  small_call {ts = ts} {rest = rest} (a_reduction {us = us} {x = x} {axis = k} n a b) = let p : nodes x + length us ≤ length ts = small a in let q : maybe_nodes k + length rest ≤ length us = small_axis b in omega arith
  small_call {ts = ts} {rest = rest} (a_scan {us = us} {x = x} {axis = k} n a b) = let p : nodes x + length us ≤ length ts = small a in let q : maybe_nodes k + length rest ≤ length us = small_axis b in omega arith
  small_call {ts = ts} {rest = rest} (a_take {us = us} {vs = vs} {x = x} {i = i} {axis = k} a b d) = let p : nodes x + length (sign Comma ∷ us) ≤ length ts = small a in let q : nodes i + length vs ≤ length us = small b in let r : maybe_nodes k + length rest ≤ length vs = small_axis d in omega arith
  small_call {ts = ts} {rest = rest} (a_reversal {x = x} a) = let p : nodes x + length rest ≤ length ts = small a in omega arith
  small_call {ts = ts} {rest = rest} (a_transpose {us = us} {x = x} {s = s} a b) = let p : nodes x + length (sign Comma ∷ us) ≤ length ts = small a in let q : shape_nodes s + length rest ≤ length us = small_shape b in omega arith
  small_call {ts = ts} {rest = rest} (a_broadcast {us = us} {x = x} {s = s} a b) = let p : nodes x + length (sign Comma ∷ us) ≤ length ts = small a in let q : shape_nodes s + length rest ≤ length us = small_shape b in omega arith
  small_call {ts = ts} {rest = rest} (a_stencil {us = us} {x = x} {l = l} a b) = let p : nodes x + length (sign Comma ∷ us) ≤ length ts = small a in let q : list_nodes l + length rest ≤ length us = small_list b in omega arith
  small_call {rest = rest} (an_application {ts = zs} {us = us} {x = x} {y = y} n a b) = let p : nodes x + length (sign Comma ∷ us) ≤ length zs = small a in let q : nodes y + length rest ≤ length us = small b in omega arith

  small_along : {ts rest : List Terminal} {e : Tree} → SpellsAlong ts rest e → nodes e + length rest ≤ length ts
  small_along (plain_axis d) = small d
  small_along {rest = rest} (named_axis {ts = us} {e = a} d) = let p : nodes a + length rest ≤ length us = small d in omega arith

  small_axis : {ts rest : List Terminal} {k : MaybeTree} → SpellsAxis ts rest k → maybe_nodes k + length rest ≤ length ts
  small_axis no_axis = omega arith
  small_axis {rest = rest} (an_axis {ts = us} {e = a} d) = let p : nodes a + length rest ≤ length us = small_along d in omega arith

  small_suffix : {a e : Tree} {ts rest : List Terminal} → SpellsSuffix a ts rest e → nodes e + length rest ≤ nodes a + length ts
  small_suffix {a} {rest = rest} (indexed {ts = us} {i = i} {is = is} d) = let p : item_nodes i + items_nodes is + length (sign RightBracket ∷ rest) ≤ suc (length us) = small_items d in omega arith
  small_suffix {a} {rest = rest} turned = omega arith
  small_suffix {a} {rest = rest} copied = omega arith
  small_suffix {a} {rest = rest} flattened = omega arith
  small_suffix {a} {rest = rest} (cast d) = omega arith
  small_suffix {a} {rest = rest} reversed = omega arith
  small_suffix {a} {rest = rest} (reduced r) = omega arith
  small_suffix {a} {rest = rest} (reshaped {ts = us} {s = s} d) = let p : shape_nodes s + length (sign RightParenthesis ∷ rest) ≤ suc (length us) = small_several d in omega arith
  small_suffix {a} {rest = rest} (transposed {ts = us} {s = s} d) = let p : shape_nodes s + length (sign RightParenthesis ∷ rest) ≤ suc (length us) = small_several d in omega arith
  small_suffix {a} {rest = rest} (reduced_along {e = e} {ts = us} r d) = let p : nodes e + length (sign RightParenthesis ∷ rest) ≤ length us = small_along d in omega arith

  small_item : {ts rest : List Terminal} {i : ItemTree} → SpellsItem ts rest i → item_nodes i + length rest ≤ suc (length ts)
  small_item {ts = ts} {rest = rest} (a_place {e = e} d) = let p : nodes e + length rest ≤ length ts = small d in omega arith
  small_item {ts = ts} {rest = rest} (a_slice {us = us} {from = from} {to = to} a b) = let p : maybe_nodes from + length (sign Colon ∷ us) ≤ length ts = small_part a in let q : maybe_nodes to + length rest ≤ length us = small_part b in let m : with_itself (maybe_nodes from + (maybe_nodes to + 0)) ≤ suc (maybe_nodes from + (maybe_nodes to + 0)) = itself (maybe_nodes from + (maybe_nodes to + 0)) in omega arith
  small_item {ts = ts} {rest = rest} (a_stepped {us = us} {vs = vs} {from = from} {to = to} {by = by} a b c) = let p : maybe_nodes from + length (sign Colon ∷ us) ≤ length ts = small_part a in let q : maybe_nodes to + length (sign Colon ∷ vs) ≤ length us = small_part b in let r : maybe_nodes by + length rest ≤ length vs = small_part c in let m : with_itself (maybe_nodes from + (maybe_nodes to + maybe_nodes by)) ≤ suc (maybe_nodes from + (maybe_nodes to + maybe_nodes by)) = itself (maybe_nodes from + (maybe_nodes to + maybe_nodes by)) in omega arith
  small_item an_axis_more = omega arith
  small_item the_others = omega arith

  small_part : {ts rest : List Terminal} {e : MaybeTree} → SpellsPart ts rest e → maybe_nodes e + length rest ≤ length ts
  small_part no_part = omega arith
  small_part (a_part d) = small d

  pub small_items : {ts rest : List Terminal} {is : ItemTrees} → SpellsItems ts rest is → items_nodes is + length rest ≤ suc (length ts)
  small_items nothing = omega arith
  small_items {ts = ts} {rest = rest} (last_item {i = i} d) = let p : item_nodes i + length rest ≤ suc (length ts) = small_item d in omega arith
  small_items {ts = ts} {rest = rest} (next_item {us = us} {i = i} {is = is} d h) = let p : item_nodes i + length (sign Comma ∷ us) ≤ suc (length ts) = small_item d in let q : items_nodes is + length rest ≤ suc (length us) = small_items h in omega arith

  small_shape : {ts rest : List Terminal} {s : ShapeTree} → SpellsShape ts rest s → shape_nodes s + length rest ≤ length ts
  small_shape (one_extent d) = small d
  small_shape no_extent = omega arith
  small_shape {rest = rest} (a_tuple {ts = zs} {us = us} {e = e} {es = es} d h) = let p : nodes e + length (sign Comma ∷ us) ≤ length zs = small d in let q : trees_nodes es + length (sign RightParenthesis ∷ rest) ≤ length us = small_members h in omega arith

  small_members : {ts rest : List Terminal} {es : Trees} → SpellsMembers ts rest es → trees_nodes es + length rest ≤ length ts
  small_members no_members = omega arith
  small_members {ts = ts} {rest = rest} (last_member {e = e} d) = let p : nodes e + length rest ≤ length ts = small d in omega arith
  small_members {ts = ts} {rest = rest} (next_member {us = us} {e = e} {es = es} d h) = let p : nodes e + length (sign Comma ∷ us) ≤ length ts = small d in let q : trees_nodes es + length rest ≤ length us = small_members h in omega arith

  small_several : {ts rest : List Terminal} {s : ShapeTree} → SpellsSeveral ts rest s → shape_nodes s + length rest ≤ suc (length ts)
  small_several {ts = ts} {rest = rest} (as_shape {s = s} d) = let p : shape_nodes s + length rest ≤ length ts = small_shape d in omega arith
  small_several {ts = ts} {rest = rest} (side_by_side {us = us} {e = e} {es = es} d h) = let p : nodes e + length (sign Comma ∷ us) ≤ length ts = small d in let q : trees_nodes es + length rest ≤ length us = small_extents h in omega arith

  small_extents : {ts rest : List Terminal} {es : Trees} → SpellsExtents ts rest es → trees_nodes es + length rest ≤ length ts
  small_extents {ts = ts} {rest = rest} (last_extent {e = e} d) = let p : nodes e + length rest ≤ length ts = small d in omega arith
  small_extents {ts = ts} {rest = rest} (next_extent {us = us} {e = e} {es = es} d h) = let p : nodes e + length (sign Comma ∷ us) ≤ length ts = small d in let q : trees_nodes es + length rest ≤ length us = small_extents h in omega arith

  small_list : {ts rest : List Terminal} {l : ListTree} → SpellsList ts rest l → list_nodes l + length rest ≤ length ts
  small_list {rest = rest} (a_list {ts = us} {ls = ls} h) = let p : lists_nodes ls + length (sign RightBracket ∷ rest) ≤ length us = small_entries h in omega arith

  small_entries : {ts rest : List Terminal} {ls : ListTrees} → SpellsEntries ts rest ls → lists_nodes ls + length rest ≤ length ts
  small_entries no_entries = omega arith
  small_entries {ts = ts} {rest = rest} (last_entry {l = l} d) = let p : list_nodes l + length rest ≤ length ts = small_entry d in omega arith
  small_entries {ts = ts} {rest = rest} (next_entry {us = us} {l = l} {ls = ls} d h) = let p : list_nodes l + length (sign Comma ∷ us) ≤ length ts = small_entry d in let q : lists_nodes ls + length rest ≤ length us = small_entries h in omega arith

  small_entry : {ts rest : List Terminal} {l : ListTree} → SpellsEntry ts rest l → list_nodes l + length rest ≤ length ts
  small_entry (inner_list l) = small_list l
  small_entry (one_entry d) = small d
