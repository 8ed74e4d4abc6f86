-- The text of what terminals spell: one line for each production.
use Rattle.std.proofs.Common.{◌≡◌, ℕ, Option, List, [], ◌∷◌}
use Rattle.lg_elem.specs.declared.dtype.DType.{DType}
use Rattle.lg_tree.specs.Tree.{Tree, MaybeTree, no_tree, some_tree, Trees, ShapeTree, more_trees, no_shape, some_shape, ItemTree, ItemTrees, ListTree, ListTrees}
use Rattle.lg_parse.specs.declared.words.Function.{Function}
use Rattle.lg_parse.specs.Terminal.{Terminal}
use Rattle.lg_parse.specs.Types.{SpellsType, no_type, plain_type, named_type}
use Rattle.lg_parse.specs.Expressions.{Form, Spells, uncompared, compared, tightest, single, joined, negative, inverted, unsigned, alone, raised, bare, suffixed, a_number, a_truth, a_falsehood, a_name, enclosed, a_call, SpellsCall, a_full, some_zeros, some_ones, a_range_to, a_range, an_array, an_abs, a_minimum, a_maximum, a_choice, a_reduction, a_scan, a_take, a_reversal, a_transpose, a_broadcast, a_stencil, an_application, SpellsAlong, plain_axis, named_axis, SpellsAxis, no_axis, an_axis, SpellsSuffix, indexed, turned, copied, flattened, cast, reshaped, reversed, transposed, reduced, reduced_along, SpellsItem, a_place, a_slice, a_stepped, an_axis_more, the_others, SpellsPart, no_part, a_part, SpellsItems, nothing, last_item, next_item, SpellsShape, one_extent, no_extent, a_tuple, SpellsMembers, no_members, last_member, next_member, SpellsSeveral, as_shape, side_by_side, SpellsExtents, last_extent, next_extent, SpellsList, a_list, SpellsEntries, no_entries, last_entry, next_entry, SpellsEntry, inner_list, one_entry}
use Rattle.lg_tree.specs.declared.kinds.Arith.TheVariants.{Pow}
use Rattle.lg_canonical.proofs.Goods.{AreGood}
use Rattle.lg_canonical.proofs.Pieces.{Texts}
use Rattle.lg_canonical.proofs.Operands.{number_texts, truth_texts, falsehood_texts, name_texts, negative_texts, inverted_texts, arith_texts, operated_texts, compared_texts}
use Rattle.lg_canonical.proofs.Members.{MaybeTexts, slice_piece, ItemPiece, place_piece, new_axis_piece, ellipsis_piece, ItemPieces, ShapePiece, TreesTexts, one_piece, tuple_piece, EntryPiece, EntryPieces, ListPiece, list_piece, list_entry, leaf_entry}
use Rattle.lg_canonical.proofs.Calls.{full_texts, zeros_texts, ones_texts, range_to_texts, range_texts, array_texts, abs_texts, minimum_texts, maximum_texts, choice_texts, reduce_texts, scan_texts, take_texts, transpose_texts, broadcast_texts, stencil_texts, apply_texts}
use Rattle.lg_canonical.proofs.Methods.{index_texts, copy_texts, flatten_texts, cast_texts, reshape_texts}

-- what is read, and that the terminals behind it are good
abbrev With : Type 0 → List Terminal → Type 0
With A rest = A × AreGood rest

type_read : {ts rest : List Terminal} {t : Option DType} → SpellsType ts rest t → AreGood ts → AreGood rest
type_read no_type g = g
type_read (plain_type t) g = g.1.1
type_read (named_type t) g = g.1.1.1.1

mutual
  pub expression_read : {f : Form} {ts rest : List Terminal} {e : Tree} → Spells f ts rest e → AreGood ts → With (Texts e) rest
  expression_read (uncompared d) g = expression_read d g
  expression_read (compared k o h a b) g = let x = expression_read a g in let y = expression_read b x.1.1 in (compared_texts o _ _ x.0 y.0, y.1)
  expression_read (tightest d) g = expression_read d g
  expression_read (single d) g = expression_read d g
  expression_read (joined k o h a b) g = let x = expression_read a g in let y = expression_read b x.1.1 in (operated_texts o _ _ x.0 y.0, y.1)
  expression_read (negative d) g = let x = expression_read d g.1 in (negative_texts _ x.0, x.1)
  expression_read (inverted d) g = let x = expression_read d g.1 in (inverted_texts _ x.0, x.1)
  expression_read (unsigned d) g = expression_read d g
  expression_read (alone d) g = expression_read d g
  expression_read (raised a b) g = let x = expression_read a g in let y = expression_read b x.1.1 in (arith_texts Pow _ _ x.0 y.0, y.1)
  expression_read (bare d) g = expression_read d g
  expression_read (suffixed d s) g = let x = expression_read d g in suffix_read s x.0 x.1
  expression_read (a_number n) g = (number_texts n g.0, g.1)
  expression_read a_truth g = (truth_texts, g.1)
  expression_read a_falsehood g = (falsehood_texts, g.1)
  expression_read (a_name w) g = (name_texts w g.0.0 g.0.1, g.1)
  expression_read (enclosed d) g = let x = expression_read d g.1 in (x.0, x.1.1)
  expression_read (a_call d) g = let x = call_read d g.1.1 in (x.0, x.1.1)

  call_read : {f : Function} {ts rest : List Terminal} {e : Tree} → SpellsCall f ts rest e → AreGood ts → With (Texts e) rest
  call_read (a_full s a t) g = let p = shape_read s g in let x = expression_read a p.1.1 in (full_texts _ _ _ p.0 x.0, type_read t x.1)
  call_read (some_zeros s t) g = let p = shape_read s g in (zeros_texts _ _ p.0, type_read t p.1)
  call_read (some_ones s t) g = let p = shape_read s g in (ones_texts _ _ p.0, type_read t p.1)
  call_read (a_range_to a t) g = let x = expression_read a g in (range_to_texts _ _ x.0, type_read t x.1)
  call_read (a_range a b t) g = let x = expression_read a g in let y = expression_read b x.1.1 in (range_texts _ _ _ x.0 y.0, type_read t y.1)
  call_read (an_array l t) g = let p = list_read l g in (array_texts _ _ p.0, type_read t p.1)
  call_read (an_abs a) g = let x = expression_read a g in (abs_texts _ x.0, x.1)
  call_read (a_minimum a b) g = let x = expression_read a g in let y = expression_read b x.1.1 in (minimum_texts _ _ x.0 y.0, y.1)
  call_read (a_maximum a b) g = let x = expression_read a g in let y = expression_read b x.1.1 in (maximum_texts _ _ x.0 y.0, y.1)
  call_read (a_choice c a b) g =
      let z = expression_read c g in
      let x = expression_read a z.1.1 in
      let y = expression_read b x.1.1 in
      (choice_texts _ _ _ z.0 x.0 y.0, y.1)
  call_read (a_reduction r a axis) g = let x = expression_read a g in let y = axis_read axis x.1 in (reduce_texts r _ _ x.0 y.0, y.1)
  call_read (a_scan c a axis) g = let x = expression_read a g in let y = axis_read axis x.1 in (scan_texts c _ _ x.0 y.0, y.1)
  call_read (a_take a i axis) g =
      let x = expression_read a g in
      let y = expression_read i x.1.1 in
      let z = axis_read axis y.1 in
      (take_texts _ _ _ x.0 y.0 z.0, z.1)
  call_read (a_reversal a) g = let x = expression_read a g in (transpose_texts _ no_shape x.0 tt, x.1)
  call_read (a_transpose {s = s} a d) g = let x = expression_read a g in let p = shape_read d x.1.1 in (transpose_texts _ (some_shape s) x.0 p.0, p.1)
  call_read (a_broadcast a d) g = let x = expression_read a g in let p = shape_read d x.1.1 in (broadcast_texts _ _ x.0 p.0, p.1)
  call_read (a_stencil a l) g = let x = expression_read a g in let p = list_read l x.1.1 in (stencil_texts _ _ x.0 p.0, p.1)
  call_read (an_application w a b) g = let x = expression_read a g.1.1 in let y = expression_read b x.1.1 in (apply_texts w _ _ g.0.0 g.0.1 x.0 y.0, y.1)

  along_read : {ts rest : List Terminal} {e : Tree} → SpellsAlong ts rest e → AreGood ts → With (Texts e) rest
  along_read (plain_axis d) g = expression_read d g
  along_read (named_axis d) g = expression_read d g.1.1

  axis_read : {ts rest : List Terminal} {axis : MaybeTree} → SpellsAxis ts rest axis → AreGood ts → With (MaybeTexts axis) rest
  axis_read no_axis g = (tt, g)
  axis_read (an_axis d) g = along_read d g.1

  suffix_read : {a e : Tree} {ts rest : List Terminal} → SpellsSuffix a ts rest e → Texts a → AreGood ts → With (Texts e) rest
  suffix_read (indexed d) x g = let ps = items_read d g.1 in (index_texts _ _ _ x ps.0, ps.1.1)
  suffix_read turned x g = (transpose_texts _ no_shape x tt, g.1.1)
  suffix_read copied x g = (copy_texts _ x, g.1.1.1.1)
  suffix_read flattened x g = (flatten_texts _ x, g.1.1.1.1)
  suffix_read (cast t) x g = (cast_texts _ t x, g.1.1.1.1.1)
  suffix_read (reshaped d) x g = let p = several_read d g.1.1.1 in (reshape_texts _ _ x p.0, p.1.1)
  suffix_read reversed x g = (transpose_texts _ no_shape x tt, g.1.1.1.1)
  suffix_read (transposed {s = s} d) x g = let p = several_read d g.1.1.1 in (transpose_texts _ (some_shape s) x p.0, p.1.1)
  suffix_read (reduced r) x g = (reduce_texts r _ no_tree x tt, g.1.1.1.1)
  suffix_read (reduced_along {e = e} r d) x g = let y = along_read d g.1.1.1 in (reduce_texts r _ (some_tree e) x y.0, y.1.1)

  item_read : {ts rest : List Terminal} {i : ItemTree} → SpellsItem ts rest i → AreGood ts → With (ItemPiece i) rest
  item_read (a_place d) g = let x = expression_read d g in (place_piece _ x.0, x.1)
  item_read (a_slice from to) g = let x = part_read from g in let y = part_read to x.1.1 in (slice_piece _ _ no_tree x.0 y.0 tt, y.1)
  item_read (a_stepped from to by) g =
      let x = part_read from g in
      let y = part_read to x.1.1 in
      let z = part_read by y.1.1 in
      (slice_piece _ _ _ x.0 y.0 z.0, z.1)
  item_read an_axis_more g = (new_axis_piece, g.1)
  item_read the_others g = (ellipsis_piece, g.1)

  part_read : {ts rest : List Terminal} {e : MaybeTree} → SpellsPart ts rest e → AreGood ts → With (MaybeTexts e) rest
  part_read no_part g = (tt, g)
  part_read (a_part d) g = expression_read d g

  pub items_read : {ts rest : List Terminal} {is : ItemTrees} → SpellsItems ts rest is → AreGood ts → With (ItemPieces is) rest
  items_read nothing g = (tt, g)
  items_read (last_item d) g = let p = item_read d g in ((p.0, tt), p.1)
  items_read (next_item d s) g = let p = item_read d g in let ps = items_read s p.1.1 in ((p.0, ps.0), ps.1)

  shape_read : {ts rest : List Terminal} {s : ShapeTree} → SpellsShape ts rest s → AreGood ts → With (ShapePiece s) rest
  shape_read (one_extent d) g = let x = expression_read d g in (one_piece _ x.0, x.1)
  shape_read no_extent g = (tuple_piece _ tt, g.1.1)
  shape_read (a_tuple {e = e} {es = es} d s) g =
      let x = expression_read d g.1 in
      let xs = members_read s x.1.1 in
      (tuple_piece (more_trees e es) (x.0, xs.0), xs.1.1)

  members_read : {ts rest : List Terminal} {es : Trees} → SpellsMembers ts rest es → AreGood ts → With (TreesTexts es) rest
  members_read no_members g = (tt, g)
  members_read (last_member d) g = let x = expression_read d g in ((x.0, tt), x.1)
  members_read (next_member d s) g = let x = expression_read d g in let xs = members_read s x.1.1 in ((x.0, xs.0), xs.1)

  several_read : {ts rest : List Terminal} {s : ShapeTree} → SpellsSeveral ts rest s → AreGood ts → With (ShapePiece s) rest
  several_read (as_shape d) g = shape_read d g
  several_read (side_by_side {e = e} {es = es} d s) g =
      let x = expression_read d g in
      let xs = extents_read s x.1.1 in
      (tuple_piece (more_trees e es) (x.0, xs.0), xs.1)

  extents_read : {ts rest : List Terminal} {es : Trees} → SpellsExtents ts rest es → AreGood ts → With (TreesTexts es) rest
  extents_read (last_extent d) g = let x = expression_read d g in ((x.0, tt), x.1)
  extents_read (next_extent d s) g = let x = expression_read d g in let xs = extents_read s x.1.1 in ((x.0, xs.0), xs.1)

  list_read : {ts rest : List Terminal} {l : ListTree} → SpellsList ts rest l → AreGood ts → With (ListPiece l) rest
  list_read (a_list d) g = let ps = entries_read d g.1 in (list_piece _ ps.0, ps.1.1)

  entries_read : {ts rest : List Terminal} {ls : ListTrees} → SpellsEntries ts rest ls → AreGood ts → With (EntryPieces ls) rest
  entries_read no_entries g = (tt, g)
  entries_read (last_entry d) g = let p = entry_read d g in ((p.0, tt), p.1)
  entries_read (next_entry d s) g = let p = entry_read d g in let ps = entries_read s p.1.1 in ((p.0, ps.0), ps.1)

  entry_read : {ts rest : List Terminal} {l : ListTree} → SpellsEntry ts rest l → AreGood ts → With (EntryPiece l) rest
  entry_read (inner_list d) g = let p = list_read d g in (list_entry _ p.0, p.1)
  entry_read (one_entry d) g = let x = expression_read d g in (leaf_entry _ x.0, x.1)
