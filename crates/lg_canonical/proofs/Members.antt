-- The text of axes, items of an index, shapes and lists.
use Rattle.std.proofs.Common.{◌≡◌, ℕ, List, [], ◌∷◌, ◌++◌, codes, refl, append_assoc}
use Rattle.std.specs.Prelude.{⊤}
use Rattle.lg_lex.specs.Lexical.{BeginsApart}
use Rattle.lg_lex.specs.declared.tokens.TokenKind.TheVariants.{Comma, Colon, Equal, Ellipsis, LeftParenthesis, RightParenthesis, LeftBracket, RightBracket}
use Rattle.lg_tree.specs.Tree.{Tree, MaybeTree, no_tree, some_tree, Trees, no_trees, more_trees, ShapeTree, one, tuple, ItemTree, at, slice, new_axis, ellipsis, ItemTrees, no_items, more_items, ListTree, leaf, list, ListTrees, no_lists, more_lists}
use Rattle.lg_text.specs.Text.{text, axis_mark, part_text, shape_text, trees_text, lone_comma, index_text, items_text, item_text, list_text, lists_text}
use Rattle.lg_parse.specs.Terminal.{Terminal, word, sign}
use Rattle.lg_parse.specs.declared.words.Word.TheVariants.{NewAxis, Axis}
use Rattle.lg_parse.specs.Expressions.{SpellsAxis, no_axis, an_axis, named_axis, SpellsPart, no_part, a_part, SpellsItem, a_place, a_slice, a_stepped, an_axis_more, the_others, SpellsItems, last_item, next_item, SpellsShape, one_extent, no_extent, a_tuple, SpellsMembers, no_members, last_member, next_member, SpellsList, a_list, SpellsEntries, no_entries, last_entry, next_entry, SpellsEntry, inner_list, one_entry}
use Rattle.lg_canonical.proofs.Signs.{BeginsPlain}
use Rattle.lg_canonical.proofs.Running.{Put, Anything, Runs, then, lead, anywhere, no_text}
use Rattle.lg_canonical.proofs.Marks.{opening, closing, opening_bracket, closing_bracket, comma, comma_space, colon, dots, equal}
use Rattle.lg_canonical.proofs.Reserved.{the_axis, the_none}
use Rattle.lg_canonical.proofs.Pieces.{Piece, map_piece, Ending, Texts, listed_runs, retext}

abbrev pub MaybeTexts : MaybeTree → Type 0
MaybeTexts no_tree = ⊤
MaybeTexts (some_tree e) = Texts e

-- ---- axes

axis_mark_runs : Runs BeginsPlain axis_mark (λ ts. sign Comma ∷ word Axis ∷ sign Equal ∷ ts)
axis_mark_runs = lead comma_space (then the_axis equal (λ rest q. refl))

pub axis_ending : (axis : MaybeTree) → MaybeTexts axis → Ending (λ ts rest. SpellsAxis ts rest axis) (part_text axis_mark axis)
axis_ending no_tree x = record { piece = record { put = λ rest. rest; spelled = λ rest. no_axis; runs = no_text }; edge = λ rest q. q }
axis_ending (some_tree e) x = record {
  piece = record {
    put = λ rest. sign Comma ∷ word Axis ∷ sign Equal ∷ x.whole.put rest;
    spelled = λ rest. an_axis (named_axis (x.whole.spelled rest));
    runs = then axis_mark_runs x.whole.runs (λ rest q. x.plain rest);
  };
  edge = λ rest q. refl;
}

-- ---- items of an index

part_piece : (e : MaybeTree) → MaybeTexts e → Piece (λ ts rest. SpellsPart ts rest e) (part_text [] e)
part_piece no_tree x = record { put = λ rest. rest; spelled = λ rest. no_part; runs = no_text }
part_piece (some_tree e) x = map_piece (λ ts rest d. a_part d) x.whole

pub slice_piece : (from to by : MaybeTree) → MaybeTexts from → MaybeTexts to → MaybeTexts by → Piece (λ ts rest. SpellsItem ts rest (slice from to by)) (item_text (slice from to by))
slice_piece from to no_tree x y z =
    let p = part_piece from x in
    let q = part_piece to y in
    record {
      put = λ rest. p.put (sign Colon ∷ q.put rest);
      spelled = λ rest. a_slice (p.spelled (sign Colon ∷ q.put rest)) (q.spelled rest);
      runs = then p.runs (lead colon (then q.runs no_text (λ rest h. h))) (λ rest h. refl);
    }
slice_piece from to (some_tree by) x y z =
    let p = part_piece from x in
    let q = part_piece to y in
    let s = part_piece (some_tree by) z in
    record {
      put = λ rest. p.put (sign Colon ∷ q.put (sign Colon ∷ s.put rest));
      spelled = λ rest. a_stepped (p.spelled (sign Colon ∷ q.put (sign Colon ∷ s.put rest))) (q.spelled (sign Colon ∷ s.put rest)) (s.spelled rest);
      runs = then p.runs (lead colon (then q.runs (lead colon s.runs) (λ rest h. refl))) (λ rest h. refl);
    }

abbrev pub ItemPiece : ItemTree → Type 0
ItemPiece i = Piece (λ ts rest. SpellsItem ts rest i) (item_text i)

pub place_piece : (e : Tree) → Texts e → ItemPiece (at e)
place_piece e x = map_piece (λ ts rest d. a_place d) x.whole

pub new_axis_piece : ItemPiece new_axis
new_axis_piece = record { put = λ rest. word NewAxis ∷ rest; spelled = λ rest. an_axis_more; runs = the_none }

pub ellipsis_piece : ItemPiece ellipsis
ellipsis_piece = record { put = λ rest. sign Ellipsis ∷ rest; spelled = λ rest. the_others; runs = anywhere dots }

abbrev pub ItemPieces : ItemTrees → Type 0
ItemPieces no_items = ⊤
ItemPieces (more_items i is) = ItemPiece i × ItemPieces is

items_piece : (i : ItemTree) (is : ItemTrees) → ItemPiece i → ItemPieces is → Piece (λ ts rest. SpellsItems ts rest (more_items i is)) (item_text i ++ items_text is)
items_piece i no_items p ps = record {
  put = p.put;
  spelled = λ rest. last_item (p.spelled rest);
  runs = then p.runs no_text (λ rest h. h);
}
items_piece i (more_items j js) p ps =
    let q = items_piece j js ps.0 ps.1 in
    record {
      put = λ rest. p.put (sign Comma ∷ q.put rest);
      spelled = λ rest. next_item (p.spelled (sign Comma ∷ q.put rest)) (q.spelled rest);
      runs = listed_runs p.runs q.runs;
    }

-- an index with its brackets
pub record Index (i : ItemTree) (is : ItemTrees) : Type 0 where
  pub put : Put
  pub spelled : (rest : List Terminal) → SpellsItems (put rest) rest (more_items i is)
  pub runs : Runs Anything (index_text (more_items i is)) (λ ts. sign LeftBracket ∷ put (sign RightBracket ∷ ts))

pub index_runs : (i : ItemTree) (is : ItemTrees) → ItemPieces (more_items i is) → Index i is
index_runs i is ps =
    let p = items_piece i is ps.0 ps.1 in
    record {
      put = p.put;
      spelled = p.spelled;
      runs = lead opening_bracket (retext (append_assoc (item_text i) (items_text is) (codes "]")) (then p.runs closing_bracket (λ rest h. refl)));
    }

-- ---- shapes

abbrev pub ShapePiece : ShapeTree → Type 0
ShapePiece s = Piece (λ ts rest. SpellsShape ts rest s) (shape_text s)

abbrev pub TreesTexts : Trees → Type 0
TreesTexts no_trees = ⊤
TreesTexts (more_trees e es) = Texts e × TreesTexts es

members_piece : (e : Tree) (es : Trees) → Texts e → TreesTexts es → Piece (λ ts rest. SpellsMembers ts rest (more_trees e es)) (text e ++ trees_text es)
members_piece e no_trees x xs = record {
  put = x.whole.put;
  spelled = λ rest. last_member (x.whole.spelled rest);
  runs = then x.whole.runs no_text (λ rest h. h);
}
members_piece e (more_trees f fs) x xs =
    let q = members_piece f fs xs.0 xs.1 in
    record {
      put = λ rest. x.whole.put (sign Comma ∷ q.put rest);
      spelled = λ rest. next_member (x.whole.spelled (sign Comma ∷ q.put rest)) (q.spelled rest);
      runs = listed_runs x.whole.runs q.runs;
    }

-- what stands behind the first member of a tuple
record TupleEnd (es : Trees) : Type 0 where
  put : Put
  spelled : (rest : List Terminal) → SpellsMembers (put rest) (sign RightParenthesis ∷ rest) es
  runs : Runs Anything (trees_text es ++ (lone_comma es ++ codes ")")) (λ ts. sign Comma ∷ put ts)
  edge : (rest : List ℕ) → BeginsApart ((trees_text es ++ (lone_comma es ++ codes ")")) ++ rest)

tuple_end : (es : Trees) → TreesTexts es → TupleEnd es
tuple_end no_trees xs = record {
  put = λ rest. sign RightParenthesis ∷ rest;
  spelled = λ rest. no_members;
  runs = lead comma closing;
  edge = λ rest. refl;
}
tuple_end (more_trees e es) xs =
    let q = members_piece e es xs.0 xs.1 in
    record {
      put = λ rest. q.put (sign RightParenthesis ∷ rest);
      spelled = λ rest. q.spelled (sign RightParenthesis ∷ rest);
      runs = then (lead comma_space q.runs) closing (λ rest h. refl);
      edge = λ rest. refl;
    }

pub one_piece : (e : Tree) → Texts e → ShapePiece (one e)
one_piece e x = map_piece (λ ts rest d. one_extent d) x.whole

pub tuple_piece : (es : Trees) → TreesTexts es → ShapePiece (tuple es)
tuple_piece no_trees xs = record {
  put = λ rest. sign LeftParenthesis ∷ sign RightParenthesis ∷ rest;
  spelled = λ rest. no_extent;
  runs = anywhere (lead opening closing);
}
tuple_piece (more_trees e es) xs =
    let q = tuple_end es xs.1 in
    record {
      put = λ rest. sign LeftParenthesis ∷ xs.0.whole.put (sign Comma ∷ q.put rest);
      spelled = λ rest. a_tuple (xs.0.whole.spelled (sign Comma ∷ q.put rest)) (q.spelled rest);
      runs = lead opening (then xs.0.whole.runs (anywhere q.runs) (λ rest h. q.edge rest));
    }

-- ---- lists

abbrev pub EntryPiece : ListTree → Type 0
EntryPiece l = Piece (λ ts rest. SpellsEntry ts rest l) (list_text l)

abbrev pub EntryPieces : ListTrees → Type 0
EntryPieces no_lists = ⊤
EntryPieces (more_lists l ls) = EntryPiece l × EntryPieces ls

entries_piece : (l : ListTree) (ls : ListTrees) → EntryPiece l → EntryPieces ls → Piece (λ ts rest. SpellsEntries ts rest (more_lists l ls)) (list_text l ++ lists_text ls)
entries_piece l no_lists p ps = record {
  put = p.put;
  spelled = λ rest. last_entry (p.spelled rest);
  runs = then p.runs no_text (λ rest h. h);
}
entries_piece l (more_lists m ms) p ps =
    let q = entries_piece m ms ps.0 ps.1 in
    record {
      put = λ rest. p.put (sign Comma ∷ q.put rest);
      spelled = λ rest. next_entry (p.spelled (sign Comma ∷ q.put rest)) (q.spelled rest);
      runs = listed_runs p.runs q.runs;
    }

abbrev pub ListPiece : ListTree → Type 0
ListPiece l = Piece (λ ts rest. SpellsList ts rest l) (list_text l)

pub list_piece : (ls : ListTrees) → EntryPieces ls → ListPiece (list ls)
list_piece no_lists ps = record {
  put = λ rest. sign LeftBracket ∷ sign RightBracket ∷ rest;
  spelled = λ rest. a_list no_entries;
  runs = anywhere (lead opening_bracket closing_bracket);
}
list_piece (more_lists l ls) ps =
    let p = entries_piece l ls ps.0 ps.1 in
    record {
      put = λ rest. sign LeftBracket ∷ p.put (sign RightBracket ∷ rest);
      spelled = λ rest. a_list (p.spelled (sign RightBracket ∷ rest));
      runs = lead opening_bracket (retext (append_assoc (list_text l) (lists_text ls) (codes "]")) (then p.runs (anywhere closing_bracket) (λ rest h. refl)));
    }

pub list_entry : (l : ListTree) → ListPiece l → EntryPiece l
list_entry l p = map_piece (λ ts rest d. inner_list d) p

pub leaf_entry : (e : Tree) → Texts e → EntryPiece (leaf e)
leaf_entry e x = map_piece (λ ts rest d. one_entry d) x.whole
