-- The canonical text of a script, which is this project's own: one line a statement, 4 spaces for
-- each level of blocks, each line ended by byte 10. One space stands on each side of `=`, of an
-- assigning operator and of an operator between two operands, none behind `-` and `~` in front of
-- one. `, ` separates members. Types are written without `dtype=`, axes with `axis=`. An operand,
-- or what is indexed or has a method called on it, stands in parentheses exactly where it is an
-- operator with its operands.
use Rattle.std.specs.Prelude.{ℕ, suc, ◌*◌, Bool, true, false, Option, None, Some, List, [], ◌∷◌, ◌++◌, codes, replicate}
use Rattle.std.specs.Fmt.{decimal}
use Rattle.lg_elem.specs.declared.dtype.DType.{DType}
use Rattle.lg_text.specs.Words.{truth_text, arith_text, compare_text, dtype_text, red_text, scan_text}
use Rattle.lg_tree.specs.Tree.{Tree, number, truth, name, neg, invert, arith, matmul, compare, index, full, zeros, ones, arange, array, abs, minimum, maximum, choose, reduce, take, transpose, broadcast_to, stencil, copy, flatten, as_type, reshape, apply, scan, MaybeTree, no_tree, some_tree, Trees, no_trees, more_trees, ShapeTree, one, tuple, MaybeShape, no_shape, some_shape, ItemTree, at, slice, new_axis, ellipsis, ItemTrees, no_items, more_items, ListTree, leaf, list, ListTrees, no_lists, more_lists, StatementTree, bind, update, put, update_at, print, loop, load, save, LineTrees, no_lines, more_lines, LineTree, line_trees}

-- whether it is an operator with its operands
abbrev pub is_operator : Tree → Bool
is_operator (neg a) = true
is_operator (invert a) = true
is_operator (arith o a b) = true
is_operator (matmul a b) = true
is_operator (compare o a b) = true
is_operator _ = false

-- the text, in parentheses or not
abbrev pub enclosed : Bool → List ℕ → List ℕ
enclosed true t = codes "(" ++ (t ++ codes ")")
enclosed false t = t

-- two texts with a sign between them
abbrev pub between : List ℕ → List ℕ → List ℕ → List ℕ
between a sign b = a ++ (codes " " ++ (sign ++ (codes " " ++ b)))

-- two members
abbrev pub listed : List ℕ → List ℕ → List ℕ
listed a b = a ++ (codes ", " ++ b)

-- a call of this word
abbrev pub call_text : List ℕ → List ℕ → List ℕ
call_text w inside = w ++ (codes "(" ++ (inside ++ codes ")"))

-- a type behind other members, where there is one
abbrev pub type_text : Option DType → List ℕ
type_text None = []
type_text (Some t) = codes ", " ++ dtype_text t

-- the comma behind a lone member
abbrev pub lone_comma : Trees → List ℕ
lone_comma no_trees = codes ","
lone_comma (more_trees e es) = []

-- what stands before an axis
abbrev pub axis_mark : List ℕ
axis_mark = codes ", axis="

abbrev mutual
  pub text : Tree → List ℕ
  text (number n) = decimal n
  text (truth b) = truth_text b
  text (name w) = w
  text (neg a) = codes "-" ++ enclosed (is_operator a) (text a)
  text (invert a) = codes "~" ++ enclosed (is_operator a) (text a)
  text (arith o a b) = between (enclosed (is_operator a) (text a)) (arith_text o)
      (enclosed (is_operator b) (text b))
  text (matmul a b) = between (enclosed (is_operator a) (text a)) (codes "@")
      (enclosed (is_operator b) (text b))
  text (compare o a b) = between (enclosed (is_operator a) (text a)) (compare_text o)
      (enclosed (is_operator b) (text b))
  text (index a is) = enclosed (is_operator a) (text a) ++ index_text is
  text (full s x t) = call_text (codes "full") (listed (shape_text s) (text x ++ type_text t))
  text (zeros s t) = call_text (codes "zeros") (shape_text s ++ type_text t)
  text (ones s t) = call_text (codes "ones") (shape_text s ++ type_text t)
  text (arange no_tree to t) = call_text (codes "arange") (text to ++ type_text t)
  text (arange (some_tree from) to t) = call_text (codes "arange")
      (listed (text from) (text to ++ type_text t))
  text (array l t) = call_text (codes "array") (list_text l ++ type_text t)
  text (abs a) = call_text (codes "abs") (text a)
  text (minimum a b) = call_text (codes "minimum") (listed (text a) (text b))
  text (maximum a b) = call_text (codes "maximum") (listed (text a) (text b))
  text (choose c a b) = call_text (codes "where") (listed (text c) (listed (text a) (text b)))
  text (reduce r a axis) = call_text (red_text r) (text a ++ part_text axis_mark axis)
  text (take a i axis) = call_text (codes "take") (listed (text a) (text i ++ part_text axis_mark axis))
  text (transpose a s) = call_text (codes "transpose") (text a ++ axes_text s)
  text (broadcast_to a s) = call_text (codes "broadcast_to") (listed (text a) (shape_text s))
  text (stencil a l) = call_text (codes "stencil") (listed (text a) (list_text l))
  text (copy a) = enclosed (is_operator a) (text a) ++ call_text (codes ".copy") []
  text (flatten a) = enclosed (is_operator a) (text a) ++ call_text (codes ".flatten") []
  text (as_type a t) = enclosed (is_operator a) (text a)
      ++ call_text (codes ".astype") (dtype_text t)
  text (reshape a s) = enclosed (is_operator a) (text a)
      ++ call_text (codes ".reshape") (shape_text s)
  text (apply w a b) = call_text (codes "apply") (listed w (listed (text a) (text b)))
  text (scan c a axis) = call_text (scan_text c) (text a ++ part_text axis_mark axis)

  -- what may be left out, behind a mark
  pub part_text : List ℕ → MaybeTree → List ℕ
  part_text mark no_tree = []
  part_text mark (some_tree e) = mark ++ text e

  -- axes behind another member, where there are some
  pub axes_text : MaybeShape → List ℕ
  axes_text no_shape = []
  axes_text (some_shape s) = codes ", " ++ shape_text s

  pub shape_text : ShapeTree → List ℕ
  shape_text (one e) = text e
  shape_text (tuple no_trees) = codes "()"
  shape_text (tuple (more_trees e es)) = codes "("
      ++ (text e ++ (trees_text es ++ (lone_comma es ++ codes ")")))

  -- each behind a comma
  pub trees_text : Trees → List ℕ
  trees_text no_trees = []
  trees_text (more_trees e es) = codes ", " ++ (text e ++ trees_text es)

  -- an index with its brackets
  pub index_text : ItemTrees → List ℕ
  index_text no_items = codes "[]"
  index_text (more_items i is) = codes "[" ++ (item_text i ++ (items_text is ++ codes "]"))

  -- each behind a comma
  pub items_text : ItemTrees → List ℕ
  items_text no_items = []
  items_text (more_items i is) = codes ", " ++ (item_text i ++ items_text is)

  pub item_text : ItemTree → List ℕ
  item_text (at e) = text e
  item_text (slice from to by) = part_text [] from
      ++ (codes ":" ++ (part_text [] to ++ part_text (codes ":") by))
  item_text new_axis = codes "None"
  item_text ellipsis = codes "..."

  pub list_text : ListTree → List ℕ
  list_text (leaf e) = text e
  list_text (list no_lists) = codes "[]"
  list_text (list (more_lists l ls)) = codes "[" ++ (list_text l ++ (lists_text ls ++ codes "]"))

  -- each behind a comma
  pub lists_text : ListTrees → List ℕ
  lists_text no_lists = []
  lists_text (more_lists l ls) = codes ", " ++ (list_text l ++ lists_text ls)

-- the bounds of a loop
abbrev pub bounds_text : MaybeTree → Tree → List ℕ
bounds_text no_tree to = text to
bounds_text (some_tree from) to = listed (text from) (text to)

-- the line of a statement, without its indentation and its end
abbrev pub head_text : StatementTree → List ℕ
head_text (bind w e) = between w (codes "=") (text e)
head_text (update w o e) = between w (arith_text o ++ codes "=") (text e)
head_text (put w is e) = between (w ++ index_text is) (codes "=") (text e)
head_text (update_at w is o e) = between (w ++ index_text is) (arith_text o ++ codes "=") (text e)
head_text (print e) = call_text (codes "print") (text e)
head_text (loop w from to ls) = codes "for "
    ++ (w ++ (codes " in range(" ++ (bounds_text from to ++ codes "):")))
head_text (load w file) = between w (codes "=") (call_text (codes "load") file)
head_text (save file e) = call_text (codes "save") (listed file (text e))

-- a line of this depth
abbrev pub line_text : ℕ → List ℕ → List ℕ
line_text d t = replicate (4 * d) 32 ++ (t ++ 10 ∷ [])

abbrev mutual
  -- lines of this depth. The lines of a statement's block follow its own
  pub lines_text : ℕ → LineTrees → List ℕ
  lines_text d no_lines = []
  lines_text d (more_lines n s ls) = line_text d (head_text s)
      ++ (block_text d s ++ lines_text d ls)

  -- the lines of a statement's block, if it has one: they are one deeper
  pub block_text : ℕ → StatementTree → List ℕ
  block_text d (loop w from to ls) = lines_text (suc d) ls
  block_text d _ = []

abbrev pub script_text : List LineTree → List ℕ
script_text ls = lines_text 0 (line_trees ls)
