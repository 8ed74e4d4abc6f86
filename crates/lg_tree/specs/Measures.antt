-- How high a tree is, and how many nodes it has. Both are this project's own.
use Rattle.std.specs.Prelude.{ℕ, suc, ◌+◌, ◌==◌, max, cond}
use Rattle.lg_tree.specs.Tree.{Tree, number, truth, name, neg, invert, arith, matmul, compare, index, full, zeros, ones, arange, array, abs, minimum, maximum, choose, reduce, take, transpose, broadcast_to, stencil, copy, flatten, as_type, reshape, apply, scan, MaybeTree, no_tree, some_tree, Trees, no_trees, more_trees, ShapeTree, one, tuple, MaybeShape, no_shape, some_shape, ItemTree, at, slice, new_axis, ellipsis, ItemTrees, no_items, more_items, ListTree, leaf, list, ListTrees, no_lists, more_lists, StatementTree, bind, update, put, update_at, print, loop, load, save, LineTrees, no_lines, more_lines, LineTree}

-- A number, a truth value or a name has height 0. Any other node, a tuple, a list or an item with
-- parts among them, is one higher than its highest part, and 1 where it has none. An extent, an
-- expression in a list and an item without parts are no nodes of their own
abbrev mutual
  pub height : Tree → ℕ
  height (number n) = 0
  height (truth b) = 0
  height (name w) = 0
  height (neg a) = suc (height a)
  height (invert a) = suc (height a)
  height (arith o a b) = suc (max (height a) (height b))
  height (matmul a b) = suc (max (height a) (height b))
  height (compare o a b) = suc (max (height a) (height b))
  height (index a is) = suc (max (height a) (items_height is))
  height (full s x t) = suc (max (shape_height s) (height x))
  height (zeros s t) = suc (shape_height s)
  height (ones s t) = suc (shape_height s)
  height (arange from to t) = suc (max (maybe_height from) (height to))
  height (array l t) = suc (list_height l)
  height (abs a) = suc (height a)
  height (minimum a b) = suc (max (height a) (height b))
  height (maximum a b) = suc (max (height a) (height b))
  height (choose c a b) = suc (max (height c) (max (height a) (height b)))
  height (reduce r a axis) = suc (max (height a) (maybe_height axis))
  height (take a i axis) = suc (max (height a) (max (height i) (maybe_height axis)))
  height (transpose a s) = suc (max (height a) (maybe_shape_height s))
  height (broadcast_to a s) = suc (max (height a) (shape_height s))
  height (stencil a l) = suc (max (height a) (list_height l))
  height (copy a) = suc (height a)
  height (flatten a) = suc (height a)
  height (as_type a t) = suc (height a)
  height (reshape a s) = suc (max (height a) (shape_height s))
  height (apply w a b) = suc (max (height a) (height b))
  height (scan c a axis) = suc (max (height a) (maybe_height axis))

  pub maybe_height : MaybeTree → ℕ
  maybe_height no_tree = 0
  maybe_height (some_tree e) = height e

  -- of the highest one
  pub trees_height : Trees → ℕ
  trees_height no_trees = 0
  trees_height (more_trees e es) = max (height e) (trees_height es)

  pub shape_height : ShapeTree → ℕ
  shape_height (one e) = height e
  shape_height (tuple es) = suc (trees_height es)

  pub maybe_shape_height : MaybeShape → ℕ
  maybe_shape_height no_shape = 0
  maybe_shape_height (some_shape s) = shape_height s

  pub item_height : ItemTree → ℕ
  item_height (at e) = suc (height e)
  item_height (slice from to by) = max (part_height from) (max (part_height to) (part_height by))
  item_height new_axis = 0
  item_height ellipsis = 0

  -- how high a slice is for this part
  pub part_height : MaybeTree → ℕ
  part_height no_tree = 0
  part_height (some_tree e) = suc (height e)

  -- of the highest one
  pub items_height : ItemTrees → ℕ
  items_height no_items = 0
  items_height (more_items i is) = max (item_height i) (items_height is)

  pub list_height : ListTree → ℕ
  list_height (leaf e) = height e
  list_height (list ls) = suc (lists_height ls)

  -- of the highest one
  pub lists_height : ListTrees → ℕ
  lists_height no_lists = 0
  lists_height (more_lists l ls) = max (list_height l) (lists_height ls)

-- of the highest tree of a statement, those of a loop's lines among them. The items of a target
-- are trees of their own
abbrev mutual
  pub statement_height : StatementTree → ℕ
  statement_height (bind w e) = height e
  statement_height (update w o e) = height e
  statement_height (put w is e) = max (items_height is) (height e)
  statement_height (update_at w is o e) = max (items_height is) (height e)
  statement_height (print e) = height e
  statement_height (loop w from to ls) = max (maybe_height from) (max (height to) (lines_height ls))
  statement_height (load w file) = 0
  statement_height (save file e) = height e

  pub lines_height : LineTrees → ℕ
  lines_height no_lines = 0
  lines_height (more_lines n s ls) = max (statement_height s) (lines_height ls)

-- an item with this many nodes in its parts is one more, but none where there are no parts
abbrev pub with_itself : ℕ → ℕ
with_itself n = cond (n == 0) 0 (suc n)

-- how many nodes there are, those of height 0 among them
abbrev mutual
  pub nodes : Tree → ℕ
  nodes (number n) = 1
  nodes (truth b) = 1
  nodes (name w) = 1
  nodes (neg a) = suc (nodes a)
  nodes (invert a) = suc (nodes a)
  nodes (arith o a b) = suc (nodes a + nodes b)
  nodes (matmul a b) = suc (nodes a + nodes b)
  nodes (compare o a b) = suc (nodes a + nodes b)
  nodes (index a is) = suc (nodes a + items_nodes is)
  nodes (full s x t) = suc (shape_nodes s + nodes x)
  nodes (zeros s t) = suc (shape_nodes s)
  nodes (ones s t) = suc (shape_nodes s)
  nodes (arange from to t) = suc (maybe_nodes from + nodes to)
  nodes (array l t) = suc (list_nodes l)
  nodes (abs a) = suc (nodes a)
  nodes (minimum a b) = suc (nodes a + nodes b)
  nodes (maximum a b) = suc (nodes a + nodes b)
  nodes (choose c a b) = suc (nodes c + (nodes a + nodes b))
  nodes (reduce r a axis) = suc (nodes a + maybe_nodes axis)
  nodes (take a i axis) = suc (nodes a + (nodes i + maybe_nodes axis))
  nodes (transpose a s) = suc (nodes a + maybe_shape_nodes s)
  nodes (broadcast_to a s) = suc (nodes a + shape_nodes s)
  nodes (stencil a l) = suc (nodes a + list_nodes l)
  nodes (copy a) = suc (nodes a)
  nodes (flatten a) = suc (nodes a)
  nodes (as_type a t) = suc (nodes a)
  nodes (reshape a s) = suc (nodes a + shape_nodes s)
  nodes (apply w a b) = suc (nodes a + nodes b)
  nodes (scan c a axis) = suc (nodes a + maybe_nodes axis)

  pub maybe_nodes : MaybeTree → ℕ
  maybe_nodes no_tree = 0
  maybe_nodes (some_tree e) = nodes e

  -- of all of them
  pub trees_nodes : Trees → ℕ
  trees_nodes no_trees = 0
  trees_nodes (more_trees e es) = nodes e + trees_nodes es

  pub shape_nodes : ShapeTree → ℕ
  shape_nodes (one e) = nodes e
  shape_nodes (tuple es) = suc (trees_nodes es)

  pub maybe_shape_nodes : MaybeShape → ℕ
  maybe_shape_nodes no_shape = 0
  maybe_shape_nodes (some_shape s) = shape_nodes s

  pub item_nodes : ItemTree → ℕ
  item_nodes (at e) = suc (nodes e)
  item_nodes (slice from to by) = with_itself (maybe_nodes from + (maybe_nodes to + maybe_nodes by))
  item_nodes new_axis = 0
  item_nodes ellipsis = 0

  -- of all of them
  pub items_nodes : ItemTrees → ℕ
  items_nodes no_items = 0
  items_nodes (more_items i is) = item_nodes i + items_nodes is

  pub list_nodes : ListTree → ℕ
  list_nodes (leaf e) = nodes e
  list_nodes (list ls) = suc (lists_nodes ls)

  -- of all of them
  pub lists_nodes : ListTrees → ℕ
  lists_nodes no_lists = 0
  lists_nodes (more_lists l ls) = list_nodes l + lists_nodes ls

-- of all trees of a statement, those of a loop's lines among them
abbrev mutual
  pub statement_nodes : StatementTree → ℕ
  statement_nodes (bind w e) = nodes e
  statement_nodes (update w o e) = nodes e
  statement_nodes (put w is e) = items_nodes is + nodes e
  statement_nodes (update_at w is o e) = items_nodes is + nodes e
  statement_nodes (print e) = nodes e
  statement_nodes (loop w from to ls) = maybe_nodes from + (nodes to + lines_nodes ls)
  statement_nodes (load w file) = 0
  statement_nodes (save file e) = nodes e

  pub lines_nodes : LineTrees → ℕ
  lines_nodes no_lines = 0
  lines_nodes (more_lines n s ls) = statement_nodes s + lines_nodes ls

abbrev pub line_nodes : LineTree → ℕ
line_nodes line = statement_nodes line.statement
