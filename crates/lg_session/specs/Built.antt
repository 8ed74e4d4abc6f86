-- Which forms of the language a session evaluates so far. This project's own.
use Rattle.std.specs.Prelude.{ℕ, Bool, true, false, ◌&&◌, List, Option, Some, None}
use Rattle.lg_tree.specs.Tree.{Tree, number, truth, name, neg, invert, arith, compare, index, full, zeros, ones, arange, array, abs, minimum, maximum, choose, transpose, broadcast_to, copy, flatten, as_type, reshape, MaybeTree, no_tree, some_tree, Trees, no_trees, more_trees, ShapeTree, one, tuple, MaybeShape, no_shape, some_shape, ItemTree, at, slice, ItemTrees, no_items, more_items, ListTree, leaf, list, ListTrees, no_lists, more_lists, StatementTree, bind, update, put, update_at, print, loop, LineTrees, no_lines, more_lines, LineTree, line_trees}

abbrev mutual
  pub is_built_tree : Tree → Bool
  is_built_tree (number n) = true
  is_built_tree (truth b) = true
  is_built_tree (name w) = true
  is_built_tree (neg a) = is_built_tree a
  is_built_tree (invert a) = is_built_tree a
  is_built_tree (arith op a b) = is_built_tree a && is_built_tree b
  is_built_tree (compare op a b) = is_built_tree a && is_built_tree b
  is_built_tree (index a is) = is_built_tree a && are_built_items is
  is_built_tree (full s x t) = is_built_shape s && is_built_tree x
  is_built_tree (zeros s t) = is_built_shape s
  is_built_tree (ones s t) = is_built_shape s
  is_built_tree (arange from to t) = is_built_maybe from && is_built_tree to
  is_built_tree (array l t) = is_built_list l
  is_built_tree (abs a) = is_built_tree a
  is_built_tree (minimum a b) = is_built_tree a && is_built_tree b
  is_built_tree (maximum a b) = is_built_tree a && is_built_tree b
  is_built_tree (choose c a b) = is_built_tree c && (is_built_tree a && is_built_tree b)
  is_built_tree (transpose a s) = is_built_tree a && is_built_axes s
  is_built_tree (broadcast_to a s) = is_built_tree a && is_built_shape s
  is_built_tree (copy a) = is_built_tree a
  is_built_tree (flatten a) = is_built_tree a
  is_built_tree (as_type a t) = is_built_tree a
  is_built_tree (reshape a s) = is_built_tree a && is_built_shape s
  is_built_tree e = false

  pub is_built_maybe : MaybeTree → Bool
  is_built_maybe no_tree = true
  is_built_maybe (some_tree e) = is_built_tree e

  pub is_built_shape : ShapeTree → Bool
  is_built_shape (one e) = is_built_tree e
  is_built_shape (tuple es) = are_built_trees es

  pub is_built_axes : MaybeShape → Bool
  is_built_axes no_shape = true
  is_built_axes (some_shape s) = is_built_shape s

  pub are_built_trees : Trees → Bool
  are_built_trees no_trees = true
  are_built_trees (more_trees e es) = is_built_tree e && are_built_trees es

  pub is_built_item : ItemTree → Bool
  is_built_item (at e) = is_built_tree e
  is_built_item (slice start stop step) =
      is_built_maybe start && (is_built_maybe stop && is_built_maybe step)
  is_built_item i = true

  pub are_built_items : ItemTrees → Bool
  are_built_items no_items = true
  are_built_items (more_items i is) = is_built_item i && are_built_items is

  pub is_built_list : ListTree → Bool
  is_built_list (leaf e) = is_built_tree e
  is_built_list (list ls) = are_built_lists ls

  pub are_built_lists : ListTrees → Bool
  are_built_lists no_lists = true
  are_built_lists (more_lists l ls) = is_built_list l && are_built_lists ls

-- the statement of a line without a block: an assignment, an update, or a print
abbrev pub is_built : StatementTree → Bool
is_built (bind w e) = is_built_tree e
is_built (update w op e) = is_built_tree e
is_built (put w is e) = are_built_items is && is_built_tree e
is_built (update_at w is op e) = are_built_items is && is_built_tree e
is_built (print e) = is_built_tree e
is_built s = false

abbrev pub unless_built : Bool → ℕ → Option ℕ → Option ℕ
unless_built true n rest = rest
unless_built false n rest = Some n

-- the first of these that there is
abbrev pub or_else : Option ℕ → Option ℕ → Option ℕ
or_else None rest = rest
or_else (Some n) rest = Some n

-- the number of the first line that is not built, in the order of the text: the line of a loop,
-- whose bounds have to be, stands before those of its block
abbrev mutual
  pub unbuilt_in : LineTrees → Option ℕ
  unbuilt_in no_lines = None
  unbuilt_in (more_lines n s ls) = or_else (unbuilt_at n s) (unbuilt_in ls)

  pub unbuilt_at : ℕ → StatementTree → Option ℕ
  unbuilt_at n (loop w from to ls) =
      unless_built (is_built_maybe from && is_built_tree to) n (unbuilt_in ls)
  unbuilt_at n s = unless_built (is_built s) n None

abbrev pub first_unbuilt : List LineTree → Option ℕ
first_unbuilt lines = unbuilt_in (line_trees lines)
