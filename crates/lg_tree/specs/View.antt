-- How the types of the code are seen as trees.
use Rattle.std.specs.Prelude.{Option, None, Some, List, [], ◌∷◌, map}
use Rattle.lg_tree.specs.Tree.{Tree, number, truth, name, neg, invert, arith, matmul, compare, index, full, zeros, ones, arange, array, abs, minimum, maximum, choose, reduce, take, transpose, broadcast_to, stencil, copy, flatten, as_type, reshape, apply, scan, MaybeTree, no_tree, some_tree, Trees, no_trees, more_trees, ShapeTree, one, tuple, MaybeShape, no_shape, some_shape, ItemTree, at, slice, new_axis, ellipsis, ItemTrees, no_items, more_items, ListTree, leaf, list, ListTrees, no_lists, more_lists, StatementTree, bind, update, put, update_at, print, loop, load, save, LineTrees, LineTree, line_trees}
use Rattle.lg_tree.specs.declared.trees.Expr.{Expr}
use Rattle.lg_tree.specs.declared.trees.Expr.TheOpen.{Expr-F, Item-F, ListExpr-F, ShapeExpr-F}
use Rattle.lg_tree.specs.declared.trees.Expr.TheFolds.{fold-Expr, fold-Item, fold-ListExpr, fold-ShapeExpr}
use Rattle.lg_tree.specs.declared.trees.Item.{Item}
use Rattle.lg_tree.specs.declared.trees.ListExpr.{ListExpr}
use Rattle.lg_tree.specs.declared.trees.ShapeExpr.{ShapeExpr}
use Rattle.lg_tree.specs.declared.trees.Line.{Line}
use Rattle.lg_tree.specs.declared.trees.Statement.{Statement}
use Rattle.lg_tree.specs.declared.trees.Statement.TheOpen.{Line-F, Statement-F}
use Rattle.lg_tree.specs.declared.trees.Statement.TheFolds.{fold-Line, fold-Statement}
use Rattle.lg_tree.specs.declared.trees.Script.{Script}

-- what may be left out
abbrev pub maybe_tree : Option Tree → MaybeTree
maybe_tree None = no_tree
maybe_tree (Some e) = some_tree e

abbrev pub maybe_shape : Option ShapeTree → MaybeShape
maybe_shape None = no_shape
maybe_shape (Some s) = some_shape s

-- lists of trees
abbrev pub trees : List Tree → Trees
trees [] = no_trees
trees (e ∷ es) = more_trees e (trees es)

abbrev pub item_trees : List ItemTree → ItemTrees
item_trees [] = no_items
item_trees (i ∷ is) = more_items i (item_trees is)

abbrev pub list_trees : List ListTree → ListTrees
list_trees [] = no_lists
list_trees (l ∷ ls) = more_lists l (list_trees ls)

-- one level, with each part already seen as its tree
abbrev pub tree_step : Expr-F Tree ItemTree ListTree ShapeTree → Tree
tree_step (Expr-F.Number n) = number n
tree_step (Expr-F.Truth b) = truth b
tree_step (Expr-F.Name w) = name w
tree_step (Expr-F.Neg a) = neg a
tree_step (Expr-F.Invert a) = invert a
tree_step (Expr-F.Arith o a b) = arith o a b
tree_step (Expr-F.MatMul a b) = matmul a b
tree_step (Expr-F.Compare o a b) = compare o a b
tree_step (Expr-F.Index a is) = index a (item_trees is)
tree_step (Expr-F.Full s x t) = full s x t
tree_step (Expr-F.Zeros s t) = zeros s t
tree_step (Expr-F.Ones s t) = ones s t
tree_step (Expr-F.Arange from to t) = arange (maybe_tree from) to t
tree_step (Expr-F.Array l t) = array l t
tree_step (Expr-F.Abs a) = abs a
tree_step (Expr-F.Minimum a b) = minimum a b
tree_step (Expr-F.Maximum a b) = maximum a b
tree_step (Expr-F.Where c a b) = choose c a b
tree_step (Expr-F.Reduce r a axis) = reduce r a (maybe_tree axis)
tree_step (Expr-F.Take a i axis) = take a i (maybe_tree axis)
tree_step (Expr-F.Transpose a s) = transpose a (maybe_shape s)
tree_step (Expr-F.BroadcastTo a s) = broadcast_to a s
tree_step (Expr-F.Stencil a l) = stencil a l
tree_step (Expr-F.Copy a) = copy a
tree_step (Expr-F.Flatten a) = flatten a
tree_step (Expr-F.AsType a t) = as_type a t
tree_step (Expr-F.Reshape a s) = reshape a s
tree_step (Expr-F.Apply w a b) = apply w a b
tree_step (Expr-F.Scan c a axis) = scan c a (maybe_tree axis)

abbrev pub item_step : Item-F Tree ItemTree ListTree ShapeTree → ItemTree
item_step (Item-F.At e) = at e
item_step (Item-F.Slice from to step) = slice (maybe_tree from) (maybe_tree to) (maybe_tree step)
item_step Item-F.NewAxis = new_axis
item_step Item-F.Ellipsis = ellipsis

abbrev pub list_step : ListExpr-F Tree ItemTree ListTree ShapeTree → ListTree
list_step (ListExpr-F.Leaf e) = leaf e
list_step (ListExpr-F.List ls) = list (list_trees ls)

abbrev pub shape_step : ShapeExpr-F Tree ItemTree ListTree ShapeTree → ShapeTree
shape_step (ShapeExpr-F.One e) = one e
shape_step (ShapeExpr-F.Tuple es) = tuple (trees es)

abbrev pub tree_of : Expr → Tree
tree_of = fold-Expr Tree ItemTree ListTree ShapeTree tree_step item_step list_step shape_step

abbrev pub item_of : Item → ItemTree
item_of = fold-Item Tree ItemTree ListTree ShapeTree tree_step item_step list_step shape_step

abbrev pub list_of : ListExpr → ListTree
list_of = fold-ListExpr Tree ItemTree ListTree ShapeTree tree_step item_step list_step shape_step

abbrev pub shape_of : ShapeExpr → ShapeTree
shape_of = fold-ShapeExpr Tree ItemTree ListTree ShapeTree tree_step item_step list_step shape_step

-- the same of parts of the code's types
abbrev pub maybe_of : Option Expr → MaybeTree
maybe_of None = no_tree
maybe_of (Some e) = some_tree (tree_of e)

abbrev pub maybe_shape_of : Option ShapeExpr → MaybeShape
maybe_shape_of None = no_shape
maybe_shape_of (Some s) = some_shape (shape_of s)

abbrev pub trees_of : List Expr → Trees
trees_of es = trees (map tree_of es)

abbrev pub lists_of : List ListExpr → ListTrees
lists_of ls = list_trees (map list_of ls)

abbrev pub items_of : List Item → ItemTrees
items_of is = item_trees (map item_of is)

abbrev pub statement_step : Statement-F StatementTree LineTree → StatementTree
statement_step (Statement-F.Bind w value) = bind w (tree_of value)
statement_step (Statement-F.Update w o value) = update w o (tree_of value)
statement_step (Statement-F.Put w is value) = put w (items_of is) (tree_of value)
statement_step (Statement-F.UpdateAt w is o value) = update_at w (items_of is) o (tree_of value)
statement_step (Statement-F.Print value) = print (tree_of value)
statement_step (Statement-F.For w from to ls) = loop w (maybe_of from) (tree_of to) (line_trees ls)
statement_step (Statement-F.Load w file) = load w file
statement_step (Statement-F.Save file value) = save file (tree_of value)

abbrev pub line_step : Line-F StatementTree LineTree → LineTree
line_step line = record { number = line.number; statement = line.statement }

abbrev pub statement_of : Statement → StatementTree
statement_of = fold-Statement StatementTree LineTree statement_step line_step

abbrev pub line_of : Line → LineTree
line_of = fold-Line StatementTree LineTree statement_step line_step

abbrev pub lines_of : List Line → LineTrees
lines_of lines = line_trees (map line_of lines)

abbrev pub script_of : Script → List LineTree
script_of script = map line_of script.lines
