-- Short names for the trees of which the worked examples are made.
use Rattle.std.specs.Prelude.{codes}
use Rattle.lg_tree.specs.declared.kinds.Arith.TheVariants.{Add}
use Rattle.lg_tree.specs.Tree.{Tree, name, arith, no_tree, no_trees, more_trees, ShapeTree, tuple, ItemTree, slice, ItemTrees, no_items, more_items, ListTree, list, no_lists, more_lists}

abbrev pub a : Tree
a = name (codes "a")

abbrev pub b : Tree
b = name (codes "b")

abbrev pub c : Tree
c = name (codes "c")

abbrev pub i : Tree
i = name (codes "i")

abbrev pub j : Tree
j = name (codes "j")

abbrev pub plus : Tree → Tree → Tree
plus x y = arith Add x y

-- `:`
abbrev pub whole : ItemTree
whole = slice no_tree no_tree no_tree

abbrev pub item : ItemTree → ItemTrees
item x = more_items x no_items

abbrev pub two_items : ItemTree → ItemTree → ItemTrees
two_items x y = more_items x (item y)

-- `(x,)`
abbrev pub lone : Tree → ShapeTree
lone x = tuple (more_trees x no_trees)

-- `(x, y)`
abbrev pub pair : Tree → Tree → ShapeTree
pair x y = tuple (more_trees x (more_trees y no_trees))

abbrev pub list_of_one : ListTree → ListTree
list_of_one x = list (more_lists x no_lists)

abbrev pub list_of_two : ListTree → ListTree → ListTree
list_of_two x y = list (more_lists x (more_lists y no_lists))
