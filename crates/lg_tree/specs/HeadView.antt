-- How what a line holds is seen as a tree.
use Rattle.lg_tree.specs.Heads.{HeadTree, whole, loop_head}
use Rattle.lg_tree.specs.View.{tree_of, maybe_of, statement_of}
use Rattle.lg_tree.specs.declared.heads.Head.{Head}
use Rattle.lg_tree.specs.declared.heads.Head.TheVariants.{Whole, For}

abbrev pub head_of : Head → HeadTree
head_of (Whole s) = whole (statement_of s.statement)
head_of (For w from to) = loop_head w (maybe_of from) (tree_of to)
