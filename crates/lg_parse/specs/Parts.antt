-- How what the parser makes is seen.
use Rattle.std.specs.Prelude.{Option, None, Some, List, map}
use Rattle.lg_tree.specs.Tree.{Tree, MaybeTree, no_tree, some_tree, ShapeTree, ItemTree, ItemTrees, ListTree}
use Rattle.lg_tree.specs.View.{tree_of, shape_of, item_of, items_of, list_of}
use Rattle.lg_parse.specs.declared.parsed.Parsed.{Parsed}
use Rattle.lg_parse.specs.declared.parsed.ParsedShape.{ParsedShape}
use Rattle.lg_parse.specs.declared.parsed.ParsedItem.{ParsedItem}
use Rattle.lg_parse.specs.declared.parsed.ParsedList.{ParsedList}
use Rattle.lg_parse.specs.declared.parsed.ParsedTrees.{ParsedTrees}
use Rattle.lg_parse.specs.declared.parsed.ParsedItems.{ParsedItems}
use Rattle.lg_parse.specs.declared.parsed.ParsedLists.{ParsedLists}

abbrev pub parsed_tree : Parsed → Tree
parsed_tree p = tree_of p.tree

abbrev pub parsed_part : Option Parsed → MaybeTree
parsed_part None = no_tree
parsed_part (Some p) = some_tree (tree_of p.tree)

abbrev pub parsed_shape : ParsedShape → ShapeTree
parsed_shape p = shape_of p.shape

abbrev pub parsed_item : ParsedItem → ItemTree
parsed_item p = item_of p.item

abbrev pub parsed_list : ParsedList → ListTree
parsed_list p = list_of p.list

abbrev pub parsed_trees : ParsedTrees → List Tree
parsed_trees p = map tree_of p.members

abbrev pub parsed_items : ParsedItems → List ItemTree
parsed_items p = map item_of p.members

abbrev pub parsed_index : ParsedItems → ItemTrees
parsed_index p = items_of p.members

abbrev pub parsed_lists : ParsedLists → List ListTree
parsed_lists p = map list_of p.members
