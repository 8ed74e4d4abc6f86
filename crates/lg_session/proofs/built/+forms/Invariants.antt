use Rattle.std.proofs.Common.{◌≡◌, drop, map}
use Rattle.lg_tree.specs.View.{tree_of, trees, item_of, item_trees, list_of, list_trees}
use Rattle.lg_session.specs.Built.{are_built_trees, are_built_items, are_built_lists}
use Rattle.lg_session.proofs.built.+forms.Given as goal

abbrev pub invariant-is_built_shape-loop-extent : goal.invariant-is_built_shape-loop-extent
invariant-is_built_shape-loop-extent l = are_built_trees (trees (map tree_of (drop l.extent-index l.extent-items))) ≡ are_built_trees (trees (map tree_of l.extent-items))

abbrev pub invariant-is_built_list-loop-list : goal.invariant-is_built_list-loop-list
invariant-is_built_list-loop-list l =
    are_built_lists (list_trees (map list_of (drop l.list-index l.list-items))) ≡ are_built_lists (list_trees (map list_of l.list-items))

abbrev pub invariant-are_built_items-loop-item : goal.invariant-are_built_items-loop-item
invariant-are_built_items-loop-item l =
    are_built_items (item_trees (map item_of (drop l.item-index l.items))) ≡ are_built_items (item_trees (map item_of l.items))
