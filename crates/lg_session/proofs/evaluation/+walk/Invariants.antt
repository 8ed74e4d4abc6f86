use Rattle.std.proofs.Common.{◌≡◌, ◌+◌, true, length, map, drop}
use Rattle.lg_tree.specs.View.{tree_of, trees, item_of, item_trees, list_of, list_trees}
use Rattle.lg_meaning.specs.Memory.{State}
use Rattle.lg_session.specs.Built.{are_built_trees, are_built_items, are_built_lists}
use Rattle.lg_session.specs.Lists.{all_leaves}
use Rattle.lg_session.specs.Standing.{StandsFor}
use Rattle.lg_meaning.specs.Expressions.{trees_static}
use Rattle.lg_session.specs.Values.{value_static}
use Rattle.lg_session.proofs.ExtentLemmas.{behind}
use Rattle.lg_session.proofs.ListLemmas.{Carries}
use Rattle.lg_session.proofs.PartLemmas.{Finds}
use Rattle.lg_session.proofs.evaluation.+walk.Given as goal

abbrev pub invariant-parts::evaluate_extents-loop-part : goal.invariant-parts::evaluate_extents-loop-part
invariant-parts::evaluate_extents-loop-part l = record {
  found : (state : State) → StandsFor l.session state → trees_static (trees (map tree_of l.part-items)) state.names
      ≡ behind (map value_static l.extents.items) (trees_static (trees (map tree_of (drop l.part-index l.part-items))) state.names);
  built : are_built_trees (trees (map tree_of (drop l.part-index l.part-items))) ≡ true;
}

abbrev pub invariant-creation::gather-loop-list : goal.invariant-creation::gather-loop-list
invariant-creation::gather-loop-list l = record {
  count : length l.members.weaks.items + all_leaves (list_trees (map list_of (drop l.list-index l.list-items)))
      ≡ length l.initial.members.weaks.items + all_leaves (list_trees (map list_of l.list-items));
  carried : (state : State) → StandsFor l.session state
      → Carries (map list_of l.list-items) (map list_of (drop l.list-index l.list-items)) state l.initial.members l.members;
  built : are_built_lists (list_trees (map list_of (drop l.list-index l.list-items))) ≡ true;
}

abbrev pub invariant-parts::evaluate_items-loop-item : goal.invariant-parts::evaluate_items-loop-item
invariant-parts::evaluate_items-loop-item l = record {
  found : (state : State) → StandsFor l.session state
      → Finds (map item_of l.items) (map item_of (drop l.item-index l.items)) state l.numbers.items l.typed;
  built : are_built_items (item_trees (map item_of (drop l.item-index l.items))) ≡ true;
}
