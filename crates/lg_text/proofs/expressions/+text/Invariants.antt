use Rattle.std.proofs.Common.{◌≡◌, ◌++◌, drop}
use Rattle.lg_text.specs.Text.{trees_text, items_text, lists_text}
use Rattle.lg_tree.specs.View.{trees_of, items_of, lists_of}
use Rattle.lg_text.proofs.expressions.+text.Given as goal

abbrev pub invariant-write_shape-loop-e : goal.invariant-write_shape-loop-e
invariant-write_shape-loop-e l = l.out.items ++ trees_text (trees_of (drop l.e-index l.rest)) ≡ l.initial.out.items ++ trees_text (trees_of l.rest)

abbrev pub invariant-write_index-loop-item : goal.invariant-write_index-loop-item
invariant-write_index-loop-item l = l.out.items ++ items_text (items_of (drop l.item-index l.rest)) ≡ l.initial.out.items ++ items_text (items_of l.rest)

abbrev pub invariant-write_list-loop-member : goal.invariant-write_list-loop-member
invariant-write_list-loop-member l = l.out.items ++ lists_text (lists_of (drop l.member-index l.rest)) ≡ l.initial.out.items ++ lists_text (lists_of l.rest)
