use Rattle.std.proofs.Common.{◌≡◌, ◌+◌, true, false, [], map, drop, sym, ap, ◌∙◌, rules}
use Rattle.std.proofs.lemmas.List.{drop_all}
use Rattle.lg_tree.specs.View.{tree_of, trees, item_of, item_trees, shape_of, list_of, list_trees}
use Rattle.lg_session.specs.Built.{is_built_shape, are_built_trees, are_built_items, is_built_list, are_built_lists}
use Rattle.lg_session.proofs.BuiltLemmas.{trees_more, trees_stop, items_more, items_stop, lists_more, lists_stop}
use Rattle.lg_session.proofs.ShapeLemmas.{rest_at}
use Rattle.lg_session.proofs.TreeLemmas.{shape-Tuple, tree-List}
use Rattle.lg_session.proofs.built.+forms.Goals as goal

pub is_built_list-returns-then-not-is_built_list : goal.is_built_list-returns-then-not-is_built_list
is_built_list-returns-then-not-is_built_list t c =
    let items = c.as_slice-list-items.result.now in
    let i = c.loop-list.list-index in
    let x = list_of c.list-item.result in
    let rest = map list_of (drop (i + 1) items) in
    let test : c.is_built_list.result ≡ false = search rules in
    sym (lists_stop x (list_trees rest) (sym c.is_built_list.ensures ∙ test))
    ∙ ap (λ ls. are_built_lists (list_trees ls)) (sym (rest_at list_of items i c.list-item.result c.loop-list-test.true c.list-item.is))
    ∙ c.loop-list.invariant ∙ ap (λ ls. are_built_lists (list_trees (map list_of ls))) c.as_slice-list-items.ensures
    ∙ ap is_built_list (sym (ap list_of c.in-List.is ∙ tree-List c.in-List.lists))

pub is_built_list-loop-list-preserved : goal.is_built_list-loop-list-preserved
is_built_list-loop-list-preserved t c =
    let items = c.as_slice-list-items.result.now in
    let i = c.loop-list.list-index in
    let x = list_of c.list-item.result in
    let rest = map list_of (drop (i + 1) items) in
    let test : c.is_built_list.result ≡ true = search rules in
    sym (lists_more x (list_trees rest) (sym c.is_built_list.ensures ∙ test))
    ∙ ap (λ ls. are_built_lists (list_trees ls)) (sym (rest_at list_of items i c.list-item.result c.loop-list-test.true c.list-item.is))
    ∙ c.loop-list.invariant

pub is_built_list-returns-after-loop-list : goal.is_built_list-returns-after-loop-list
is_built_list-returns-after-loop-list t c =
    let items = c.as_slice-list-items.result.now in
    let i = c.loop-list.list-index in
    let past : drop i items ≡ [] = drop_all i items c.loop-list-test.false in
    ap (λ ls. are_built_lists (list_trees (map list_of ls))) (sym past)
    ∙ c.loop-list.invariant ∙ ap (λ ls. are_built_lists (list_trees (map list_of ls))) c.as_slice-list-items.ensures
    ∙ ap is_built_list (sym (ap list_of c.in-List.is ∙ tree-List c.in-List.lists))

pub is_built_shape-returns-then-not-is_built_expr : goal.is_built_shape-returns-then-not-is_built_expr
is_built_shape-returns-then-not-is_built_expr t c =
    let items = c.as_slice-extent-items.result.now in
    let i = c.loop-extent.extent-index in
    let x = tree_of c.extent-item.result in
    let rest = map tree_of (drop (i + 1) items) in
    let test : c.is_built_expr-in-loop-extent.result ≡ false = search rules in
    sym (trees_stop x (trees rest) (sym c.is_built_expr-in-loop-extent.ensures ∙ test))
    ∙ ap (λ ls. are_built_trees (trees ls)) (sym (rest_at tree_of items i c.extent-item.result c.loop-extent-test.true c.extent-item.is))
    ∙ c.loop-extent.invariant ∙ ap (λ ls. are_built_trees (trees (map tree_of ls))) c.as_slice-extent-items.ensures
    ∙ ap is_built_shape (sym (ap shape_of c.in-Tuple.is ∙ shape-Tuple c.in-Tuple.extents))

pub is_built_shape-loop-extent-preserved : goal.is_built_shape-loop-extent-preserved
is_built_shape-loop-extent-preserved t c =
    let items = c.as_slice-extent-items.result.now in
    let i = c.loop-extent.extent-index in
    let x = tree_of c.extent-item.result in
    let rest = map tree_of (drop (i + 1) items) in
    let test : c.is_built_expr-in-loop-extent.result ≡ true = search rules in
    sym (trees_more x (trees rest) (sym c.is_built_expr-in-loop-extent.ensures ∙ test))
    ∙ ap (λ ls. are_built_trees (trees ls)) (sym (rest_at tree_of items i c.extent-item.result c.loop-extent-test.true c.extent-item.is))
    ∙ c.loop-extent.invariant

pub is_built_shape-returns-after-loop-extent : goal.is_built_shape-returns-after-loop-extent
is_built_shape-returns-after-loop-extent t c =
    let items = c.as_slice-extent-items.result.now in
    let i = c.loop-extent.extent-index in
    let past : drop i items ≡ [] = drop_all i items c.loop-extent-test.false in
    ap (λ ls. are_built_trees (trees (map tree_of ls))) (sym past)
    ∙ c.loop-extent.invariant ∙ ap (λ ls. are_built_trees (trees (map tree_of ls))) c.as_slice-extent-items.ensures
    ∙ ap is_built_shape (sym (ap shape_of c.in-Tuple.is ∙ shape-Tuple c.in-Tuple.extents))

pub are_built_items-returns-then-not-is_built_item : goal.are_built_items-returns-then-not-is_built_item
are_built_items-returns-then-not-is_built_item t c =
    let items = c.args.items.now in
    let i = c.loop-item.item-index in
    let x = item_of c.item-item.result in
    let rest = map item_of (drop (i + 1) items) in
    let test : c.is_built_item.result ≡ false = search rules in
    sym (items_stop x (item_trees rest) (sym c.is_built_item.ensures ∙ test))
    ∙ ap (λ ls. are_built_items (item_trees ls)) (sym (rest_at item_of items i c.item-item.result c.loop-item-test.true c.item-item.is))
    ∙ c.loop-item.invariant

pub are_built_items-loop-item-preserved : goal.are_built_items-loop-item-preserved
are_built_items-loop-item-preserved t c =
    let items = c.args.items.now in
    let i = c.loop-item.item-index in
    let x = item_of c.item-item.result in
    let rest = map item_of (drop (i + 1) items) in
    let test : c.is_built_item.result ≡ true = search rules in
    sym (items_more x (item_trees rest) (sym c.is_built_item.ensures ∙ test))
    ∙ ap (λ ls. are_built_items (item_trees ls)) (sym (rest_at item_of items i c.item-item.result c.loop-item-test.true c.item-item.is))
    ∙ c.loop-item.invariant

pub are_built_items-returns : goal.are_built_items-returns
are_built_items-returns t c =
    let items = c.args.items.now in
    let i = c.loop-item.item-index in
    let past : drop i items ≡ [] = drop_all i items c.loop-item-test.false in
    ap (λ ls. are_built_items (item_trees (map item_of ls))) (sym past)
    ∙ c.loop-item.invariant
