use Rattle.std.proofs.Common.{◌≡◌, ℕ, ◌+◌, List, [], ◌∷◌, ◌++◌, Option, Some, Vec, Ok, Err, rules, map, drop, length, option_map, ap, sym, subst, ◌∙◌, true, false}
use Rattle.std.specs.declared.alloc.Global.{Global}
use Rattle.lg_tree.specs.Tree.{arith, compare, full, zeros, ones, arange, array, minimum, maximum, choose, transpose, broadcast_to}
use Rattle.lg_tree.specs.View.{tree_of, trees, list_of, shape_of, maybe_tree, maybe_shape, list_trees}
use Rattle.lg_tree.specs.Tree.{tuple, ListTree, list}
use Rattle.lg_session.proofs.FormLemmas.{arith_outcome, compare_outcome, minimum_outcome, maximum_outcome, choose_outcome, full_outcome, zeros_outcome, ones_outcome, arange_outcome, array_outcome, arange_end}
use Rattle.lg_session.proofs.Repeatings.{broadcast_outcome}
use Rattle.lg_session.proofs.ListLemmas.{shape_full, Carries, carries_more, carries_end, gather_ends, leaf_gathered, count_more, count_end}
use Rattle.lg_session.proofs.ShapeLemmas.{rest_at}
use Rattle.std.proofs.lemmas.Result.{err_from_is_err_and}
use Rattle.std.proofs.lemmas.List.{drop_all, map-append}
use Rattle.lg_tree.specs.declared.trees.Expr.{the_lemmas}
use Rattle.lg_meaning.specs.Expressions.{shape_static, trees_static}
use Rattle.lg_session.specs.Values.{value_static}
use Rattle.lg_session.specs.declared.value.Value.{Value}
use Rattle.lg_session.proofs.ExtentLemmas.{behind, behind_nothing, behind_all, tree_more, extents_stop}
use Rattle.lg_session.specs.Built.{is_built_shape, are_built_trees, are_built_lists}
use Rattle.lg_session.specs.Lists.{leaves, all_leaves, Gathers}
use Rattle.lg_session.proofs.BuiltLemmas.{tree_built_at, trees_built, lists_built}
use Rattle.lg_session.proofs.TreeLemmas.{shape-Tuple, tree-Arith, tree-Compare, tree-Minimum, tree-Maximum, tree-Where, tree-Full, tree-Zeros, tree-Ones, tree-Arange, tree-Array, tree-Transpose, tree-Leaf, tree-List, means_of, outcome_of, outcome_at, tree-Index, item-At, item-Slice, tree-BroadcastTo}
use Rattle.lg_session.specs.Parts.{axes_static, item_list, IsRead, IsItemRead, IsItem, AreItemsRead, AreItems}
use Rattle.lg_session.proofs.Turnings.{transpose_outcome}
use Rattle.lg_shape.specs.declared.index.IndexItem.{IndexItem}
use Rattle.lg_tree.specs.Tree.{index, ItemTree}
use Rattle.lg_tree.specs.View.{item_of, item_trees}
use Rattle.lg_tree.specs.declared.trees.Expr.{Expr}
use Rattle.lg_tree.specs.declared.trees.Item.{Item}
use Rattle.lg_session.specs.Built.{are_built_items}
use Rattle.lg_session.proofs.BuiltLemmas.{item_built_at, items_built}
use Rattle.lg_session.proofs.PartLemmas.{part_read, at_read, slice_read, step_stop, read_so_far, Finds, finds_nothing, finds_more, finds_all, items_end}
use Rattle.lg_session.proofs.Viewings.{index_outcome}
use Rattle.lg_session.proofs.evaluation.+walk.Goals as goal

pub operators::evaluate_operator-returns-in_ok-b-in-Arith-clause-outcome : goal.operators::evaluate_operator-returns-in_ok-b-in-Arith-clause-outcome
operators::evaluate_operator-returns-in_ok-b-in-Arith-clause-outcome t c = λ state stands.
    let session = c.args.session.now in
    let a = c.in-Arith.a in
    let b = c.in-Arith.b in
    outcome_of state session (tree_of c.args.value.now) (arith c.in-Arith.op (tree_of a) (tree_of b)) c.arithmetic-result.result (ap tree_of c.in-Arith.is ∙ tree-Arith c.in-Arith.op a b)
    (arith_outcome state session c.arithmetic-result.result (tree_of a) (tree_of b) c.in_ok-a-in-Arith.a c.in_ok-b-in-Arith.b
    (means_of state session _ a _ c.get.ensures (c.in_ok-a-in-Arith.ensures.outcome state stands))
    (means_of state session _ b _ c.get-in-Arith.ensures (c.in_ok-b-in-Arith.ensures.outcome state stands)) c.in-Arith.op c.arithmetic-result.ensures.computed)

pub operators::evaluate_operator-returns-in_ok-b-in-Compare-clause-outcome : goal.operators::evaluate_operator-returns-in_ok-b-in-Compare-clause-outcome
operators::evaluate_operator-returns-in_ok-b-in-Compare-clause-outcome t c = λ state stands.
    let session = c.args.session.now in
    let a = c.in-Compare.a in
    let b = c.in-Compare.b in
    outcome_of state session (tree_of c.args.value.now) (compare c.in-Compare.op (tree_of a) (tree_of b)) c.comparison-result.result (ap tree_of c.in-Compare.is ∙ tree-Compare c.in-Compare.op a b)
    (compare_outcome state session c.comparison-result.result (tree_of a) (tree_of b) c.in_ok-a-in-Compare.a c.in_ok-b-in-Compare.b
    (means_of state session _ a _ c.get-in-Compare.ensures (c.in_ok-a-in-Compare.ensures.outcome state stands))
    (means_of state session _ b _ c.get-in-Compare-2.ensures (c.in_ok-b-in-Compare.ensures.outcome state stands)) c.in-Compare.op c.comparison-result.ensures.computed)

pub operators::evaluate_operation-returns-in_ok-b-in-Minimum-clause-outcome : goal.operators::evaluate_operation-returns-in_ok-b-in-Minimum-clause-outcome
operators::evaluate_operation-returns-in_ok-b-in-Minimum-clause-outcome t c = λ state stands.
    let session = c.args.session.now in
    let a = c.in-Minimum.a in
    let b = c.in-Minimum.b in
    outcome_of state session (tree_of c.args.value.now) (minimum (tree_of a) (tree_of b)) c.two_operands-result.result (ap tree_of c.in-Minimum.is ∙ tree-Minimum a b)
    (minimum_outcome state session c.two_operands-result.result (tree_of a) (tree_of b) c.in_ok-a-in-Minimum.a c.in_ok-b-in-Minimum.b
    (means_of state session _ a _ c.get-in-Minimum.ensures (c.in_ok-a-in-Minimum.ensures.outcome state stands))
    (means_of state session _ b _ c.get-in-Minimum-2.ensures (c.in_ok-b-in-Minimum.ensures.outcome state stands)) c.two_operands-result.ensures.computed)

pub operators::evaluate_operation-returns-in_ok-b-in-Maximum-clause-outcome : goal.operators::evaluate_operation-returns-in_ok-b-in-Maximum-clause-outcome
operators::evaluate_operation-returns-in_ok-b-in-Maximum-clause-outcome t c = λ state stands.
    let session = c.args.session.now in
    let a = c.in-Maximum.a in
    let b = c.in-Maximum.b in
    outcome_of state session (tree_of c.args.value.now) (maximum (tree_of a) (tree_of b)) c.two_operands-result-in-Maximum.result (ap tree_of c.in-Maximum.is ∙ tree-Maximum a b)
    (maximum_outcome state session c.two_operands-result-in-Maximum.result (tree_of a) (tree_of b) c.in_ok-a-in-Maximum.a c.in_ok-b-in-Maximum.b
    (means_of state session _ a _ c.get-in-Maximum.ensures (c.in_ok-a-in-Maximum.ensures.outcome state stands))
    (means_of state session _ b _ c.get-in-Maximum-2.ensures (c.in_ok-b-in-Maximum.ensures.outcome state stands)) c.two_operands-result-in-Maximum.ensures.computed)

pub operators::evaluate_operation-returns-in_ok-b-in-Where-clause-outcome : goal.operators::evaluate_operation-returns-in_ok-b-in-Where-clause-outcome
operators::evaluate_operation-returns-in_ok-b-in-Where-clause-outcome t c = λ state stands.
    let session = c.args.session.now in
    let k = c.in-Where.condition in
    let a = c.in-Where.a in
    let b = c.in-Where.b in
    outcome_of state session (tree_of c.args.value.now) (choose (tree_of k) (tree_of a) (tree_of b)) c.choice-result.result (ap tree_of c.in-Where.is ∙ tree-Where k a b)
    (choose_outcome state session c.choice-result.result (tree_of a) (tree_of b) c.in_ok-a-in-Where.a c.in_ok-b-in-Where.b
    (means_of state session _ a _ c.get-in-Where-2.ensures (c.in_ok-a-in-Where.ensures.outcome state stands))
    (means_of state session _ b _ c.get-in-Where-3.ensures (c.in_ok-b-in-Where.ensures.outcome state stands)) (tree_of k) c.in_ok-condition-in-Where.condition
    (means_of state session _ k _ c.get-in-Where.ensures (c.in_ok-condition-in-Where.ensures.outcome state stands)) c.choice-result.ensures.computed)

pub creation::evaluate_creation-returns-in_ok-x-in-Full-clause-outcome : goal.creation::evaluate_creation-returns-in_ok-x-in-Full-clause-outcome
creation::evaluate_creation-returns-in_ok-x-in-Full-clause-outcome t c = λ state stands.
    let session = c.args.session.now in
    let x = c.in-Full.x in
    outcome_of state session (tree_of c.args.value.now) (full (shape_of c.in-Full.shape) (tree_of x) c.in-Full.dtype) c.full_array.result (ap tree_of c.in-Full.is ∙ tree-Full c.in-Full.shape x c.in-Full.dtype)
    (full_outcome state session c.full_array.result (shape_of c.in-Full.shape) c.deref.result.now (c.in_ok-extents-in-Full.ensures state stands ∙ ap (λ vs. Ok (map value_static vs)) (sym c.deref.ensures.value)) c.in-Full.dtype
    (tree_of x) c.in_ok-x-in-Full.x (means_of state session _ x _ c.get.ensures (c.in_ok-x-in-Full.ensures.outcome state stands)) c.full_array.ensures.computed)

pub creation::evaluate_creation-returns-in_ok-extents-in-Zeros-clause-outcome : goal.creation::evaluate_creation-returns-in_ok-extents-in-Zeros-clause-outcome
creation::evaluate_creation-returns-in_ok-extents-in-Zeros-clause-outcome t c = λ state stands.
    let session = c.args.session.now in
    outcome_of state session (tree_of c.args.value.now) (zeros (shape_of c.in-Zeros.shape) c.in-Zeros.dtype) c.array_of_zeros.result (ap tree_of c.in-Zeros.is ∙ tree-Zeros c.in-Zeros.shape c.in-Zeros.dtype)
    (zeros_outcome state session c.array_of_zeros.result (shape_of c.in-Zeros.shape) c.deref-in-Zeros.result.now (c.in_ok-extents-in-Zeros.ensures state stands ∙ ap (λ vs. Ok (map value_static vs)) (sym c.deref-in-Zeros.ensures.value)) c.in-Zeros.dtype c.array_of_zeros.ensures.computed)

pub creation::evaluate_creation-returns-in_ok-extents-in-Ones-clause-outcome : goal.creation::evaluate_creation-returns-in_ok-extents-in-Ones-clause-outcome
creation::evaluate_creation-returns-in_ok-extents-in-Ones-clause-outcome t c = λ state stands.
    let session = c.args.session.now in
    outcome_of state session (tree_of c.args.value.now) (ones (shape_of c.in-Ones.shape) c.in-Ones.dtype) c.array_of_ones.result (ap tree_of c.in-Ones.is ∙ tree-Ones c.in-Ones.shape c.in-Ones.dtype)
    (ones_outcome state session c.array_of_ones.result (shape_of c.in-Ones.shape) c.deref-in-Ones.result.now (c.in_ok-extents-in-Ones.ensures state stands ∙ ap (λ vs. Ok (map value_static vs)) (sym c.deref-in-Ones.ensures.value)) c.in-Ones.dtype c.array_of_ones.ensures.computed)

pub creation::evaluate_creation-returns-in_ok-to-in-Arange-clause-outcome : goal.creation::evaluate_creation-returns-in_ok-to-in-Arange-clause-outcome
creation::evaluate_creation-returns-in_ok-to-in-Arange-clause-outcome t c = λ state stands.
    let session = c.args.session.now in
    let from = maybe_tree (option_map tree_of c.in-Arange.from) in
    let to = c.in-Arange.to in
    outcome_of state session (tree_of c.args.value.now) (arange from (tree_of to) c.in-Arange.dtype) c.counted_array.result (ap tree_of c.in-Arange.is ∙ tree-Arange c.in-Arange.from to c.in-Arange.dtype)
    (arange_outcome state session c.counted_array.result from (tree_of to) c.in_ok-from-in-Arange.from c.in_ok-to-in-Arange.to c.in-Arange.dtype (c.in_ok-from-in-Arange.ensures.outcome state stands)
    (means_of state session _ to _ c.get-in-Arange.ensures (c.in_ok-to-in-Arange.ensures.outcome state stands)) c.counted_array.ensures.computed)

pub creation::evaluate_creation-returns-in_err-to-in-Arange-clause-outcome : goal.creation::evaluate_creation-returns-in_err-to-in-Arange-clause-outcome
creation::evaluate_creation-returns-in_err-to-in-Arange-clause-outcome t c = λ state stands.
    let session = c.args.session.now in
    let from = maybe_tree (option_map tree_of c.in-Arange.from) in
    let to = c.in-Arange.to in
    let p = err_from_is_err_and c.from_residual-in_err-to-in-Arange.result c.from_residual-in_err-to-in-Arange.ensures.1 in
    rw (p.1, p.2)
    (outcome_of state session (tree_of c.args.value.now) (arange from (tree_of to) c.in-Arange.dtype) (Err c.in_err-to-in-Arange.field-0.0) (ap tree_of c.in-Arange.is ∙ tree-Arange c.in-Arange.from to c.in-Arange.dtype)
    (arange_end state session c.in_err-to-in-Arange.field-0.0 from (tree_of to) c.in_ok-from-in-Arange.from c.in-Arange.dtype (c.in_ok-from-in-Arange.ensures.outcome state stands)
    (outcome_at state session _ to (Err c.in_err-to-in-Arange.field-0.0) c.get-in-Arange.ensures (c.in_err-to-in-Arange.ensures.outcome state stands))))

pub creation::evaluate_creation-listed_array-requires : goal.creation::evaluate_creation-listed_array-requires
creation::evaluate_creation-listed_array-requires t c =
    shape_full (λ (v : Vec ℕ Global). v.items) (list_of c.in-Array.list) (length c.gather.new.members.weaks.items) (length c.new-members.result.weaks.items) c.in_ok-shape-in-Array.shape
    c.in_ok-shape-in-Array.ensures c.in_ok-gather-in-Array.ensures.count c.new-members.ensures.count

pub creation::evaluate_creation-returns-in_ok-shape-in-Array-clause-outcome : goal.creation::evaluate_creation-returns-in_ok-shape-in-Array-clause-outcome
creation::evaluate_creation-returns-in_ok-shape-in-Array-clause-outcome t c = λ state stands.
    let session = c.args.session.now in
    let l = list_of c.in-Array.list in
    outcome_of state session (tree_of c.args.value.now) (array l c.in-Array.dtype) c.listed_array.result (ap tree_of c.in-Array.is ∙ tree-Array c.in-Array.list c.in-Array.dtype)
    (array_outcome state session c.listed_array.result l c.in-Array.dtype c.new-members.result c.gather.new.members (option_map (λ (v : Vec ℕ Global). v.items) c.in_ok-shape-in-Array.shape)
    c.new-members.ensures.nothing (c.in_ok-gather-in-Array.ensures.gathered state stands) c.in_ok-shape-in-Array.ensures c.listed_array.ensures.computed)

pub creation::gather-loop-list-preserved : goal.creation::gather-loop-list-preserved
creation::gather-loop-list-preserved t c =
    let lists = c.as_slice-list-items.result.now in
    let i = c.loop-list.list-index in
    let x = list_of c.list-item.result in
    let rest = map list_of (drop (i + 1) lists) in
    let next : map list_of (drop i lists) ≡ x ∷ rest = rest_at list_of lists i c.list-item.result c.loop-list-test.true c.list-item.is in
    record {
      count = count_more x rest _ (length c.loop-list.members.weaks.items) _
          (ap (λ ls. length c.loop-list.members.weaks.items + all_leaves (list_trees ls)) (sym next) ∙ c.loop-list.invariant.count) c.in_ok-gather-in-List.ensures.count;
      carried = λ state stands. carries_more (map list_of lists) rest x state c.args.members.now c.loop-list.members c.gather.new.members
          (subst (λ ls. Carries (map list_of lists) ls state c.args.members.now c.loop-list.members) next (c.loop-list.invariant.carried state stands))
          (c.in_ok-gather-in-List.ensures.gathered state stands);
      built = (lists_built x (list_trees rest) (subst (λ ls. are_built_lists (list_trees ls) ≡ true) next c.loop-list.invariant.built)).1;
    }

pub creation::gather-returns-in_err-gather-in-List-clause-gathered : goal.creation::gather-returns-in_err-gather-in-List-clause-gathered
creation::gather-returns-in_err-gather-in-List-clause-gathered t c = λ state stands.
    let lists = c.as_slice-list-items.result.now in
    let i = c.loop-list.list-index in
    let x = list_of c.list-item.result in
    let rest = map list_of (drop (i + 1) lists) in
    let next : map list_of (drop i lists) ≡ x ∷ rest = rest_at list_of lists i c.list-item.result c.loop-list-test.true c.list-item.is in
    let seen : list_of c.args.list.now ≡ list (list_trees (map list_of lists)) =
    ap list_of c.in-List.is ∙ tree-List c.in-List.lists ∙ ap (λ ls. list (list_trees (map list_of ls))) (sym c.as_slice-list-items.ensures) in
    let p = err_from_is_err_and c.from_residual-in_err-gather-in-List.result c.from_residual-in_err-gather-in-List.ensures.1 in
    rw (p.1, p.2) (gather_ends (list_of c.args.list.now) (map list_of lists) rest x state c.args.members.now c.loop-list.members c.gather.new.members c.in_err-gather-in-List.field-0.0 seen
    (subst (λ ls. Carries (map list_of lists) ls state c.args.members.now c.loop-list.members) next (c.loop-list.invariant.carried state stands))
    (c.in_err-gather-in-List.ensures.gathered state stands))

pub creation::gather-returns-in_ok-push-in-Leaf-clause-gathered : goal.creation::gather-returns-in_ok-push-in-Leaf-clause-gathered
creation::gather-returns-in_ok-push-in-Leaf-clause-gathered t c = λ state stands.
    let session = c.args.session.now in
    let e = c.in-Leaf.value in
    subst (λ (l : ListTree). Gathers l state c.args.members.now c.push.new.self) (sym (ap list_of c.in-Leaf.is ∙ tree-Leaf e))
    (leaf_gathered (tree_of e) state session c.in_ok-value-in-Leaf.value c.args.members.now c.push.new.self
    (means_of state session _ e _ c.get.ensures (c.in_ok-value-in-Leaf.ensures.outcome state stands)) c.in_ok-push-in-Leaf.ensures.more)

pub creation::gather-returns-after-loop-list-clause-count : goal.creation::gather-returns-after-loop-list-clause-count
creation::gather-returns-after-loop-list-clause-count t c =
    let items = c.as_slice-list-items.result.now in
    let i = c.loop-list.list-index in
    let none : map list_of (drop i items) ≡ [] = ap (map list_of) (drop_all i items c.loop-list-test.false) in
    let seen : list_of c.args.list.now ≡ list (list_trees (map list_of items)) =
    ap list_of c.in-List.is ∙ tree-List c.in-List.lists ∙ ap (λ ls. list (list_trees (map list_of ls))) (sym c.as_slice-list-items.ensures) in
    count_end (map list_of (drop i items)) (length c.loop-list.members.weaks.items) _ none c.loop-list.invariant.count
    ∙ ap (λ l. length c.args.members.now.weaks.items + leaves l) (sym seen)

pub creation::gather-returns-after-loop-list-clause-gathered : goal.creation::gather-returns-after-loop-list-clause-gathered
creation::gather-returns-after-loop-list-clause-gathered t c = λ state stands.
    let items = c.as_slice-list-items.result.now in
    let i = c.loop-list.list-index in
    let none : map list_of (drop i items) ≡ [] = ap (map list_of) (drop_all i items c.loop-list-test.false) in
    let seen : list_of c.args.list.now ≡ list (list_trees (map list_of items)) =
    ap list_of c.in-List.is ∙ tree-List c.in-List.lists ∙ ap (λ ls. list (list_trees (map list_of ls))) (sym c.as_slice-list-items.ensures) in
    subst (λ (l : ListTree). Gathers l state c.args.members.now c.loop-list.members) (sym seen)
    (carries_end (map list_of items) state c.args.members.now c.loop-list.members
    (subst (λ ls. Carries (map list_of items) ls state c.args.members.now c.loop-list.members) none (c.loop-list.invariant.carried state stands)))

pub parts::evaluate_extents-loop-part-init : goal.parts::evaluate_extents-loop-part-init
parts::evaluate_extents-loop-part-init t c =
    let items = c.as_slice-part-items.result.now in
    let seen : shape_of c.args.shape.now ≡ tuple (trees (map tree_of items)) =
    ap shape_of c.in-Tuple.is ∙ shape-Tuple c.in-Tuple.parts ∙ ap (λ ls. tuple (trees (map tree_of ls))) (sym c.as_slice-part-items.ensures) in
    record {
      found = λ state stands.
          let r = trees_static (trees (map tree_of items)) state.names in
          behind_nothing r ∙ ap (λ (vs : List Value). behind (map value_static vs) r) (sym c.new-extents.ensures.items);
      built = sym (ap is_built_shape seen) ∙ c.requires;
    }

pub parts::evaluate_extents-evaluate-requires-in-loop-part : goal.parts::evaluate_extents-evaluate-requires-in-loop-part
parts::evaluate_extents-evaluate-requires-in-loop-part t c =
    (search (rules, the_lemmas), tree_built_at c.as_slice-part-items.result.now c.loop-part.part-index c.part-item.result c.loop-part-test.true c.part-item.is c.loop-part.invariant.built)

pub parts::evaluate_extents-returns-in_err-extent-in-Tuple : goal.parts::evaluate_extents-returns-in_err-extent-in-Tuple
parts::evaluate_extents-returns-in_err-extent-in-Tuple t c = λ state stands.
    let items = c.as_slice-part-items.result.now in
    let i = c.loop-part.part-index in
    let x = c.part-item.result in
    let rest = map tree_of (drop (i + 1) items) in
    let xs = map value_static c.loop-part.extents.items in
    let next : map tree_of (drop i items) ≡ tree_of x ∷ rest = rest_at tree_of items i x c.loop-part-test.true c.part-item.is in
    let seen : shape_of c.args.shape.now ≡ tuple (trees (map tree_of items)) =
    ap shape_of c.in-Tuple.is ∙ shape-Tuple c.in-Tuple.parts ∙ ap (λ ls. tuple (trees (map tree_of ls))) (sym c.as_slice-part-items.ensures) in
    let p = err_from_is_err_and c.from_residual-in_err-extent-in-Tuple.result c.from_residual-in_err-extent-in-Tuple.ensures.1 in
    rw (p.1, p.2) (extents_stop (shape_of c.args.shape.now) (trees (map tree_of items)) xs (tree_of x) (trees rest) state c.args.session.now c.in_err-extent-in-Tuple.field-0.0 seen
    (c.loop-part.invariant.found state stands ∙ ap (λ ls. behind xs (trees_static (trees ls) state.names)) next)
    (c.in_err-extent-in-Tuple.ensures.outcome state stands))

pub parts::evaluate_extents-loop-part-preserved : goal.parts::evaluate_extents-loop-part-preserved
parts::evaluate_extents-loop-part-preserved t c =
    let items = c.as_slice-part-items.result.now in
    let i = c.loop-part.part-index in
    let x = c.part-item.result in
    let v = c.in_ok-extent-in-Tuple.extent in
    let rest = map tree_of (drop (i + 1) items) in
    let old = c.loop-part.extents.items in
    let next : map tree_of (drop i items) ≡ tree_of x ∷ rest = rest_at tree_of items i x c.loop-part-test.true c.part-item.is in
    record {
      found = λ state stands.
          c.loop-part.invariant.found state stands
          ∙ ap (λ ls. behind (map value_static old) (trees_static (trees ls) state.names)) next
          ∙ tree_more (map value_static old) (tree_of x) (trees rest) state.names (value_static v) (c.in_ok-extent-in-Tuple.ensures.outcome state stands).kind
          ∙ ap (λ l. behind l (trees_static (trees rest) state.names)) (sym (ap (map value_static) c.in_ok-push-in-Tuple.ensures.items ∙ map-append value_static old (v ∷ [])));
      built = (trees_built (tree_of x) (trees rest) (subst (λ ls. are_built_trees (trees ls) ≡ true) next c.loop-part.invariant.built)).1;
    }

pub parts::evaluate_extents-returns-after-loop-part : goal.parts::evaluate_extents-returns-after-loop-part
parts::evaluate_extents-returns-after-loop-part t c = λ state stands.
    let items = c.as_slice-part-items.result.now in
    let i = c.loop-part.part-index in
    let xs = map value_static c.loop-part.extents.items in
    let seen : shape_of c.args.shape.now ≡ tuple (trees (map tree_of items)) =
    ap shape_of c.in-Tuple.is ∙ shape-Tuple c.in-Tuple.parts ∙ ap (λ ls. tuple (trees (map tree_of ls))) (sym c.as_slice-part-items.ensures) in
    ap (λ s. shape_static s state.names) seen ∙ c.loop-part.invariant.found state stands
    ∙ ap (λ ls. behind xs (trees_static (trees (map tree_of ls)) state.names)) (drop_all i items c.loop-part-test.false) ∙ behind_all xs

pub views::evaluate_view-returns-in-Transpose-clause-outcome : goal.views::evaluate_view-returns-in-Transpose-clause-outcome
views::evaluate_view-returns-in-Transpose-clause-outcome t c = λ state stands.
    let session = c.args.session.now in
    let a = c.in-Transpose.a in
    let s = maybe_shape (option_map shape_of c.in-Transpose.axes) in
    outcome_of state session (tree_of c.args.value.now) (transpose (tree_of a) s) c.transposed.result (ap tree_of c.in-Transpose.is ∙ tree-Transpose a c.in-Transpose.axes)
    (transpose_outcome state session (tree_of a) s c.in_ok-a-in-Transpose.a (means_of state session _ a _ c.get-in-Transpose.ensures (c.in_ok-a-in-Transpose.ensures.outcome state stands))
    (axes_static c.in_ok-axes-in-Transpose.axes) (c.in_ok-axes-in-Transpose.ensures state stands) c.transposed.result c.transposed.ensures.viewed)

-- ---- the parts of an index

pub parts::evaluate_part-returns-in_ok-part-in-Some : goal.parts::evaluate_part-returns-in_ok-part-in-Some
parts::evaluate_part-returns-in_ok-part-in-Some t c = λ state stands.
    subst (λ (o : Option Expr). IsRead (maybe_tree (option_map tree_of o)) state c.given.result) (sym c.in-Some.is)
    (part_read (tree_of c.in-Some.part) state c.args.session.now c.in_ok-part-in-Some.part c.given.result (c.in_ok-part-in-Some.ensures.outcome state stands) c.given.ensures)

pub parts::evaluate_item-returns-in_ok-at-in-At : goal.parts::evaluate_item-returns-in_ok-at-in-At
parts::evaluate_item-returns-in_ok-at-in-At t c = λ state stands.
    subst (λ (i : ItemTree). IsItemRead i state c.place.result) (sym (ap item_of c.in-At.is ∙ item-At c.in-At.at))
    (at_read (tree_of c.in-At.at) state c.args.session.now c.in_ok-at-in-At.at c.place.result (c.in_ok-at-in-At.ensures.outcome state stands) c.place.ensures)

pub parts::evaluate_item-returns-in_err-step-in-Slice : goal.parts::evaluate_item-returns-in_err-step-in-Slice
parts::evaluate_item-returns-in_err-step-in-Slice t c = λ state stands.
    let start = c.in-Slice.start in
    let stop = c.in-Slice.stop in
    let step = c.in-Slice.step in
    let p = err_from_is_err_and c.from_residual-in_err-step-in-Slice.result c.from_residual-in_err-step-in-Slice.ensures.1 in
    rw (p.1, p.2)
    (subst (λ (i : ItemTree). IsItem i state (Err c.in_err-step-in-Slice.field-0.0)) (sym (ap item_of c.in-Slice.is ∙ item-Slice start stop step))
    (step_stop (maybe_tree (option_map tree_of start)) (maybe_tree (option_map tree_of stop)) (maybe_tree (option_map tree_of step)) state
    c.in_ok-start-in-Slice.start c.in_ok-stop-in-Slice.stop c.in_err-step-in-Slice.field-0.0
    (c.in_ok-start-in-Slice.ensures state stands) (c.in_ok-stop-in-Slice.ensures state stands) (c.in_err-step-in-Slice.ensures state stands)))

pub parts::evaluate_item-returns-in_ok-step-in-Slice : goal.parts::evaluate_item-returns-in_ok-step-in-Slice
parts::evaluate_item-returns-in_ok-step-in-Slice t c = λ state stands.
    let start = c.in-Slice.start in
    let stop = c.in-Slice.stop in
    let step = c.in-Slice.step in
    subst (λ (i : ItemTree). IsItemRead i state c.slice.result) (sym (ap item_of c.in-Slice.is ∙ item-Slice start stop step))
    (slice_read (maybe_tree (option_map tree_of start)) (maybe_tree (option_map tree_of stop)) (maybe_tree (option_map tree_of step)) state
    c.in_ok-start-in-Slice.start c.in_ok-stop-in-Slice.stop c.in_ok-step-in-Slice.step c.slice.result
    (c.in_ok-start-in-Slice.ensures state stands) (c.in_ok-stop-in-Slice.ensures state stands) (c.in_ok-step-in-Slice.ensures state stands) c.slice.ensures)

pub parts::evaluate_items-loop-item-init : goal.parts::evaluate_items-loop-item-init
parts::evaluate_items-loop-item-init t c =
    let all = map item_of c.args.items.now in
    record {
      found = λ state stands. subst (λ (ns : List IndexItem). Finds all all state ns true) (sym c.new-numbers.ensures.items) (finds_nothing all state);
      built = c.requires;
    }

pub parts::evaluate_items-evaluate_item-requires : goal.parts::evaluate_items-evaluate_item-requires
parts::evaluate_items-evaluate_item-requires t c =
    (search (rules, the_lemmas), item_built_at c.args.items.now c.loop-item.item-index c.item-item.result c.loop-item-test.true c.item-item.is c.loop-item.invariant.built)

pub parts::evaluate_items-returns-in_err-read : goal.parts::evaluate_items-returns-in_err-read
parts::evaluate_items-returns-in_err-read t c = λ state stands.
    let items = c.args.items.now in
    let i = c.loop-item.item-index in
    let x = c.item-item.result in
    let rest = map item_of (drop (i + 1) items) in
    let next : map item_of (drop i items) ≡ item_of x ∷ rest = rest_at item_of items i x c.loop-item-test.true c.item-item.is in
    let p = err_from_is_err_and c.from_residual.result c.from_residual.ensures.1 in
    rw (p.1, p.2) (items_end (map item_of items) rest (item_of x) state c.loop-item.numbers.items c.loop-item.typed
    (subst (λ ls. Finds (map item_of items) ls state c.loop-item.numbers.items c.loop-item.typed) next (c.loop-item.invariant.found state stands))
    c.in_err-read.field-0.0 (c.in_err-read.ensures state stands))

pub parts::evaluate_items-loop-item-preserved : goal.parts::evaluate_items-loop-item-preserved
parts::evaluate_items-loop-item-preserved t c =
    let items = c.args.items.now in
    let all = map item_of items in
    let i = c.loop-item.item-index in
    let x = c.item-item.result in
    let old = c.loop-item.numbers.items in
    let typed = c.loop-item.typed in
    let read = c.in_ok-read.read in
    let rest = map item_of (drop (i + 1) items) in
    let next : map item_of (drop i items) ≡ item_of x ∷ rest = rest_at item_of items i x c.loop-item-test.true c.item-item.is in
    record {
      found = λ state stands.
          subst (λ (ns : List IndexItem). Finds all rest state ns c.push_item.new.typed) (sym c.in_ok-push_item.ensures.numbers)
          (subst (λ b. Finds all rest state (old ++ item_list read) b) (sym c.in_ok-push_item.ensures.typed)
          (finds_more all rest (item_of x) state old typed (subst (λ ls. Finds all ls state old typed) next (c.loop-item.invariant.found state stands))
          read (c.in_ok-read.ensures state stands)));
      built = (items_built (item_of x) (item_trees rest) (subst (λ ls. are_built_items (item_trees ls) ≡ true) next c.loop-item.invariant.built)).1;
    }

pub parts::evaluate_items-returns-then-not-typed : goal.parts::evaluate_items-returns-then-not-typed
parts::evaluate_items-returns-then-not-typed t c = λ state stands.
    let items = c.args.items.now in
    let all = map item_of items in
    let numbers = c.loop-item.numbers.items in
    let none : map item_of (drop c.loop-item.item-index items) ≡ [] = ap (map item_of) (drop_all c.loop-item.item-index items c.loop-item-test.false) in
    let test : c.loop-item.typed ≡ false = search rules in
    subst (λ b. AreItemsRead (item_trees all) state (read_so_far b numbers)) test
    (finds_all all state numbers c.loop-item.typed (subst (λ ls. Finds all ls state numbers c.loop-item.typed) none (c.loop-item.invariant.found state stands)))

pub parts::evaluate_items-returns : goal.parts::evaluate_items-returns
parts::evaluate_items-returns t c = λ state stands.
    let items = c.args.items.now in
    let all = map item_of items in
    let numbers = c.loop-item.numbers.items in
    let none : map item_of (drop c.loop-item.item-index items) ≡ [] = ap (map item_of) (drop_all c.loop-item.item-index items c.loop-item-test.false) in
    let test : c.loop-item.typed ≡ true = search rules in
    subst (λ b. AreItemsRead (item_trees all) state (read_so_far b numbers)) test
    (finds_all all state numbers c.loop-item.typed (subst (λ ls. Finds all ls state numbers c.loop-item.typed) none (c.loop-item.invariant.found state stands)))

-- ---- views

pub views::evaluate_view-returns-in-Some-clause-outcome : goal.views::evaluate_view-returns-in-Some-clause-outcome
views::evaluate_view-returns-in-Some-clause-outcome t c = λ state stands.
    let session = c.args.session.now in
    let a = c.in-Index.a in
    let all = item_trees (map item_of c.in-Index.items) in
    let items = c.deref.result.now in
    let found : AreItems all state (Ok (Some c.in-Some.items)) =
    subst (λ (o : Option (Vec IndexItem Global)). AreItems all state (Ok o)) c.in-Some.is
    (subst (λ (is : List Item). AreItems (item_trees (map item_of is)) state (Ok c.in_ok-read-in-Index.read)) c.as_slice.ensures (c.in_ok-read-in-Index.ensures state stands)) in
    let read : AreItemsRead all state (Some items) = subst (λ (is : List IndexItem). AreItemsRead all state (Some is)) (sym c.deref.ensures.value) found in
    outcome_of state session (tree_of c.args.value.now) (index (tree_of a) all) c.indexed.result (ap tree_of c.in-Index.is ∙ tree-Index a c.in-Index.items)
    (index_outcome state session (tree_of a) c.in_ok-a-in-Index.a all (means_of state session _ a _ c.get.ensures (c.in_ok-a-in-Index.ensures.outcome state stands))
    c.indexed.result items read c.indexed.ensures.viewed)

pub views::evaluate_view-returns-in-BroadcastTo-clause-outcome : goal.views::evaluate_view-returns-in-BroadcastTo-clause-outcome
views::evaluate_view-returns-in-BroadcastTo-clause-outcome t c = λ state stands.
    let session = c.args.session.now in
    let a = c.in-BroadcastTo.a in
    let shape = shape_of c.in-BroadcastTo.shape in
    outcome_of state session (tree_of c.args.value.now) (broadcast_to (tree_of a) shape) c.broadcast.result (ap tree_of c.in-BroadcastTo.is ∙ tree-BroadcastTo a c.in-BroadcastTo.shape)
    (broadcast_outcome state session c.broadcast.result (tree_of a) shape c.in_ok-a-in-BroadcastTo.a c.deref-in-BroadcastTo.result.now
    (means_of state session _ a _ c.get-in-BroadcastTo.ensures (c.in_ok-a-in-BroadcastTo.ensures.outcome state stands))
    (c.in_ok-extents-in-BroadcastTo.ensures state stands ∙ ap (λ vs. Ok (map value_static vs)) (sym c.deref-in-BroadcastTo.ensures.value)) c.broadcast.ensures.viewed)
