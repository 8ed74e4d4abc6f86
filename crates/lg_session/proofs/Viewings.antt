-- The value of each view form from the values of its parts.
use Rattle.std.proofs.Common.{◌≡◌, List, [], None, Some, Result, Err, ap, ◌∙◌, option_and_then}
use Rattle.lg_shape.specs.declared.index.IndexItem.{IndexItem}
use Rattle.lg_tree.specs.Tree.{Tree, index, ItemTrees}
use Rattle.lg_meaning.specs.declared.fault.FaultKind.TheVariants.{TypeKind}
use Rattle.lg_meaning.specs.Faults.{from_part, from_both, known_or}
use Rattle.lg_meaning.specs.Memory.{State}
use Rattle.lg_meaning.specs.Indices.{index_items, index_form, index_static, is_element}
use Rattle.lg_meaning.specs.Expressions.{static_of, items_static, evaluated, written_items}
use Rattle.lg_meaning.specs.Sharing.{shared_view, indexed_view}
use Rattle.lg_meaning.specs.Value.{valued}
use Rattle.lg_meaning.specs.Views.{picked}
use Rattle.lg_session.specs.Parts.{AreItemsRead, AreItems}
use Rattle.lg_session.specs.Roots.{contents}
use Rattle.lg_session.specs.Values.{value_static, Means, IsOutcome}
use Rattle.lg_session.specs.Viewed.{IsViewed}
use Rattle.lg_operations.specs.declared.end.EvaluateEnd.{EvaluateEnd}
use Rattle.lg_operations.specs.declared.end.EvaluateEnd.TheVariants.{Fault, NoMemory}
use Rattle.lg_session.specs.declared.session.Session.{Session}
use Rattle.lg_session.specs.declared.value.Value.{Value}
use Rattle.lg_session.proofs.IndexLemmas.{index_rule, index_type, index_value_picks}
use Rattle.lg_session.proofs.ViewedLemmas.{viewed}

-- ---- `a[items]`

module _ (state : State) (session : Session) (a : Tree) (p : Value) (is : ItemTrees) (means : Means a state session p) where
  -- the fault of an item
  pub index_end : (end : EvaluateEnd) → AreItems is state (Err end) → IsOutcome (index a is) state session (Err end)
  index_end (Fault kind) h = ap (λ r. from_both r (items_static is state.names) index_static) means.kind ∙ ap (λ r. from_part r (index_static (value_static p))) h
  index_end NoMemory h = tt

  -- an expression in the items is no integer
  pub index_untyped : AreItemsRead is state None → static_of (index a is) state.names ≡ Err TypeKind
  index_untyped read =
      ap (λ r. from_both r (items_static is state.names) index_static) means.kind ∙ ap (λ r. from_part r (index_static (value_static p))) read.kind
      ∙ ap (λ r. from_part r (λ items. index_rule items (value_static p))) read.same

  pub index_outcome : (answer : Result Value EvaluateEnd) (items : List IndexItem) → AreItemsRead is state (Some items)
      → IsViewed (index_rule items (value_static p)) (λ kind. index_form items) (λ shape. is_element shape items) (contents session.roots) p answer
      → IsOutcome (index a is) state session answer
  index_outcome answer items read h =
      let written : written_items is state.names ≡ items = ap (λ r. known_or [] (from_part r index_items)) read.kind ∙ ap (known_or []) read.same in
      let kind : static_of (index a is) state.names ≡ index_rule items (value_static p) =
      ap (λ r. from_both r (items_static is state.names) index_static) means.kind ∙ ap (λ r. from_part r (index_static (value_static p))) read.kind
      ∙ ap (λ r. from_part r (λ found. index_rule found (value_static p))) read.same in
      viewed state session (index a is) a p means (index_rule items (value_static p)) (λ kind. index_form items) (λ shape. is_element shape items) kind
      (λ i. valued (kind i) (picked (index_form (written i)) (evaluated a state.memory state.names)))
      (λ i. option_and_then (indexed_view (kind i) (written i)) (shared_view a state.names))
      (index_value_picks (contents session.roots) p items) (index_type items (value_static p)) answer h
