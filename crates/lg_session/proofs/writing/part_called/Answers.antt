use Rattle.std.proofs.Common.{◌≡◌, List, map, Option, Some, option_map, Vec, sym, ap, subst, ◌∙◌}
use Rattle.std.specs.declared.alloc.Global.{Global}
use Rattle.std.specs.FinMap.{get}
use Rattle.lg_shape.specs.declared.index.IndexItem.{IndexItem}
use Rattle.lg_tree.specs.View.{item_of, item_trees}
use Rattle.lg_session.specs.Parts.{AreItemsRead}
use Rattle.lg_session.specs.Roots.{contents}
use Rattle.lg_session.proofs.IndexLemmas.{fault_none, held_of}
use Rattle.lg_session.proofs.Targets.{part_target}
use Rattle.lg_session.proofs.writing.part_called.Goals as goal

pub returns-clause-held : goal.returns-clause-held
returns-clause-held c =
    let e = c.in_ok-index_view.ensures in
    held_of (contents c.args.session.now.roots) c.in_ok-view.view c.in_ok-index_view.field-0 e.root e.held c.in_ok-view.ensures.held

pub returns-clause-target : goal.returns-clause-target
returns-clause-target c = λ state stands.
    let is = item_trees (map item_of c.args.items.now) in
    let items = c.deref.result.now in
    let e = c.in_ok-index_view.ensures in
    let found : option_map (λ (v : Vec IndexItem Global). v.items) c.in_ok-items.field-0 ≡ Some items =
    ap (option_map (λ (v : Vec IndexItem Global). v.items)) c.in-Some.is ∙ ap Some (sym c.deref.ensures.value) in
    let read = subst (λ (o : Option (List IndexItem)). AreItemsRead is state o) found (c.in_ok-items.ensures state stands) in
    part_target (get state.names c.args.word.now) is state c.args.session.now c.in_ok-view.view (c.in_ok-view.ensures.target state stands) items read c.in_ok-index_view.field-0
    (fault_none _ e.fault) e.root e.dtype e.layout e.right
