use Rattle.std.proofs.Common.{refl, ap, ◌∙◌}
use Rattle.lg_store.specs.declared.view.Right.TheVariants.{Scalar}
use Rattle.lg_session.specs.Roots.{contents, root_of}
use Rattle.lg_session.proofs.HeldLemmas.{root_rect, view_held}
use Rattle.lg_session.proofs.IndexLemmas.{held_of, fault_none, index_copied}
use Rattle.lg_session.proofs.views.copied_element.Goals as goal

pub gather-requires-clause-root : goal.gather-requires-clause-root
gather-requires-clause-root c =
    let A = contents c.args.session.now.roots in
    let e = c.in_ok-picked.ensures in
    root_rect A c.in_ok-picked.picked c.tile-tile.result.now (ap A e.root ∙ c.tile-tile.ensures.value)
    (held_of A c.args.view.now c.in_ok-picked.picked e.root e.held c.requires.held) c.tile-tile.ensures.whole

pub gather-requires-clause-small : goal.gather-requires-clause-small
gather-requires-clause-small c =
    let A = contents c.args.session.now.roots in
    let e = c.in_ok-picked.ensures in
    (view_held A c.in_ok-picked.picked (root_of c.tile-tile.result.now) (ap A e.root ∙ c.tile-tile.ensures.value)
    (held_of A c.args.view.now c.in_ok-picked.picked e.root e.held c.requires.held)).small

pub returns : goal.returns
returns c =
    let A = contents c.args.session.now.roots in
    let e = c.in_ok-picked.ensures in
    let gathered = c.in_ok-gather.ensures in
    index_copied A c.args.view.now c.in_ok-picked.picked c.args.items.now (fault_none _ e.fault) e.root e.dtype e.layout c.tile-tile.result.now c.in_ok-gather.field-0 Scalar
    c.requires.element refl (ap A e.root ∙ c.tile-tile.ensures.value) (held_of A c.args.view.now c.in_ok-picked.picked e.root e.held c.requires.held)
    gathered.dtype gathered.rect gathered.numbers
