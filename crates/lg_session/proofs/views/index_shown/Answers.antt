use Rattle.lg_session.specs.Roots.{contents}
use Rattle.lg_session.proofs.IndexLemmas.{held_of}
use Rattle.lg_session.proofs.views.index_shown.Goals as goal

pub returns-clause-usable : goal.returns-clause-usable
returns-clause-usable c =
    let e = c.in_ok-index_view.ensures in
    held_of (contents c.args.session.now.roots) c.args.view.now c.in_ok-index_view.field-0 e.root e.held c.requires.held
