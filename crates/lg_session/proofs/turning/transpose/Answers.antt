use Rattle.std.proofs.Common.{subst}
use Rattle.lg_session.specs.Roots.{contents}
use Rattle.lg_session.specs.Values.{IsUsable}
use Rattle.lg_session.proofs.IndexLemmas.{held_of}
use Rattle.lg_session.proofs.turning.transpose.Goals as goal

pub returns-in_ok-transpose_view-in-Shown-clause-usable : goal.returns-in_ok-transpose_view-in-Shown-clause-usable
returns-in_ok-transpose_view-in-Shown-clause-usable c =
    let roots = contents c.args.session.now.roots in
    let t = c.in_ok-transpose_view-in-Shown.ensures in
    held_of roots c.in-Shown.view c.in_ok-transpose_view-in-Shown.field-0 t.root t.held (subst (IsUsable roots) c.in-Shown.is c.requires)
