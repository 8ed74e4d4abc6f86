use Rattle.std.proofs.Common.{◌∙◌, sym}
use Rattle.lg_session.proofs.ReachLemmas.{reached_from_any, any_from_reached}
use Rattle.lg_session.proofs.names.Names.reaches.Goals as goal

pub returns : goal.returns
returns c =
    let names = c.args.self.now in
    let e = c.has_view_of.ensures in
    (λ y. reached_from_any names c.args.root e.ordered (sym e.value ∙ y), λ r. e.value ∙ any_from_reached names c.args.root e.ordered r)
