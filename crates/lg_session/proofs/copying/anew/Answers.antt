use Rattle.std.proofs.Common.{length, sym, ap, ◌∙◌}
use Rattle.lg_session.specs.Roots.{contents}
use Rattle.lg_session.proofs.Copyings.{value_full}
use Rattle.lg_session.proofs.copying.anew.Goals as goal

pub in_shape-requires-clause-full : goal.in_shape-requires-clause-full
in_shape-requires-clause-full c =
    ap length c.in_ok-fresh.ensures.same ∙ value_full (contents c.args.session.now.roots) c.args.a c.requires.usable ∙ sym c.requires.size
