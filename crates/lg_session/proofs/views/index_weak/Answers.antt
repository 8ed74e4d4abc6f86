use Rattle.std.proofs.Common.{[], ◌∷◌}
use Rattle.lg_meaning.specs.Static.{weak_value}
use Rattle.lg_meaning.specs.Value.{plain}
use Rattle.lg_meaning.specs.Weak.{number_of}
use Rattle.lg_operations.specs.Operations.{weak_of}
use Rattle.lg_session.proofs.IndexLemmas.{index_counted}
use Rattle.lg_session.proofs.views.index_weak.Goals as goal

pub returns : goal.returns
returns c =
    index_counted c.args.items.now (weak_value (weak_of c.args.w)) (plain [] (number_of (weak_of c.args.w) ∷ [])) c.in_ok-scalar.scalar c.index_fresh.result
    c.in_ok-scalar.ensures c.index_fresh.ensures
