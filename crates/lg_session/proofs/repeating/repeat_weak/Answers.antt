use Rattle.std.proofs.Common.{[], ◌∷◌}
use Rattle.lg_meaning.specs.Weak.{number_of}
use Rattle.lg_meaning.specs.Static.{as_array, array_result, weak_value}
use Rattle.lg_meaning.specs.Value.{plain}
use Rattle.lg_meaning.specs.Views.{broadcast_kind, repeated}
use Rattle.lg_operations.specs.Operations.{weak_of}
use Rattle.lg_session.proofs.Repeatings.{scalar_made}
use Rattle.lg_session.proofs.repeating.repeat_weak.Goals as goal

pub returns : goal.returns
returns c =
    scalar_made (as_array (weak_value (weak_of c.args.w))) (plain [] (number_of (weak_of c.args.w) ∷ [])) (λ kind. array_result (broadcast_kind kind c.args.written.now)) (λ kind. repeated kind.shape)
    c.in_ok-fresh.fresh c.repeat_fresh.result c.in_ok-fresh.ensures c.repeat_fresh.ensures
