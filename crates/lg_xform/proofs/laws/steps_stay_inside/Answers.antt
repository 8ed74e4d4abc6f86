use Rattle.lg_xform.proofs.Befores.{stays_inside}
use Rattle.lg_xform.proofs.laws.steps_stay_inside.Goals as goal

pub returns : goal.returns
returns c = stays_inside
