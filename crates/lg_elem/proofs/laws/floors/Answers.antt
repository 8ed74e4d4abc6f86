use Rattle.lg_elem.proofs.Floors.{rests_above, rests_below}
use Rattle.lg_elem.proofs.laws.floors.Goals as goal

pub returns-clause-above : goal.returns-clause-above
returns-clause-above c = rests_above

pub returns-clause-below : goal.returns-clause-below
returns-clause-below c = rests_below
