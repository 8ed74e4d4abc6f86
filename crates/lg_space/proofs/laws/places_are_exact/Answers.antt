use Rattle.lg_space.proofs.Places.{stands_at_place, stands_once}
use Rattle.lg_space.proofs.laws.places_are_exact.Goals as goal

pub returns-clause-there : goal.returns-clause-there
returns-clause-there c = stands_at_place

pub returns-clause-once : goal.returns-clause-once
returns-clause-once c = stands_once
