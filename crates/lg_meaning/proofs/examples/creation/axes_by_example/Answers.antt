use Rattle.std.specs.FinMap.{gets}
use Rattle.lg_meaning.proofs.examples.creation.axes_by_example.Goals as goal

pub returns-clause-name_first : goal.returns-clause-name_first
returns-clause-name_first c = simp gets
