use Rattle.std.specs.FinMap.{gets}
use Rattle.lg_meaning.proofs.examples.views.transposes_by_example.Goals as goal

pub returns-clause-no_name : goal.returns-clause-no_name
returns-clause-no_name c = simp gets
