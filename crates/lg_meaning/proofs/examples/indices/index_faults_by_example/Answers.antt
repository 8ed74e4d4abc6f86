use Rattle.std.specs.FinMap.{gets}
use Rattle.lg_meaning.proofs.examples.indices.index_faults_by_example.Goals as goal

pub returns-clause-name_first : goal.returns-clause-name_first
returns-clause-name_first c = simp gets

pub returns-clause-base_first : goal.returns-clause-base_first
returns-clause-base_first c = simp gets
