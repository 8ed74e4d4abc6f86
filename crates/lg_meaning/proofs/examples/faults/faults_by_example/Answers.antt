use Rattle.std.specs.FinMap.{gets}
use Rattle.lg_meaning.proofs.examples.faults.faults_by_example.Goals as goal

pub returns-clause-left : goal.returns-clause-left
returns-clause-left c = simp gets

pub returns-clause-name_in_list : goal.returns-clause-name_in_list
returns-clause-name_in_list c = simp gets

pub returns-clause-name_by_extent : goal.returns-clause-name_by_extent
returns-clause-name_by_extent c = simp gets

pub returns-clause-other_last : goal.returns-clause-other_last
returns-clause-other_last c = simp gets

pub returns-clause-bounds : goal.returns-clause-bounds
returns-clause-bounds c = simp gets
