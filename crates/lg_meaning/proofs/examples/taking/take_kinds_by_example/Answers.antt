use Rattle.std.specs.FinMap.{gets}
use Rattle.lg_meaning.proofs.examples.taking.take_kinds_by_example.Goals as goal

pub returns-clause-name_first : goal.returns-clause-name_first
returns-clause-name_first c = simp gets

pub returns-clause-array_before_indices : goal.returns-clause-array_before_indices
returns-clause-array_before_indices c = simp gets

pub returns-clause-indices_before_axis : goal.returns-clause-indices_before_axis
returns-clause-indices_before_axis c = simp gets
