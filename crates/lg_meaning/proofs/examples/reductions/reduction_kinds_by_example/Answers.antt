use Rattle.std.specs.FinMap.{gets}
use Rattle.lg_meaning.proofs.examples.reductions.reduction_kinds_by_example.Goals as goal

pub returns-clause-operand_first : goal.returns-clause-operand_first
returns-clause-operand_first c = simp gets

pub returns-clause-axis_name : goal.returns-clause-axis_name
returns-clause-axis_name c = simp gets
