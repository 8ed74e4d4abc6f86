use Rattle.std.specs.FinMap.{gets}
use Rattle.lg_meaning.proofs.examples.stencils.stencil_kinds_by_example.Goals as goal

pub returns-clause-weight_name : goal.returns-clause-weight_name
returns-clause-weight_name c = simp gets

pub returns-clause-array_before_weights : goal.returns-clause-array_before_weights
returns-clause-array_before_weights c = simp gets
