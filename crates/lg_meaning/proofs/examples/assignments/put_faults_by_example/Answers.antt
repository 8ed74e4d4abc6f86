use Rattle.std.specs.FinMap.{gets}
use Rattle.lg_meaning.proofs.examples.assignments.put_faults_by_example.Goals as goal

pub returns-clause-value_first : goal.returns-clause-value_first
returns-clause-value_first c = simp gets

pub returns-clause-unbound : goal.returns-clause-unbound
returns-clause-unbound c = simp gets

pub returns-clause-of_weak : goal.returns-clause-of_weak
returns-clause-of_weak c = simp gets

pub returns-clause-index_item : goal.returns-clause-index_item
returns-clause-index_item c = simp gets

pub returns-clause-index : goal.returns-clause-index
returns-clause-index c = simp gets

pub returns-clause-index_type : goal.returns-clause-index_type
returns-clause-index_type c = simp gets

pub returns-clause-slice_step : goal.returns-clause-slice_step
returns-clause-slice_step c = simp gets

pub returns-clause-read_only_target : goal.returns-clause-read_only_target
returns-clause-read_only_target c = simp gets

pub returns-clause-index_before_right : goal.returns-clause-index_before_right
returns-clause-index_before_right c = simp gets

pub returns-clause-right_before_range : goal.returns-clause-right_before_range
returns-clause-right_before_range c = simp gets

pub returns-clause-scalar_target : goal.returns-clause-scalar_target
returns-clause-scalar_target c = simp gets

pub returns-clause-range : goal.returns-clause-range
returns-clause-range c = simp gets

pub returns-clause-range_unsigned : goal.returns-clause-range_unsigned
returns-clause-range_unsigned c = simp gets

pub returns-clause-shape : goal.returns-clause-shape
returns-clause-shape c = simp gets

pub returns-clause-wider : goal.returns-clause-wider
returns-clause-wider c = simp gets

pub returns-clause-surplus : goal.returns-clause-surplus
returns-clause-surplus c = simp gets

pub returns-clause-to_nothing : goal.returns-clause-to_nothing
returns-clause-to_nothing c = simp gets

pub returns-clause-axes_before_right : goal.returns-clause-axes_before_right
returns-clause-axes_before_right c = simp gets

pub returns-clause-right_before_shape : goal.returns-clause-right_before_shape
returns-clause-right_before_shape c = simp gets

pub returns-clause-too_many : goal.returns-clause-too_many
returns-clause-too_many c = simp gets

pub returns-clause-left_to_right : goal.returns-clause-left_to_right
returns-clause-left_to_right c = simp gets
