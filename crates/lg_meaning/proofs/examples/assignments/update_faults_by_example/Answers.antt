use Rattle.std.specs.FinMap.{gets}
use Rattle.lg_meaning.proofs.examples.assignments.update_faults_by_example.Goals as goal

pub returns-clause-unbound : goal.returns-clause-unbound
returns-clause-unbound c = simp gets

pub returns-clause-unbound_whole : goal.returns-clause-unbound_whole
returns-clause-unbound_whole c = simp gets

pub returns-clause-of_weak : goal.returns-clause-of_weak
returns-clause-of_weak c = simp gets

pub returns-clause-weak_range : goal.returns-clause-weak_range
returns-clause-weak_range c = simp gets

pub returns-clause-index_before_value : goal.returns-clause-index_before_value
returns-clause-index_before_value c = simp gets

pub returns-clause-value_before_operation : goal.returns-clause-value_before_operation
returns-clause-value_before_operation c = simp gets

pub returns-clause-operation : goal.returns-clause-operation
returns-clause-operation c = simp gets

pub returns-clause-operation_before_right : goal.returns-clause-operation_before_right
returns-clause-operation_before_right c = simp gets

pub returns-clause-right : goal.returns-clause-right
returns-clause-right c = simp gets

pub returns-clause-right_of_transpose : goal.returns-clause-right_of_transpose
returns-clause-right_of_transpose c = simp gets

pub returns-clause-scalar_part : goal.returns-clause-scalar_part
returns-clause-scalar_part c = simp gets

pub returns-clause-lower_kind : goal.returns-clause-lower_kind
returns-clause-lower_kind c = simp gets

pub returns-clause-lower_kind_of_element : goal.returns-clause-lower_kind_of_element
returns-clause-lower_kind_of_element c = simp gets

pub returns-clause-to_bool : goal.returns-clause-to_bool
returns-clause-to_bool c = simp gets

pub returns-clause-kind_before_shape : goal.returns-clause-kind_before_shape
returns-clause-kind_before_shape c = simp gets

pub returns-clause-more_axes : goal.returns-clause-more_axes
returns-clause-more_axes c = simp gets

pub returns-clause-part_before_operation : goal.returns-clause-part_before_operation
returns-clause-part_before_operation c = simp gets

pub returns-clause-index_type : goal.returns-clause-index_type
returns-clause-index_type c = simp gets

pub returns-clause-operation_type : goal.returns-clause-operation_type
returns-clause-operation_type c = simp gets

pub returns-clause-operation_shape : goal.returns-clause-operation_shape
returns-clause-operation_shape c = simp gets
