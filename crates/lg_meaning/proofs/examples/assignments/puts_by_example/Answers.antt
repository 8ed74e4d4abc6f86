use Rattle.std.specs.Fmt.{digits}
use Rattle.std.specs.FinMap.{gets}
use Rattle.lg_meaning.proofs.examples.assignments.puts_by_example.Goals as goal

pub returns-clause-overlapping : goal.returns-clause-overlapping
unfolding digits
returns-clause-overlapping c = simp gets

pub returns-clause-through_transpose : goal.returns-clause-through_transpose
unfolding digits
returns-clause-through_transpose c = simp gets

pub returns-clause-scalar_and_view : goal.returns-clause-scalar_and_view
unfolding digits
returns-clause-scalar_and_view c = simp gets

pub returns-clause-two_names : goal.returns-clause-two_names
unfolding digits
returns-clause-two_names c = simp gets

pub returns-clause-copied : goal.returns-clause-copied
unfolding digits
returns-clause-copied c = simp gets

pub returns-clause-column : goal.returns-clause-column
returns-clause-column c = simp gets

pub returns-clause-rows : goal.returns-clause-rows
returns-clause-rows c = simp gets

pub returns-clause-dropped_axes : goal.returns-clause-dropped_axes
returns-clause-dropped_axes c = simp gets

pub returns-clause-nothing : goal.returns-clause-nothing
returns-clause-nothing c = simp gets

pub returns-clause-wrapped : goal.returns-clause-wrapped
unfolding digits
returns-clause-wrapped c = simp gets

pub returns-clause-to_bool : goal.returns-clause-to_bool
returns-clause-to_bool c = simp gets

pub returns-clause-of_truth : goal.returns-clause-of_truth
returns-clause-of_truth c = simp gets

pub returns-clause-no_axes : goal.returns-clause-no_axes
unfolding digits
returns-clause-no_axes c = simp gets

pub returns-clause-element_fault : goal.returns-clause-element_fault
returns-clause-element_fault c = simp gets

pub returns-clause-turned : goal.returns-clause-turned
unfolding digits
returns-clause-turned c = simp gets

pub returns-clause-forwards : goal.returns-clause-forwards
unfolding digits
returns-clause-forwards c = simp gets

pub returns-clause-rows_down : goal.returns-clause-rows_down
unfolding digits
returns-clause-rows_down c = simp gets

pub returns-clause-element_repeated : goal.returns-clause-element_repeated
unfolding digits
returns-clause-element_repeated c = simp gets

pub returns-clause-added_axes : goal.returns-clause-added_axes
unfolding digits
returns-clause-added_axes c = simp gets
