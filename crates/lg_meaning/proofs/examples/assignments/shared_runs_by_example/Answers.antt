use Rattle.std.specs.Fmt.{digits}
use Rattle.std.specs.FinMap.{gets}
use Rattle.lg_meaning.proofs.examples.assignments.shared_runs_by_example.Goals as goal

pub returns-clause-repeated : goal.returns-clause-repeated
unfolding digits
returns-clause-repeated c = simp gets

pub returns-clause-part_of_part : goal.returns-clause-part_of_part
unfolding digits
returns-clause-part_of_part c = simp gets

pub returns-clause-updated : goal.returns-clause-updated
unfolding digits
returns-clause-updated c = simp gets

pub returns-clause-changed : goal.returns-clause-changed
unfolding digits
returns-clause-changed c = simp gets

pub returns-clause-read_only : goal.returns-clause-read_only
returns-clause-read_only c = simp gets
