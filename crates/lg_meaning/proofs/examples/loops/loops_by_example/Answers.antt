use Rattle.std.specs.Fmt.{digits}
use Rattle.std.specs.FinMap.{gets}
use Rattle.lg_meaning.proofs.examples.loops.loops_by_example.Goals as goal

pub returns-clause-sum : goal.returns-clause-sum
unfolding digits
returns-clause-sum c = simp gets

pub returns-clause-from_below : goal.returns-clause-from_below
unfolding digits
returns-clause-from_below c = simp gets

pub returns-clause-no_turn : goal.returns-clause-no_turn
unfolding digits
returns-clause-no_turn c = simp gets

pub returns-clause-bound_first : goal.returns-clause-bound_first
unfolding digits
returns-clause-bound_first c = simp gets

pub returns-clause-nested : goal.returns-clause-nested
unfolding digits
returns-clause-nested c = simp gets

pub returns-clause-fault_in_turn : goal.returns-clause-fault_in_turn
unfolding digits
returns-clause-fault_in_turn c = simp gets
