use Rattle.std.specs.Fmt.{digits}
use Rattle.std.specs.FinMap.{gets}
use Rattle.lg_meaning.proofs.examples.loops.loop_faults_by_example.Goals as goal

pub returns-clause-name_first : goal.returns-clause-name_first
returns-clause-name_first c = simp gets

pub returns-clause-last_statement : goal.returns-clause-last_statement
returns-clause-last_statement c = simp gets

pub returns-clause-in_turn : goal.returns-clause-in_turn
unfolding digits
returns-clause-in_turn c = simp gets

pub returns-clause-in_turn_end : goal.returns-clause-in_turn_end
returns-clause-in_turn_end c = simp gets

pub returns-clause-first_bound : goal.returns-clause-first_bound
returns-clause-first_bound c = simp gets
