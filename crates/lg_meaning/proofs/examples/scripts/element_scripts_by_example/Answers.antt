use Rattle.std.proofs.Common.{refl}
use Rattle.std.specs.Fmt.{digits}
use Rattle.std.specs.FinMap.{gets}
use Rattle.lg_meaning.proofs.examples.scripts.element_scripts_by_example.Goals as goal

pub returns-clause-wrapped : goal.returns-clause-wrapped
unfolding digits
returns-clause-wrapped c = simp gets

pub returns-clause-no_common_type : goal.returns-clause-no_common_type
unfolding digits
returns-clause-no_common_type c = simp gets

pub returns-clause-floors : goal.returns-clause-floors
unfolding digits
returns-clause-floors c = simp gets

pub returns-clause-zero_divisor : goal.returns-clause-zero_divisor
unfolding digits
returns-clause-zero_divisor c = simp gets

pub returns-clause-weak_range : goal.returns-clause-weak_range
unfolding digits
returns-clause-weak_range c = simp gets

pub returns-clause-wider : goal.returns-clause-wider
unfolding digits
returns-clause-wider c = refl

pub returns-clause-truths : goal.returns-clause-truths
returns-clause-truths c = simp gets

pub returns-clause-shifts_and_powers : goal.returns-clause-shifts_and_powers
unfolding digits
returns-clause-shifts_and_powers c = refl

pub returns-clause-chosen : goal.returns-clause-chosen
unfolding digits
returns-clause-chosen c = simp gets

pub returns-clause-weak : goal.returns-clause-weak
unfolding digits
returns-clause-weak c = refl
