use Rattle.lg_elem.proofs.WrapLemmas.{wrap_congruent, wrap_one, wrap_same, wrap_truth}
use Rattle.lg_elem.proofs.laws.one_number.Goals as goal

pub returns-clause-modulus : goal.returns-clause-modulus
returns-clause-modulus c = wrap_congruent

pub returns-clause-one : goal.returns-clause-one
returns-clause-one c = wrap_one

pub returns-clause-other : goal.returns-clause-other
returns-clause-other c = wrap_truth

pub returns-clause-same : goal.returns-clause-same
returns-clause-same c = wrap_same
