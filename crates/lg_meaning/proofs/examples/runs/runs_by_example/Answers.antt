use Rattle.std.proofs.Common.{refl}
use Rattle.std.specs.Fmt.{digits}
use Rattle.std.specs.FinMap.{gets}
use Rattle.lg_meaning.proofs.examples.runs.runs_by_example.Goals as goal

pub returns-clause-sums : goal.returns-clause-sums
unfolding digits
returns-clause-sums c = refl

pub returns-clause-stops : goal.returns-clause-stops
unfolding digits
returns-clause-stops c = refl

pub returns-clause-bound : goal.returns-clause-bound
unfolding digits
returns-clause-bound c = simp gets

pub returns-clause-lost : goal.returns-clause-lost
unfolding digits
returns-clause-lost c = simp gets

pub returns-clause-data_fault : goal.returns-clause-data_fault
unfolding digits
returns-clause-data_fault c = simp gets

pub returns-clause-product : goal.returns-clause-product
unfolding digits
returns-clause-product c = simp gets
