use Rattle.std.specs.FinMap.{gets}
use Rattle.lg_meaning.proofs.examples.products.product_kinds_by_example.Goals as goal

pub returns-clause-right_first : goal.returns-clause-right_first
returns-clause-right_first c = simp gets
