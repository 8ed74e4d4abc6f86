use Rattle.std.specs.FinMap.{gets}
use Rattle.lg_meaning.proofs.examples.views.sharing_by_example.Goals as goal

pub returns-clause-named : goal.returns-clause-named
returns-clause-named c = simp gets

pub returns-clause-indexed : goal.returns-clause-indexed
returns-clause-indexed c = simp gets

pub returns-clause-turned : goal.returns-clause-turned
returns-clause-turned c = simp gets

pub returns-clause-chained : goal.returns-clause-chained
returns-clause-chained c = simp gets

pub returns-clause-repeated : goal.returns-clause-repeated
returns-clause-repeated c = simp gets

pub returns-clause-element : goal.returns-clause-element
returns-clause-element c = simp gets

pub returns-clause-element_view : goal.returns-clause-element_view
returns-clause-element_view c = simp gets

pub returns-clause-unbound : goal.returns-clause-unbound
returns-clause-unbound c = simp gets
