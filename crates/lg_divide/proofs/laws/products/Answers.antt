use Rattle.lg_divide.proofs.Products.{divides_by_product, has_reciprocal}
use Rattle.lg_divide.proofs.laws.products.Goals as goal

pub returns-clause-product : goal.returns-clause-product
returns-clause-product c = divides_by_product

pub returns-clause-factor : goal.returns-clause-factor
returns-clause-factor c = has_reciprocal
