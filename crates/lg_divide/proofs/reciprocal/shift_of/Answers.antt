use Rattle.lg_divide.proofs.Products.{shift_is}
use Rattle.lg_divide.proofs.reciprocal.shift_of.Goals as goal

pub returns-clause-shift : goal.returns-clause-shift
returns-clause-shift c = (shift_is c.args.divisor c.requires.some c.requires.most).0

pub returns-clause-few : goal.returns-clause-few
returns-clause-few c = (shift_is c.args.divisor c.requires.some c.requires.most).1
