use Rattle.lg_divide.proofs.Machine.{by_high}
use Rattle.lg_divide.proofs.reciprocal.Reciprocal.quotient_63.Goals as goal

pub returns : goal.returns
returns c = by_high 63 c.args.self c.args.x c.from.result c.requires.bits c.requires.below c.from.ensures c.from-2.result c.from-2.ensures
