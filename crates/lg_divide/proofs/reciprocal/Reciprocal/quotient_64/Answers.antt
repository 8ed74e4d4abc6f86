use Rattle.lg_divide.proofs.Machine.{by_two}
use Rattle.lg_divide.proofs.reciprocal.Reciprocal.quotient_64.Goals as goal

pub returns : goal.returns
returns c = by_two 64 c.args.self c.args.x c.from.result c.requires c.ranges.x.fits c.from.ensures c.from-2.result c.from-2.ensures c.min-first.result c.min-first.ensures
