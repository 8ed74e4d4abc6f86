use Rattle.lg_divide.proofs.Machine.{by_sum, by_sum_below}
use Rattle.lg_divide.proofs.reciprocal.Reciprocal.quotient_8.Goals as goal

pub overflow_cast-result-2 : goal.overflow_cast-result-2
overflow_cast-result-2 c = record { fits = by_sum_below 8 c.args.self c.args.x c.from-x.result c.requires c.ranges.x.fits c.from-x.ensures c.from-low.result c.from-low.ensures }

pub returns : goal.returns
returns c = by_sum 8 c.args.self c.args.x c.from-x.result c.requires c.ranges.x.fits c.from-x.ensures c.from-low.result c.from-low.ensures
