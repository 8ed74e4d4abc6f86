use Rattle.std.proofs.Common.{arith}
use Rattle.lg_divide.proofs.Machine.{by_one, by_one_below}
use Rattle.lg_divide.proofs.reciprocal.Reciprocal.quotient_31.Goals as goal

pub overflow_cast-result-2 : goal.overflow_cast-result-2
overflow_cast-result-2 c = record { fits = omega (arith, by_one_below 31 c.args.self c.args.x c.from.result c.requires.bits c.requires.below c.from.ensures c.from-2.result c.from-2.ensures) }

pub returns : goal.returns
returns c = by_one 31 c.args.self c.args.x c.from.result c.requires.bits c.requires.below c.from.ensures c.from-2.result c.from-2.ensures
