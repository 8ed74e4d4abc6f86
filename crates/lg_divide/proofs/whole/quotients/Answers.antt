use Rattle.std.proofs.Common.{arith}
use Rattle.lg_elem.specs.declared.kinds.Binary.TheVariants.{FloorDiv}
use Rattle.lg_elem.specs.Operations.{value_of}
use Rattle.lg_divide.proofs.Steps.{one_more, one_more_number}
use Rattle.lg_divide.proofs.whole.quotients.Goals as goal

pub loop-i-preserved : goal.loop-i-preserved
loop-i-preserved g c = record {
  value = one_more g.T.Elem.number (λ a. value_of FloorDiv g.T.Elem.DTYPE a (g.T.Elem.number c.args.by.number)) c.loop-i.out c.args.x.now c.loop-i.i c.index-x-i.result c.quotient.result (omega arith) (omega arith) c.index-x-i.is c.quotient.ensures c.loop-i.invariant.value;
  numbers = one_more_number g.T.Elem.DTYPE g.T.Elem.number c.args.x.now c.loop-i.i c.index-x-i.result c.value-number.result (omega arith) c.index-x-i.is c.value-number.ensures.value c.value-number.ensures.fits c.loop-i.invariant.numbers;
}
