use Rattle.lg_elem.specs.declared.kinds.Binary.TheVariants.{FloorDiv}
use Rattle.lg_elem.specs.Operations.{value_of}
use Rattle.std.proofs.Common.{length}
use Rattle.lg_map.proofs.LoopLemmas.{all_by_constant}
use Rattle.lg_map.proofs.loops.divided.Goals as goal

pub returns : goal.returns
returns g c =
    all_by_constant g.T.Elem.DTYPE g.T.Elem.number (value_of FloorDiv g.T.Elem.DTYPE) c.args.x.now c.divide_all.new.out (length c.args.out.now) (g.T.Elem.number c.args.y) c.value-number.result
    c.requires c.value-number.ensures.value c.value-number.ensures.fits c.divide_all.ensures.numbers c.divide_all.ensures.value
