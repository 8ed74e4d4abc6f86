use Rattle.lg_elem.specs.declared.kinds.Binary.TheVariants.{Rem}
use Rattle.lg_elem.specs.Operations.{value_of}
use Rattle.std.proofs.Common.{length}
use Rattle.lg_map.proofs.LoopLemmas.{all_by_constant}
use Rattle.lg_map.proofs.loops.remainders.Goals as goal

pub returns : goal.returns
returns g c =
    all_by_constant g.T.Elem.DTYPE g.T.Elem.number (value_of Rem g.T.Elem.DTYPE) c.args.x.now c.remainder_all.new.out (length c.args.out.now) (g.T.Elem.number c.args.y) c.value-number.result
    c.requires c.value-number.ensures.value c.value-number.ensures.fits c.remainder_all.ensures.numbers c.remainder_all.ensures.value
