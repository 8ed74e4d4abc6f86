use Rattle.std.proofs.Common.{arith}
use Rattle.lg_xform.proofs.chain.Chain.place_in_tile.Goals as goal

pub returns-clause-small : goal.returns-clause-small
returns-clause-small c = omega (arith, c.if-prove.false, c.volume.ensures.value, c.ranges-ranges.ensures.storable.volume)
