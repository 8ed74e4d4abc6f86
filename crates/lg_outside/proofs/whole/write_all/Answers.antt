use Rattle.std.proofs.Common.{◌++◌, arith, take}
use Rattle.std.proofs.KnownBytes.{Appends-trans}
use Rattle.lg_outside.proofs.Pieces.{next_piece}
use Rattle.lg_outside.proofs.whole.write_all.Goals as goal

pub loop-rest-preserved : goal.loop-rest-preserved
loop-rest-preserved g c = let so_far = c.loop-rest.invariant in record {
  front = so_far.front ++ take c.in-Ok.count c.loop-rest.rest.now;
  split = next_piece c.args.bytes.now so_far.front c.loop-rest.rest.now c.in-Ok.count so_far.split;
  appended = Appends-trans _ _ _ so_far.front (take c.in-Ok.count c.loop-rest.rest.now) so_far.appended c.in-Ok.ensures.bytes;
  later = omega (arith, c.in-Ok.ensures.cause.later);
}
