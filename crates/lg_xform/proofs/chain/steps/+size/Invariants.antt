use Rattle.std.proofs.Common.{length}
use Rattle.lg_xform.proofs.chain.steps.+size.Given as goal

abbrev pub decreases-size : goal.decreases-size
decreases-size l = length l.extents.now
