use Rattle.std.proofs.Common.{length}
use Rattle.lg_space.proofs.ranges.+contains.Given as goal

abbrev pub decreases-contains : goal.decreases-contains
decreases-contains l = length l.ranges.now
