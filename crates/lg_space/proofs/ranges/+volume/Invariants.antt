use Rattle.std.proofs.Common.{length}
use Rattle.lg_space.proofs.ranges.+volume.Given as goal

abbrev pub decreases-volume : goal.decreases-volume
decreases-volume l = length l.ranges.now
