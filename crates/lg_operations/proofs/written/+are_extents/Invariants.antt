use Rattle.std.proofs.Common.{length}
use Rattle.lg_operations.proofs.written.+are_extents.Given as goal

abbrev pub decreases-are_extents : goal.decreases-are_extents
decreases-are_extents l = length l.written.now
