use Rattle.std.proofs.Common.{length}
use Rattle.lg_operations.proofs.reshaping.+known_size.Given as goal

abbrev pub decreases-known_size : goal.decreases-known_size
decreases-known_size l = length l.written.now
