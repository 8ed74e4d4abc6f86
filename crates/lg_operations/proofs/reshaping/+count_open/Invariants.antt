use Rattle.std.proofs.Common.{length}
use Rattle.lg_operations.proofs.reshaping.+count_open.Given as goal

abbrev pub decreases-count_open : goal.decreases-count_open
decreases-count_open l = length l.written.now
