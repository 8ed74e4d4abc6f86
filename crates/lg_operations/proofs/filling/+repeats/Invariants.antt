use Rattle.std.proofs.Common.{length}
use Rattle.lg_operations.proofs.filling.+repeats.Given as goal

abbrev pub decreases-repeats : goal.decreases-repeats
decreases-repeats l = length l.own.now
