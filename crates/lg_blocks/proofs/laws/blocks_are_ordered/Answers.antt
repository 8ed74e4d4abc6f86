use Rattle.std.proofs.Common.{None, refl}
use Rattle.lg_blocks.proofs.Ordered.{ordered, closed, heads}
use Rattle.lg_blocks.proofs.laws.blocks_are_ordered.Goals as goal

pub returns-clause-ordered : goal.returns-clause-ordered
returns-clause-ordered c = λ ls f. ordered 0 ls None refl f

pub returns-clause-closed : goal.returns-clause-closed
returns-clause-closed c = closed

pub returns-clause-heads : goal.returns-clause-heads
returns-clause-heads c = heads
