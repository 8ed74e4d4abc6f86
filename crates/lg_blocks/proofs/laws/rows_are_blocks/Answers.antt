use Rattle.lg_blocks.proofs.Reached.{reached}
use Rattle.lg_blocks.proofs.laws.rows_are_blocks.Goals as goal

pub returns : goal.returns
returns c = reached
