use Rattle.lg_blocks.proofs.Told.{told}
use Rattle.lg_blocks.proofs.laws.blocks_are_told.Goals as goal

pub returns : goal.returns
returns c = told
