use Rattle.lg_shape.proofs.Parts.{part_filled}
use Rattle.lg_part.proofs.laws.parts_filled.Goals as goal

pub returns : goal.returns
returns c = part_filled
