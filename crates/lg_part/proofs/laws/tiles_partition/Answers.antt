use Rattle.lg_shape.proofs.Tilings.{tiles_partition}
use Rattle.lg_part.proofs.laws.tiles_partition.Goals as goal

pub returns : goal.returns
returns c = tiles_partition
