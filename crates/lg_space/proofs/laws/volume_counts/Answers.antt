use Rattle.lg_space.proofs.Places.{volume_counts}
use Rattle.lg_space.proofs.laws.volume_counts.Goals as goal

pub returns : goal.returns
returns c = volume_counts
