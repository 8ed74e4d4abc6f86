use Rattle.lg_space.proofs.Next.{side_by_side}
use Rattle.lg_space.proofs.laws.rows_are_contiguous.Goals as goal

pub returns : goal.returns
returns c = side_by_side
