use Rattle.lg_shape.proofs.Tilings.{tiles_some, tiles_most}
use Rattle.lg_part.proofs.laws.tiles_count.Goals as goal

pub returns : goal.returns
returns c = λ pieces shape whole_axes h. (tiles_some pieces shape whole_axes h, tiles_most pieces shape whole_axes h)
