use Rattle.std.proofs.Common.{refl, ◌∙◌}
use Rattle.lg_copy.proofs.tests.crosswise.Goals as goal

pub tile_of-requires : goal.tile_of-requires
tile_of-requires g c = c.in_ok-columns.ensures.dtype 0 c.any.result refl ∙ c.any.ensures.0
