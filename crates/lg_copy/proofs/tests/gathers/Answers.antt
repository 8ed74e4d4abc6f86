use Rattle.std.proofs.Common.{get_or, ◌∙◌}
use Rattle.std.proofs.lemmas.Option.{slice_get-get_or}
use Rattle.lg_copy.proofs.tests.gathers.Goals as goal

pub tile_of-requires : goal.tile_of-requires
tile_of-requires g c =
    let parts = c.args.parts.now in
    let out = c.in_ok-out.out in
    let at = slice_get-get_or parts 0 out c.requires.some in
    c.in_ok-out.ensures.dtype 0 (get_or parts 0 out) at ∙ c.requires.dtype 0 (get_or parts 0 out) at
