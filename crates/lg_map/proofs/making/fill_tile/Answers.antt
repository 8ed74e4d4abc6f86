use Rattle.std.proofs.Common.{sym, SFits, ◌∙◌}
use Rattle.std.proofs.lemmas.Int.{to_z-of_z}
use Rattle.std.specs.Int.{w128}
use Rattle.lg_space.specs.Rectangle.{indices}
use Rattle.lg_map.proofs.FlagLemmas.{no_flags}
use Rattle.lg_map.proofs.making.fill_tile.Goals as goal

pub returns : goal.returns
returns g c =
    let fits : SFits w128 c.args.x = c.ranges.x in
    let items = simp to_z-of_z at c.in_ok-tile.ensures.1 in
    (c.any.ensures.0, c.any.ensures.1 ∙ c.in_ok-tile.ensures.0, c.any.ensures.2 ∙ items, sym (no_flags (indices c.args.rect.now)))
