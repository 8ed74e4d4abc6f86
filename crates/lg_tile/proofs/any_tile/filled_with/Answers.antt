use Rattle.std.proofs.Common.{SFits, ◌∙◌}
use Rattle.std.proofs.lemmas.Int.{to_z-of_z}
use Rattle.std.specs.Int.{w128}
use Rattle.lg_space.specs.Rectangle.{volume_of}
use Rattle.lg_tile.specs.Tile.{tile_items}
use Rattle.lg_tile.proofs.NumberLemmas.{map_filled}
use Rattle.lg_tile.proofs.any_tile.filled_with.Goals as goal

pub returns-clause-numbers : goal.returns-clause-numbers
returns-clause-numbers g c =
    let fits : SFits w128 c.args.x = c.ranges.x in
    let is = simp to_z-of_z at c.element.ensures in
    c.any.ensures.2 ∙ map_filled g.T.Elem.number (volume_of c.args.rect.now) (tile_items c.in_ok-filled.field-0) c.element.result c.args.x c.in_ok-filled.ensures.items is
