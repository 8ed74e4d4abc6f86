use Rattle.std.proofs.Common.{SFits}
use Rattle.std.proofs.lemmas.Int.{to_z-of_z}
use Rattle.std.specs.Int.{w128}
use Rattle.lg_elem.specs.Types.{wrap}
use Rattle.lg_tile.specs.Tile.{tile_items}
use Rattle.lg_map.proofs.MapLemmas.{same_at_each}
use Rattle.lg_map.proofs.making.filled.Goals as goal

pub returns : goal.returns
returns g c =
    let fits : SFits w128 c.args.x = c.ranges.x in
    let is = simp to_z-of_z at c.wrap.ensures in (
      c.in_ok-filled.ensures.rect,
      same_at_each g.T.Elem.number c.args.rect.now (tile_items c.in_ok-filled.field-0) c.wrap.result (wrap g.T.Elem.DTYPE c.args.x) c.in_ok-filled.ensures.items is,
    )
