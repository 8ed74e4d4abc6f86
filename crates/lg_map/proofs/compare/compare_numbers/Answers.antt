use Rattle.std.proofs.Common.{pos, ap, SFits}
use Rattle.std.proofs.lemmas.Int.{to_z-of_z}
use Rattle.std.specs.Int.{from_bool, w128}
use Rattle.lg_elem.specs.Operations.{compare_of}
use Rattle.lg_tile.specs.Tile.{tile_items}
use Rattle.lg_map.proofs.MapLemmas.{same_at_each}
use Rattle.lg_map.proofs.compare.compare_numbers.Goals as goal

pub returns : goal.returns
returns c =
    let fits_x : SFits w128 c.args.x = c.ranges.x in
    let fits_y : SFits w128 c.args.y = c.ranges.y in
    let holds = simp to_z-of_z at c.holds.ensures in (
      c.in_ok-filled.ensures.rect,
      same_at_each (λ b. pos (from_bool b)) c.args.rect.now (tile_items c.in_ok-filled.field-0) c.holds.result (pos (from_bool (compare_of c.args.op c.args.x c.args.y)))
          c.in_ok-filled.ensures.items (ap (λ b. pos (from_bool b)) holds),
    )
