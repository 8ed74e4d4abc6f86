use Rattle.std.proofs.Common.{length, pos, ap, ◌∙◌, SFits}
use Rattle.std.proofs.lemmas.Int.{to_z-of_z}
use Rattle.std.specs.Int.{from_bool, w128}
use Rattle.lg_elem.specs.Operations.{compare_of}
use Rattle.lg_tile.specs.Tiles.{number_at}
use Rattle.lg_map.specs.Columns.{item_at}
use Rattle.lg_map.proofs.MapLemmas.{by_indices}
use Rattle.lg_map.proofs.compare.compare_typed_number.Goals as goal

pub compare_items-requires-clause-full : goal.compare_items-requires-clause-full
compare_items-requires-clause-full g c = ap length c.items.ensures ∙ c.in_ok-x.ensures.0

pub returns : goal.returns
returns g c =
    let op = c.args.op in
    let fits : SFits w128 c.args.y = c.ranges.y in
    let items = simp to_z-of_z at c.in_ok-compare_items.ensures.items in (
      c.in_ok-compare_items.ensures.rect,
      items
          ∙ by_indices c.args.rect.now _ (λ index. pos (from_bool (compare_of op (number_at c.args.x.now index) c.args.y))) (λ place below.
          ap (λ n. pos (from_bool (compare_of op n c.args.y))) (ap (λ l. item_at g.A.Elem.number l place) c.items.ensures ∙ c.in_ok-x.ensures.1 place below)),
    )
