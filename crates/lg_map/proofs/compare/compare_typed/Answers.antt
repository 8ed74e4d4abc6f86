use Rattle.std.proofs.Common.{length, pos, ap, ◌∙◌}
use Rattle.std.specs.Int.{from_bool}
use Rattle.lg_elem.specs.Operations.{compare_of}
use Rattle.lg_tile.specs.Tiles.{number_at}
use Rattle.lg_map.specs.Columns.{item_at, index_in}
use Rattle.lg_map.proofs.MapLemmas.{by_indices}
use Rattle.lg_map.proofs.compare.compare_typed.Goals as goal

pub compare_lists-requires-clause-first : goal.compare_lists-requires-clause-first
compare_lists-requires-clause-first g c = ap length c.items.ensures ∙ c.in_ok-x.ensures.0

pub compare_lists-requires-clause-second : goal.compare_lists-requires-clause-second
compare_lists-requires-clause-second g c = ap length c.items-2.ensures ∙ c.in_ok-y.ensures.0

pub returns : goal.returns
returns g c =
    let rect = c.args.rect.now in
    let op = c.args.op in
    let x = c.args.x.now in
    let y = c.args.y.now in (
      c.in_ok-compare_lists.ensures.rect,
      c.in_ok-compare_lists.ensures.items
          ∙ by_indices rect _ (λ index. pos (from_bool (compare_of op (number_at x index) (number_at y index)))) (λ place below.
          ap (λ n. pos (from_bool (compare_of op n (item_at g.B.Elem.number c.items-2.result.now place)))) (ap (λ l. item_at g.A.Elem.number l place) c.items.ensures ∙ c.in_ok-x.ensures.1 place below)
          ∙ ap (λ n. pos (from_bool (compare_of op (number_at x (index_in rect place)) n))) (ap (λ l. item_at g.B.Elem.number l place) c.items-2.ensures ∙ c.in_ok-y.ensures.1 place below)),
    )
