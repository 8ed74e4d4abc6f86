use Rattle.std.proofs.Common.{length, ap, ◌∙◌}
use Rattle.lg_elem.specs.Types.{wrap}
use Rattle.lg_tile.specs.Tiles.{number_at}
use Rattle.lg_map.specs.Columns.{item_at}
use Rattle.lg_map.proofs.MapLemmas.{by_indices}
use Rattle.lg_map.proofs.making.cast_typed.Goals as goal

pub cast_items-requires : goal.cast_items-requires
cast_items-requires g c = ap length c.items.ensures ∙ c.in_ok-part.ensures.0

pub returns : goal.returns
returns g c =
    let t = g.T.Elem.DTYPE in (
      c.in_ok-cast_items.ensures.rect,
      c.in_ok-cast_items.ensures.items
          ∙ by_indices c.args.rect.now _ (λ index. wrap t (number_at c.args.tile.now index)) (λ place below.
          ap (wrap t) (ap (λ l. item_at g.A.Elem.number l place) c.items.ensures ∙ c.in_ok-part.ensures.1 place below)),
    )
