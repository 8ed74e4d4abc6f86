use Rattle.std.proofs.Common.{SFits, pos, sym, ◌∙◌}
use Rattle.std.proofs.lemmas.Int.{to_z-of_z}
use Rattle.std.specs.Int.{w128}
use Rattle.std.specs.Prelude.{◌+ℤ◌, slice_index}
use Rattle.lg_elem.specs.Types.{wrap}
use Rattle.lg_space.specs.Rectangle.{indices}
use Rattle.lg_map.specs.Columns.{index_in}
use Rattle.lg_map.proofs.ColumnLemmas.{count_index, count_number}
use Rattle.lg_map.proofs.FlagLemmas.{no_flags}
use Rattle.lg_map.proofs.MapLemmas.{by_indices}
use Rattle.lg_map.proofs.making.count_tile.Goals as goal

pub returns : goal.returns
returns g c =
    let t = g.T.Elem.DTYPE in
    let rect = c.args.rect.now in
    let first = c.args.first in
    let range = c.range-low.result in
    let fits : SFits w128 c.args.first = c.ranges.first in
    let items = simp to_z-of_z at c.in_ok-tile.ensures.items in (
      c.any.ensures.0,
      c.any.ensures.1 ∙ c.in_ok-tile.ensures.rect,
      c.any.ensures.2 ∙ items
          ∙ by_indices rect _ (λ index. wrap t (first +ℤ pos (slice_index index 0)))
          (λ place below. count_number t first range.0 place (slice_index (index_in rect place) 0) (count_index rect range c.requires.one c.range-low.ensures place below)),
      sym (no_flags (indices rect)),
    )
