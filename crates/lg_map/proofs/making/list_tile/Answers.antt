use Rattle.std.proofs.Common.{length, pos, refl, ap, ◌∙◌}
use Rattle.std.specs.Prelude.{slice_index_or}
use Rattle.lg_elem.specs.Types.{wrap}
use Rattle.lg_shape.specs.Shapes.{whole, place_of}
use Rattle.lg_tile.specs.Sections.{section_items}
use Rattle.lg_map.proofs.ColumnLemmas.{listed_number, section_full}
use Rattle.lg_map.proofs.MapLemmas.{by_indices}
use Rattle.lg_map.proofs.making.list_tile.Goals as goal

pub wrap_each-requires : goal.wrap_each-requires
wrap_each-requires g c =
    ap length c.items.ensures ∙ section_full (λ x. x) c.whole.result c.args.rect.now c.args.numbers.now (section_items c.in_ok-part.part) c.in_ok-part.ensures

pub returns : goal.returns
returns g c =
    let t = g.T.Elem.DTYPE in
    let rect = c.args.rect.now in
    let shape = c.args.shape.now in
    let list = c.args.numbers.now in
    let cut = rw c.whole.ensures at c.in_ok-part.ensures in (
      c.any.ensures.0,
      c.any.ensures.1 ∙ c.in_ok-tile.ensures.rect,
      c.any.ensures.2 ∙ c.in_ok-tile.ensures.items
          ∙ by_indices rect _ (λ index. wrap t (slice_index_or list (place_of shape index) (pos 0))) (λ place below.
          ap (wrap t) (ap (λ l. slice_index_or l place (pos 0)) c.items.ensures ∙ listed_number (whole shape) rect list (section_items c.in_ok-part.part) cut place below)),
      refl,
    )
