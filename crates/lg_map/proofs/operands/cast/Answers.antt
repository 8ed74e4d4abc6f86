use Rattle.std.proofs.Common.{◌≡◌, length, map, refl, ap, ◌∙◌}
use Rattle.lg_space.specs.Rectangle.{volume_of}
use Rattle.lg_elem.specs.Types.{wrap}
use Rattle.lg_map.specs.Columns.{item_at, listed}
use Rattle.lg_tile.specs.Sections.{section_items}
use Rattle.lg_map.proofs.ColumnLemmas.{cast_stands, section_full}
use Rattle.lg_map.proofs.operands.cast.Goals as goal

pub returns : goal.returns
returns g c =
    let tile = c.args.tile.now in
    let n = volume_of c.args.rect.now in
    let made : map g.T.Elem.number c.into_items-items.result.items ≡ listed (λ place. wrap g.T.Elem.DTYPE (item_at g.A.Elem.number (section_items c.in_ok-section.section) place)) n =
    ap (map g.T.Elem.number) c.into_items-items.ensures ∙ c.in_ok-cast_items.ensures.items ∙ ap (λ l. listed (λ place. wrap g.T.Elem.DTYPE (item_at g.A.Elem.number l place)) n) c.items.ensures in
    cast_stands g.A.Elem.number tile.rect c.args.rect.now tile.items.items (section_items c.in_ok-section.section) c.in_ok-section.ensures g.T.Elem.number g.T.Elem.DTYPE c.into_items-items.result.items n refl made

pub cast_items-requires : goal.cast_items-requires
cast_items-requires g c =
    let tile = c.args.tile.now in
    ap length c.items.ensures ∙ section_full g.A.Elem.number tile.rect c.args.rect.now tile.items.items (section_items c.in_ok-section.section) c.in_ok-section.ensures
