use Rattle.lg_tile.specs.Sections.{section_items}
use Rattle.lg_map.proofs.ColumnLemmas.{read_stands}
use Rattle.lg_map.proofs.operands.read.Goals as goal

pub returns : goal.returns
returns g c =
    let tile = c.args.tile.now in
    read_stands g.T.Elem.number tile.rect c.args.rect.now tile.items.items (section_items c.in_ok-section.field-0) c.in_ok-section.ensures g.T.Elem.DTYPE
