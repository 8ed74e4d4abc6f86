use Rattle.lg_map.proofs.ColumnLemmas.{typed_part}
use Rattle.lg_map.proofs.operands.part_of.Goals as goal

pub returns : goal.returns
returns g c = typed_part g.T.Elem.number g.T.Elem.DTYPE c.tile_of.result.now c.args.tile.now c.tile_of.ensures c.args.rect.now c.in_ok-section.field-0 c.in_ok-section.ensures
