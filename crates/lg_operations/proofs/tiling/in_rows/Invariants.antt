use Rattle.std.proofs.Common.{take}
use Rattle.lg_space.specs.Rectangle.{combinations}
use Rattle.lg_operations.specs.Lending.{lent_value, lent_flag}
use Rattle.lg_operations.proofs.Tilings.{Rows}
use Rattle.lg_operations.proofs.tiling.in_rows.Given as goal

abbrev pub invariant-loop-color : goal.invariant-loop-color
invariant-loop-color g l = Rows (lent_value l.op g.T.Elem.DTYPE l.inputs) (lent_flag l.op g.T.Elem.DTYPE l.inputs) g.T.Elem.number l.items.items l.flag (take l.color (combinations l.grid))
