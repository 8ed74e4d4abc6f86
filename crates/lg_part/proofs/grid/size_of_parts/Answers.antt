use Rattle.std.proofs.Common.{min, max, arith}
use Rattle.lg_part.proofs.Grids.{div_ceil-ceiling}
use Rattle.lg_part.proofs.grid.size_of_parts.Goals as goal

pub returns : goal.returns
returns c = grind (arith, div_ceil-ceiling c.args.extent (min c.args.pieces (max c.args.extent 1)))
