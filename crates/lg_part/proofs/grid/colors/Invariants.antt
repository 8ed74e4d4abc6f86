use Rattle.lg_part.proofs.Cutting.{IsCutSoFar}
use Rattle.lg_part.proofs.grid.colors.Given as goal

-- the axes before this one are cut
abbrev pub invariant-loop-axis : goal.invariant-loop-axis
invariant-loop-axis l = IsCutSoFar l.pieces l.extents l.whole l.axis l.sizes l.numbers l.left
