use Rattle.std.proofs.Common.{◌≡◌}
use Rattle.lg_space.proofs.Parting.{CutSoFar}
use Rattle.lg_space.proofs.rect.AnyRect.subtract.Given as goal

-- what is left after the axes before this one, and the parts so far
abbrev pub invariant-loop-axis : goal.invariant-loop-axis
invariant-loop-axis l = record {
  room : l.parts.capacity ≡ 8;
  so_far : CutSoFar l.self l.other l.axis l.rest l.parts.items;
}
