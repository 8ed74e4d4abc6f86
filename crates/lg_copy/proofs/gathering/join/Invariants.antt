use Rattle.std.proofs.Common.{◌≡◌}
use Rattle.lg_tile.specs.Tiles.{rect_of}
use Rattle.lg_copy.specs.Leading.{HasParts, IsOfType}
use Rattle.lg_copy.proofs.gathering.join.Given as goal

abbrev pub invariant-loop-part : goal.invariant-loop-part
invariant-loop-part l = record {
  dtype : IsOfType l.parts l.joined;
  rect : rect_of l.joined ≡ l.rect;
  so_far : HasParts l.parts l.part-index l.joined;
}
