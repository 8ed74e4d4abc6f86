use Rattle.std.proofs.Common.{◌≡◌, length, map, take}
use Rattle.lg_shape.specs.Indexing.{coordinate}
use Rattle.lg_session.proofs.axes.counted_axes.Given as goal

abbrev pub invariant-loop-place : goal.invariant-loop-place
invariant-loop-place l = record {
  room : length l.order ≡ 4;
  so_far : take l.place l.order ≡ map (coordinate l.count) (take l.place l.axes);
}
