use Rattle.std.proofs.Common.{◌≡◌, ℕ, ◌<◌, length, get_or}
use Rattle.lg_shape.specs.Tiling.{part}
use Rattle.lg_part.proofs.grid.Grid.tile.Given as goal

-- the ranges of the axes before this one are parts
abbrev pub invariant-loop-axis : goal.invariant-loop-axis
invariant-loop-axis l = record {
  long : length l.ranges ≡ 4;
  written : (k : ℕ) → k < l.axis → get_or l.ranges k (0, 0) ≡ part (get_or l.extents k 0) (get_or l.self-inside.sizes k 0) (get_or l.number-items k 0);
}
