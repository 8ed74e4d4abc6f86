use Rattle.std.proofs.Common.{◌≡◌, take}
use Rattle.lg_space.specs.Rectangle.{combinations}
use Rattle.lg_part.proofs.grid.tiles.Given as goal

-- the tiles so far
abbrev pub invariant-loop-color : goal.invariant-loop-color
invariant-loop-color l = l.all.items ≡ take l.color (combinations l.grid)
