use Rattle.std.proofs.Common.{◌≡◌, length, map, take}
use Rattle.std.specs.Prelude.{unsigned_abs}
use Rattle.lg_operations.specs.Reshaping.{filled}
use Rattle.lg_operations.proofs.reshaping.filled_in.Given as goal

abbrev pub invariant-loop-axis : goal.invariant-loop-axis
invariant-loop-axis l = record {
  room : length l.extents ≡ 4;
  so_far : take l.axis l.extents ≡ map (filled (unsigned_abs l.left)) (take l.axis l.written);
}
