use Rattle.std.proofs.Common.{◌≡◌, length, take}
use Rattle.lg_shape.specs.Shapes.{whole}
use Rattle.lg_shape.proofs.shape.Shape.whole.Given as goal

abbrev pub invariant-loop-axis : goal.invariant-loop-axis
invariant-loop-axis l = record { room : length l.ranges ≡ 4; so_far : take l.axis l.ranges ≡ take l.axis (whole l.self) }
