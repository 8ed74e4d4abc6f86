use Rattle.std.proofs.Common.{◌≡◌, map, take}
use Rattle.std.specs.Prelude.{pos}
use Rattle.std.specs.Int.{from_bool}
use Rattle.lg_elem.specs.Operations.{compare_of}
use Rattle.lg_map.specs.Columns.{listed}
use Rattle.lg_map.proofs.loops.compared.Given as goal

abbrev pub invariant-loop-i : goal.invariant-loop-i
invariant-loop-i g l =
    map (λ b. pos (from_bool b)) (take l.i l.out) ≡ listed (λ place. pos (from_bool (compare_of g.K.CompareKernel.kind (g.X.Column.number_of l.x place) (g.Y.Column.number_of l.y place)))) l.i
