use Rattle.std.proofs.Common.{◌≡◌, map, take}
use Rattle.std.specs.Prelude.{if◌then◌else◌}
use Rattle.lg_elem.specs.Operations.{is_zero}
use Rattle.lg_elem.specs.Types.{wrap}
use Rattle.lg_map.specs.Columns.{listed}
use Rattle.lg_map.proofs.loops.chosen.Given as goal

abbrev pub invariant-loop-i : goal.invariant-loop-i
invariant-loop-i g l =
    map g.T.Elem.number (take l.i l.out) ≡ listed (λ place. if is_zero (g.C.Column.number_of l.choice place) then (wrap g.T.Elem.DTYPE (g.Y.Column.number_of l.y place)) else (wrap g.T.Elem.DTYPE (g.X.Column.number_of l.x place))) l.i
