use Rattle.std.proofs.Common.{◌≡◌, map, take}
use Rattle.lg_elem.specs.Types.{wrap}
use Rattle.lg_map.specs.Columns.{listed}
use Rattle.lg_map.proofs.loops.converted.Given as goal

abbrev pub invariant-loop-i : goal.invariant-loop-i
invariant-loop-i g l =
    map g.T.Elem.number (take l.i l.out) ≡ listed (λ place. (wrap g.T.Elem.DTYPE (g.X.Column.number_of l.x place))) l.i
