use Rattle.std.proofs.Common.{◌≡◌, map, take}
use Rattle.lg_elem.specs.Operations.{value_of}
use Rattle.lg_elem.specs.Types.{wrap}
use Rattle.lg_map.specs.Columns.{listed}
use Rattle.lg_map.proofs.loops.both.Given as goal

abbrev pub invariant-loop-i : goal.invariant-loop-i
invariant-loop-i g l =
    map g.T.Elem.number (take l.i l.out) ≡ listed (λ place. value_of g.K.Kernel.kind g.T.Elem.DTYPE (wrap g.T.Elem.DTYPE (g.X.Column.number_of l.x place)) (wrap g.T.Elem.DTYPE (g.Y.Column.number_of l.y place))) l.i
