use Rattle.std.proofs.Common.{◌≡◌}
use Rattle.std.specs.List.{list_any}
use Rattle.lg_elem.specs.Operations.{is_negative}
use Rattle.lg_elem.specs.Types.{wrap}
use Rattle.lg_map.specs.Columns.{listed}
use Rattle.lg_map.proofs.loops.any_negative.Given as goal

abbrev pub invariant-loop-i : goal.invariant-loop-i
invariant-loop-i g l =
    l.found ≡ list_any is_negative (listed (λ place. (wrap g.T.Elem.DTYPE (g.Y.Column.number_of l.y place))) l.i)
