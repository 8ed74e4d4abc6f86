use Rattle.std.proofs.Common.{◌≡◌, map, take}
use Rattle.std.specs.Prelude.{pos, slice_index_or}
use Rattle.lg_elem.specs.Types.{wrap}
use Rattle.lg_map.specs.Columns.{listed}
use Rattle.lg_map.proofs.loops.wrapped.Given as goal

abbrev pub invariant-loop-i : goal.invariant-loop-i
invariant-loop-i g l =
    map g.T.Elem.number (take l.i l.out) ≡ listed (λ place. wrap g.T.Elem.DTYPE (slice_index_or l.numbers place (pos 0))) l.i
