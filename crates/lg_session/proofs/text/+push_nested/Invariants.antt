use Rattle.std.proofs.Common.{◌≡◌, ◌-◌, ◌*◌, ◌++◌, length, map}
use Rattle.lg_shape.specs.Shapes.{size_of}
use Rattle.lg_meaning.specs.Text.{separated, nested, rows}
use Rattle.lg_session.proofs.Printing.{left}
use Rattle.lg_session.proofs.text.+push_nested.Given as goal

abbrev pub decreases-push_nested : goal.decreases-push_nested
decreases-push_nested g l = length l.extents.now

abbrev pub invariant-loop-row : goal.invariant-loop-row
invariant-loop-row g l = record {
  size : length l.rest ≡ (l.count - l.row) * size_of l.inner;
  so_far : l.text.items ++ left l.row (map (nested g.T.Elem.DTYPE l.inner) (rows (l.count - l.row) (size_of l.inner) (map g.T.Elem.number l.rest)))
      ≡ l.initial.text.items ++ separated (map (nested g.T.Elem.DTYPE l.inner) (rows l.count (size_of l.inner) (map g.T.Elem.number l.items)));
}
