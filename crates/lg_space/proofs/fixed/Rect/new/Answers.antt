use Rattle.lg_space.proofs.Kept.{is_rect, front}
use Rattle.lg_space.proofs.fixed.Rect.new.Goals as goal

pub invariant_of-result : goal.invariant_of-result
invariant_of-result g c = is_rect g.row.D c.args.ranges.now c.kept.result c.requires.axes c.requires.storable c.kept.ensures

pub returns : goal.returns
returns g c = front g.row.D c.args.ranges.now c.kept.result c.requires.axes c.kept.ensures
