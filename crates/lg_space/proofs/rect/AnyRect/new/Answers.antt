use Rattle.std.proofs.Common.{length, refl}
use Rattle.lg_space.proofs.Kept.{is_rect, front}
use Rattle.lg_space.proofs.rect.AnyRect.new.Goals as goal

pub invariant_of-result : goal.invariant_of-result
invariant_of-result c = is_rect (length c.args.ranges.now) c.args.ranges.now c.kept.result refl c.requires c.kept.ensures

pub returns : goal.returns
returns c = front (length c.args.ranges.now) c.args.ranges.now c.kept.result refl c.kept.ensures
