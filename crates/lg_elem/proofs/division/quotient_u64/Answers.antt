use Rattle.lg_elem.proofs.Floors.{unsigned_floor}
use Rattle.lg_elem.proofs.division.quotient_u64.Goals as goal

pub returns-else-y-eq0 : goal.returns-else-y-eq0
returns-else-y-eq0 c = unsigned_floor c.args.x c.args.y c.if-y-eq0.false
