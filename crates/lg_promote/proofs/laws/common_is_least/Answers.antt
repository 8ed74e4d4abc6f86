use Rattle.lg_promote.proofs.Covering.{common_least}
use Rattle.lg_promote.proofs.laws.common_is_least.Goals as goal

pub returns-clause-least : goal.returns-clause-least
returns-clause-least c = common_least
