use Rattle.std.proofs.Common.{ap, option_map}
use Rattle.lg_session.specs.Names.{bound_of, environment}
use Rattle.lg_session.specs.Roots.{contents}
use Rattle.lg_session.proofs.HeldLemmas.{represents_start}
use Rattle.lg_session.proofs.session.Session.new.Goals as goal

pub returns-clause-start : goal.returns-clause-start
returns-clause-start c = represents_start (contents c.new-2.result) (environment c.new.result) (λ w. ap (option_map bound_of) (c.new.ensures w))
