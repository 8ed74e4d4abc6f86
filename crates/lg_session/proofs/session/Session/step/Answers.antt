use Rattle.lg_session.proofs.StatementLemmas.{stops_seen}
use Rattle.lg_session.proofs.session.Session.step.Goals as goal

pub returns-in-Err-clause-stopped : goal.returns-in-Err-clause-stopped
returns-in-Err-clause-stopped c = λ state stands.
    rw c.at.ensures (stops_seen c.args.line.now state c.execute.new.self c.in-Err.end (c.in-Err.ensures.outcome state stands))
