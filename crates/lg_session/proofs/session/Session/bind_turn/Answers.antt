use Rattle.std.proofs.Common.{rules}
use Rattle.lg_session.proofs.LoopLemmas.{turn_bound}
use Rattle.lg_session.proofs.session.Session.bind_turn.Goals as goal

pub returns-in-Ok-clause-done : goal.returns-in-Ok-clause-done
returns-in-Ok-clause-done c = λ state stands.
    turn_bound state c.args.name.now c.args.value _ c.args.self.now c.bind.new.self (search rules) stands c.in-Ok.ensures.kept c.in-Ok.ensures.set
