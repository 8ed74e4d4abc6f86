use Rattle.lg_session.proofs.StatementLemmas.{binds_weak, binds_shown}
use Rattle.lg_session.proofs.session.Session.bind_value.Goals as goal

pub returns-in_ok-bind-in-Weak-clause-outcome : goal.returns-in_ok-bind-in-Weak-clause-outcome
returns-in_ok-bind-in-Weak-clause-outcome c = λ state e stands m.
    binds_weak state e c.args.word.now c.args.self.now c.bind.new.self stands c.in_ok-bind-in-Weak.ensures.kept c.in-Weak.w (rw c.in-Weak.is at m) c.in_ok-bind-in-Weak.ensures.set

pub returns-in_ok-bind-in-Shown-clause-outcome : goal.returns-in_ok-bind-in-Shown-clause-outcome
returns-in_ok-bind-in-Shown-clause-outcome c = λ state e stands m.
    binds_shown state e c.args.word.now c.args.self.now c.bind-in-Shown.new.self stands c.in_ok-bind-in-Shown.ensures.kept c.in-Shown.view (rw c.in-Shown.is at m) c.in_ok-bind-in-Shown.ensures.set
