use Rattle.std.proofs.Common.{Ok}
use Rattle.lg_tree.specs.Tree.{name, arith}
use Rattle.lg_tree.specs.View.{tree_of}
use Rattle.lg_session.proofs.FormLemmas.{arith_outcome}
use Rattle.lg_session.proofs.session.Session.update_anew.Goals as goal

pub returns-clause-outcome : goal.returns-clause-outcome
returns-clause-outcome c = λ state stands.
    let a = name c.args.word.now in
    let b = tree_of c.args.value.now in
    c.bind_value.ensures.outcome state (arith c.args.op a b) stands
    (arith_outcome state c.args.self.now (Ok c.in_ok-result.result) a b c.in_ok-a.a c.in_ok-b.b (c.in_ok-a.ensures.outcome state stands) (c.in_ok-b.ensures.outcome state stands)
    c.args.op c.in_ok-result.ensures.computed)
