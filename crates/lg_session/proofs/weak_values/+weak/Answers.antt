use Rattle.std.proofs.Common.{Ok, ap, ◌∙◌}
use Rattle.lg_tree.specs.Tree.{arith}
use Rattle.lg_tree.specs.View.{tree_of}
use Rattle.lg_session.specs.declared.value.Value.TheVariants.{Weak as WeakValue}
use Rattle.lg_session.proofs.FormLemmas.{arith_outcome}
use Rattle.lg_session.proofs.TreeLemmas.{tree-Arith, means_of, outcome_of}
use Rattle.lg_session.proofs.weak_values.+weak.Goals as goal

pub returns-in_ok-w-in-Arith-clause-means : goal.returns-in_ok-w-in-Arith-clause-means
returns-in_ok-w-in-Arith-clause-means t c = λ state stands.
    let session = c.args.session.now in
    let a = c.in-Arith.a in
    let b = c.in-Arith.b in
    outcome_of state session (tree_of c.args.value.now) (arith c.in-Arith.op (tree_of a) (tree_of b)) (Ok (WeakValue c.in_ok-w-in-Arith.w)) (ap tree_of c.in-Arith.is ∙ tree-Arith c.in-Arith.op a b)
    (arith_outcome state session (Ok (WeakValue c.in_ok-w-in-Arith.w)) (tree_of a) (tree_of b) (WeakValue c.in_ok-a-in-Arith.a) (WeakValue c.in_ok-b-in-Arith.b)
    (means_of state session _ a _ c.get.ensures (c.in_ok-a-in-Arith.ensures.means state stands))
    (means_of state session _ b _ c.get-in-Arith.ensures (c.in_ok-b-in-Arith.ensures.means state stands)) c.in-Arith.op c.in_ok-w-in-Arith.ensures.computed)
