use Rattle.std.proofs.Common.{Some, List, ap, arith}
use Rattle.lg_tree.specs.Tree.{Tree}
use Rattle.lg_tree.specs.View.{tree_of}
use Rattle.lg_parse.proofs.TreeLemmas.{more_view, pushed, tree_height_more}
use Rattle.lg_parse.proofs.shapes.tree_added.Goals as goal

pub invariant_of-result : goal.invariant_of-result
invariant_of-result c = record {
  measured = tree_height_more c.args.found.members c.push.new.self c.args.last.tree c.args.found.height c.args.last.height c.max.result (pushed c.args.found.members c.in_ok-push.ensures.ok c.into_inner.ensures) c.args.found.measured c.args.last.measured c.max.ensures;
  low = omega (arith, c.max.ensures);
}

pub returns : goal.returns
returns c = ap (λ (z : List Tree). Some z) (more_view tree_of c.args.found.members c.push.new.self c.args.last.tree (pushed c.args.found.members c.in_ok-push.ensures.ok c.into_inner.ensures))
