use Rattle.std.proofs.Common.{Some, List, ap, arith}
use Rattle.lg_tree.specs.Tree.{ListTree}
use Rattle.lg_tree.specs.View.{list_of}
use Rattle.lg_parse.proofs.TreeLemmas.{more_view, list_height_more}
use Rattle.lg_parse.proofs.lists.entry_added.Goals as goal

pub invariant_of-result : goal.invariant_of-result
invariant_of-result c = record {
  measured = list_height_more c.args.found.members c.push.new.self c.args.last.list c.args.found.height c.args.last.height c.max.result c.in_ok-push.ensures.ok c.args.found.measured c.args.last.measured c.max.ensures;
  low = omega (arith, c.max.ensures);
}

pub returns : goal.returns
returns c = ap (λ (z : List ListTree). Some z) (more_view list_of c.args.found.members c.push.new.self c.args.last.list c.in_ok-push.ensures.ok)
