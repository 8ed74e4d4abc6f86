use Rattle.lg_parse.proofs.TreeLemmas.{view_reduce}
use Rattle.lg_parse.proofs.built.reduce_tree.Goals as goal

pub returns : goal.returns
returns c = view_reduce c.args.red c.args.a c.args.axis
