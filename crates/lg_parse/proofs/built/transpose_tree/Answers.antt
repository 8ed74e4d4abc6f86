use Rattle.lg_parse.proofs.TreeLemmas.{view_transpose}
use Rattle.lg_parse.proofs.built.transpose_tree.Goals as goal

pub returns : goal.returns
returns c = view_transpose c.args.a c.args.axes
