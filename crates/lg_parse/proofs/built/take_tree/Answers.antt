use Rattle.lg_parse.proofs.TreeLemmas.{view_take}
use Rattle.lg_parse.proofs.built.take_tree.Goals as goal

pub returns : goal.returns
returns c = view_take c.args.a c.args.i c.args.axis
