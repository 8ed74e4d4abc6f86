use Rattle.lg_parse.proofs.TreeLemmas.{view_arange}
use Rattle.lg_parse.proofs.built.arange_tree.Goals as goal

pub returns : goal.returns
returns c = view_arange c.args.start c.args.stop c.args.dtype
