use Rattle.lg_parse.proofs.TreeLemmas.{view_slice}
use Rattle.lg_parse.proofs.indices.slice_item.Goals as goal

pub returns : goal.returns
returns c = view_slice c.args.start c.args.stop c.args.step
