use Rattle.lg_parse.proofs.TreeLemmas.{view_scan}
use Rattle.lg_parse.proofs.built.scan_tree.Goals as goal

pub returns : goal.returns
returns c = view_scan c.args.call c.args.a c.args.axis
