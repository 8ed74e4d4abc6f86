use Rattle.std.proofs.Common.{arith, rules}
use Rattle.lg_tree.specs.Measures.{height}
use Rattle.lg_tree.specs.View.{tree_of}
use Rattle.lg_parse.proofs.HeightLemmas.{low_some, low_none}
use Rattle.lg_parse.proofs.nodes.node.Goals as goal

pub returns-then-highest-ge-HEIGHT_LIMIT : goal.returns-then-highest-ge-HEIGHT_LIMIT
returns-then-highest-ge-HEIGHT_LIMIT c = low_none height (tree_of c.args.tree) c.args.highest c.requires.highest (omega arith)

pub returns : goal.returns
returns c =
    let e = low_some height (tree_of c.args.tree) c.args.highest c.requires.highest (omega arith) in
    search rules
