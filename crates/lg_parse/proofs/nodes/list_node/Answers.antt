use Rattle.std.proofs.Common.{arith}
use Rattle.lg_tree.specs.Measures.{list_height}
use Rattle.lg_tree.specs.View.{list_of}
use Rattle.lg_parse.proofs.HeightLemmas.{low_some, low_none}
use Rattle.lg_parse.proofs.nodes.list_node.Goals as goal

pub returns-then-highest-ge-HEIGHT_LIMIT : goal.returns-then-highest-ge-HEIGHT_LIMIT
returns-then-highest-ge-HEIGHT_LIMIT c = low_none list_height (list_of c.args.list) c.args.highest c.requires.highest (omega arith)

pub returns : goal.returns
returns c = low_some list_height (list_of c.args.list) c.args.highest c.requires.highest (omega arith)
