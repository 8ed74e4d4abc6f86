use Rattle.std.proofs.Common.{arith}
use Rattle.lg_tree.specs.Measures.{shape_height}
use Rattle.lg_tree.specs.View.{shape_of}
use Rattle.lg_parse.proofs.HeightLemmas.{low_some, low_none}
use Rattle.lg_parse.proofs.nodes.shape_node.Goals as goal

pub returns-then-highest-ge-HEIGHT_LIMIT : goal.returns-then-highest-ge-HEIGHT_LIMIT
returns-then-highest-ge-HEIGHT_LIMIT c = low_none shape_height (shape_of c.args.shape) c.args.highest c.requires.highest (omega arith)

pub returns : goal.returns
returns c = low_some shape_height (shape_of c.args.shape) c.args.highest c.requires.highest (omega arith)
