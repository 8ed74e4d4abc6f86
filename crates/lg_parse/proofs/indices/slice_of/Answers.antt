use Rattle.std.proofs.Common.{arith, rules}
use Rattle.lg_tree.specs.Measures.{item_height}
use Rattle.lg_tree.specs.Tree.{slice}
use Rattle.lg_parse.specs.Parts.{parsed_part}
use Rattle.lg_parse.proofs.HeightLemmas.{low_yes, low_no}
use Rattle.lg_parse.proofs.indices.slice_of.Goals as goal

pub returns-in-None : goal.returns-in-None
returns-in-None c = low_no item_height (slice (parsed_part c.args.start) (parsed_part c.args.stop) (parsed_part c.args.step)) c.in-None.ensures.high

pub returns-in-Some : goal.returns-in-Some
returns-in-Some c =
    let low = low_yes item_height (slice (parsed_part c.args.start) (parsed_part c.args.stop) (parsed_part c.args.step)) (omega (arith, c.in-Some.ensures.low, c.in-Some.ensures.height)) in
    search rules
