use Rattle.std.proofs.Common.{ap}
use Rattle.lg_tree.specs.HeadView.{head_of}
use Rattle.lg_tree.specs.View.{lines_of}
use Rattle.lg_blocks.proofs.States.{placed, row_at}
use Rattle.lg_blocks.proofs.unfinished.Unfinished.add.Goals as goal

pub close-requires : goal.close-requires
close-requires c =
    let u = c.args.self.now in
    let place = placed u.loops.items (lines_of u.lines) c.requires.end c.args.depth c.requires.may in
    record { full = c.requires.full; begun = place.1; deep = place.0 }

pub returns-in_ok-add_simple-in-Whole-clause-rows : goal.returns-in_ok-add_simple-in-Whole-clause-rows
returns-in_ok-add_simple-in-Whole-clause-rows c =
    row_at c.args.number _ (head_of c.args.head) c.in_ok-close.ensures.rows c.in_ok-add_simple-in-Whole.ensures.rows c.in_ok-close.ensures.deep (ap head_of c.in-Whole.is)

pub returns-in_ok-open_loop-in-For-clause-rows : goal.returns-in_ok-open_loop-in-For-clause-rows
returns-in_ok-open_loop-in-For-clause-rows c =
    row_at c.args.number _ (head_of c.args.head) c.in_ok-close.ensures.rows c.in_ok-open_loop-in-For.ensures.rows c.in_ok-close.ensures.deep (ap head_of c.in-For.is)
