use Rattle.std.proofs.Common.{◌≡◌, ◌<◌, ◌≤◌, length}
use Rattle.lg_tree.specs.View.{lines_of}
use Rattle.lg_blocks.specs.Rows.{HasLine}
use Rattle.lg_blocks.specs.Unfinished.{AreRead, unfinished_rows}
use Rattle.lg_blocks.proofs.unfinished.Unfinished.close.Given as goal

abbrev pub invariant-loop-self : goal.invariant-loop-self
invariant-loop-self l = record {
  same : unfinished_rows l.self ≡ unfinished_rows l.initial.self;
  full : AreRead l.self;
  begun : l.depth < length l.self.loops.items → HasLine (lines_of l.self.lines);
  deep : l.depth ≤ length l.self.loops.items;
}

abbrev pub decreases-loop-self : goal.decreases-loop-self
decreases-loop-self l = length l.self.loops.items
