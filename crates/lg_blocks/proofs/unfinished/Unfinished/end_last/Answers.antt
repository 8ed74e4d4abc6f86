use Rattle.lg_tree.specs.View.{lines_of}
use Rattle.lg_blocks.proofs.States.{Ending, ending, ending_rows, ending_full, ending_line, ending_fewer}
use Rattle.lg_blocks.proofs.unfinished.Unfinished.end_last.Goals as goal

pub returns : goal.returns
returns c =
    let u = c.args.self.now in
    let v = c.end.new.self in
    let x : Ending u.loops.items v.loops.items (lines_of u.lines) (lines_of v.lines)
    = ending u.loops.items c.pop.new.self.items v.loops.items c.unwrap-ended.result c.pop.result (lines_of u.lines) (lines_of v.lines) c.pop.ensures.items c.unwrap-ended.ensures c.in_ok-end.ensures.loops c.in_ok-end.ensures.lines in
    record {
      rows = ending_rows u.loops.items v.loops.items (lines_of u.lines) (lines_of v.lines) x;
      full = ending_full u.loops.items v.loops.items (lines_of u.lines) (lines_of v.lines) x c.requires.full.0 c.requires.full.1 c.requires.begun;
      begun = ending_line u.loops.items v.loops.items (lines_of u.lines) (lines_of v.lines) x;
      fewer = ending_fewer u.loops.items v.loops.items (lines_of u.lines) (lines_of v.lines) x;
    }
