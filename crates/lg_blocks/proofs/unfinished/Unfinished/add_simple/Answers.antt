use Rattle.std.proofs.Common.{length, refl}
use Rattle.lg_tree.specs.View.{lines_of, statement_of}
use Rattle.lg_blocks.proofs.States.{whole_rows, whole_ends, whole_full}
use Rattle.lg_blocks.proofs.unfinished.Unfinished.add_simple.Goals as goal

pub returns-clause-rows : goal.returns-clause-rows
returns-clause-rows c =
    let u = c.args.self.now in
    let s = c.args.simple in
    whole_rows u.loops.items (lines_of u.lines) (lines_of c.push_line.new.lines) c.args.number (length u.loops.items) (statement_of s.statement) s.simple refl c.in_ok-push_line.ensures

pub returns-clause-full : goal.returns-clause-full
returns-clause-full c =
    let u = c.args.self.now in
    let s = c.args.simple in
    (c.requires.0, whole_full (lines_of u.lines) (lines_of c.push_line.new.lines) c.args.number (statement_of s.statement) s.simple c.in_ok-push_line.ensures c.requires.1)

pub returns-clause-end : goal.returns-clause-end
returns-clause-end c =
    let u = c.args.self.now in
    let s = c.args.simple in
    whole_ends u.loops.items (lines_of u.lines) (lines_of c.push_line.new.lines) c.args.number (statement_of s.statement) s.simple c.in_ok-push_line.ensures
