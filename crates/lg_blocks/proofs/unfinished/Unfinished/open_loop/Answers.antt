use Rattle.std.proofs.Common.{◌∙◌}
use Rattle.lg_blocks.specs.declared.unfinished.OpenLoop.{OpenLoop}
use Rattle.lg_blocks.proofs.States.{Opening, opening_rows, opening_full, opening_ends}
use Rattle.lg_blocks.proofs.unfinished.Unfinished.open_loop.Goals as goal

pub returns-clause-rows : goal.returns-clause-rows
returns-clause-rows c =
    let u = c.args.self.now in
    let o : OpenLoop = record { number = c.args.number; name = c.args.name; from = c.args.from; to = c.args.to; before = c.replace-before.result } in
    let x : Opening u.loops.items c.push.new.self.items u.lines c.replace-before.new.dest o = record { split = c.in_ok-push.ensures.items; before = c.replace-before.ensures.value; empty = c.replace-before.ensures.after ∙ c.new.ensures } in
    opening_rows u.loops.items c.push.new.self.items u.lines c.replace-before.new.dest o x

pub returns-clause-full : goal.returns-clause-full
returns-clause-full c =
    let u = c.args.self.now in
    let o : OpenLoop = record { number = c.args.number; name = c.args.name; from = c.args.from; to = c.args.to; before = c.replace-before.result } in
    let x : Opening u.loops.items c.push.new.self.items u.lines c.replace-before.new.dest o = record { split = c.in_ok-push.ensures.items; before = c.replace-before.ensures.value; empty = c.replace-before.ensures.after ∙ c.new.ensures } in
    opening_full u.loops.items c.push.new.self.items u.lines c.replace-before.new.dest o x c.requires.0 c.requires.1

pub returns-clause-end : goal.returns-clause-end
returns-clause-end c =
    let u = c.args.self.now in
    let o : OpenLoop = record { number = c.args.number; name = c.args.name; from = c.args.from; to = c.args.to; before = c.replace-before.result } in
    let x : Opening u.loops.items c.push.new.self.items u.lines c.replace-before.new.dest o = record { split = c.in_ok-push.ensures.items; before = c.replace-before.ensures.value; empty = c.replace-before.ensures.after ∙ c.new.ensures } in
    opening_ends u.loops.items c.push.new.self.items u.lines c.replace-before.new.dest o x
