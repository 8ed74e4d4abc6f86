use Rattle.std.proofs.Common.{◌≡◌, ℕ, ◌+◌, ◌≤◌, ◌<◌, arith, refl, sym, ap, subst, ◌∙◌, drop, None, OnOk, IfErr, rules, to_z}
use Rattle.std.specs.Int.{w128}
use Rattle.std.proofs.lemmas.Result.{err_from_is_err_and}
use Rattle.std.proofs.lemmas.List.{drop_all}
use Rattle.lg_tree.specs.View.{line_of, lines_of}
use Rattle.lg_meaning.specs.Run.{Progress, run_lines, run_line, looped}
use Rattle.lg_session.specs.Built.{unbuilt_in}
use Rattle.lg_session.specs.Session.{is_spent}
use Rattle.lg_session.specs.Turns.{bounds_in}
use Rattle.legate.specs.Running.{Goes, Halts, Cuts}
use Rattle.legate.proofs.Walks.{midway_none, midway_more, midway_done, midway_stops, midway_cut, midway_full}
use Rattle.legate.proofs.Runs.{lines_run, turns_run}
use Rattle.legate.proofs.Blocks.{lines_split, lines_built, lines_end, err_of, as_line, turns_seen, loop_goes, loop_halts, loop_cuts, step_built}
use Rattle.legate.proofs.Turns.{turns_begin, turns_end, turn_done, turn_stops, turn_cut, ranged_first, ranged_next, test_true, test_false}
use Rattle.legate.proofs.walk.+lines.Goals as goal

pub run_lines-loop-line-init : goal.run_lines-loop-line-init
run_lines-loop-line-init g t c = record {
  midway = midway_none c.args.count.now (run_lines (lines_of c.args.lines.now)) (g.K.Sink.written c.args.out.now) c.args.session.now;
  unspent = c.requires.going;
  built = c.requires.built;
  later = omega arith;
  counted = omega arith;
  few = c.requires.few;
}

pub run_lines-loop-line-preserved : goal.run_lines-loop-line-preserved
run_lines-loop-line-preserved g t c =
    let v = c.loop-line.invariant in
    let e = c.in_ok-run_line.ensures in
    let l = line_of c.line-item.result in
    record {
      midway = midway_more c.args.count.now c.loop-line.count (run_lines (lines_of c.args.lines.now)) (run_lines (lines_of (drop c.loop-line.line-index c.args.lines.now)))
          _ _ c.args.session.now c.loop-line.session v.midway v.counted c.run_line.new.count (run_line l.number l.statement)
          (run_lines (lines_of (drop (c.loop-line.line-index + 1) c.args.lines.now))) _ c.run_line.new.session e.counted e.done
          (lines_split c.args.lines.now c.loop-line.line-index c.line-item.result c.loop-line-test.true c.line-item.is);
      unspent = e.unspent;
      built = (lines_built c.args.lines.now c.loop-line.line-index c.line-item.result c.loop-line-test.true c.line-item.is v.built).1;
      later = omega (arith, v.later, e.later);
      counted = omega (arith, v.counted, e.counted);
      few = e.few;
    }

pub run_lines-returns-in_err-run_line-clause-stopped : goal.run_lines-returns-in_err-run_line-clause-stopped
run_lines-returns-in_err-run_line-clause-stopped g t c =
    let v = c.loop-line.invariant in
    let l = line_of c.line-item.result in
    let p = err_from_is_err_and c.from_residual.result c.from_residual.ensures.1 in
    rw (p.1, p.2) (midway_stops c.args.count.now c.loop-line.count (run_lines (lines_of c.args.lines.now)) (run_lines (lines_of (drop c.loop-line.line-index c.args.lines.now)))
    _ _ c.args.session.now c.loop-line.session v.midway v.counted v.few c.in_err-run_line.field-0.0 (run_line l.number l.statement)
    (run_lines (lines_of (drop (c.loop-line.line-index + 1) c.args.lines.now))) _ c.in_err-run_line.ensures.stopped
    (lines_run (lines_of (drop (c.loop-line.line-index + 1) c.args.lines.now)))
    (lines_split c.args.lines.now c.loop-line.line-index c.line-item.result c.loop-line-test.true c.line-item.is))

pub run_lines-returns-in_err-run_line-clause-cut : goal.run_lines-returns-in_err-run_line-clause-cut
run_lines-returns-in_err-run_line-clause-cut g t c = λ no.
    let v = c.loop-line.invariant in
    let l = line_of c.line-item.result in
    let p = err_from_is_err_and c.from_residual.result c.from_residual.ensures.1 in
    midway_cut c.args.count.now c.loop-line.count (run_lines (lines_of c.args.lines.now)) (run_lines (lines_of (drop c.loop-line.line-index c.args.lines.now)))
    _ _ c.args.session.now c.loop-line.session v.midway v.counted c.run_line.new.count (run_line l.number l.statement)
    (run_lines (lines_of (drop (c.loop-line.line-index + 1) c.args.lines.now))) _ c.in_err-run_line.ensures.counted
    (c.in_err-run_line.ensures.cut (err_of c.from_residual.result p.0 c.in_err-run_line.field-0.0 p.1 p.2 no))
    (lines_run (lines_of (drop (c.loop-line.line-index + 1) c.args.lines.now)))
    (lines_split c.args.lines.now c.loop-line.line-index c.line-item.result c.loop-line-test.true c.line-item.is)

pub run_lines-returns-clause-done : goal.run_lines-returns-clause-done
run_lines-returns-clause-done g t c =
    midway_done c.args.count.now c.loop-line.count (run_lines (lines_of c.args.lines.now)) (run_lines (lines_of (drop c.loop-line.line-index c.args.lines.now)))
    _ _ c.args.session.now c.loop-line.session c.loop-line.invariant.midway c.loop-line.invariant.counted
    (lines_end c.args.lines.now c.loop-line.line-index c.loop-line-test.false)

-- ---- the line of a loop

pub run_loop-returns-clause-done : goal.run_loop-returns-clause-done
run_loop-returns-clause-done g t c =
    loop_goes c.args.number c.args.statement.now c.in-For.name c.in-For.from c.in-For.to c.in-For.body c.in-For.is c.args.count.now c.run_block.new.count _ _ c.args.session.now c.open_loop.new.self c.run_block.new.session c.in-Ok.ensures.same
    c.requires.few c.run_block.ensures.counted (bounds_in c.in-Ok.turns) c.in-Ok.ensures.done c.run_block.result c.run_block.ensures.done

pub run_loop-returns-clause-stopped : goal.run_loop-returns-clause-stopped
run_loop-returns-clause-stopped g t c =
    loop_halts c.args.number c.args.statement.now c.in-For.name c.in-For.from c.in-For.to c.in-For.body c.in-For.is c.args.count.now c.run_block.new.count _ _ c.args.session.now c.open_loop.new.self c.run_block.new.session c.in-Ok.ensures.same
    c.requires.few c.run_block.ensures.counted (bounds_in c.in-Ok.turns) c.in-Ok.ensures.done c.run_block.result c.run_block.ensures.stopped

pub run_loop-returns-clause-cut : goal.run_loop-returns-clause-cut
run_loop-returns-clause-cut g t c = λ no.
    loop_cuts c.args.number c.args.statement.now c.in-For.name c.in-For.from c.in-For.to c.in-For.body c.in-For.is c.args.count.now c.run_block.new.count _ _ c.args.session.now c.open_loop.new.self c.run_block.new.session c.in-Ok.ensures.same
    c.requires.few c.run_block.ensures.counted (bounds_in c.in-Ok.turns) c.in-Ok.ensures.done (c.run_block.ensures.cut no)

-- ---- the turns

pub run_turns-loop-value-init : goal.run_turns-loop-value-init
run_turns-loop-value-init g t c = record {
  midway = turns_begin (lines_of c.args.body.now) c.args.name.now c.args.turns.from c.args.turns.to _ c.args.count.now (g.K.Sink.written c.args.out.now) c.args.session.now (search rules);
  unspent = c.requires.going;
  ranged = ranged_first c.args.turns.from _ (search rules) c.requires.ranged.0;
  later = omega arith;
  counted = omega arith;
  few = c.requires.few;
}

pub run_turns-returns-in_default-clause-cut : goal.run_turns-returns-in_default-clause-cut
run_turns-returns-in_default-clause-cut g t c = λ no.
    let v = c.loop-value.invariant in
    let ls = lines_of c.args.body.now in
    midway_full c.args.count.now c.loop-value.count (looped (run_lines ls) c.args.name.now (bounds_in c.args.turns)) _ _ _ c.args.session.now c.loop-value.session v.midway v.counted
    (turns_run ls c.args.name.now _ _)

pub run_turns-returns-in_err-run_lines-clause-stopped : goal.run_turns-returns-in_err-run_lines-clause-stopped
run_turns-returns-in_err-run_lines-clause-stopped g t c =
    let v = c.loop-value.invariant in
    let ls = lines_of c.args.body.now in
    let p = err_from_is_err_and c.from_residual.result c.from_residual.ensures.1 in
    rw (p.1, p.2) (turn_stops ls c.args.name.now (to_z w128 c.loop-value.value-bits) c.args.turns.to (test_true (to_z w128 c.loop-value.value-bits) c.args.turns.to _ (search rules) c.loop-value-test.true) c.args.count.now c.loop-value.count
    (looped (run_lines ls) c.args.name.now (bounds_in c.args.turns)) _ _ c.args.session.now c.loop-value.session c.bind_turn.new.self v.midway v.counted c.in-Ok.ensures.done
    v.few c.in_err-run_lines.field-0.0 _ c.in_err-run_lines.ensures.stopped)

pub run_turns-returns-in_err-run_lines-clause-cut : goal.run_turns-returns-in_err-run_lines-clause-cut
run_turns-returns-in_err-run_lines-clause-cut g t c = λ no.
    let v = c.loop-value.invariant in
    let ls = lines_of c.args.body.now in
    let p = err_from_is_err_and c.from_residual.result c.from_residual.ensures.1 in
    turn_cut ls c.args.name.now (to_z w128 c.loop-value.value-bits) c.args.turns.to (test_true (to_z w128 c.loop-value.value-bits) c.args.turns.to _ (search rules) c.loop-value-test.true) c.args.count.now c.loop-value.count
    (looped (run_lines ls) c.args.name.now (bounds_in c.args.turns)) _ _ c.args.session.now c.loop-value.session c.bind_turn.new.self v.midway v.counted c.in-Ok.ensures.done
    c.run_lines.new.count _ c.in_err-run_lines.ensures.counted
    (c.in_err-run_lines.ensures.cut (err_of c.from_residual.result p.0 c.in_err-run_lines.field-0.0 p.1 p.2 no))

pub run_turns-loop-value-preserved : goal.run_turns-loop-value-preserved
run_turns-loop-value-preserved g t c =
    let v = c.loop-value.invariant in
    let e = c.in_ok-run_lines.ensures in
    let ls = lines_of c.args.body.now in
    record {
      midway = turn_done ls c.args.name.now (to_z w128 c.loop-value.value-bits) c.args.turns.to (test_true (to_z w128 c.loop-value.value-bits) c.args.turns.to _ (search rules) c.loop-value-test.true) c.args.count.now c.loop-value.count
          (looped (run_lines ls) c.args.name.now (bounds_in c.args.turns)) _ _ c.args.session.now c.loop-value.session c.bind_turn.new.self v.midway v.counted c.in-Ok.ensures.done
          c.run_lines.new.count _ c.run_lines.new.session _ (search rules) e.counted e.done;
      unspent = e.unspent;
      ranged = ranged_next (to_z w128 c.loop-value.value-bits) c.args.turns.to _ (search rules) (test_true (to_z w128 c.loop-value.value-bits) c.args.turns.to _ (search rules) c.loop-value-test.true) v.ranged c.requires.ranged.1;
      later = omega (arith, v.later, e.later);
      counted = omega (arith, v.counted, e.counted);
      few = e.few;
    }

pub run_turns-returns-clause-done : goal.run_turns-returns-clause-done
run_turns-returns-clause-done g t c =
    let v = c.loop-value.invariant in
    let ls = lines_of c.args.body.now in
    midway_done c.args.count.now c.loop-value.count (looped (run_lines ls) c.args.name.now (bounds_in c.args.turns)) _ _ _ c.args.session.now c.loop-value.session v.midway v.counted
    (turns_end ls c.args.name.now (to_z w128 c.loop-value.value-bits) c.args.turns.to (test_false (to_z w128 c.loop-value.value-bits) c.args.turns.to _ (search rules) c.loop-value-test.false))

-- ---- the block

pub run_block-returns-in-For-clause-done : goal.run_block-returns-in-For-clause-done
run_block-returns-in-For-clause-done g t c =
    subst (λ (f : Progress → Progress). OnOk c.run_turns.result (Goes c.args.count.now c.run_turns.new.count f (g.K.Sink.written c.args.out.now) (g.K.Sink.written c.run_turns.new.out) c.args.session.now c.run_turns.new.session))
    (turns_seen 0 c.args.statement.now c.in-For.name c.in-For.from c.in-For.to c.in-For.body c.in-For.is (bounds_in c.args.turns) c.as_slice.result.now c.as_slice-in-For.result.now c.as_slice.ensures c.as_slice-in-For.ensures)
    c.run_turns.ensures.done

pub run_block-returns-in-For-clause-stopped : goal.run_block-returns-in-For-clause-stopped
run_block-returns-in-For-clause-stopped g t c =
    subst (λ (f : Progress → Progress). IfErr c.run_turns.result (λ stop. Halts stop c.args.count.now f (g.K.Sink.written c.args.out.now) (g.K.Sink.written c.run_turns.new.out) c.args.session.now))
    (turns_seen 0 c.args.statement.now c.in-For.name c.in-For.from c.in-For.to c.in-For.body c.in-For.is (bounds_in c.args.turns) c.as_slice.result.now c.as_slice-in-For.result.now c.as_slice.ensures c.as_slice-in-For.ensures)
    c.run_turns.ensures.stopped

pub run_block-returns-in-For-clause-cut : goal.run_block-returns-in-For-clause-cut
run_block-returns-in-For-clause-cut g t c = λ no.
    subst (λ (f : Progress → Progress). Cuts c.args.count.now c.run_turns.new.count f (g.K.Sink.written c.args.out.now) (g.K.Sink.written c.run_turns.new.out) c.args.session.now)
    (turns_seen 0 c.args.statement.now c.in-For.name c.in-For.from c.in-For.to c.in-For.body c.in-For.is (bounds_in c.args.turns) c.as_slice.result.now c.as_slice-in-For.result.now c.as_slice.ensures c.as_slice-in-For.ensures)
    (c.run_turns.ensures.cut no)

-- ---- a loop as a line

pub run_line-returns-in-For-clause-done : goal.run_line-returns-in-For-clause-done
run_line-returns-in-For-clause-done g t c =
    as_line c.args.line.now
    (λ l. OnOk c.run_loop.result (Goes c.args.count.now c.run_loop.new.count (run_line l.number l.statement) (g.K.Sink.written c.args.out.now) (g.K.Sink.written c.run_loop.new.out) c.args.session.now c.run_loop.new.session))
    c.run_loop.ensures.done

pub run_line-returns-in-For-clause-cut : goal.run_line-returns-in-For-clause-cut
run_line-returns-in-For-clause-cut g t c = λ no.
    as_line c.args.line.now
    (λ l. Cuts c.args.count.now c.run_loop.new.count (run_line l.number l.statement) (g.K.Sink.written c.args.out.now) (g.K.Sink.written c.run_loop.new.out) c.args.session.now)
    (c.run_loop.ensures.cut no)

pub run_line-step_line-requires : goal.run_line-step_line-requires
run_line-step_line-requires g t c = record {
  going = c.requires.going;
  built = step_built c.args.line.now c.in_default.not-For c.requires.built;
  few = omega (arith, c.requires.few, c.if-count-eq-MAX_STATEMENTS.false);
}
