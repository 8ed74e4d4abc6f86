use Rattle.std.proofs.Common.{◌≡◌, ◌≤◌, false, drop, None}
use Rattle.lg_tree.specs.View.{lines_of}
use Rattle.lg_meaning.specs.Loops.{turn_count}
use Rattle.lg_meaning.specs.Run.{MAX_STATEMENTS, run_lines, turns, looped}
use Rattle.lg_meaning.specs.Weak.{integer}
use Rattle.lg_session.specs.Built.{unbuilt_in}
use Rattle.lg_operations.specs.Operations.{IsRanged}
use Rattle.lg_session.specs.Session.{is_spent}
use Rattle.lg_session.specs.Turns.{bounds_in}
use Rattle.legate.proofs.Walks.{Midway}
use Rattle.legate.proofs.walk.+lines.Given as goal

abbrev pub invariant-run_lines-loop-line : goal.invariant-run_lines-loop-line
invariant-run_lines-loop-line g l = record {
  midway : Midway l.fn.count l.count (run_lines (lines_of l.lines)) (run_lines (lines_of (drop l.line-index l.lines))) (g.K.Sink.written l.fn.out) (g.K.Sink.written l.out) l.fn.session l.session;
  unspent : is_spent l.session ≡ false;
  built : unbuilt_in (lines_of (drop l.line-index l.lines)) ≡ None;
  later : g.K.Sink.faults l.fn.out ≤ g.K.Sink.faults l.out;
  counted : l.fn.count ≤ l.count;
  few : l.count ≤ MAX_STATEMENTS;
}

abbrev pub invariant-run_turns-loop-value : goal.invariant-run_turns-loop-value
invariant-run_turns-loop-value g l = record {
  midway : Midway l.fn.count l.count (looped (run_lines (lines_of l.body)) l.name (bounds_in l.turns)) (turns (run_lines (lines_of l.body)) l.name (turn_count (l.value, l.turns.to)) l.value)
      (g.K.Sink.written l.fn.out) (g.K.Sink.written l.out) l.fn.session l.session;
  unspent : is_spent l.session ≡ false;
  ranged : IsRanged (integer l.value);
  later : g.K.Sink.faults l.fn.out ≤ g.K.Sink.faults l.out;
  counted : l.fn.count ≤ l.count;
  few : l.count ≤ MAX_STATEMENTS;
}

abbrev pub decreases-run_turns-loop-value : goal.decreases-run_turns-loop-value
decreases-run_turns-loop-value g l = turn_count (l.value, l.turns.to)
