use Rattle.std.proofs.Common.{◌+◌, ◌-◌, ◌≤◌, length, sum_by}
use Rattle.lg_blocks.specs.Laws.{row_nodes}
use Rattle.lg_blocks.specs.Reader.{rows_read}
use Rattle.lg_grammar.specs.Script.{lines_of}
use Rattle.lg_grammar.specs.Lines.{lines_from}
use Rattle.lg_grammar.proofs.Reading.{ReadSoFar}
use Rattle.lg_grammar.proofs.scripts.read_script.Given as goal

-- the rows so far are those of the lines in front of the place
abbrev pub invariant-loop-start : goal.invariant-loop-start
invariant-loop-start l = record {
  within : l.start ≤ length l.bytes + 1;
  counted : l.number ≤ l.start;
  small : sum_by row_nodes (rows_read l.reader) ≤ l.start - 1;
  read : ReadSoFar (lines_of l.bytes) (lines_from l.bytes l.start) (l.number + 1) (rows_read l.reader);
}

abbrev pub decreases-loop-start : goal.decreases-loop-start
decreases-loop-start l = length l.bytes + 1 - l.start
