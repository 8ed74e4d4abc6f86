use Rattle.std.proofs.Common.{◌≤◌}
use Rattle.lg_parse.specs.Reading.{terminals_view}
use Rattle.lg_parse.proofs.BracketLemmas.{ShallowTo}
use Rattle.lg_parse.proofs.brackets.is_shallow.Given as goal

-- the brackets are counted up to here, and no more were open than may be
abbrev pub invariant-loop-terminal : goal.invariant-loop-terminal
invariant-loop-terminal l = record {
  few_opened : l.opened ≤ l.terminal-index;
  few_closed : l.closed ≤ l.terminal-index;
  shallow : ShallowTo (terminals_view l.terminals) l.terminal-index l.opened l.closed;
}
