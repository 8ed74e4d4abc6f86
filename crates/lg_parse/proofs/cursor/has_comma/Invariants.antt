use Rattle.std.proofs.Common.{◌≡◌, ◌≤◌, drop}
use Rattle.lg_parse.specs.Parsing.{has_comma}
use Rattle.lg_parse.specs.Reading.{terminals_view}
use Rattle.lg_parse.proofs.cursor.has_comma.Given as goal

-- what is left is searched as the whole would be
abbrev pub invariant-loop-terminal : goal.invariant-loop-terminal
invariant-loop-terminal l = record {
  few : l.depth ≤ l.terminal-index;
  same : has_comma (terminals_view l.terminals) 0 ≡ has_comma (terminals_view (drop l.terminal-index l.terminals)) l.depth;
}
