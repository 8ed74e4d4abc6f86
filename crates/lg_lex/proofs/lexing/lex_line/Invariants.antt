use Rattle.std.proofs.Common.{◌-◌, ◌≤◌, length, All}
use Rattle.lg_lex.specs.Line.{Stands, Holds}
use Rattle.lg_lex.proofs.lexing.lex_line.Given as goal

-- the tokens so far are those of the line up to the place
abbrev pub invariant-loop-place : goal.invariant-loop-place
invariant-loop-place l = record {
  within : l.place ≤ length l.line;
  inside : All (Stands l.line) l.tokens.items;
  holds : Holds l.line 0 l.tokens.items l.place;
}

abbrev pub decreases-loop-place : goal.decreases-loop-place
decreases-loop-place l = length l.line - l.place
