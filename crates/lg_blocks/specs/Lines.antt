-- One line behind others.
use Rattle.std.specs.Prelude.{ℕ}
use Rattle.lg_tree.specs.Tree.{StatementTree, LineTrees, no_lines, more_lines}

abbrev pub with_line : LineTrees → ℕ → StatementTree → LineTrees
with_line no_lines n s = more_lines n s no_lines
with_line (more_lines m t ls) n s = more_lines m t (with_line ls n s)
