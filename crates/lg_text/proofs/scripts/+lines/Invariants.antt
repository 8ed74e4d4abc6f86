use Rattle.std.proofs.Common.{◌≡◌, ◌++◌, ◌*◌, ℕ, drop, replicate}
use Rattle.lg_text.specs.Text.{lines_text}
use Rattle.lg_tree.specs.View.{lines_of}
use Rattle.lg_text.proofs.scripts.+lines.Given as goal

abbrev pub invariant-write_lines-loop-line : goal.invariant-write_lines-loop-line
invariant-write_lines-loop-line l = (d : ℕ) → l.indent ≡ replicate (4 * d) 32 → l.out.items ++ lines_text d (lines_of (drop l.line-index l.lines)) ≡ l.initial.out.items ++ lines_text d (lines_of l.lines)
