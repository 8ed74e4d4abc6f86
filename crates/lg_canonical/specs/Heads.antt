-- The canonical text of the line of a statement, without its indentation and its end.
use Rattle.std.specs.Prelude.{ℕ, List}
use Rattle.lg_tree.specs.Tree.{loop, no_lines}
use Rattle.lg_tree.specs.Heads.{HeadTree, whole, loop_head}
use Rattle.lg_text.specs.Text.{head_text}

abbrev pub head_line : HeadTree → List ℕ
head_line (whole s) = head_text s
head_line (loop_head w from to) = head_text (loop w from to no_lines)
