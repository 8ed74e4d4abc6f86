-- Blocks whose lines are numbered in their order.
use Rattle.std.specs.Prelude.{ℕ, suc, ◌+◌, List, [], ◌∷◌}
use Rattle.lg_tree.specs.Tree.{StatementTree, loop, LineTrees, no_lines, more_lines}
use Rattle.lg_blocks.specs.Rows.{Row, row}

abbrev mutual
  -- how many lines there are, those of blocks among them
  pub line_count : LineTrees → ℕ
  line_count no_lines = 0
  line_count (more_lines n s ls) = suc (block_count s + line_count ls)

  pub block_count : StatementTree → ℕ
  block_count (loop w from to ls) = line_count ls
  block_count _ = 0

abbrev mutual
  -- the same lines, numbered from k on
  pub renumbered : ℕ → LineTrees → LineTrees
  renumbered k no_lines = no_lines
  renumbered k (more_lines n s ls) =
      more_lines k (renumbered_block (suc k) s) (renumbered (suc k + block_count s) ls)

  pub renumbered_block : ℕ → StatementTree → StatementTree
  renumbered_block k (loop w from to ls) = loop w from to (renumbered k ls)
  renumbered_block k s = s

-- the same rows, numbered from k on
abbrev pub numbered : ℕ → List Row → List Row
numbered k [] = []
numbered k (r ∷ rs) = row k r.depth r.head ∷ numbered (suc k) rs
