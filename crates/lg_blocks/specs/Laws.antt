-- What blocks and rows have to do with each other.
use Rattle.std.specs.Prelude.{◌≡◌, ℕ, max, None, List, [], ◌∷◌, length, sum_by}
use Rattle.lg_tree.specs.Tree.{LineTree, LineTrees, line_trees}
use Rattle.lg_tree.specs.Heads.{head_height, head_nodes}
use Rattle.lg_tree.specs.Measures.{lines_height, lines_nodes, line_nodes}
use Rattle.lg_blocks.specs.Rows.{Row, rows_of, IsFull, Follows, last_of, IsClosed, AreHeads}
use Rattle.lg_blocks.specs.Renumbering.{line_count, renumbered, numbered}

-- lines are told by their rows
abbrev pub AreTold : Type 0
AreTold = (d : ℕ) (a b : LineTrees) → rows_of d a ≡ rows_of d b → a ≡ b

-- the rows of full blocks may follow one another, the last is the first line of no loop,
abbrev pub AreOrdered : Type 0
AreOrdered = (ls : LineTrees) → IsFull ls → Follows None (rows_of 0 ls)

abbrev pub AreClosed : Type 0
AreClosed = (ls : LineTrees) → IsFull ls → IsClosed (last_of None (rows_of 0 ls))

-- and each holds what a line can hold;
abbrev pub HaveHeads : Type 0
HaveHeads = (d : ℕ) (ls : LineTrees) → AreHeads (rows_of d ls)

-- and such rows are those of full blocks
abbrev pub AreRows : Type 0
AreRows = (rows : List Row) → Follows None rows → IsClosed (last_of None rows) → AreHeads rows
    → (ls : LineTrees) × ((rows_of 0 ls ≡ rows) × IsFull ls)

-- there are as many rows as lines
abbrev pub AreCounted : Type 0
AreCounted = (d : ℕ) (ls : LineTrees) → length (rows_of d ls) ≡ line_count ls

-- the rows of renumbered lines are the rows, numbered
abbrev pub AreNumbered : Type 0
AreNumbered = (d k : ℕ) (ls : LineTrees) → rows_of d (renumbered k ls) ≡ numbered k (rows_of d ls)

-- and they are full where the lines are
abbrev pub StayFull : Type 0
StayFull = (k : ℕ) (ls : LineTrees) → IsFull ls → IsFull (renumbered k ls)

-- the nodes of blocks are those of their rows,
abbrev pub row_nodes : Row → ℕ
row_nodes r = head_nodes r.head

abbrev pub AreNodes : Type 0
AreNodes = (d : ℕ) (ls : LineTrees) → lines_nodes ls ≡ sum_by row_nodes (rows_of d ls)

-- and those of a list of lines
abbrev pub AreListed : Type 0
AreListed = (lines : List LineTree) → sum_by line_nodes lines ≡ lines_nodes (line_trees lines)

-- and the highest of their trees is the highest of a row
abbrev pub rows_height : List Row → ℕ
rows_height [] = 0
rows_height (r ∷ rs) = max (head_height r.head) (rows_height rs)

abbrev pub AreAsHigh : Type 0
AreAsHigh = (d : ℕ) (ls : LineTrees) → lines_height ls ≡ rows_height (rows_of d ls)
