-- How the statements of a script stand in blocks: as a list of rows, one for each line that holds
-- a statement. Blocks by indentation are Python's.
use Rattle.std.specs.Prelude.{◌≡◌, ℕ, suc, ◌≤◌, Option, None, Some, List, [], ◌∷◌, ◌++◌}
use Rattle.lg_tree.specs.Tree.{StatementTree, loop, LineTrees, no_lines, more_lines}
use Rattle.lg_tree.specs.Heads.{HeadTree, whole, loop_head, IsHead, first_line}

-- a line that holds a statement: its number, how many blocks it stands in, and what it holds
pub record Row : Type 0 where
  pub number : ℕ
  pub depth : ℕ
  pub head : HeadTree

abbrev pub row : ℕ → ℕ → HeadTree → Row
row n d h = record { number = n; depth = d; head = h }

abbrev mutual
  -- the rows of lines of this depth. Those of a statement's block follow its own, one deeper
  pub rows_of : ℕ → LineTrees → List Row
  rows_of d no_lines = []
  rows_of d (more_lines n s ls) = row n d (first_line s) ∷ (block_rows (suc d) s ++ rows_of d ls)

  -- the rows of a statement's block, whose lines have this depth
  pub block_rows : ℕ → StatementTree → List Row
  block_rows d (loop w from to ls) = rows_of d ls
  block_rows d _ = []

abbrev pub HasLine : LineTrees → Type 0
HasLine no_lines = ⊥
HasLine (more_lines n s ls) = Unit {0}

abbrev mutual
  -- each loop has a statement
  pub IsFull : LineTrees → Type 0
  IsFull no_lines = Unit {0}
  IsFull (more_lines n s ls) = HasFullBlock s × IsFull ls

  pub HasFullBlock : StatementTree → Type 0
  HasFullBlock (loop w from to ls) = HasLine ls × IsFull ls
  HasFullBlock _ = Unit {0}

-- Behind the first line of a loop a line is one deeper. Behind any other line it is as deep, or
-- less deep by any number of blocks
abbrev pub MayFollowHead : ℕ → HeadTree → ℕ → Type 0
MayFollowHead e (whole s) d = d ≤ e
MayFollowHead e (loop_head w from to) d = d ≡ suc e

-- a line may have this depth behind the row before it, if there is one
abbrev pub MayFollow : Option Row → ℕ → Type 0
MayFollow None d = d ≡ 0
MayFollow (Some r) d = MayFollowHead r.depth r.head d

-- each row may stand behind the one before it
abbrev pub Follows : Option Row → List Row → Type 0
Follows before [] = Unit {0}
Follows before (r ∷ rs) = MayFollow before r.depth × Follows (Some r) rs

-- the last of these rows, or the one before them
abbrev pub last_of : Option Row → List Row → Option Row
last_of before [] = before
last_of before (r ∷ rs) = last_of (Some r) rs

abbrev pub IsWhole : HeadTree → Type 0
IsWhole (whole s) = Unit {0}
IsWhole (loop_head w from to) = ⊥

-- the last row, if there is one, is the first line of no loop, so each loop has a statement
abbrev pub IsClosed : Option Row → Type 0
IsClosed None = Unit {0}
IsClosed (Some r) = IsWhole r.head

-- the last row is the first line of a loop, and has this number
abbrev pub IsOpenAt : ℕ → Option Row → Type 0
IsOpenAt n None = ⊥
IsOpenAt n (Some r) = (IsWhole r.head → ⊥) × (n ≡ r.number)

-- each row holds what a line can hold
abbrev pub AreHeads : List Row → Type 0
AreHeads [] = Unit {0}
AreHeads (r ∷ rs) = IsHead r.head × AreHeads rs
