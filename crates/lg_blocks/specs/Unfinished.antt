-- The rows for which blocks stand that have been read in part.
use Rattle.std.specs.Prelude.{◌≡◌, ℕ, suc, Option, None, Some, List, [], ◌∷◌, ◌++◌, length}
use Rattle.std.specs.Coded.{×_prop, Unit-prop, Coded-set, coded_ℕ}
use Rattle.lg_tree.specs.Heads.{HeadTree, whole, loop_head}
use Rattle.lg_tree.specs.Tree.{StatementTree, loop, LineTrees, no_lines, more_lines}
use Rattle.lg_tree.specs.View.{tree_of, maybe_of, lines_of}
use Rattle.lg_blocks.specs.Rows.{Row, row, rows_of, HasLine, IsFull, HasFullBlock, last_of, IsWhole}
use Rattle.lg_blocks.specs.declared.unfinished.OpenLoop.{OpenLoop}
use Rattle.lg_blocks.specs.declared.unfinished.Unfinished.{Unfinished}

-- the first line of an open loop
abbrev pub open_head : OpenLoop → HeadTree
open_head o = loop_head o.name (maybe_of o.from) (tree_of o.to)

-- the rows of open loops, the outermost of this depth, each behind the lines before it
abbrev pub loop_rows : ℕ → List OpenLoop → List Row
loop_rows d [] = []
loop_rows d (o ∷ os) = rows_of d (lines_of o.before) ++ (row o.number d (open_head o) ∷ loop_rows (suc d) os)

-- and those of the lines of the innermost block
abbrev pub state_rows : List OpenLoop → LineTrees → List Row
state_rows os ls = loop_rows 0 os ++ rows_of (length os) ls

abbrev pub unfinished_rows : Unfinished → List Row
unfinished_rows u = state_rows u.loops.items (lines_of u.lines)

abbrev pub last_row : Unfinished → Option Row
last_row u = last_of None (unfinished_rows u)

-- each loop that has ended has a statement
abbrev pub AreFullLoops : List OpenLoop → Type 0
AreFullLoops [] = Unit {0}
AreFullLoops (o ∷ os) = IsFull (lines_of o.before) × AreFullLoops os

abbrev pub AreRead : Unfinished → Type 0
AreRead u = AreFullLoops u.loops.items × IsFull (lines_of u.lines)

-- the last row holds a whole statement of this depth
abbrev pub IsWholeAt : ℕ → Option Row → Type 0
IsWholeAt d None = ⊥
IsWholeAt d (Some r) = (r.depth ≡ d) × IsWhole r.head

abbrev pub EndsAt : ℕ → LineTrees → Option Row → Type 0
EndsAt d no_lines last = Unit {0}
EndsAt d (more_lines n s ls) last = IsWholeAt d last

-- the innermost block has no line yet, or the last row is one of its lines
abbrev pub IsAtEnd : Unfinished → Type 0
IsAtEnd u = EndsAt (length u.loops.items) (lines_of u.lines) (last_row u)

-- each of these holds in one way at most
HasLine-prop : (ls : LineTrees) → IsProp (HasLine ls)
HasLine-prop no_lines = λ a b. absurd a
HasLine-prop (more_lines n s ls) = Unit-prop

mutual
  IsFull-prop : (ls : LineTrees) → IsProp (IsFull ls)
  IsFull-prop no_lines = Unit-prop
  IsFull-prop (more_lines n s ls) = ×_prop (HasFullBlock-prop s) (IsFull-prop ls)

  HasFullBlock-prop : (s : StatementTree) → IsProp (HasFullBlock s)
  HasFullBlock-prop (loop w from to ls) = ×_prop (HasLine-prop ls) (IsFull-prop ls)
  HasFullBlock-prop s = Unit-prop

AreFullLoops-prop : (os : List OpenLoop) → IsProp (AreFullLoops os)
AreFullLoops-prop [] = Unit-prop
AreFullLoops-prop (o ∷ os) = ×_prop (IsFull-prop (lines_of o.before)) (AreFullLoops-prop os)

pub AreRead-prop : (u : Unfinished) → IsProp (AreRead u)
AreRead-prop u = ×_prop (AreFullLoops-prop u.loops.items) (IsFull-prop (lines_of u.lines))

IsWhole-prop : (h : HeadTree) → IsProp (IsWhole h)
IsWhole-prop (whole s) = Unit-prop
IsWhole-prop (loop_head w from to) = λ a b. absurd a

IsWholeAt-prop : (d : ℕ) (last : Option Row) → IsProp (IsWholeAt d last)
IsWholeAt-prop d None = λ a b. absurd a
IsWholeAt-prop d (Some r) = ×_prop (Coded-set coded_ℕ r.depth d) (IsWhole-prop r.head)

EndsAt-prop : (d : ℕ) (ls : LineTrees) (last : Option Row) → IsProp (EndsAt d ls last)
EndsAt-prop d no_lines last = Unit-prop
EndsAt-prop d (more_lines n s ls) last = IsWholeAt-prop d last

pub IsAtEnd-prop : (u : Unfinished) → IsProp (IsAtEnd u)
IsAtEnd-prop u = EndsAt-prop (length u.loops.items) (lines_of u.lines) (last_row u)
