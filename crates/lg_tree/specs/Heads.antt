-- What the first line of a statement holds, its height and its nodes.
use Rattle.std.specs.Prelude.{ℕ, ◌+◌, max, List}
use Rattle.std.specs.Coded.{Unit-prop}
use Rattle.lg_tree.specs.Tree.{Tree, MaybeTree, StatementTree, loop}
use Rattle.lg_tree.specs.Measures.{height, maybe_height, statement_height, nodes, maybe_nodes, statement_nodes}

pub data HeadTree : Type 0 where
  -- a statement without a block
  whole : StatementTree → HeadTree
  -- `for w in range(from, to):`
  loop_head : List ℕ → MaybeTree → Tree → HeadTree

-- a statement without a block, which Python calls a simple statement
abbrev pub IsSimple : StatementTree → Type 0
IsSimple (loop w from to ls) = ⊥
IsSimple _ = Unit {0}

pub IsSimple-prop : (s : StatementTree) → IsProp (IsSimple s)
IsSimple-prop (loop w from to ls) = λ a b. absurd a
IsSimple-prop s = Unit-prop

-- what some line can hold: no loop is whole without its block
abbrev pub IsHead : HeadTree → Type 0
IsHead (whole s) = IsSimple s
IsHead (loop_head w from to) = Unit {0}

-- what the first line of a statement holds
abbrev pub first_line : StatementTree → HeadTree
first_line (loop w from to ls) = loop_head w from to
first_line s = whole s

-- of the highest tree of the line
abbrev pub head_height : HeadTree → ℕ
head_height (whole s) = statement_height s
head_height (loop_head w from to) = max (maybe_height from) (height to)

-- of all trees of the line
abbrev pub head_nodes : HeadTree → ℕ
head_nodes (whole s) = statement_nodes s
head_nodes (loop_head w from to) = maybe_nodes from + nodes to
