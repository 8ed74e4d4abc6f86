-- Short names for the statements of which the worked examples are made. They are the shortest to
-- derive: the examples are about lines and blocks, not about expressions.
use Rattle.std.specs.Prelude.{ℕ, List, codes, replicate}
use Rattle.lg_tree.specs.Tree.{StatementTree, load, loop, number, no_tree, LineTree, LineTrees}
use Rattle.lg_tree.specs.Heads.{HeadTree, loop_head}

-- `x = load(f)`
abbrev pub loads : StatementTree
loads = load (codes "x") (codes "f")

-- `for i in range(3):`
abbrev pub over_i : HeadTree
over_i = loop_head (codes "i") no_tree (number 3)

abbrev pub loop_i : LineTrees → StatementTree
loop_i lines = loop (codes "i") no_tree (number 3) lines

abbrev pub line : ℕ → StatementTree → LineTree
line n s = record { number = n; statement = s }

abbrev pub spaces : ℕ → List ℕ
spaces n = replicate n 32
