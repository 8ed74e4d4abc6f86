-- Short names for the blocks of which the worked examples are made.
use Rattle.std.specs.Prelude.{ℕ, codes}
use Rattle.lg_tree.specs.Tree.{StatementTree, bind, print, loop, number, name, neg, no_tree, some_tree, LineTrees, no_lines, more_lines}
use Rattle.lg_tree.specs.Heads.{HeadTree, loop_head}

-- `a = 7`
abbrev pub bound : StatementTree
bound = bind (codes "a") (number 7)

-- `print(a)`
abbrev pub printed : StatementTree
printed = print (name (codes "a"))

-- `print(-7)`
abbrev pub negative : StatementTree
negative = print (neg (number 7))

-- `for i in range(3):`
abbrev pub over_i : HeadTree
over_i = loop_head (codes "i") no_tree (number 3)

abbrev pub loop_i : LineTrees → StatementTree
loop_i = loop (codes "i") no_tree (number 3)

-- `for j in range(1, 2):`
abbrev pub over_j : HeadTree
over_j = loop_head (codes "j") (some_tree (number 1)) (number 2)

abbrev pub loop_j : LineTrees → StatementTree
loop_j = loop (codes "j") (some_tree (number 1)) (number 2)

abbrev pub line : ℕ → StatementTree → LineTrees
line n s = more_lines n s no_lines

-- two loops in each other, with a line before them, one behind each, and lines between that hold
-- no statement
abbrev pub nested : LineTrees
nested = more_lines 1 bound (more_lines 3 (loop_i (more_lines 4 (loop_j (line 7 printed)) (line 8 negative))) (line 9 printed))

-- the same without such lines
abbrev pub dense : LineTrees
dense = more_lines 1 bound (more_lines 2 (loop_i (more_lines 3 (loop_j (line 4 printed)) (line 5 negative))) (line 6 printed))
