-- Laws of the grammar.
use Rattle.std.specs.Prelude.{◌≡◌, List}
use Rattle.lg_tree.specs.Heads.{HeadTree}
use Rattle.lg_parse.specs.Statements.{HoldsHead}
use Rattle.lg_parse.specs.Terminal.{Terminal}

-- terminals are one head at most
abbrev pub HoldsOnce : Type 0
HoldsOnce = (ts : List Terminal) (a b : HeadTree) → HoldsHead ts a → HoldsHead ts b → a ≡ b
