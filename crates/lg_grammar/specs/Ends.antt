-- What it says of the bytes of a script that reading them ended so.
use Rattle.std.specs.Prelude.{ℕ, List, ⊤}
use Rattle.lg_tree.specs.Tree.{LineTree}
use Rattle.lg_grammar.specs.Script.{Spells, IsFirstBad}
use Rattle.lg_grammar.specs.declared.ends.ScriptEnd.{ScriptEnd}
use Rattle.lg_grammar.specs.declared.ends.ScriptEnd.TheVariants.{Syntax, NoMemory}

-- scripts as trees
abbrev pub ScriptTree : Type 0
ScriptTree = List LineTree

-- after `Syntax` the bytes spell no script
abbrev pub SpellsNone : List ℕ → ScriptEnd → Type 0
SpellsNone bytes (Syntax line) = (other : ScriptTree) → Spells bytes other → ⊥
SpellsNone bytes NoMemory = ⊤

-- `Syntax` names the first bad line
abbrev pub NamesFirstBad : List ℕ → ScriptEnd → Type 0
NamesFirstBad bytes (Syntax line) = IsFirstBad bytes line
NamesFirstBad bytes NoMemory = ⊤
