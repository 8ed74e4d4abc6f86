-- Laws of scripts.
use Rattle.std.specs.Prelude.{◌≡◌, ℕ, List}
use Rattle.lg_tree.specs.Tree.{LineTree}
use Rattle.lg_grammar.specs.Script.{Spells, IsFirstBad}

-- bytes spell one script at most,
abbrev pub SpellsOnce : Type 0
SpellsOnce = (bytes : List ℕ) (a b : List LineTree) → Spells bytes a → Spells bytes b → a ≡ b

-- or one line is the first bad one,
abbrev pub IsBadOnce : Type 0
IsBadOnce = (bytes : List ℕ) (a b : ℕ) → IsFirstBad bytes a → IsFirstBad bytes b → a ≡ b

-- and not both
abbrev pub SpellsOrIsBad : Type 0
SpellsOrIsBad = (bytes : List ℕ) (script : List LineTree) (number : ℕ) → Spells bytes script
    → IsFirstBad bytes number → ⊥
