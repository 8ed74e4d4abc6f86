-- What a whole call does: from words and bytes to printed text and a status. This project's own.
use Rattle.std.specs.Prelude.{◌≡◌, ◌⊎◌, ℕ, List, [], Option, None, Some}
use Rattle.std.specs.Io.KnownBytes.{Appends}
use Rattle.lg_outside.specs.Outside.{AppendsPart}
use Rattle.lg_tree.specs.Tree.{LineTree}
use Rattle.lg_text.specs.Text.{script_text}
use Rattle.lg_grammar.specs.Script.{Spells, IsFirstBad}
use Rattle.lg_session.specs.Built.{first_unbuilt}
use Rattle.lg_meaning.specs.declared.fault.FaultKind.{FaultKind}
use Rattle.lg_meaning.specs.Run.{End, done, fault_at, run}
use Rattle.legate.specs.Running.{Ends, PrintsFirst}
use Rattle.legate.specs.declared.exit.Exit.{Exit}
use Rattle.legate.specs.Statuses.{DONE, FAULT}

-- the bytes spell no script
abbrev pub SpellsNone : List ℕ → Type 0
SpellsNone bytes = (script : List LineTree) → Spells bytes script → ⊥

-- the bytes spell this script and no other, and this is its first line with a statement that is not
-- built
pub record SpellsUnbuilt (bytes : List ℕ) (line : ℕ) : Type 0 where
  pub script : List LineTree
  pub spelled : Spells bytes script
  pub only : (other : List LineTree) → Spells bytes other → other ≡ script
  pub unbuilt : first_unbuilt script ≡ Some line

-- the bytes are refused at this line: it is the first bad one, or the first one that is not built
abbrev pub IsRefusedAt : List ℕ → ℕ → Type 0
IsRefusedAt bytes line = (SpellsNone bytes × IsFirstBad bytes line) ⊎ SpellsUnbuilt bytes line

-- the bytes spell no script of which each statement is built
abbrev pub IsRefused : List ℕ → Type 0
IsRefused bytes = (script : List LineTree) → Spells bytes script → first_unbuilt script ≡ None → ⊥

-- the bytes spell this script and no other; it ends so, no byte is left, and its whole text was
-- appended
pub record Finishes (bytes : List ℕ) (end : End) (left old new : Option (List ℕ)) : Type 0 where
  pub script : List LineTree
  pub spelled : Spells bytes script
  pub only : (other : List LineTree) → Spells bytes other → other ≡ script
  pub all_read : left ≡ Some []
  pub ends : Ends script end old new

-- the bytes spell this script and no other, none of them is left, and its canonical text was
-- appended
pub record Checks (bytes : List ℕ) (left old new : Option (List ℕ)) : Type 0 where
  pub script : List LineTree
  pub spelled : Spells bytes script
  pub only : (other : List LineTree) → Spells bytes other → other ≡ script
  pub all_read : left ≡ Some []
  pub printed : Appends old new (script_text script)

-- the bytes spell a script; none of them is left, and of its text only a part was appended
pub record StopsWithin (bytes : List ℕ) (left old new : Option (List ℕ)) : Type 0 where
  pub script : List LineTree
  pub spelled : Spells bytes script
  pub all_read : left ≡ Some []
  pub printed : AppendsPart old new (run script).text

-- the bytes spell a script; none of them is left, and of its canonical text only a part was appended
pub record ChecksPart (bytes : List ℕ) (left old new : Option (List ℕ)) : Type 0 where
  pub script : List LineTree
  pub spelled : Spells bytes script
  pub all_read : left ≡ Some []
  pub printed : AppendsPart old new (script_text script)

-- the bytes spell a script, and what its first statements print was appended
pub record StopsBetween (bytes : List ℕ) (old new : Option (List ℕ)) : Type 0 where
  pub script : List LineTree
  pub spelled : Spells bytes script
  pub printed : PrintsFirst script old new

-- the bytes spell a script that ends with a fault
pub record HasFault (bytes : List ℕ) : Type 0 where
  pub script : List LineTree
  pub spelled : Spells bytes script
  pub line : ℕ
  pub kind : FaultKind
  pub ended : (run script).end ≡ fault_at line kind

-- the answer says how the script ends
abbrev pub EndsAs : Exit → End → Type 0
EndsAs exit done = exit.status ≡ DONE
EndsAs exit (fault_at line kind) = (exit.status ≡ FAULT) × (exit.line ≡ line)
    × (exit.kind ≡ Some kind)
