-- The commands of the program, which are this project's own.
use Rattle.std.specs.Prelude.{◌≡◌, ℕ, List, [], ◌∷◌, map, String, string_bytes, codes}
use Rattle.legate.specs.declared.command.Command.{Command}
use Rattle.legate.specs.declared.command.Command.TheVariants.{Run, Check}

-- the word of a command
abbrev pub word_of : Command → List ℕ
word_of Run = codes "run"
word_of Check = codes "check"

-- the words are this command's word and no other
abbrev pub IsCommand : {A : Type 0} → Command → List (String A) → Type 0
IsCommand command words = map string_bytes words ≡ word_of command ∷ []
