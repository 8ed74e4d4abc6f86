-- The message lines. Their texts are this project's own.
use Rattle.std.specs.Prelude.{ℕ, List, [], ◌∷◌, ◌++◌, ◌==◌, ◌⊎◌, if◌then◌else◌, Option, None, Some, codes, decimal}
use Rattle.std.specs.Io.KnownBytes.{Appends}
use Rattle.lg_outside.specs.Outside.{AppendsPart, Rose}
use Rattle.legate.specs.declared.exit.Exit.{Exit}
use Rattle.legate.specs.Statuses.{DONE, USAGE, SYNTAX, FAULT, TOO_LONG, READ_FAULT, WRITE_FAULT}
use Rattle.lg_meaning.specs.declared.fault.FaultKind.{FaultKind}
use Rattle.lg_meaning.specs.declared.fault.FaultKind.TheVariants.{Name, TypeKind, Range, Shape, Index, Step, Divisor, Power, ReadOnly, Limit}

-- what a message says of a kind of fault
abbrev pub text_of : FaultKind → List ℕ
text_of Name = codes "name"
text_of TypeKind = codes "type"
text_of Range = codes "range"
text_of Shape = codes "shape"
text_of Index = codes "index"
text_of Step = codes "step"
text_of Divisor = codes "zero divisor"
text_of Power = codes "power"
text_of ReadOnly = codes "read-only"
text_of Limit = codes "limit"

-- a text as a line
abbrev pub as_line : List ℕ → List ℕ
as_line text = text ++ 10 ∷ []

-- a text about a line of the script, as a line
abbrev pub at_line : ℕ → List ℕ → List ℕ
at_line line text = codes "line " ++ (decimal line ++ (codes ": " ++ as_line text))

-- what a message says of a kind of fault, if there is one
abbrev pub text_of_kind : Option FaultKind → List ℕ
text_of_kind None = []
text_of_kind (Some kind) = text_of kind

-- what the message of a status says that names no line
abbrev pub text_of_status : ℕ → List ℕ
text_of_status status =
    if status == USAGE then codes "usage: legate run, check or demo"
    else (if status == TOO_LONG then codes "script too long"
    else (if status == READ_FAULT then codes "read fault"
    else (if status == WRITE_FAULT then codes "write fault" else codes "no memory")))

-- the message line of an answer, and none of one that is done
abbrev pub message_of : Exit → List ℕ
message_of exit =
    if exit.status == DONE then []
    else (if exit.status == SYNTAX then at_line exit.line (codes "syntax")
    else (if exit.status == FAULT then at_line exit.line (text_of_kind exit.kind)
    else as_line (text_of_status exit.status)))

-- the text was appended, or a part of it where the count of faults rose
abbrev pub Logs : ℕ → ℕ → Option (List ℕ) → Option (List ℕ) → List ℕ → Type 0
Logs faults_before faults_after before after text =
    Appends before after text ⊎ (AppendsPart before after text × Rose faults_before faults_after)
