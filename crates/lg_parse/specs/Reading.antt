-- How the code's values are seen, and what a function that parses ensures: the parser's outcome,
-- unless memory fails.
use Rattle.std.specs.Prelude.{◌≡◌, Option, Some, None, Result, Ok, Err, List, map, ⊤}
use Rattle.lg_parse.specs.Terminal.{Terminal, name, number, word, element, function, sign}
use Rattle.lg_parse.specs.Parsing.{Outcome}
use Rattle.lg_parse.specs.declared.terminals.Terminal.{Terminal as Piece}
use Rattle.lg_parse.specs.declared.terminals.Terminal.TheVariants.{Name, Number, Itself, Element, Call, Sign}
use Rattle.lg_parse.specs.declared.cursor.Cursor.{Cursor}
use Rattle.lg_parse.specs.declared.ends.ParseEnd.{ParseEnd}
use Rattle.lg_parse.specs.declared.ends.ParseEnd.TheVariants.{Syntax, NoMemory}

abbrev pub terminal_of : Piece → Terminal
terminal_of (Name w) = name w.now
terminal_of (Number n) = number n
terminal_of (Itself w) = word w
terminal_of (Element t) = element t
terminal_of (Call f) = function f
terminal_of (Sign k) = sign k

abbrev pub terminals_view : List Piece → List Terminal
terminals_view ts = map terminal_of ts

-- the terminals that are not read yet
unfoldable pub ahead : Cursor → List Terminal
ahead c = terminals_view c.rest.now

abbrev pub same : {A : Type 0} → A → A
same a = a

-- the outcome is this result, and these terminals are left
abbrev pub Reads : {A B : Type 0} → (B → A) → Outcome A → Result B ParseEnd → List Terminal → Type 0
Reads view outcome (Ok b) rest = outcome ≡ Some (view b, rest)
Reads view outcome (Err Syntax) rest = outcome ≡ None
Reads view outcome (Err NoMemory) rest = ⊤

-- the value is this result
abbrev pub Gives : {A B : Type 0} → (B → A) → Option A → Result B ParseEnd → Type 0
Gives view value (Ok b) = value ≡ Some (view b)
Gives view value (Err Syntax) = value ≡ None
Gives view value (Err NoMemory) = ⊤
