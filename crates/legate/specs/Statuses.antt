-- The numbers with which the program ends. They are this project's own.
use Rattle.std.specs.Prelude.{ℕ, ◌==◌, Bool, [], ◌∷◌}
use Rattle.std.specs.List.{list_any}

-- the whole work was done, and its whole text was written
abbrev pub DONE : ℕ
DONE = 0

-- the words are no command
abbrev pub USAGE : ℕ
USAGE = 2

-- the bytes spell no script, or one with a statement that is not built
abbrev pub SYNTAX : ℕ
SYNTAX = 3

-- a statement has a fault
abbrev pub FAULT : ℕ
FAULT = 4

-- the script has too many bytes
abbrev pub TOO_LONG : ℕ
TOO_LONG = 5

-- the source failed
abbrev pub READ_FAULT : ℕ
READ_FAULT = 6

-- the output failed
abbrev pub WRITE_FAULT : ℕ
WRITE_FAULT = 7

-- there was not enough memory
abbrev pub NO_MEMORY : ℕ
NO_MEMORY = 9

-- whether a program ends with this number
abbrev pub is_status : ℕ → Bool
is_status n = list_any (λ status. status == n)
    (DONE ∷ USAGE ∷ SYNTAX ∷ FAULT ∷ TOO_LONG ∷ READ_FAULT ∷ WRITE_FAULT ∷ NO_MEMORY ∷ [])
