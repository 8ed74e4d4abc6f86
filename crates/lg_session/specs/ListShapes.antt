-- Shapes of lists.
use Rattle.std.specs.Prelude.{ℕ, Bool, false, List, Option, None, Some, bytes_eq}

-- the list has a shape, and it is this one
abbrev pub is_alike : Option (List ℕ) → List ℕ → Bool
is_alike None shape = false
is_alike (Some other) shape = bytes_eq other shape
