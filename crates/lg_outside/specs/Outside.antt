-- What a source and a sink promise, and what reading or writing a whole text does.
use Rattle.std.specs.Prelude.{◌≡◌, ◌≢◌, ◌⊎◌, ℕ, ◌+◌, ◌-◌, ◌^◌, ◌<◌, ◌≤◌, min, List, [], ◌++◌, length, ⊤, Option, None, Some, Result, IfOk, OnErr}
use Rattle.std.specs.Io.KnownBytes.{Appends, Consumes}

-- the count after one more; at the end of a u64 it stands still
abbrev pub count_up : ℕ → ℕ
count_up n = min (n + 1) (2 ^ 64 - 1)

-- a count rises, or stands at the end of a u64, where it can rise no further
abbrev pub Rose : ℕ → ℕ → Type 0
Rose old new = (old < new) ⊎ (new ≡ 2 ^ 64 - 1)

-- the count of faults does not fall, and a call fails only where it rose
pub record HasCause {T E : Type 0} (old new : ℕ) (result : Result T E) : Type 0 where
  pub later : old ≤ new
  pub rose : OnErr result (Rose old new)

-- at `Ok(n)` at most the whole piece was taken, and at least one byte of it where it has one
abbrev pub TakesSome : {E : Type 0} → Result ℕ E → List ℕ → Type 0
TakesSome result piece = IfOk result (λ n. (n ≤ length piece) × (0 < length piece → 0 < n))

-- where the source tells its bytes, these are all that were left, and nothing is left now
abbrev pub GivesAll : Option (List ℕ) → Option (List ℕ) → List ℕ → Type 0
GivesAll None new bytes = ⊤
GivesAll (Some left) new bytes = (bytes ≡ left) × (new ≡ Some [])

-- how many of the bytes that were left are gone; 0 where the source no longer tells
abbrev pub taken_count : List ℕ → Option (List ℕ) → ℕ
taken_count before None = 0
taken_count before (Some after) = length before - length after

-- the front of what was left is gone, at most so many bytes, and the rest is left
pub record TakesFront (most : ℕ) (old new : Option (List ℕ)) : Type 0 where
  pub front : List ℕ
  pub within : length front ≤ most
  pub consumed : Consumes old new front

-- a front of the bytes was appended, and at least one byte was not
pub record AppendsPart (old new : Option (List ℕ)) (bytes : List ℕ) : Type 0 where
  pub front : List ℕ
  pub rest : List ℕ
  pub split : bytes ≡ front ++ rest
  pub lacking : rest ≢ []
  pub appended : Appends old new front
