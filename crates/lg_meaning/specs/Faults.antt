-- The order in which faults are looked for, which is this project's own: first the faults of all
-- parts of an operation, from left to right; then its own, in the order type, range, index, step,
-- shape, limit, and of one kind from left to right. Where an index, a `transpose` or a write has an
-- order of its own, its file tells it.
use Rattle.std.specs.Prelude.{Bool, if◌then◌else◌, List, [], ◌∷◌, Option, Some, None, Result, Ok, Err}
use Rattle.lg_meaning.specs.declared.fault.FaultKind.{FaultKind}

-- what follows from a part that has no fault
abbrev pub from_part : {A B : Type 0} → Result A FaultKind → (A → Result B FaultKind)
    → Result B FaultKind
from_part (Ok a) f = f a
from_part (Err kind) f = Err kind

-- what follows from two parts; the first one's fault comes first
abbrev pub from_both : {A B C : Type 0} → Result A FaultKind → Result B FaultKind
    → (A → B → Result C FaultKind) → Result C FaultKind
from_both a b f = from_part a (λ x. from_part b (f x))

-- what follows where a condition holds, and else this fault
abbrev pub needing : {A : Type 0} → Bool → FaultKind → Result A FaultKind → Result A FaultKind
needing holds kind answer = if holds then answer else Err kind

-- the value that there is, and else this fault
abbrev pub or_fault : {A : Type 0} → Option A → FaultKind → Result A FaultKind
or_fault None kind = Err kind
or_fault (Some x) kind = Ok x

-- what a part without a fault is. Nothing is asked of a part with one; it counts as this
abbrev pub known_or : {A : Type 0} → A → Result A FaultKind → A
known_or other (Ok a) = a
known_or other (Err kind) = other

-- the first fault in a list
abbrev pub first_fault : List (Option FaultKind) → Option FaultKind
first_fault [] = None
first_fault (None ∷ faults) = first_fault faults
first_fault (Some kind ∷ faults) = Some kind
