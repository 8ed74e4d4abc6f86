-- What the line of a loop answers: the bounds of its turns.
use Rattle.std.specs.Prelude.{◌≡◌, ℕ, Result, Ok, Err, ⊤, ℤ}
use Rattle.lg_meaning.specs.declared.fault.FaultKind.{FaultKind}
use Rattle.lg_meaning.specs.Weak.{integer}
use Rattle.lg_operations.specs.Operations.{IsRanged}
use Rattle.lg_session.specs.declared.loops.Turns.{Turns}
use Rattle.lg_operations.specs.declared.end.EvaluateEnd.{EvaluateEnd}
use Rattle.lg_operations.specs.declared.end.EvaluateEnd.TheVariants.{Fault, NoMemory}
use Rattle.lg_session.specs.declared.session.StopEnd.{StopEnd}
use Rattle.lg_session.specs.declared.session.StopEnd.TheVariants.{Fault as FaultAt, NoMemory as NoRoom}

abbrev pub bounds_in : Turns → ℤ × ℤ
bounds_in turns = (turns.from, turns.to)

-- both bounds are weak numbers
abbrev pub AreRangedBounds : Turns → Type 0
AreRangedBounds turns = IsRanged (integer turns.from) × IsRanged (integer turns.to)

-- the answer is these bounds, or their fault
abbrev pub AreTurns : Result (ℤ × ℤ) FaultKind → Result Turns EvaluateEnd → Type 0
AreTurns bounds (Ok turns) = bounds ≡ Ok (bounds_in turns)
AreTurns bounds (Err (Fault kind)) = bounds ≡ Err kind
AreTurns bounds (Err NoMemory) = ⊤

-- why a loop of the line of this number was not begun
abbrev pub StopsOpening : StopEnd → ℕ → Result (ℤ × ℤ) FaultKind → Type 0
StopsOpening (FaultAt number kind) line bounds = (line ≡ number) × (bounds ≡ Err kind)
StopsOpening NoRoom line bounds = ⊤
