-- Why a statement was not performed, at its line.
use Rattle.std.specs.Prelude.{ℕ}
use Rattle.lg_operations.specs.declared.end.EvaluateEnd.{EvaluateEnd}
use Rattle.lg_operations.specs.declared.end.EvaluateEnd.TheVariants as evaluate
use Rattle.lg_session.specs.declared.session.StopEnd.{StopEnd}
use Rattle.lg_session.specs.declared.session.StopEnd.TheVariants.{Fault, NoMemory}

abbrev pub stop_at : ℕ → EvaluateEnd → StopEnd
stop_at line (evaluate.Fault kind) = Fault line kind
stop_at line evaluate.NoMemory = NoMemory
