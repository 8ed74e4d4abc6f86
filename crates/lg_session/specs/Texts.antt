-- What stands in a printed list, and the answer of a print.
use Rattle.std.specs.Prelude.{◌≡◌, ℕ, ◌==◌, Bool, if◌then◌else◌, List, [], codes, None, Some, Result, Ok, Err, ⊤, Vec}
use Rattle.std.specs.declared.alloc.Global.{Global}
use Rattle.lg_meaning.specs.Static.{Static}
use Rattle.lg_meaning.specs.Value.{Value}
use Rattle.lg_meaning.specs.Text.{printed, printed_type}
use Rattle.lg_operations.specs.declared.end.EvaluateEnd.{EvaluateEnd}
use Rattle.lg_operations.specs.declared.end.EvaluateEnd.TheVariants.{Fault, NoMemory}

-- before a member
abbrev pub comma : ℕ → List ℕ
comma row = if row == 0 then [] else codes ", "

abbrev pub truth_text : Bool → List ℕ
truth_text b = if b then codes "True" else codes "False"

-- no element has a fault, and the text is that of the numbers
pub record IsPrintedAs (s : Static) (v : Value) (text : List ℕ) : Type 0 where
  pub sound : v.fault ≡ None
  pub same : text ≡ printed (printed_type s) v.shape v.numbers

-- the answer is the text of a value, or the first fault of its elements
abbrev pub IsPrinted : Static → Value → Result (Vec ℕ Global) EvaluateEnd → Type 0
IsPrinted s v (Ok text) = IsPrintedAs s v text.items
IsPrinted s v (Err (Fault kind)) = v.fault ≡ Some kind
IsPrinted s v (Err NoMemory) = ⊤
