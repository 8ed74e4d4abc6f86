-- What performing a statement answers, and what it does to the session.
use Rattle.std.specs.Prelude.{◌≡◌, ℕ, Bool, List, None, Some, Result, Ok, Err, ⊤, Vec}
use Rattle.std.specs.declared.alloc.Global.{Global}
use Rattle.lg_tree.specs.Tree.{Tree, StatementTree, bind, print, LineTree}
use Rattle.lg_meaning.specs.Memory.{State}
use Rattle.lg_meaning.specs.Step.{Stepped, step}
use Rattle.lg_meaning.specs.declared.fault.FaultKind.{FaultKind}
use Rattle.lg_session.specs.Roots.{contents}
use Rattle.lg_session.specs.Stored as stored
use Rattle.lg_session.specs.Standing.{StandsFor}
use Rattle.lg_session.specs.declared.session.Session.{Session}
use Rattle.lg_session.specs.declared.session.StopEnd.{StopEnd}
use Rattle.lg_session.specs.declared.session.StopEnd.TheVariants.{Fault as FaultAt, NoMemory as NoRoom}
use Rattle.lg_operations.specs.declared.end.EvaluateEnd.{EvaluateEnd}
use Rattle.lg_operations.specs.declared.end.EvaluateEnd.TheVariants.{Fault, NoMemory}

-- into how many tiles an operation is cut at most
abbrev pub pieces_of : Session → ℕ
pieces_of session = session.pieces

-- whether a statement was not performed as it stands
abbrev pub is_spent : Session → Bool
is_spent session = session.spent

-- the root of this number is not there where no name reaches it
abbrev pub IsTidyAt : Session → ℕ → Type 0
IsTidyAt session root = stored.IsTidyAt (contents session.roots) session.names root

-- the statement has no fault, it prints this text, and the session stands for the state after it
pub record Executes (statement : StatementTree) (state : State) (text : List ℕ)
    (session : Session) : Type 0 where
  pub sound : (step statement state).fault ≡ None
  pub printed : (step statement state).text ≡ text
  pub stands : StandsFor session (step statement state).state

-- the same of the statement of a line
abbrev pub Performs : LineTree → State → List ℕ → Session → Type 0
Performs line = Executes line.statement

-- the line has this number, and its statement this fault
pub record FaultsAt (line : LineTree) (state : State) (number : ℕ) (kind : FaultKind) : Type 0 where
  pub line_number : line.number ≡ number
  pub fault : (step line.statement state).fault ≡ Some kind

-- why the statement of a line was not performed
abbrev pub StopsAt : StopEnd → LineTree → State → Type 0
StopsAt (FaultAt number kind) line state = FaultsAt line state number kind
StopsAt NoRoom line state = ⊤

-- the answer of a statement
abbrev pub IsExecuted : StatementTree → State → Result (Vec ℕ Global) EvaluateEnd → Session → Type 0
IsExecuted statement state (Ok text) session = Executes statement state text.items session
IsExecuted statement state (Err (Fault kind)) session = (step statement state).fault ≡ Some kind
IsExecuted statement state (Err NoMemory) session = ⊤

-- what a statement does has no fault, and the session stands for the state after it
pub record Leaves (after : Stepped) (session : Session) : Type 0 where
  pub sound : after.fault ≡ None
  pub stands : StandsFor session after.state

-- the answer of a statement that prints nothing
abbrev pub IsDone : Stepped → Session → Result (Unit {0}) EvaluateEnd → Type 0
IsDone after session (Ok _) = Leaves after session
IsDone after session (Err (Fault kind)) = after.fault ≡ Some kind
IsDone after session (Err NoMemory) = ⊤

-- the same of an assignment to a name
abbrev pub Binds : List ℕ → Tree → State → Session → Type 0
Binds w e state session = Leaves (step (bind w e) state) session

abbrev pub IsBound : List ℕ → Tree → State → Session → Result (Unit {0}) EvaluateEnd → Type 0
IsBound w e state session result = IsDone (step (bind w e) state) session result

-- the print has no fault, and prints this text
pub record Prints (e : Tree) (state : State) (bytes : List ℕ) : Type 0 where
  pub sound : (step (print e) state).fault ≡ None
  pub same : (step (print e) state).text ≡ bytes

-- the answer of a print
abbrev pub IsText : Tree → State → Result (Vec ℕ Global) EvaluateEnd → Type 0
IsText e state (Ok text) = Prints e state text.items
IsText e state (Err (Fault kind)) = (step (print e) state).fault ≡ Some kind
IsText e state (Err NoMemory) = ⊤
