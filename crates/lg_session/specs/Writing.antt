-- Which part of an array a statement writes. After NumPy's reference, "Assigning values to indexed
-- arrays". The order of faults is this project's own.
use Rattle.std.specs.Prelude.{◌≡◌, Result, Ok, Err, ⊤}
use Rattle.lg_store.specs.declared.view.View.{View as CodeView}
use Rattle.lg_meaning.specs.declared.fault.FaultKind.{FaultKind}
use Rattle.lg_meaning.specs.Memory.{State, View}
use Rattle.lg_operations.specs.Views.{view_of}
use Rattle.lg_session.specs.Names.{environment}
use Rattle.lg_session.specs.Standing.{roots_in, names_in}
use Rattle.lg_session.specs.Worlds.{IsInside, IsShown}
use Rattle.lg_operations.specs.declared.end.EvaluateEnd.{EvaluateEnd}
use Rattle.lg_operations.specs.declared.end.EvaluateEnd.TheVariants.{Fault, NoMemory}
use Rattle.lg_session.specs.declared.session.Session.{Session}

-- the definition has a target, and the view shows what that one shows
pub record ShowsTarget (target : Result View FaultKind) (state : State) (session : Session)
    (view : CodeView) : Type 0 where
  pub there : View
  pub is : target ≡ Ok there
  pub inside : IsInside (roots_in state) there
  pub shown : IsShown (environment session.names) (names_in state) (view_of view) there

-- the answer is such a view, or the target's first fault
abbrev pub IsTarget : Result View FaultKind → State → Session → Result CodeView EvaluateEnd
    → Type 0
IsTarget target state session (Ok view) = ShowsTarget target state session view
IsTarget target state session (Err (Fault kind)) = target ≡ Err kind
IsTarget target state session (Err NoMemory) = ⊤
