-- What running a script, or one statement of it, does to the output.
use Rattle.std.specs.Prelude.{◌≡◌, ℕ, ◌+◌, ◌-◌, ◌≤◌, nat_lt, Bool, true, false, List, [], ◌++◌, Option, None, ⊤, ℤ}
use Rattle.std.specs.Io.KnownBytes.{Appends}
use Rattle.lg_outside.specs.Outside.{AppendsPart}
use Rattle.lg_tree.specs.Tree.{StatementTree, loop, LineTree, line_trees}
use Rattle.lg_meaning.specs.Memory.{State}
use Rattle.lg_meaning.specs.Step.{step}
use Rattle.lg_meaning.specs.Run.{End, done, fault_at, Progress, MAX_STATEMENTS, start, looped, run_lines, run}
use Rattle.lg_session.specs.Built.{unbuilt_in}
use Rattle.lg_session.specs.Standing.{StandsFor}
use Rattle.lg_session.specs.Session.{FaultsAt}
use Rattle.lg_session.specs.declared.session.Session.{Session}
use Rattle.lg_session.specs.declared.session.StopEnd.{StopEnd}
use Rattle.lg_session.specs.declared.session.StopEnd.TheVariants.{Fault as FaultAt, NoMemory as NoRoom}
use Rattle.legate.specs.declared.running.RunStop.{RunStop}
use Rattle.legate.specs.declared.running.RunStop.TheVariants.{Fault, WriteFault, NoMemory}

-- the script ends so, and its whole text was appended
pub record Ends (script : List LineTree) (end : End) (old new : Option (List ℕ)) : Type 0 where
  pub ended : (run script).end ≡ end
  pub printed : Appends old new (run script).text

-- a beginning behind which so many statements may be reached
abbrev pub beginning_for : ℕ → Progress
beginning_for count = record {
  state = start;
  count = MAX_STATEMENTS - count;
  text = [];
  end = done;
}

-- what the first statements print, in order of execution, was appended
pub record PrintsFirst (script : List LineTree) (old new : Option (List ℕ)) : Type 0 where
  pub count : ℕ
  pub printed : Appends old new (run_lines (line_trees script) (beginning_for count)).text

-- what was appended of the script's text before the run stopped
abbrev pub IsStopped : RunStop → List LineTree → Option (List ℕ) → Option (List ℕ) → Type 0
IsStopped (Fault line kind) script old new = Ends script (fault_at line kind) old new
IsStopped WriteFault script old new = AppendsPart old new (run script).text
IsStopped NoMemory script old new = PrintsFirst script old new

-- the statement has no fault, its text was appended, and the session stands for the state after it
pub record Writes (line : LineTree) (state : State) (old new : Option (List ℕ))
    (session : Session) : Type 0 where
  pub sound : (step line.statement state).fault ≡ None
  pub printed : Appends old new (step line.statement state).text
  pub stands : StandsFor session (step line.statement state).state

-- the statement has no fault, and of its text only a part was appended
pub record WritesPart (line : LineTree) (state : State) (old new : Option (List ℕ)) : Type 0 where
  pub sound : (step line.statement state).fault ≡ None
  pub printed : AppendsPart old new (step line.statement state).text

-- a run stops where its session does
abbrev pub stop_of : StopEnd → RunStop
stop_of (FaultAt number kind) = Fault number kind
stop_of NoRoom = NoMemory

-- what a statement did before the run stopped there
abbrev pub StopsWriting : RunStop → LineTree → State → Option (List ℕ) → Option (List ℕ) → Type 0
StopsWriting (Fault number kind) line state old new = FaultsAt line state number kind × (new ≡ old)
StopsWriting WriteFault line state old new = WritesPart line state old new
StopsWriting NoMemory line state old new = new ≡ old

-- ---- a part of a run, which goes from one progress to another

-- the run goes on from here, and the session stands for its state
pub record IsAt (p : Progress) (session : Session) : Type 0 where
  pub going : p.end ≡ done
  pub stands : StandsFor session p.state

-- what the part prints was appended
pub record Gains (p q : Progress) (old new : Option (List ℕ)) : Type 0 where
  pub text : List ℕ
  pub more : q.text ≡ p.text ++ text
  pub appended : Appends old new text

-- of what the part prints only a part was appended
pub record GainsPart (p q : Progress) (old new : Option (List ℕ)) : Type 0 where
  pub text : List ℕ
  pub more : q.text ≡ p.text ++ text
  pub appended : AppendsPart old new text

-- the part has no fault and reaches so many statements
pub record Passes (used : ℕ) (p q : Progress) (old new : Option (List ℕ)) (session : Session)
    : Type 0 where
  pub counted : q.count ≡ p.count + used
  pub gains : Gains p q old new
  pub at : IsAt q session

-- where the part may reach so many statements, it has no fault and reaches so many
abbrev pub Goes : ℕ → ℕ → (Progress → Progress) → Option (List ℕ) → Option (List ℕ) → Session
    → Session → Type 0
Goes before after part old new was session = (p : Progress) (used : ℕ) → IsAt p was
    → after ≡ before + used → p.count + used ≤ MAX_STATEMENTS
    → Passes used p (part p) old new session

-- why the part stopped
abbrev pub Stops : RunStop → Progress → Progress → Option (List ℕ) → Option (List ℕ) → Type 0
Stops (Fault line kind) p q old new = (q.end ≡ fault_at line kind) × Gains p q old new
Stops WriteFault p q old new = GainsPart p q old new
Stops NoMemory p q old new = ⊤

abbrev pub Halts : RunStop → ℕ → (Progress → Progress) → Option (List ℕ) → Option (List ℕ)
    → Session → Type 0
Halts stop before part old new was = (p : Progress) → IsAt p was → p.count ≡ before
    → Stops stop p (part p) old new

-- no further statement may be reached, and what the part prints was appended
pub record IsCut (p q : Progress) (old new : Option (List ℕ)) : Type 0 where
  pub full : nat_lt q.count MAX_STATEMENTS ≡ false
  pub gains : Gains p q old new

-- where the part may reach so many statements and no more, what it prints was appended
abbrev pub Cuts : ℕ → ℕ → (Progress → Progress) → Option (List ℕ) → Option (List ℕ) → Session
    → Type 0
Cuts before after part old new was = (p : Progress) (used : ℕ) → IsAt p was
    → after ≡ before + used → p.count + used ≡ MAX_STATEMENTS → IsCut p (part p) old new

abbrev pub is_loop : StatementTree → Bool
is_loop (loop w from to ls) = true
is_loop s = false

-- the turns of a loop with these bounds
abbrev pub block_turns : StatementTree → ℤ × ℤ → Progress → Progress
block_turns (loop w from to ls) bounds p = looped (run_lines ls) w bounds p
block_turns s bounds p = p

-- the first line of a block that is not built
abbrev pub block_unbuilt : StatementTree → Option ℕ
block_unbuilt (loop w from to ls) = unbuilt_in ls
block_unbuilt s = None
