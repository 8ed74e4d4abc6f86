-- What a whole script prints, and how it ends: its statements in order of execution, with loops
-- unrolled. This project's own.
use Rattle.std.specs.Prelude.{ℕ, zero, suc, nat_lt, if◌then◌else◌, List, [], ◌++◌, Option, Some, None, ℤ, pos, ◌+ℤ◌}
use Rattle.std.specs.FinMap.{empty}
use Rattle.lg_tree.specs.Tree.{StatementTree, bind, update, put, update_at, print, loop, load, save, LineTrees, no_lines, more_lines, LineTree, line_trees}
use Rattle.lg_meaning.specs.declared.fault.FaultKind.{FaultKind}
use Rattle.lg_meaning.specs.declared.fault.FaultKind.TheVariants.{Limit}
use Rattle.lg_meaning.specs.Faults.{known_or}
use Rattle.lg_meaning.specs.Weak.{integer}
use Rattle.lg_meaning.specs.Memory as bound
use Rattle.lg_meaning.specs.Memory.{State}
use Rattle.lg_meaning.specs.Loops.{bounds_of, turn_count}
use Rattle.lg_meaning.specs.Step.{Stepped, rebound, step}

-- a script ends with its last statement, or with the first fault and the number of its line
pub data End : Type 0 where
  done : End
  fault_at : ℕ → FaultKind → End

-- the text that is printed up to the end, and the end
pub record Run : Type 0 where
  pub text : List ℕ
  pub end : End

-- how far a run has come: the state, how many statements were reached, the text so far, and the
-- fault that ended it, if one did
pub record Progress : Type 0 where
  pub state : State
  pub count : ℕ
  pub text : List ℕ
  pub end : End

-- ---- one statement

-- how many statements there may be, each counted as often as it is reached
abbrev pub MAX_STATEMENTS : ℕ
MAX_STATEMENTS = 100000

-- after a fault nothing is done any more
abbrev pub after : End → Progress → (Progress → Progress) → Progress
after done p follow = follow p
after (fault_at number kind) p follow = p

abbrev pub going_on : Progress → (Progress → Progress) → Progress
going_on p follow = after p.end p follow

abbrev pub end_by : ℕ → Option FaultKind → End
end_by number None = done
end_by number (Some kind) = fault_at number kind

abbrev pub stepped_on : ℕ → Stepped → Progress → Progress
stepped_on number stepped p = record {
  state = stepped.state;
  count = suc p.count;
  text = p.text ++ stepped.text;
  end = end_by number stepped.fault;
}

abbrev pub stopped : ℕ → FaultKind → Progress → Progress
stopped number kind p =
    record { state = p.state; count = p.count; text = p.text; end = fault_at number kind }

-- the statement of a line. One too many is a fault before anything else of it is looked at
abbrev pub stepped_at : ℕ → StatementTree → Progress → Progress
stepped_at number s p =
    if nat_lt p.count MAX_STATEMENTS then stepped_on number (step s p.state) p
    else stopped number Limit p

-- ---- loops

-- a turn binds the loop's variable first
abbrev pub turn_from : List ℕ → ℤ → Progress → Progress
turn_from w v p = record {
  state = rebound w (bound.weak (integer v)) p.state;
  count = p.count;
  text = p.text;
  end = p.end;
}

-- so many turns, with the numbers from one on; `body` is what the lines of the block do
abbrev pub turns : (Progress → Progress) → List ℕ → ℕ → ℤ → Progress → Progress
turns body w zero v p = p
turns body w (suc n) v p =
    going_on p (λ q. turns body w n (v +ℤ pos 1) (body (turn_from w v q)))

-- the bounds are those where the line is reached
abbrev pub looped : (Progress → Progress) → List ℕ → ℤ × ℤ → Progress → Progress
looped body w bounds p = turns body w (turn_count bounds) bounds.0 p

-- ---- lines

abbrev mutual
  pub run_lines : LineTrees → Progress → Progress
  run_lines no_lines p = p
  run_lines (more_lines number s ls) p = run_lines ls (run_line number s p)

  pub run_line : ℕ → StatementTree → Progress → Progress
  run_line number (loop w from to ls) p =
      going_on (going_on p (stepped_at number (loop w from to ls)))
      (λ q. looped (run_lines ls) w (known_or (pos 0, pos 0) (bounds_of from to q.state.names)) q)
  run_line number (bind w e) p = going_on p (stepped_at number (bind w e))
  run_line number (update w op e) p = going_on p (stepped_at number (update w op e))
  run_line number (put w is e) p = going_on p (stepped_at number (put w is e))
  run_line number (update_at w is op e) p = going_on p (stepped_at number (update_at w is op e))
  run_line number (print e) p = going_on p (stepped_at number (print e))
  run_line number (load w file) p = going_on p (stepped_at number (load w file))
  run_line number (save file e) p = going_on p (stepped_at number (save file e))

-- ---- a whole script

-- nothing is there at the start
abbrev pub start : State
start = record { memory = []; names = empty }

abbrev pub beginning : Progress
beginning = record { state = start; count = 0; text = []; end = done }

abbrev pub run_of : Progress → Run
run_of p = record { text = p.text; end = p.end }

abbrev pub run : List LineTree → Run
run script = run_of (run_lines (line_trees script) beginning)
