-- What one statement does. This project's own.
use Rattle.std.specs.Prelude.{ℕ, List, [], ◌∷◌, ◌++◌, length, Option, Some, None, Result, Ok, Err, ℤ}
use Rattle.std.specs.FinMap.{get, insert}
use Rattle.lg_tree.specs.declared.kinds.Arith.{Arith}
use Rattle.lg_tree.specs.Tree.{Tree, name, arith, ItemTrees, StatementTree, bind, update, put, update_at, print, loop, load, save}
use Rattle.lg_meaning.specs.declared.fault.FaultKind.{FaultKind}
use Rattle.lg_meaning.specs.Faults.{from_part, from_both}
use Rattle.lg_meaning.specs.Memory as bound
use Rattle.lg_meaning.specs.Memory.{Right, writable, read_only, scalar, ArrayKind, Bound, View, State, whole_view}
use Rattle.lg_meaning.specs.Static.{Static, weak_value, array_value}
use Rattle.lg_meaning.specs.Value.{Value}
use Rattle.lg_meaning.specs.Expressions.{static_of, items_of, evaluated}
use Rattle.lg_meaning.specs.Sharing.{shared_view}
use Rattle.lg_meaning.specs.Assignments.{Write, target_of, put_write, update_write, written}
use Rattle.lg_meaning.specs.Loops.{bounds_of}
use Rattle.lg_meaning.specs.Text.{printed, printed_type}
use Rattle.lg_meaning.specs.LeftOut.{left_out}

-- the state after a statement, what it printed, and its fault, if it has one
pub record Stepped : Type 0 where
  pub state : State
  pub text : List ℕ
  pub fault : Option FaultKind

-- a statement with a static fault does nothing
abbrev pub faulted : FaultKind → State → Stepped
faulted kind state = record { state = state; text = []; fault = Some kind }

-- ---- `w = e`

-- the name stands for this from now on
abbrev pub rebound : List ℕ → Bound → State → State
rebound w b state = record { memory = state.memory; names = insert state.names w b }

-- the name stands for the whole of a new root
abbrev pub newly_bound : List ℕ → ArrayKind → List ℤ → State → State
newly_bound w kind numbers state = record {
  memory = state.memory
      ++ (record { dtype = kind.dtype; shape = kind.shape; numbers = numbers } ∷ []);
  names = insert state.names w (bound.array (whole_view (length state.memory) kind));
}

-- a value that no name shares: a weak number is bound as it is, an array as a new root
abbrev pub value_bound : List ℕ → Static → List ℤ → State → State
value_bound w (weak_value x) numbers state = rebound w (bound.weak x) state
value_bound w (array_value kind) numbers state = newly_bound w kind numbers state

-- a view is bound as it is, without a copy; any other value is new
abbrev pub bound_as : List ℕ → Option View → Static → List ℤ → State → State
bound_as w None s numbers state = value_bound w s numbers state
bound_as w (Some view) s numbers state = rebound w (bound.array view) state

abbrev pub bound_to : List ℕ → Tree → Static → State → State
bound_to w e s state = bound_as w (shared_view e state.names) s
    (evaluated e state.memory state.names).numbers state

abbrev pub bind_step : List ℕ → Tree → State → Result Static FaultKind → Stepped
bind_step w e state (Err kind) = faulted kind state
bind_step w e state (Ok s) = record {
  state = bound_to w e s state;
  text = [];
  fault = (evaluated e state.memory state.names).fault;
}

-- ---- writes

abbrev pub write_step : State → Result Write FaultKind → Stepped
write_step state (Err kind) = faulted kind state
write_step state (Ok write) = record {
  state = record {
    memory = written state.memory write.target write.numbers;
    names = state.names;
  };
  text = [];
  fault = write.fault;
}

-- `w[items] = e`: the faults of `e` come first
abbrev pub put_answer : List ℕ → ItemTrees → Tree → State → Result Write FaultKind
put_answer w is e state = from_part (static_of e state.names)
    (λ s. put_write s (evaluated e state.memory state.names) (get state.names w)
    (items_of is state.names))

-- what is written where a target is updated: its faults come first, then those of `e`
abbrev pub update_answer : Arith → Tree → State → Result View FaultKind → Result Write FaultKind
update_answer op e state target = from_both target (static_of e state.names)
    (λ view s. update_write op view s (evaluated e state.memory state.names) state.memory)

-- `w op= e`: a weak number or a scalar is bound anew, and so a name that is not bound is a fault;
-- any other array is written
abbrev pub update_by_right : List ℕ → Arith → Tree → State → View → Right → Stepped
update_by_right w op e state view scalar =
    bind_step w (arith op (name w) e) state (static_of (arith op (name w) e) state.names)
update_by_right w op e state view writable = write_step state (update_answer op e state (Ok view))
update_by_right w op e state view read_only = write_step state (update_answer op e state (Ok view))

abbrev pub update_step : List ℕ → Arith → Tree → State → Option Bound → Stepped
update_step w op e state None =
    bind_step w (arith op (name w) e) state (static_of (arith op (name w) e) state.names)
update_step w op e state (Some (bound.weak x)) =
    bind_step w (arith op (name w) e) state (static_of (arith op (name w) e) state.names)
update_step w op e state (Some (bound.array view)) =
    update_by_right w op e state view view.kind.right

-- ---- `print(e)`

-- with a fault of an element nothing is printed
abbrev pub text_unless : Option FaultKind → List ℕ → List ℕ
text_unless None text = text
text_unless (Some kind) text = []

abbrev pub print_value : State → Static → Value → Stepped
print_value state s v = record {
  state = state;
  text = text_unless v.fault (printed (printed_type s) v.shape v.numbers);
  fault = v.fault;
}

abbrev pub print_step : Tree → State → Result Static FaultKind → Stepped
print_step e state (Err kind) = faulted kind state
print_step e state (Ok s) = print_value state s (evaluated e state.memory state.names)

-- ---- a `for` line

-- by itself it only has the faults of its bounds: what its turns do is said of runs
abbrev pub loop_step : State → Result (ℤ × ℤ) FaultKind → Stepped
loop_step state (Err kind) = faulted kind state
loop_step state (Ok bounds) = record { state = state; text = []; fault = None }

-- ---- one statement. With a static fault the state stays and nothing is printed; with a fault of
-- an element the state is the one after the statement, with 0 for each element that has a fault

abbrev pub step : StatementTree → State → Stepped
step (bind w e) state = bind_step w e state (static_of e state.names)
step (update w op e) state = update_step w op e state (get state.names w)
step (put w is e) state = write_step state (put_answer w is e state)
step (update_at w is op e) state = write_step state
    (update_answer op e state (target_of (get state.names w) (items_of is state.names)))
step (print e) state = print_step e state (static_of e state.names)
step (loop w from to ls) state = loop_step state (bounds_of from to state.names)
step (load w file) state = faulted left_out state
step (save file e) state = faulted left_out state
