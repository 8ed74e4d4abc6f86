-- What a statement does to the session, from what binding and printing do.
use Rattle.std.proofs.Common.{◌≡◌, ℕ, List, [], None, Some, Result, Ok, Err, Vec, refl, sym, ap, subst, ◌∙◌, bytes_eq, if◌then◌else◌}
use Rattle.std.specs.declared.alloc.Global.{Global}
use Rattle.lg_store.specs.declared.view.View.{View as CodeView}
use Rattle.lg_tile.specs.Tiles.{numbers}
use Rattle.lg_tree.specs.Tree.{Tree, bind, print, LineTree}
use Rattle.lg_tree.specs.View.{statement_of, line_of}
use Rattle.lg_tree.specs.declared.trees.Line.{Line}
use Rattle.lg_meaning.specs.declared.fault.FaultKind.{FaultKind}
use Rattle.lg_meaning.specs.Memory as memory
use Rattle.lg_meaning.specs.Memory.{View, State, array}
use Rattle.lg_meaning.specs.Static.{Static}
use Rattle.lg_meaning.specs.Expressions.{static_of}
use Rattle.lg_meaning.specs.Value as meaning
use Rattle.lg_meaning.specs.Text.{printed, printed_type}
use Rattle.lg_meaning.specs.Step.{Stepped, step, bind_step, print_step, print_value, text_unless, rebound as rebound_state, newly_bound}
use Rattle.lg_operations.specs.Operations.{weak_of, fresh_kind}
use Rattle.lg_session.specs.Worlds.{IsInside, AtOneIndex, Linked, Place}
use Rattle.lg_session.specs.Names.{bound_at, environment}
use Rattle.lg_operations.specs.Views.{view_of}
use Rattle.lg_session.specs.Roots.{contents}
use Rattle.lg_session.specs.Standing.{StandsFor, roots_in, names_in}
use Rattle.lg_session.specs.Values.{value_static, value_in, Means, IsOutcome}
use Rattle.lg_session.specs.Texts.{IsPrinted}
use Rattle.lg_session.specs.Session.{Binds, IsBound, IsText, Executes, IsExecuted, StopsAt}
use Rattle.lg_session.specs.Ends.{stop_at}
use Rattle.lg_session.proofs.BuiltLemmas.{line-Line}
use Rattle.lg_session.proofs.Links.{BoundLinked}
use Rattle.lg_session.proofs.StepLemmas.{Keeps, represents_rebound, bound_weak, bound_shown, bound_fresh}
use Rattle.lg_session.specs.declared.names.Bound.TheVariants as code
use Rattle.lg_operations.specs.declared.end.EvaluateEnd.{EvaluateEnd}
use Rattle.lg_operations.specs.declared.end.EvaluateEnd.TheVariants.{Fault, NoMemory}
use Rattle.lg_operations.specs.declared.values.Fresh.{Fresh as FreshArray}
use Rattle.lg_operations.specs.declared.values.Weak.{Weak as CodeWeak}
use Rattle.lg_session.specs.declared.session.Session.{Session}
use Rattle.lg_session.specs.declared.value.Value.{Value}
use Rattle.lg_session.specs.declared.value.Value.TheVariants.{Weak, Shown, Fresh}

module _ (state : State) (e : Tree) (word : List ℕ) (old new : Session) where
  -- the fault of an assignment is that of its value
  bind_fault : (value : Value) → Means e state old value → (step (bind word e) state).fault ≡ (value_in (contents old.roots) value).fault
  bind_fault value m = ap (λ s. (bind_step word e state s).fault) m.kind ∙ ap (λ (v : meaning.Value). v.fault) m.same

  module _ (r : StandsFor old state) (keeps : Keeps (contents old.roots) (contents new.roots) new.names) where
    pub binds_weak : (x : CodeWeak) → Means e state old (Weak x)
        → ((w : List ℕ) → bound_at new.names w ≡ (if bytes_eq word w then Some (code.Weak x) else bound_at old.names w)) → Binds word e state new
    binds_weak x m set =
        let after : (step (bind word e) state).state ≡ rebound_state word (memory.weak (weak_of x)) state =
        ap (λ s. (bind_step word e state s).state) m.kind ∙ bound_weak word e (weak_of x) state m.source in
        record {
          sound = bind_fault (Weak x) m;
          stands = subst (StandsFor new) (sym after)
              (represents_rebound (contents old.roots) (contents new.roots) old.names new.names state word (code.Weak x) (memory.weak (weak_of x)) r set keeps refl
              (λ p q link. absurd (no_view link.a link.here)) (λ v is. absurd (no_view v is)));
        }
      where
        no_view : (v : View) → memory.weak (weak_of x) ≡ array v → ⊥
        no_view v is = cc

    pub binds_shown : (view : CodeView) → Means e state old (Shown view)
        → ((w : List ℕ) → bound_at new.names w ≡ (if bytes_eq word w then Some (code.Array view) else bound_at old.names w)) → Binds word e state new
    binds_shown view m set =
        let s = m.source in
        let after : (step (bind word e) state).state ≡ rebound_state word (array s.there) state =
        ap (λ k. (bind_step word e state k).state) m.kind ∙ bound_shown word e (value_static (Shown view)) state s.there s.is in
        record {
          sound = bind_fault (Shown view) m;
          stands = subst (StandsFor new) (sym after)
              (represents_rebound (contents old.roots) (contents new.roots) old.names new.names state word (code.Array view) (array s.there) r set keeps s.shown.kind
              linked (λ v is. subst (IsInside (roots_in state)) (same_view s.there v is) s.inside));
        }
      where
        same_view : (a b : View) → array a ≡ array b → a ≡ b
        same_view a b is = cc

        linked : (p q : Place) → BoundLinked (array (view_of view)) (array m.source.there) p q → Linked (environment old.names) (names_in state) p q
        linked p q link =
            let a : link.a ≡ view_of view = sym (same_view (view_of view) link.a link.here) in
            let b : link.b ≡ m.source.there = sym (same_view m.source.there link.b link.there) in
            m.source.shown.linked p q (subst (λ (v : View). AtOneIndex v m.source.there p q) a (subst (λ (v : View). AtOneIndex link.a v p q) b link.both))

  -- a new array, which stands whether an element has a fault or not
  pub binds_fresh : (fresh : FreshArray) → Means e state old (Fresh fresh) → StandsFor new (newly_bound word (fresh_kind fresh) (numbers fresh.tile) state)
      → fresh.fault ≡ None → Binds word e state new
  binds_fresh fresh m stands sound =
      let after : (step (bind word e) state).state ≡ newly_bound word (fresh_kind fresh) (numbers fresh.tile) state =
      ap (λ k. (bind_step word e state k).state) m.kind ∙ bound_fresh word e (fresh_kind fresh) state m.source
      ∙ ap (λ (v : meaning.Value). newly_bound word (fresh_kind fresh) v.numbers state) m.same in
      record { sound = bind_fault (Fresh fresh) m ∙ sound; stands = subst (StandsFor new) (sym after) stands }

  pub faults_fresh : (fresh : FreshArray) (kind : FaultKind) → Means e state old (Fresh fresh) → fresh.fault ≡ Some kind → (step (bind word e) state).fault ≡ Some kind
  faults_fresh fresh kind m is = bind_fault (Fresh fresh) m ∙ is

  -- an expression without a value
  pub ends_bind : (end : EvaluateEnd) → IsOutcome e state old (Err end) → IsBound word e state new (Err end)
  ends_bind (Fault kind) h = ap (λ s. (bind_step word e state s).fault) h
  ends_bind NoMemory h = tt

-- what is printed of a value
module _ (state : State) (e : Tree) (session : Session) where
  pub ends_print : (end : EvaluateEnd) → IsOutcome e state session (Err end) → IsText e state (Err end)
  ends_print (Fault kind) h = ap (λ s. (print_step e state s).fault) h
  ends_print NoMemory h = tt

  pub prints : (value : Value) (S : Static) (V : meaning.Value) (answer : Result (Vec ℕ Global) EvaluateEnd) → Means e state session value → S ≡ value_static value → V ≡ value_in (contents session.roots) value
      → IsPrinted S V answer → IsText e state answer
  prints value S V (Ok text) m s v h =
      let seen = print_value_at in
      record {
        sound = ap (λ (x : Stepped). x.fault) seen ∙ h.sound;
        same = ap (λ (x : Stepped). x.text) seen ∙ ap (λ f. text_unless f (printed (printed_type S) V.shape V.numbers)) h.sound ∙ sym h.same;
      }
    where
      print_value_at : print_step e state (static_of e state.names) ≡ print_value state S V
      print_value_at = ap (print_step e state) (m.kind ∙ ap Ok (sym s)) ∙ ap (print_value state S) (m.same ∙ sym v)
  prints value S V (Err (Fault kind)) m s v h =
      ap (λ t. (print_step e state t).fault) m.kind ∙ ap (λ (x : meaning.Value). x.fault) (m.same ∙ sym v) ∙ h
  prints value S V (Err NoMemory) m s v h = tt

-- an assignment prints nothing
pub bind_text : (word : List ℕ) (e : Tree) (state : State) → (step (bind word e) state).text ≡ []
bind_text word e state = by_kind (static_of e state.names)
  where
    by_kind : (r : Result Static FaultKind) → (bind_step word e state r).text ≡ []
    by_kind (Ok s) = refl
    by_kind (Err kind) = refl

pub executes_bind : (word : List ℕ) (e : Tree) (state : State) (text : List ℕ) (session : Session) → text ≡ [] → Binds word e state session → Executes (bind word e) state text session
executes_bind word e state text session none b = record { sound = b.sound; printed = bind_text word e state ∙ sym none; stands = b.stands }

-- a print leaves the state as it is
pub print_state : (e : Tree) (state : State) → (step (print e) state).state ≡ state
print_state e state = by_kind (static_of e state.names)
  where
    by_kind : (r : Result Static FaultKind) → (print_step e state r).state ≡ state
    by_kind (Ok s) = refl
    by_kind (Err kind) = refl

pub executed_print : (e : Tree) (state : State) (session : Session) (answer : Result (Vec ℕ Global) EvaluateEnd) → StandsFor session state → IsText e state answer
    → IsExecuted (print e) state answer session
executed_print e state session (Ok text) stands h = record { sound = h.sound; printed = h.same; stands = subst (StandsFor session) (sym (print_state e state)) stands }
executed_print e state session (Err (Fault kind)) stands h = h
executed_print e state session (Err NoMemory) stands h = tt

-- a statement that was not performed, at its line
pub stops_at : (line : LineTree) (state : State) (session : Session) (end : EvaluateEnd) → IsExecuted line.statement state (Err end) session → StopsAt (stop_at line.number end) line state
stops_at line state session (Fault kind) h = record { line_number = refl; fault = h }
stops_at line state session NoMemory h = tt

-- the same as the code sees the line
pub stops_seen : (line : Line) (state : State) (session : Session) (end : EvaluateEnd) → IsExecuted (statement_of line.statement) state (Err end) session
    → StopsAt (stop_at line.number end) (line_of line) state
stops_seen line state session end h =
    let l : LineTree = record { number = line.number; statement = statement_of line.statement } in
    subst (λ (x : LineTree). StopsAt (stop_at line.number end) x state) (sym (line-Line line)) (stops_at l state session end h)
