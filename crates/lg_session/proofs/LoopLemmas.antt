-- The bounds of a loop, and the state after its variable was bound.
use Rattle.std.proofs.Common.{◌≡◌, ℕ, List, Some, Result, Ok, Err, refl, sym, ap, subst, ◌∙◌, ℤ, bytes_eq, if◌then◌else◌}
use Rattle.lg_tree.specs.Tree.{Tree, MaybeTree, no_tree, some_tree}
use Rattle.lg_meaning.specs.declared.fault.FaultKind.{FaultKind}
use Rattle.lg_meaning.specs.declared.fault.FaultKind.TheVariants.{TypeKind}
use Rattle.lg_meaning.specs.Faults.{from_both, from_part}
use Rattle.lg_meaning.specs.Weak as weak
use Rattle.lg_meaning.specs.Memory as memory
use Rattle.lg_meaning.specs.Memory.{View, State, array}
use Rattle.lg_meaning.specs.Static.{integer_of}
use Rattle.lg_meaning.specs.Expressions.{maybe_static, static_of}
use Rattle.lg_meaning.specs.Loops.{bounds_of, bounds_static}
use Rattle.lg_meaning.specs.Step.{rebound as rebound_state}
use Rattle.lg_session.specs.Names.{bound_at}
use Rattle.lg_session.specs.Roots.{contents}
use Rattle.lg_session.specs.Standing.{StandsFor}
use Rattle.lg_session.specs.Turns.{AreTurns}
use Rattle.lg_session.specs.Values.{value_static, Means, IsFirstBound}
use Rattle.lg_session.proofs.StepLemmas.{Keeps, represents_rebound}
use Rattle.lg_session.specs.declared.names.Bound.TheVariants as code
use Rattle.lg_operations.specs.declared.end.EvaluateEnd.{EvaluateEnd}
use Rattle.lg_operations.specs.declared.end.EvaluateEnd.TheVariants.{Fault}
use Rattle.lg_operations.specs.declared.values.Weak.TheVariants.{Integer}
use Rattle.lg_session.specs.declared.session.Session.{Session}
use Rattle.lg_session.specs.declared.value.Value.{Value}

-- the variable stands for a weak integer
turn_at : (state : State) (word : List ℕ) (x : ℤ) (old new : Session) → StandsFor old state → Keeps (contents old.roots) (contents new.roots) new.names
    → ((w : List ℕ) → bound_at new.names w ≡ (if bytes_eq word w then Some (code.Weak (Integer x)) else bound_at old.names w))
    → StandsFor new (rebound_state word (memory.weak (weak.integer x)) state)
turn_at state word x old new r keeps set =
    represents_rebound (contents old.roots) (contents new.roots) old.names new.names state word (code.Weak (Integer x)) (memory.weak (weak.integer x)) r set keeps refl
    (λ p q link. absurd (no_view link.a link.here)) (λ v is. absurd (no_view v is))
  where
    no_view : (v : View) → memory.weak (weak.integer x) ≡ array v → ⊥
    no_view v is = cc

-- the same for a number that is the variable's
pub turn_bound : (state : State) (word : List ℕ) (x y : ℤ) (old new : Session) → y ≡ x → StandsFor old state → Keeps (contents old.roots) (contents new.roots) new.names
    → ((w : List ℕ) → bound_at new.names w ≡ (if bytes_eq word w then Some (code.Weak (Integer y)) else bound_at old.names w))
    → StandsFor new (rebound_state word (memory.weak (weak.integer x)) state)
turn_bound state word x y old new is r keeps set =
    subst (λ z. StandsFor new (rebound_state word (memory.weak (weak.integer z)) state)) is (turn_at state word y old new r keeps set)

-- bounds of which one is no integer
pub no_turns : (bounds : Result (ℤ × ℤ) FaultKind) (end : EvaluateEnd) → end ≡ Fault TypeKind → bounds ≡ Err TypeKind → AreTurns bounds (Err end)
no_turns bounds end is h = subst (λ e. AreTurns bounds (Err e)) (sym is) h

module _ (state : State) (session : Session) where
  -- the kind of the first bound
  first_kind : (m : MaybeTree) (p : Value) → IsFirstBound m state session (Ok p) → maybe_static m state.names ≡ Ok (value_static p)
  first_kind no_tree p h = ap (λ v. Ok (value_static v)) (sym h)
  first_kind (some_tree e) p m = m.kind

  -- where both bounds have a value, the fault is the first one's
  pub first_no_integer : (m : MaybeTree) (b : Tree) (p q : Value) → IsFirstBound m state session (Ok p) → Means b state session q
      → integer_of (value_static p) ≡ Err TypeKind → bounds_of m b state.names ≡ Err TypeKind
  first_no_integer m b p q mp mq h =
      ap (λ s. from_both s (static_of b state.names) bounds_static) (first_kind m p mp)
      ∙ ap (λ s. from_part s (bounds_static (value_static p))) mq.kind
      ∙ ap (λ (s : Result ℤ FaultKind). from_both s (integer_of (value_static q)) (λ x y. Ok (x, y))) h
