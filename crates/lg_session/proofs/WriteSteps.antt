-- What the statements that write do to the session.
use Rattle.std.proofs.Common.{◌≡◌, ◌≢◌, ◌⊎◌, inl, inr, ℕ, Bool, true, false, List, [], map, option_map, Option, None, Some, Result, Ok, Err, refl, sym, ap, subst, ◌∙◌, bytes_eq, ℤ}
use Rattle.std.specs.Cmp.Lexicographic.{bytes_decides}
use Rattle.std.specs.FinMap.{get}
use Rattle.lg_elem.specs.Types.{wrap}
use Rattle.lg_promote.specs.Kinds.{is_same_kind}
use Rattle.lg_space.specs.Rectangle.{volume_of}
use Rattle.lg_shape.specs.Shapes.{broadcast, size_of}
use Rattle.lg_store.specs.declared.view.View.{View as CodeView}
use Rattle.lg_store.specs.declared.view.Right.{Right as CodeRight}
use Rattle.lg_store.specs.declared.view.Right.TheVariants.{Writable, ReadOnly as CodeReadOnly, Scalar}
use Rattle.lg_tile.specs.Tiles.{numbers}
use Rattle.lg_tile.proofs.NumberLemmas.{numbers_full}
use Rattle.lg_xform.specs.Chains.{shape_of}
use Rattle.lg_tree.specs.declared.kinds.Arith.{Arith}
use Rattle.lg_tree.specs.Tree.{Tree, name, arith, ItemTrees, StatementTree, put, update, update_at}
use Rattle.lg_meaning.specs.declared.fault.FaultKind.{FaultKind}
use Rattle.lg_meaning.specs.declared.fault.FaultKind.TheVariants.{Range, Shape, ReadOnly, TypeKind}
use Rattle.lg_meaning.specs.Assignments.{Write, is_writable, is_taken, fills, without_surplus, target_of, put_target, put_write, update_write, updated, write_of}
use Rattle.lg_meaning.specs.Expressions.{static_of, evaluated, items_of}
use Rattle.lg_meaning.specs.Faults.{from_part, from_both, needing}
use Rattle.lg_meaning.specs.Memory as memory
use Rattle.lg_meaning.specs.Memory.{Right, ArrayKind, View, Bound, State, viewed, writable, read_only, scalar}
use Rattle.lg_meaning.specs.Operators.{arith_static, binary_static, binary_value, operation}
use Rattle.lg_meaning.specs.Static.{Static, array_value, as_array}
use Rattle.lg_meaning.specs.Static as static
use Rattle.lg_meaning.specs.Step.{step, write_step, put_answer, update_answer, update_step, update_by_right, bind_step}
use Rattle.lg_meaning.specs.Value as meaning
use Rattle.lg_meaning.specs.Value.{plain}
use Rattle.lg_session.specs.Names.{bound_at, bound_of, environment}
use Rattle.lg_operations.specs.Views.{view_of}
use Rattle.lg_operations.specs.Operations.{fresh_kind, fresh_value, operand_static, operand_value, right_for, weak_of, IsArrayOf, IsMade}
use Rattle.lg_session.specs.Roots.{contents}
use Rattle.lg_session.specs.Session.{Leaves, IsDone, IsBound, Executes}
use Rattle.lg_session.specs.Standing.{StandsFor, roots_in, names_in}
use Rattle.lg_session.specs.Values.{value_static, value_in, Means, IsOutcome}
use Rattle.lg_session.specs.Worlds.{SameBound, IsShown, shown_in}
use Rattle.lg_operations.specs.Taking.{taking, put_rule, update_rule, HasTaken, IsTakenBy}
use Rattle.lg_session.specs.Writing.{ShowsTarget, IsTarget}
use Rattle.lg_operations.proofs.Fillings.{fills_self, self_broadcast}
use Rattle.lg_session.proofs.Links.{named_there, named_shown, shown_alike}
use Rattle.lg_session.specs.declared.names.Bound.{Bound as CodeBound}
use Rattle.lg_session.specs.declared.names.Bound.TheVariants as code
use Rattle.lg_operations.specs.declared.values.Weak.{Weak as CodeWeak}
use Rattle.lg_operations.specs.declared.end.EvaluateEnd.{EvaluateEnd}
use Rattle.lg_operations.specs.declared.end.EvaluateEnd.TheVariants.{Fault, NoMemory}
use Rattle.lg_operations.specs.declared.values.Fresh.{Fresh}
use Rattle.lg_operations.specs.declared.values.Operand.{Operand}
use Rattle.lg_session.specs.declared.session.Session.{Session}
use Rattle.lg_session.specs.declared.value.Value.{Value}

-- ---- three conditions in a row

held_three : {A : Type 0} (a b c : Bool) (p q r : FaultKind) (x : A) → ◌≡◌ {A = Result (Unit {0}) FaultKind} (needing a p (needing b q (needing c r (Ok tt)))) (Ok tt)
    → needing a p (needing b q (needing c r (Ok x))) ≡ Ok x
held_three true true true p q r x e = refl
held_three true true false p q r x e = cc
held_three true false c p q r x e = cc
held_three false b c p q r x e = cc

failed_three : {A : Type 0} (a b c : Bool) (p q r kind : FaultKind) (x : A) → ◌≡◌ {A = Result (Unit {0}) FaultKind} (needing a p (needing b q (needing c r (Ok tt)))) (Err kind)
    → needing a p (needing b q (needing c r (Ok x))) ≡ Err kind
failed_three true true true p q r kind x e = cc
failed_three true true false p q r kind x e = let same : r ≡ kind = cc in ap Err same
failed_three true false c p q r kind x e = let same : q ≡ kind = cc in ap Err same
failed_three false b c p q r kind x e = let same : p ≡ kind = cc in ap Err same

last_of_three : (a b c : Bool) (p q r : FaultKind) → ◌≡◌ {A = Result (Unit {0}) FaultKind} (needing a p (needing b q (needing c r (Ok tt)))) (Ok tt) → (a ≡ true) × (c ≡ true)
last_of_three true true true p q r e = (refl, refl)
last_of_three true true false p q r e = cc
last_of_three true false c p q r e = cc
last_of_three false b c p q r e = cc

-- ---- what is done

-- a write with this fault
pub write_fault : (state : State) (session : Session) (answer : Result Write FaultKind) (kind : FaultKind) → answer ≡ Err kind → IsDone (write_step state answer) session (Err (Fault kind))
write_fault state session answer kind is = ap (λ r. (write_step state r).fault) is

-- the same write
pub write_done : (state : State) (session : Session) (answer other : Result Write FaultKind) (result : Result (Unit {0}) EvaluateEnd) → answer ≡ other
    → IsDone (write_step state other) session result → IsDone (write_step state answer) session result
write_done state session answer other result is h = subst (λ r. IsDone (write_step state r) session result) (sym is) h

-- it prints nothing
pub write_text : (state : State) (answer : Result Write FaultKind) → (write_step state answer).text ≡ []
write_text state (Ok write) = refl
write_text state (Err kind) = refl

bind_text : (w : List ℕ) (e : Tree) (state : State) (r : Result Static FaultKind) → (bind_step w e state r).text ≡ []
bind_text w e state (Ok s) = refl
bind_text w e state (Err kind) = refl

pub update_text : (w : List ℕ) (op : Arith) (e : Tree) (state : State) (b : Option Bound) → (update_step w op e state b).text ≡ []
update_text w op e state None = bind_text w (arith op (name w) e) state (static_of (arith op (name w) e) state.names)
update_text w op e state (Some (memory.weak x)) = bind_text w (arith op (name w) e) state (static_of (arith op (name w) e) state.names)
update_text w op e state (Some (memory.array view)) = by view.kind.right
  where
    by : (right : Right) → (update_by_right w op e state view right).text ≡ []
    by scalar = bind_text w (arith op (name w) e) state (static_of (arith op (name w) e) state.names)
    by writable = write_text state (update_answer op e state (Ok view))
    by read_only = write_text state (update_answer op e state (Ok view))

-- a statement that prints nothing is performed where it is done
executes_quiet : (statement : StatementTree) (state : State) (text : List ℕ) (session : Session) → (step statement state).text ≡ [] → text ≡ [] → Leaves (step statement state) session
    → Executes statement state text session
executes_quiet statement state text session quiet none h = record { sound = h.sound; printed = quiet ∙ sym none; stands = h.stands }

pub executes_put : (w : List ℕ) (is : ItemTrees) (e : Tree) (state : State) (text : List ℕ) (session : Session) → text ≡ [] → Leaves (step (put w is e) state) session
    → Executes (put w is e) state text session
executes_put w is e state text session none h = executes_quiet (put w is e) state text session (write_text state (put_answer w is e state)) none h

pub executes_update : (w : List ℕ) (op : Arith) (e : Tree) (state : State) (text : List ℕ) (session : Session) → text ≡ [] → Leaves (step (update w op e) state) session
    → Executes (update w op e) state text session
executes_update w op e state text session none h = executes_quiet (update w op e) state text session (update_text w op e state (get state.names w)) none h

pub executes_update_at : (w : List ℕ) (is : ItemTrees) (op : Arith) (e : Tree) (state : State) (text : List ℕ) (session : Session) → text ≡ [] → Leaves (step (update_at w is op e) state) session
    → Executes (update_at w is op e) state text session
executes_update_at w is op e state text session none h =
    executes_quiet (update_at w is op e) state text session (write_text state (update_answer op e state (target_of (get state.names w) (items_of is state.names)))) none h

-- ---- `w[is] = e`

module _ (state : State) (old new : Session) (w : List ℕ) (is : ItemTrees) (e : Tree) where
  abbrev target : Result View FaultKind
  target = target_of (get state.names w) (items_of is state.names)

  pub put_value_end : (end : EvaluateEnd) → IsOutcome e state old (Err end) → IsDone (step (put w is e) state) new (Err end)
  put_value_end (Fault kind) h =
      write_fault state new (put_answer w is e state) kind
      (ap (λ r. from_part r (λ s. put_write s (evaluated e state.memory state.names) (get state.names w) (items_of is state.names))) h)
  put_value_end NoMemory h = tt

  module _ (value : Value) (m : Means e state old value) where
    answer_is : put_answer w is e state ≡ put_write (value_static value) (value_in (contents old.roots) value) (get state.names w) (items_of is state.names)
    answer_is =
        ap (λ r. from_part r (λ s. put_write s (evaluated e state.memory state.names) (get state.names w) (items_of is state.names))) m.kind
        ∙ ap (λ v. put_write (value_static value) v (get state.names w) (items_of is state.names)) m.same

    -- what is written to the target that there is
    abbrev written_by : Result View FaultKind → Result Write FaultKind
    written_by r = from_part r (λ (t : View). Ok (record {
      target = t;
      numbers = broadcast (without_surplus (value_in (contents old.roots) value).shape t.kind.shape) (value_in (contents old.roots) value).numbers t.kind.shape;
      fault = (value_in (contents old.roots) value).fault;
    }))

    pub put_target_end : (end : EvaluateEnd) → IsTarget target state old (Err end) → IsDone (step (put w is e) state) new (Err end)
    put_target_end (Fault kind) h =
        write_fault state new (put_answer w is e state) kind
        (answer_is ∙ ap written_by (ap (λ r. from_part r (λ (t : View). needing (is_writable t.kind.right) ReadOnly
        (needing (is_taken t.kind.dtype (value_static value)) Range (needing (fills (static.shape_of (value_static value)) t.kind.shape) Shape (Ok t))))) h))
    put_target_end NoMemory h = tt

    module _ (view : CodeView) (t : ShowsTarget target state old view) where
      abbrev checked : View → Result View FaultKind
      checked x = needing (is_writable x.kind.right) ReadOnly
          (needing (is_taken x.kind.dtype (value_static value)) Range (needing (fills (static.shape_of (value_static value)) x.kind.shape) Shape (Ok x)))

      target_is : put_target (value_static value) (get state.names w) (items_of is state.names) ≡ checked t.there
      target_is = ap (λ r. from_part r checked) t.is

      rule_there : put_rule (view_of view).kind (value_static value) ≡ put_rule t.there.kind (value_static value)
      rule_there = ap (λ k. put_rule k (value_static value)) t.shown.kind.kind

      fault_there : (kind : FaultKind) → put_rule (view_of view).kind (value_static value) ≡ Err kind → checked t.there ≡ Err kind
      fault_there kind h =
          failed_three (is_writable t.there.kind.right) (is_taken t.there.kind.dtype (value_static value)) (fills (static.shape_of (value_static value)) t.there.kind.shape)
          ReadOnly Range Shape kind t.there (sym rule_there ∙ h)

      pub put_taken_end : (end : EvaluateEnd) → IsTakenBy (put_rule (view_of view).kind (value_static value)) view.dtype (shape_of view.chain) (value_in (contents old.roots) value) (Err end)
          → IsDone (step (put w is e) state) new (Err end)
      put_taken_end (Fault kind) h = write_fault state new (put_answer w is e state) kind (answer_is ∙ ap written_by (target_is ∙ fault_there kind h))
      put_taken_end NoMemory h = tt

      abbrev given : List ℤ
      given = broadcast (without_surplus (value_in (contents old.roots) value).shape (shape_of view.chain)) (value_in (contents old.roots) value).numbers (shape_of view.chain)

      -- the write that the statement is
      pub put_is : (taken : Fresh) → put_rule (view_of view).kind (value_static value) ≡ Ok tt → HasTaken view.dtype (shape_of view.chain) (value_in (contents old.roots) value) taken
          → put_answer w is e state ≡ Ok (record { target = t.there; numbers = given; fault = taken.fault })
      put_is taken rule h =
          let v = value_in (contents old.roots) value in
          let held : checked t.there ≡ Ok t.there =
          held_three (is_writable t.there.kind.right) (is_taken t.there.kind.dtype (value_static value)) (fills (static.shape_of (value_static value)) t.there.kind.shape)
          ReadOnly Range Shape t.there (sym rule_there ∙ rule) in
          let shape : t.there.kind.shape ≡ shape_of view.chain = ap (λ (k : ArrayKind). k.shape) (sym t.shown.kind.kind) in
          answer_is ∙ ap written_by (target_is ∙ held)
          ∙ (λ i. Ok (record { target = t.there; numbers = broadcast (without_surplus v.shape (shape i)) v.numbers (shape i); fault = sym h.fault i }))

-- ---- an update of an array

module _ (state : State) (old new : Session) (op : Arith) (e : Tree) (target : Result View FaultKind) (view : CodeView) (t : ShowsTarget target state old view) where
  update_there : update_answer op e state target ≡ from_part (static_of e state.names) (λ s. update_write op t.there s (evaluated e state.memory state.names) state.memory)
  update_there = ap (λ r. from_both r (static_of e state.names) (λ x s. update_write op x s (evaluated e state.memory state.names) state.memory)) t.is

  pub update_value_end : (end : EvaluateEnd) → IsOutcome e state old (Err end) → IsDone (write_step state (update_answer op e state target)) new (Err end)
  update_value_end (Fault kind) h =
      write_fault state new (update_answer op e state target) kind
      (update_there ∙ ap (λ r. from_part r (λ s. update_write op t.there s (evaluated e state.memory state.names) state.memory)) h)
  update_value_end NoMemory h = tt

  module _ (value : Value) (m : Means e state old value) (a b : Operand) (first : operand_static a ≡ array_value (view_of view).kind) (second : operand_static b ≡ value_static value)
      (shown : operand_value a ≡ plain (view_of view).kind.shape (shown_in (contents old.roots) (view_of view))) (given : operand_value b ≡ value_in (contents old.roots) value)
      (stands : StandsFor old state) where
    abbrev v : meaning.Value
    v = value_in (contents old.roots) value

    update_answer_is : update_answer op e state target ≡ update_write op t.there (value_static value) v state.memory
    update_answer_is =
        update_there ∙ ap (λ r. from_part r (λ s. update_write op t.there s (evaluated e state.memory state.names) state.memory)) m.kind
        ∙ ap (λ x. update_write op t.there (value_static value) x state.memory) m.same

    static_there : binary_static (operation op) (operand_static a) (operand_static b) ≡ arith_static op (array_value t.there.kind) (value_static value)
    static_there =
        ap (λ s. binary_static (operation op) s (operand_static b)) (first ∙ ap array_value t.shown.kind.kind) ∙ ap (binary_static (operation op) (array_value t.there.kind)) second

    abbrev by_static : Result Static FaultKind → Result Write FaultKind
    by_static r = from_part (from_part r (λ result. from_part (as_array result)
        (λ kind. needing (is_writable t.there.kind.right) ReadOnly (needing (is_same_kind kind.dtype t.there.kind.dtype) TypeKind
        (needing (bytes_eq kind.shape t.there.kind.shape) Shape (Ok kind))))))
        (λ kind. Ok (write_of t.there (updated op t.there v state.memory kind)))

    pub update_operation_end : (value_of : ArrayKind → meaning.Value) (end : EvaluateEnd) → IsMade (binary_static (operation op) (operand_static a) (operand_static b)) value_of (Err end)
        → IsDone (write_step state (update_answer op e state target)) new (Err end)
    update_operation_end value_of (Fault kind) h = write_fault state new (update_answer op e state target) kind (update_answer_is ∙ ap by_static (sym static_there ∙ h))
    update_operation_end value_of NoMemory h = tt

    module _ (made : Fresh) (h : IsArrayOf (binary_static (operation op) (operand_static a) (operand_static b)) (binary_value (operation op) (operand_value a) (operand_value b)) made) where
      abbrev update_checked : ArrayKind → Result ArrayKind FaultKind
      update_checked kind = needing (is_writable t.there.kind.right) ReadOnly (needing (is_same_kind kind.dtype t.there.kind.dtype) TypeKind
          (needing (bytes_eq kind.shape t.there.kind.shape) Shape (Ok kind)))

      abbrev by_kind : Result ArrayKind FaultKind → Result Write FaultKind
      by_kind r = from_part r (λ kind. Ok (write_of t.there (updated op t.there v state.memory kind)))

      update_rule_there : update_rule (view_of view).kind (fresh_kind made) ≡ update_rule t.there.kind (fresh_kind made)
      update_rule_there = ap (λ k. update_rule k (fresh_kind made)) t.shown.kind.kind

      made_there : update_answer op e state target ≡ by_kind (update_checked (fresh_kind made))
      made_there = update_answer_is ∙ ap by_static (sym static_there ∙ h.kind)

      pub update_rule_fault : (kind : FaultKind) → update_rule (view_of view).kind (fresh_kind made) ≡ Err kind
          → IsDone (write_step state (update_answer op e state target)) new (Err (Fault kind))
      update_rule_fault kind rule =
          write_fault state new (update_answer op e state target) kind
          (made_there ∙ ap by_kind (failed_three (is_writable t.there.kind.right) (is_same_kind (fresh_kind made).dtype t.there.kind.dtype) (bytes_eq (fresh_kind made).shape t.there.kind.shape)
          ReadOnly TypeKind Shape kind (fresh_kind made) (sym update_rule_there ∙ rule)))

      module _ (rule : update_rule (view_of view).kind (fresh_kind made) ≡ Ok tt) where
        pub update_right : is_writable (view_of view).kind.right ≡ true
        update_right = (last_of_three (is_writable (view_of view).kind.right) (is_same_kind (fresh_kind made).dtype (view_of view).kind.dtype)
            (bytes_eq (fresh_kind made).shape (view_of view).kind.shape) ReadOnly TypeKind Shape rule).0

        own_shape : (fresh_kind made).shape ≡ shape_of view.chain
        own_shape = (bytes_decides (fresh_kind made).shape (view_of view).kind.shape).0
            (last_of_three (is_writable (view_of view).kind.right) (is_same_kind (fresh_kind made).dtype (view_of view).kind.dtype)
            (bytes_eq (fresh_kind made).shape (view_of view).kind.shape) ReadOnly TypeKind Shape rule).1

        taking_is : taking view.dtype (shape_of view.chain) (array_value (fresh_kind made)) ≡ Ok tt
        taking_is = ap (λ f. needing f Shape (Ok tt)) (ap (λ s. fills s (shape_of view.chain)) own_shape ∙ fills_self (shape_of view.chain))

        -- the view takes what was made
        pub update_taken_end : (end : EvaluateEnd)
            → IsTakenBy (taking view.dtype (shape_of view.chain) (array_value (fresh_kind made))) view.dtype (shape_of view.chain) (fresh_value made) (Err end)
            → IsDone (write_step state (update_answer op e state target)) new (Err end)
        update_taken_end (Fault kind) fault = absurd (ok_err kind (sym taking_is ∙ fault))
          where
            ok_err : (kind : FaultKind) → ◌≡◌ {A = Result (Unit {0}) FaultKind} (Ok tt) (Err kind) → ⊥
            ok_err kind x = cc
        update_taken_end NoMemory fault = tt

        -- the numbers that are written
        pub update_numbers : (taken : Fresh) → HasTaken view.dtype (shape_of view.chain) (fresh_value made) taken → numbers taken.tile ≡ map (wrap view.dtype) (fresh_value made).numbers
        update_numbers taken has =
            has.same
            ∙ ap (map (wrap view.dtype))
            (self_broadcast (shape_of view.chain) (fresh_value made) own_shape (numbers_full made.tile ∙ ap volume_of h.whole ∙ ap size_of own_shape))

        -- the write that the update is
        pub update_is : (taken : Fresh) → HasTaken view.dtype (shape_of view.chain) (fresh_value made) taken
            → update_answer op e state target ≡ Ok (record { target = t.there; numbers = (fresh_value made).numbers; fault = taken.fault })
        update_is taken has =
            let held : update_checked (fresh_kind made) ≡ Ok (fresh_kind made) =
            held_three (is_writable t.there.kind.right) (is_same_kind (fresh_kind made).dtype t.there.kind.dtype) (bytes_eq (fresh_kind made).shape t.there.kind.shape)
            ReadOnly TypeKind Shape (fresh_kind made) (sym update_rule_there ∙ rule) in
            let alike : shown_in (contents old.roots) (view_of view) ≡ viewed state.memory t.there =
            shown_alike (contents old.roots) (roots_in state) (environment old.names) (names_in state) (view_of view) t.there stands.stands t.shown in
            let first_value : operand_value a ≡ plain t.there.kind.shape (viewed state.memory t.there) =
            shown ∙ (λ i. plain (t.shown.kind.kind i).shape (alike i)) in
            let same : fresh_value made ≡ updated op t.there v state.memory (fresh_kind made) =
            h.same ∙ (λ i. binary_value (operation op) (first_value i) (given i) (fresh_kind made)) in
            made_there ∙ ap by_kind held
            ∙ (λ i. Ok (record { target = t.there; numbers = (sym same i).numbers; fault = (ap (λ (x : meaning.Value). x.fault) (sym same) ∙ sym has.fault) i }))

-- ---- `w op= e`

-- what is no scalar
pub no_scalar : (right : CodeRight) → (right ≡ Writable) ⊎ (right ≡ CodeReadOnly) → right_for right ≢ scalar
no_scalar right (inl e) is = let none : writable ≡ scalar = sym (ap right_for e) ∙ is in cc
no_scalar right (inr e) is = let none : read_only ≡ scalar = sym (ap right_for e) ∙ is in cc

-- an operation on parts of which one has no value
module _ (state : State) (session : Session) (op : Arith) (a b : Tree) where
  pub arith_first_end : (end : EvaluateEnd) → IsOutcome a state session (Err end) → IsOutcome (arith op a b) state session (Err end)
  arith_first_end (Fault kind) h = ap (λ r. from_both r (static_of b state.names) (arith_static op)) h
  arith_first_end NoMemory h = tt

  pub arith_second_end : (p : Value) (end : EvaluateEnd) → Means a state session p → IsOutcome b state session (Err end) → IsOutcome (arith op a b) state session (Err end)
  arith_second_end p (Fault kind) m h = ap (λ r. from_both r (static_of b state.names) (arith_static op)) m.kind ∙ ap (λ r. from_part r (arith_static op (value_static p))) h
  arith_second_end p NoMemory m h = tt

module _ (state : State) (old new : Session) (w : List ℕ) (op : Arith) (e : Tree) (result : Result (Unit {0}) EvaluateEnd) (stands : StandsFor old state) where
  abbrev there_bound : Option Bound
  there_bound = names_in state w

  done_at : (b : Option Bound) → there_bound ≡ b → IsDone (update_step w op e state b) new result → IsDone (step (update w op e) state) new result
  done_at b is h = subst (λ (o : Option Bound). IsDone (update_step w op e state o) new result) (sym is) h

  seen : (o : Option CodeBound) → bound_at old.names w ≡ o → SameBound (option_map bound_of o) there_bound
  seen o is = subst (λ (x : Option Bound). SameBound x there_bound) (ap (option_map bound_of) is) (stands.stands.same w)

  -- a name that is not bound, a weak number and a scalar are bound anew
  pub update_unbound : bound_at old.names w ≡ None → IsBound w (arith op (name w) e) state new result → IsDone (step (update w op e) state) new result
  update_unbound is h = by there_bound refl (seen None is)
    where
      by : (b : Option Bound) → there_bound ≡ b → SameBound None b → IsDone (step (update w op e) state) new result
      by None at same = done_at None at h
      by (Some (memory.weak x)) at same = absurd same
      by (Some (memory.array x)) at same = absurd same

  pub update_weak : (v : CodeWeak) → bound_at old.names w ≡ Some (code.Weak v) → IsBound w (arith op (name w) e) state new result → IsDone (step (update w op e) state) new result
  update_weak v is h = by there_bound refl (seen (Some (code.Weak v)) is)
    where
      by : (b : Option Bound) → there_bound ≡ b → SameBound (Some (memory.weak (weak_of v))) b → IsDone (step (update w op e) state) new result
      by None at same = absurd same
      by (Some (memory.weak x)) at same = done_at (Some (memory.weak x)) at h
      by (Some (memory.array x)) at same = absurd same

  module _ (view : CodeView) (is : bound_at old.names w ≡ Some (code.Array view)) where
    here : environment old.names w ≡ Some (memory.array (view_of view))
    here = ap (option_map bound_of) is

    found : (b : View) × (there_bound ≡ Some (memory.array b))
    found = named_there (contents old.roots) (roots_in state) (environment old.names) (names_in state) w (view_of view) stands.stands here

    shows : IsShown (environment old.names) (names_in state) (view_of view) found.0
    shows = named_shown (contents old.roots) (roots_in state) (environment old.names) (names_in state) w (view_of view) found.0 stands.stands here found.1

    right_there : found.0.kind.right ≡ right_for view.right
    right_there = ap (λ (k : ArrayKind). k.right) (sym shows.kind.kind)

    pub update_scalar : view.right ≡ Scalar → IsBound w (arith op (name w) e) state new result → IsDone (step (update w op e) state) new result
    update_scalar right h =
        done_at (Some (memory.array found.0)) found.1
        (subst (λ (r : Right). IsDone (update_by_right w op e state found.0 r) new result) (sym (right_there ∙ ap right_for right)) h)

    -- any other array is written
    pub update_array : right_for view.right ≢ scalar → ((target : Result View FaultKind) → ShowsTarget target state old view → IsDone (write_step state (update_answer op e state target)) new result)
        → IsDone (step (update w op e) state) new result
    update_array right h =
        done_at (Some (memory.array found.0)) found.1
        (by found.0.kind.right (λ r. right (sym right_there ∙ r))
        (h (Ok found.0) (record { there = found.0; is = refl; inside = stands.sound w found.0 found.1; shown = shows })))
      where
        by : (r : Right) → (r ≡ scalar → ⊥) → IsDone (write_step state (update_answer op e state (Ok found.0))) new result → IsDone (update_by_right w op e state found.0 r) new result
        by writable other done = done
        by read_only other done = done
        by scalar other done = absurd (other refl)
