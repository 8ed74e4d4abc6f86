-- What the statement of one line does to the walk.
use Rattle.std.proofs.Common.{◌≡◌, ℕ, ◌+◌, ◌≤◌, ◌<◌, suc, nat_lt, Bool, true, false, if◌then◌else◌, List, [], ◌++◌, Option, None, Some, Result, Ok, Err, refl, sym, ap, subst, ◌∙◌, append-nil, ℤ, pos, arith}
use Rattle.std.proofs.lemmas.Bool.Decides.{nat_tests}
use Rattle.std.specs.FinMap.{get}
use Rattle.std.specs.Io.KnownBytes.{Appends}
use Rattle.std.proofs.KnownBytes.{Appends-nil}
use Rattle.lg_tree.specs.Tree.{Tree, MaybeTree, LineTree, LineTrees, StatementTree, bind, update, put, update_at, print, loop, load, save}
use Rattle.lg_meaning.specs.Memory.{State, weak as weak_bound}
use Rattle.lg_meaning.specs.Weak.{integer}
use Rattle.lg_meaning.specs.Faults.{known_or}
use Rattle.lg_meaning.specs.Loops.{bounds_of}
use Rattle.lg_meaning.specs.declared.fault.FaultKind.{FaultKind}
use Rattle.lg_meaning.specs.declared.fault.FaultKind.TheVariants.{Limit}
use Rattle.lg_meaning.specs.Static.{Static}
use Rattle.lg_meaning.specs.Assignments.{target_of}
use Rattle.lg_meaning.specs.Expressions.{static_of, items_of, evaluated}
use Rattle.lg_meaning.specs.Text.{printed, printed_type}
use Rattle.lg_meaning.specs.Step.{Stepped, step, bind_step, print_step, put_answer, update_answer, loop_step, text_unless, rebound}
use Rattle.lg_meaning.specs.Run.{End, done, fault_at, Progress, after, going_on, end_by, stepped_on, stopped, stepped_at, turn_from, looped, run_lines, run_line, MAX_STATEMENTS}
use Rattle.lg_session.specs.Built.{is_built}
use Rattle.lg_session.specs.Standing.{StandsFor}
use Rattle.lg_session.specs.Session.{FaultsAt, StopsAt}
use Rattle.lg_session.specs.Turns.{StopsOpening}
use Rattle.lg_session.specs.declared.session.Session.{Session}
use Rattle.lg_session.proofs.WriteSteps.{update_text, write_text}
use Rattle.lg_session.specs.declared.session.StopEnd.{StopEnd}
use Rattle.lg_session.specs.declared.session.StopEnd.TheVariants.{Fault as FaultAt, NoMemory as NoRoom}
use Rattle.legate.specs.Running.{IsAt, Gains, GainsPart, Passes, Goes, Stops, Halts, IsCut, Cuts, stop_of, Writes, WritesPart, StopsWriting}
use Rattle.legate.specs.declared.running.RunStop.{RunStop}
use Rattle.legate.specs.declared.running.RunStop.TheVariants.{Fault, WriteFault, NoMemory}
use Rattle.legate.proofs.Runs.{Full, line_run}
use Rattle.legate.proofs.Walks.{gains_none, at_limit, Between, Midway, midway_none, midway_full}

below_is : (a b : ℕ) → a < b → nat_lt a b ≡ true
below_is a b h = grind (arith, nat_tests)

true_or_not : (b : Bool) → false ≡ true → ⊥
true_or_not b e = cc

-- ---- one statement

within_limit : (n : ℕ) (s : StatementTree) (p : Progress) → nat_lt p.count MAX_STATEMENTS ≡ true → stepped_at n s p ≡ stepped_on n (step s p.state) p
within_limit n s p e = ap (λ b. if b then stepped_on n (step s p.state) p else stopped n Limit p) e

past_limit : (n : ℕ) (s : StatementTree) (p : Progress) → Full p → stepped_at n s p ≡ stopped n Limit p
past_limit n s p e = ap (λ b. if b then stepped_on n (step s p.state) p else stopped n Limit p) e

-- a statement that is built is one step
built_line : (n : ℕ) (s : StatementTree) (p : Progress) → is_built s ≡ true → p.end ≡ done → run_line n s p ≡ stepped_at n s p
built_line n (bind w a) p built e = ap (λ end. after end p (stepped_at n (bind w a))) e
built_line n (print a) p built e = ap (λ end. after end p (stepped_at n (print a))) e
built_line n (update w op a) p built e = ap (λ end. after end p (stepped_at n (update w op a))) e
built_line n (put w is a) p built e = ap (λ end. after end p (stepped_at n (put w is a))) e
built_line n (update_at w is op a) p built e = ap (λ end. after end p (stepped_at n (update_at w is op a))) e
built_line n (loop w from to ls) p built e = absurd (true_or_not true built)
built_line n (load w file) p built e = absurd (true_or_not true built)
built_line n (save file a) p built e = absurd (true_or_not true built)

-- one statement too many
limit_line : (n : ℕ) (s : StatementTree) (p : Progress) → p.end ≡ done → Full p → run_line n s p ≡ stopped n Limit p
limit_line n (loop w from to ls) p e full =
    let f : Progress → Progress = stepped_at n (loop w from to ls) in
    ap (λ q. going_on q (λ q. looped (run_lines ls) w (known_or (pos 0, pos 0) (bounds_of from to q.state.names)) q))
    (ap (λ end. after end p f) e ∙ past_limit n (loop w from to ls) p full)
limit_line n (bind w a) p e full = ap (λ end. after end p (stepped_at n (bind w a))) e ∙ past_limit n (bind w a) p full
limit_line n (update w op a) p e full = ap (λ end. after end p (stepped_at n (update w op a))) e ∙ past_limit n (update w op a) p full
limit_line n (put w is a) p e full = ap (λ end. after end p (stepped_at n (put w is a))) e ∙ past_limit n (put w is a) p full
limit_line n (update_at w is op a) p e full = ap (λ end. after end p (stepped_at n (update_at w is op a))) e ∙ past_limit n (update_at w is op a) p full
limit_line n (print a) p e full = ap (λ end. after end p (stepped_at n (print a))) e ∙ past_limit n (print a) p full
limit_line n (load w file) p e full = ap (λ end. after end p (stepped_at n (load w file))) e ∙ past_limit n (load w file) p full
limit_line n (save file a) p e full = ap (λ end. after end p (stepped_at n (save file a))) e ∙ past_limit n (save file a) p full

pub halts_limit : (n : ℕ) (s : StatementTree) (count : ℕ) (a : Option (List ℕ)) (was : Session) → count ≡ MAX_STATEMENTS → Halts (Fault n Limit) count (run_line n s) a a was
halts_limit n s count a was full p at is =
    let same = limit_line n s p at.going (at_limit p.count (is ∙ full)) in
    subst (λ (q : Progress). Stops (Fault n Limit) p q a a) (sym same) (refl, gains_none p (stopped n Limit p) a refl)

-- a statement with a fault prints nothing
silent : (s : StatementTree) (state : State) (kind : FaultKind) → is_built s ≡ true → (step s state).fault ≡ Some kind → (step s state).text ≡ []
silent (bind w e) state kind built f = by_kind (static_of e state.names)
  where
    by_kind : (r : Result Static FaultKind) → (bind_step w e state r).text ≡ []
    by_kind (Ok s) = refl
    by_kind (Err fault) = refl
silent (print e) state kind built f = by_kind (static_of e state.names) f
  where
    by_kind : (r : Result Static FaultKind) → (print_step e state r).fault ≡ Some kind → (print_step e state r).text ≡ []
    by_kind (Ok s) f = ap (λ o. text_unless o (printed (printed_type s) (evaluated e state.memory state.names).shape (evaluated e state.memory state.names).numbers)) f
    by_kind (Err fault) f = refl
silent (update w op e) state kind built f = update_text w op e state (get state.names w)
silent (put w is e) state kind built f = write_text state (put_answer w is e state)
silent (update_at w is op e) state kind built f = write_text state (update_answer op e state (target_of (get state.names w) (items_of is state.names)))
silent (loop w from to ls) state kind built f = absurd (true_or_not true built)
silent (load w file) state kind built f = absurd (true_or_not true built)
silent (save file e) state kind built f = absurd (true_or_not true built)

-- ---- a line without a block

module _ (line : LineTree) (before : ℕ) (a b : Option (List ℕ)) (was : Session) (built : is_built line.statement ≡ true) (few : before < MAX_STATEMENTS) where
  -- it is one step
  one : (p : Progress) → p.end ≡ done → p.count < MAX_STATEMENTS → run_line line.number line.statement p ≡ stepped_on line.number (step line.statement p.state) p
  one p e below = built_line line.number line.statement p built e ∙ within_limit line.number line.statement p (below_is p.count MAX_STATEMENTS below)

  pub goes_step : (after : Session) → ((s : State) → StandsFor was s → Writes line s a b after) → Goes before (before + 1) (run_line line.number line.statement) a b was after
  goes_step after writes p used at is fits =
      let s : Stepped = step line.statement p.state in
      let w = writes p.state at.stands in
      subst (λ (q : Progress). Passes used p q a b after) (sym (one p at.going (omega (arith, is, fits))))
      (record {
        counted = omega (arith, is);
        gains = record { text = s.text; more = refl; appended = w.printed };
        at = record { going = ap (end_by line.number) w.sound; stands = w.stands };
      })

  pub halts_step : (stop : RunStop) → ((s : State) → StandsFor was s → StopsWriting stop line s a b) → Halts stop before (run_line line.number line.statement) a b was
  halts_step stop stops p at is =
      subst (λ (q : Progress). Stops stop p q a b) (sym (one p at.going (omega (arith, is, few)))) (by_stop stop (stops p.state at.stands))
    where
      by_stop : (x : RunStop) → StopsWriting x line p.state a b → Stops x p (stepped_on line.number (step line.statement p.state) p) a b
      by_stop (Fault number kind) h =
          let s : Stepped = step line.statement p.state in (
            ap (end_by line.number) h.0.fault ∙ ap (λ n. fault_at n kind) h.0.line_number,
            subst (λ o. Gains p (stepped_on line.number s p) a o) (sym h.1)
                (gains_none p (stepped_on line.number s p) a (ap (λ l. p.text ++ l) (silent line.statement p.state kind built h.0.fault) ∙ append-nil p.text)),
          )
      by_stop WriteFault h = record { text = (step line.statement p.state).text; more = refl; appended = h.printed }
      by_stop NoMemory h = tt

  pub cut_step : ((s : State) → StandsFor was s → StopsWriting NoMemory line s a b) → Cuts before before (run_line line.number line.statement) a b was
  cut_step stops p used at is full =
      let f : Progress → Progress = run_line line.number line.statement in
      subst (λ o. IsCut p (f p) a o) (sym (stops p.state at.stands))
      (midway_full before before f f a a was was (midway_none before f a was) (omega arith) (line_run line.number line.statement) p used at is full)

-- the session stopped at a line, and nothing was written
pub stops_unwritten : (stop : RunStop) (end : StopEnd) (line : LineTree) (state : State) (old : Option (List ℕ)) → stop ≡ stop_of end
    → StopsAt end line state → StopsWriting stop line state old old
stops_unwritten stop end line state old is h =
    let P : RunStop → Type 0 = λ s. StopsWriting s line state old old in
    subst P (sym is) (unwritten end h)
  where
    unwritten : (e : StopEnd) → StopsAt e line state → StopsWriting (stop_of e) line state old old
    unwritten (FaultAt number kind) f = (f, refl)
    unwritten NoRoom f = refl

-- ---- the line of a loop

module _ (n : ℕ) (w : List ℕ) (from : MaybeTree) (to : Tree) (ls : LineTrees) (before : ℕ) (a : Option (List ℕ)) (was : Session) (few : before < MAX_STATEMENTS) where
  abbrev turned : Progress → Progress
  turned q = looped (run_lines ls) w (known_or (pos 0, pos 0) (bounds_of from to q.state.names)) q

  -- where the line by itself has come to
  reached : (p : Progress) (r : Result (ℤ × ℤ) FaultKind) → p.end ≡ done → p.count < MAX_STATEMENTS → bounds_of from to p.state.names ≡ r
      → run_line n (loop w from to ls) p ≡ going_on (stepped_on n (loop_step p.state r) p) turned
  reached p r e below is =
      ap (λ q. going_on q turned)
      (ap (λ end. after end p (stepped_at n (loop w from to ls))) e ∙ within_limit n (loop w from to ls) p (below_is p.count MAX_STATEMENTS below)
      ∙ ap (λ r. stepped_on n (loop_step p.state r) p) is)

  pub midway_loop : (bounds : ℤ × ℤ) → ((s : State) → StandsFor was s → bounds_of from to s.names ≡ Ok bounds)
      → Midway before (before + 1) (run_line n (loop w from to ls)) (looped (run_lines ls) w bounds) a a was was
  midway_loop bounds known p used at is fits =
      let found = known p.state at.stands in
      let q : Progress = stepped_on n (loop_step p.state (Ok bounds)) p in
      record {
        now = q;
        passed = record { counted = omega (arith, is); gains = gains_none p q a (append-nil p.text); at = record { going = refl; stands = at.stands } };
        left = reached p (Ok bounds) at.going (omega (arith, is, fits)) found ∙ ap (λ r. looped (run_lines ls) w (known_or (pos 0, pos 0) r) q) found;
      }

  pub halts_loop : (stop : RunStop) (end : StopEnd) → stop ≡ stop_of end → ((s : State) → StandsFor was s → StopsOpening end n (bounds_of from to s.names))
      → Halts stop before (run_line n (loop w from to ls)) a a was
  halts_loop stop end same stops p at is =
      subst (λ x. Stops x p (run_line n (loop w from to ls) p) a a) (sym same) (by_end end (stops p.state at.stands))
    where
      by_end : (e : StopEnd) → StopsOpening e n (bounds_of from to p.state.names) → Stops (stop_of e) p (run_line n (loop w from to ls) p) a a
      by_end (FaultAt number kind) h =
          let q : Progress = stepped_on n (loop_step p.state (Err kind)) p in
          subst (λ (x : Progress). Stops (Fault number kind) p x a a) (sym (reached p (Err kind) at.going (omega (arith, is, few)) h.1))
          (ap (λ m. fault_at m kind) h.0, gains_none p q a (append-nil p.text))
      by_end NoRoom h = tt

-- the variable of a loop is bound
pub goes_turn : (w : List ℕ) (v : ℤ) (now : ℕ) (b : Option (List ℕ)) (s t : Session) → ((state : State) → StandsFor s state → StandsFor t (rebound w (weak_bound (integer v)) state))
    → Goes now now (turn_from w v) b b s t
goes_turn w v now b s t bound p used at is fits = record {
  counted = omega (arith, is);
  gains = gains_none p (turn_from w v p) b refl;
  at = record { going = at.going; stands = bound p.state at.stands };
}
