-- Runs of the definition: what has ended stays, the text only grows, and at the limit nothing more
-- is printed.
use Rattle.std.proofs.Common.{◌≡◌, ℕ, suc, zero, nat_lt, Bool, true, false, if◌then◌else◌, List, [], ◌++◌, refl, sym, ap, ◌∙◌, append_assoc, append-nil, ℤ, pos, ◌+ℤ◌}
use Rattle.lg_tree.specs.Tree.{StatementTree, bind, update, put, update_at, print, loop, load, save, LineTrees, no_lines, more_lines}
use Rattle.lg_meaning.specs.Faults.{known_or}
use Rattle.lg_meaning.specs.Loops.{bounds_of}
use Rattle.lg_meaning.specs.declared.fault.FaultKind.{FaultKind}
use Rattle.lg_meaning.specs.declared.fault.FaultKind.TheVariants.{Limit}
use Rattle.lg_meaning.specs.Step.{step}
use Rattle.lg_meaning.specs.Run.{End, done, fault_at, Progress, after, going_on, stepped_on, stopped, stepped_at, turn_from, turns, looped, run_lines, run_line, MAX_STATEMENTS}

-- ---- a run that has ended

ended : (p : Progress) (number : ℕ) (kind : FaultKind) (f : Progress → Progress) → p.end ≡ fault_at number kind → going_on p f ≡ p
ended p number kind f e = ap (λ end. after end p f) e

mutual
  ended_lines : (ls : LineTrees) (p : Progress) (number : ℕ) (kind : FaultKind) → p.end ≡ fault_at number kind → run_lines ls p ≡ p
  ended_lines no_lines p number kind e = refl
  ended_lines (more_lines n s ls) p number kind e = ap (run_lines ls) (ended_line n s p number kind e) ∙ ended_lines ls p number kind e

  ended_line : (n : ℕ) (s : StatementTree) (p : Progress) (number : ℕ) (kind : FaultKind) → p.end ≡ fault_at number kind → run_line n s p ≡ p
  ended_line n (loop w from to ls) p number kind e =
      let turn : Progress → Progress = λ q. looped (run_lines ls) w (known_or (pos 0, pos 0) (bounds_of from to q.state.names)) q in
      ap (λ q. going_on q turn) (ended p number kind (stepped_at n (loop w from to ls)) e) ∙ ended p number kind turn e
  ended_line n (bind w a) p number kind e = ended p number kind (stepped_at n (bind w a)) e
  ended_line n (update w op a) p number kind e = ended p number kind (stepped_at n (update w op a)) e
  ended_line n (put w is a) p number kind e = ended p number kind (stepped_at n (put w is a)) e
  ended_line n (update_at w is op a) p number kind e = ended p number kind (stepped_at n (update_at w is op a)) e
  ended_line n (print a) p number kind e = ended p number kind (stepped_at n (print a)) e
  ended_line n (load w file) p number kind e = ended p number kind (stepped_at n (load w file)) e
  ended_line n (save file a) p number kind e = ended p number kind (stepped_at n (save file a)) e

-- ---- the text of a run only grows

pub record Grows (p q : Progress) : Type 0 where
  pub more : List ℕ
  pub is : q.text ≡ p.text ++ more

unchanged : (p q : Progress) → q.text ≡ p.text → Grows p q
unchanged p q is = record { more = []; is = is ∙ sym (append-nil p.text) }

both_grow : (p q r : Progress) → Grows p q → Grows q r → Grows p r
both_grow p q r a b = record { more = a.more ++ b.more; is = b.is ∙ ap (λ l. l ++ b.more) a.is ∙ append_assoc p.text a.more b.more }

grows_on : (p : Progress) (f : Progress → Progress) → Grows p (f p) → Grows p (going_on p f)
grows_on p f h = by_end p.end
  where
    by_end : (end : End) → Grows p (after end p f)
    by_end done = h
    by_end (fault_at number kind) = unchanged p p refl

grows_step : (n : ℕ) (s : StatementTree) (p : Progress) → Grows p (stepped_at n s p)
grows_step n s p = by_test (nat_lt p.count MAX_STATEMENTS)
  where
    by_test : (b : Bool) → Grows p (if b then stepped_on n (step s p.state) p else stopped n Limit p)
    by_test true = record { more = (step s p.state).text; is = refl }
    by_test false = unchanged p (stopped n Limit p) refl

grows_turns : (body : Progress → Progress) → ((q : Progress) → Grows q (body q)) → (w : List ℕ) (n : ℕ) (v : ℤ) (p : Progress) → Grows p (turns body w n v p)
grows_turns body h w zero v p = unchanged p p refl
grows_turns body h w (suc n) v p =
    grows_on p (λ q. turns body w n (v +ℤ pos 1) (body (turn_from w v q)))
    (both_grow p (body (turn_from w v p)) (turns body w n (v +ℤ pos 1) (body (turn_from w v p)))
    (both_grow p (turn_from w v p) (body (turn_from w v p)) (unchanged p (turn_from w v p) refl) (h (turn_from w v p)))
    (grows_turns body h w n (v +ℤ pos 1) (body (turn_from w v p))))

mutual
  grows_lines : (ls : LineTrees) (p : Progress) → Grows p (run_lines ls p)
  grows_lines no_lines p = unchanged p p refl
  grows_lines (more_lines n s ls) p = both_grow p (run_line n s p) (run_lines ls (run_line n s p)) (grows_line n s p) (grows_lines ls (run_line n s p))

  grows_line : (n : ℕ) (s : StatementTree) (p : Progress) → Grows p (run_line n s p)
  grows_line n (loop w from to ls) p =
      let first : Progress = going_on p (stepped_at n (loop w from to ls)) in
      let bounds : ℤ × ℤ = known_or (pos 0, pos 0) (bounds_of from to first.state.names) in
      both_grow p first (run_line n (loop w from to ls) p) (grows_on p (stepped_at n (loop w from to ls)) (grows_step n (loop w from to ls) p))
      (grows_on first (λ q. looped (run_lines ls) w (known_or (pos 0, pos 0) (bounds_of from to q.state.names)) q)
      (grows_turns (run_lines ls) (grows_lines ls) w _ bounds.0 first))
  grows_line n (bind w a) p = grows_on p (stepped_at n (bind w a)) (grows_step n (bind w a) p)
  grows_line n (update w op a) p = grows_on p (stepped_at n (update w op a)) (grows_step n (update w op a) p)
  grows_line n (put w is a) p = grows_on p (stepped_at n (put w is a)) (grows_step n (put w is a) p)
  grows_line n (update_at w is op a) p = grows_on p (stepped_at n (update_at w is op a)) (grows_step n (update_at w is op a) p)
  grows_line n (print a) p = grows_on p (stepped_at n (print a)) (grows_step n (print a) p)
  grows_line n (load w file) p = grows_on p (stepped_at n (load w file)) (grows_step n (load w file) p)
  grows_line n (save file a) p = grows_on p (stepped_at n (save file a)) (grows_step n (save file a) p)

-- ---- at the limit

-- no further statement may be reached
abbrev pub Full : Progress → Type 0
Full p = nat_lt p.count MAX_STATEMENTS ≡ false

-- nothing more is printed, and no statement reached
pub record Rests (p q : Progress) : Type 0 where
  pub text : q.text ≡ p.text
  pub count : q.count ≡ p.count

pub still_full : (p q : Progress) → Full p → Rests p q → Full q
still_full p q h r = ap (λ n. nat_lt n MAX_STATEMENTS) r.count ∙ h

both_rest : (p q r : Progress) → Rests p q → Rests q r → Rests p r
both_rest p q r a b = record { text = b.text ∙ a.text; count = b.count ∙ a.count }

rests_on : (p : Progress) (f : Progress → Progress) → Rests p (f p) → Rests p (going_on p f)
rests_on p f h = by_end p.end
  where
    by_end : (end : End) → Rests p (after end p f)
    by_end done = h
    by_end (fault_at number kind) = record { text = refl; count = refl }

rests_step : (n : ℕ) (s : StatementTree) (p : Progress) → Full p → Rests p (stepped_at n s p)
rests_step n s p h =
    let same : stepped_at n s p ≡ stopped n Limit p = ap (λ b. if b then stepped_on n (step s p.state) p else stopped n Limit p) h in
    record { text = ap (λ (q : Progress). q.text) same; count = ap (λ (q : Progress). q.count) same }

rests_turns : (body : Progress → Progress) → ((q : Progress) → Full q → Rests q (body q)) → (w : List ℕ) (n : ℕ) (v : ℤ) (p : Progress) → Full p → Rests p (turns body w n v p)
rests_turns body h w zero v p full = record { text = refl; count = refl }
rests_turns body h w (suc n) v p full =
    let q : Progress = body (turn_from w v p) in
    let first : Rests p q = both_rest p (turn_from w v p) q (record { text = refl; count = refl }) (h (turn_from w v p) full) in
    rests_on p (λ q. turns body w n (v +ℤ pos 1) (body (turn_from w v q)))
    (both_rest p q (turns body w n (v +ℤ pos 1) q) first (rests_turns body h w n (v +ℤ pos 1) q (still_full p q full first)))

mutual
  rests_lines : (ls : LineTrees) (p : Progress) → Full p → Rests p (run_lines ls p)
  rests_lines no_lines p h = record { text = refl; count = refl }
  rests_lines (more_lines n s ls) p h =
      let first = rests_line n s p h in
      both_rest p (run_line n s p) (run_lines ls (run_line n s p)) first (rests_lines ls (run_line n s p) (still_full p (run_line n s p) h first))

  rests_line : (n : ℕ) (s : StatementTree) (p : Progress) → Full p → Rests p (run_line n s p)
  rests_line n (loop w from to ls) p h =
      let q : Progress = going_on p (stepped_at n (loop w from to ls)) in
      let bounds : ℤ × ℤ = known_or (pos 0, pos 0) (bounds_of from to q.state.names) in
      let first : Rests p q = rests_on p (stepped_at n (loop w from to ls)) (rests_step n (loop w from to ls) p h) in
      both_rest p q (run_line n (loop w from to ls) p) first
      (rests_on q (λ q. looped (run_lines ls) w (known_or (pos 0, pos 0) (bounds_of from to q.state.names)) q)
      (rests_turns (run_lines ls) (rests_lines ls) w _ bounds.0 q (still_full p q h first)))
  rests_line n (bind w a) p h = rests_on p (stepped_at n (bind w a)) (rests_step n (bind w a) p h)
  rests_line n (update w op a) p h = rests_on p (stepped_at n (update w op a)) (rests_step n (update w op a) p h)
  rests_line n (put w is a) p h = rests_on p (stepped_at n (put w is a)) (rests_step n (put w is a) p h)
  rests_line n (update_at w is op a) p h = rests_on p (stepped_at n (update_at w is op a)) (rests_step n (update_at w is op a) p h)
  rests_line n (print a) p h = rests_on p (stepped_at n (print a)) (rests_step n (print a) p h)
  rests_line n (load w file) p h = rests_on p (stepped_at n (load w file)) (rests_step n (load w file) p h)
  rests_line n (save file a) p h = rests_on p (stepped_at n (save file a)) (rests_step n (save file a) p h)

-- ---- a part of a run

-- it leaves what has ended, its text grows, and at the limit it rests
pub record IsRun (f : Progress → Progress) : Type 0 where
  pub ended : (p : Progress) (number : ℕ) (kind : FaultKind) → p.end ≡ fault_at number kind → f p ≡ p
  pub grows : (p : Progress) → Grows p (f p)
  pub rests : (p : Progress) → Full p → Rests p (f p)

pub nothing_run : IsRun (λ p. p)
nothing_run = record { ended = λ p number kind e. refl; grows = λ p. unchanged p p refl; rests = λ p h. record { text = refl; count = refl } }

pub lines_run : (ls : LineTrees) → IsRun (run_lines ls)
lines_run ls = record { ended = ended_lines ls; grows = grows_lines ls; rests = rests_lines ls }

pub line_run : (n : ℕ) (s : StatementTree) → IsRun (run_line n s)
line_run n s = record { ended = ended_line n s; grows = grows_line n s; rests = rests_line n s }

ended_turns : (body : Progress → Progress) (w : List ℕ) (n : ℕ) (v : ℤ) (p : Progress) (number : ℕ) (kind : FaultKind) → p.end ≡ fault_at number kind → turns body w n v p ≡ p
ended_turns body w zero v p number kind e = refl
ended_turns body w (suc n) v p number kind e = ended p number kind (λ q. turns body w n (v +ℤ pos 1) (body (turn_from w v q))) e

pub turns_run : (ls : LineTrees) (w : List ℕ) (n : ℕ) (v : ℤ) → IsRun (turns (run_lines ls) w n v)
turns_run ls w n v = record {
  ended = ended_turns (run_lines ls) w n v;
  grows = grows_turns (run_lines ls) (grows_lines ls) w n v;
  rests = rests_turns (run_lines ls) (rests_lines ls) w n v;
}

-- one part behind another
pub both_run : (f g : Progress → Progress) → IsRun f → IsRun g → IsRun (λ p. g (f p))
both_run f g a b = record {
  ended = λ p number kind e. ap g (a.ended p number kind e) ∙ b.ended p number kind e;
  grows = λ p. both_grow p (f p) (g (f p)) (a.grows p) (b.grows (f p));
  rests = λ p h. both_rest p (f p) (g (f p)) (a.rests p h) (b.rests (f p) (still_full p (f p) h (a.rests p h)));
}
