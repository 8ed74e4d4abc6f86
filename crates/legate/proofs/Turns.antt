-- How many turns of a loop are left.
use Rattle.std.proofs.Common.{◌≡◌, ◌<◌, ◌≤◌, ℕ, suc, Bool, true, false, cond, List, Option, refl, sym, ap, subst, ◌∙◌, ℤ, pos, ◌+ℤ◌, ◌-ℤ◌, ◌≤ℤ◌, ◌<ℤ◌, arith}
use Rattle.std.specs.Prelude.{int_lt, unsigned_abs}
use Rattle.std.proofs.lemmas.Int.{ints, by_lt_z}
use Rattle.lg_tree.specs.Tree.{LineTrees}
use Rattle.lg_meaning.specs.Loops.{turn_count}
use Rattle.lg_meaning.specs.Memory.{State, weak as weak_bound}
use Rattle.lg_meaning.specs.Weak.{integer}
use Rattle.lg_meaning.specs.Step.{rebound}
use Rattle.lg_meaning.specs.Run.{done, Progress, after, turn_from, turns, looped, run_lines, MAX_STATEMENTS}
use Rattle.lg_operations.specs.Operations.{IsRanged}
use Rattle.lg_session.specs.Standing.{StandsFor}
use Rattle.lg_session.specs.declared.session.Session.{Session}
use Rattle.legate.specs.Running.{Goes, Halts, Cuts}
use Rattle.legate.specs.declared.running.RunStop.{RunStop}
use Rattle.legate.proofs.Runs.{turns_run}
use Rattle.legate.proofs.Walks.{Midway, midway_none, midway_more, midway_stops, midway_cut}
use Rattle.legate.proofs.Lines.{goes_turn}

-- the test of two numbers
below : (a b : ℤ) → a <ℤ b → int_lt a b ≡ true
below a b h = grind (arith, ints)

not_below : (a b : ℤ) → b ≤ℤ a → int_lt a b ≡ false
not_below a b h = grind (arith, ints)

pub turns_none : (v to : ℤ) → to ≤ℤ v → turn_count (v, to) ≡ 0
turns_none v to h = ap (λ t. cond t (unsigned_abs (to -ℤ v)) 0) (not_below v to h)

pub turns_more : (v to : ℤ) → v <ℤ to → turn_count (v, to) ≡ suc (turn_count (v +ℤ pos 1, to))
turns_more v to h = ap (λ t. cond t (unsigned_abs (to -ℤ v)) 0) (below v to h) ∙ by (int_lt (v +ℤ pos 1) to) refl
  where
    by : (t : Bool) → int_lt (v +ℤ pos 1) to ≡ t → unsigned_abs (to -ℤ v) ≡ suc (cond t (unsigned_abs (to -ℤ (v +ℤ pos 1))) 0)
    by true e = omega (arith, ints)
    by false e = omega (arith, ints)

pub turns_fewer : (v to : ℤ) → v <ℤ to → turn_count (v +ℤ pos 1, to) < turn_count (v, to)
turns_fewer v to h = omega (arith, turns_more v to h)

-- ---- one turn

-- a turn binds the variable, runs the block, and leaves the other turns
module _ (ls : LineTrees) (w : List ℕ) (v to : ℤ) (h : v <ℤ to) (before now : ℕ) (whole : Progress → Progress) (a b : Option (List ℕ)) (was s t : Session)
    (m : Midway before now whole (turns (run_lines ls) w (turn_count (v, to)) v) a b was s) (later : before ≤ now)
    (bound : (state : State) → StandsFor s state → StandsFor t (rebound w (weak_bound (integer v)) state)) where
  abbrev others : Progress → Progress
  others q = turns (run_lines ls) w (turn_count (v +ℤ pos 1, to)) (v +ℤ pos 1) q

  begins : (q : Progress) → q.end ≡ done → turns (run_lines ls) w (turn_count (v, to)) v q ≡ others (run_lines ls (turn_from w v q))
  begins q e =
      ap (λ n. turns (run_lines ls) w n v q) (turns_more v to h)
      ∙ ap (λ end. after end q (λ r. others (run_lines ls (turn_from w v r)))) e

  begun : Midway before now whole (λ q. others (run_lines ls q)) a b was t
  begun = midway_more before now whole (turns (run_lines ls) w (turn_count (v, to)) v) a b was s m later now (turn_from w v) (λ q. others (run_lines ls q)) b t (omega arith)
      (goes_turn w v now b s t bound) begins

  pub turn_done : (next : ℕ) (c : Option (List ℕ)) (u : Session) (x : ℤ) → x ≡ v +ℤ pos 1 → now ≤ next → Goes now next (run_lines ls) b c t u
      → Midway before next whole (turns (run_lines ls) w (turn_count (x, to)) x) a c was u
  turn_done next c u x is more goes =
      subst (λ y. Midway before next whole (turns (run_lines ls) w (turn_count (y, to)) y) a c was u) (sym is)
      (midway_more before now whole (λ q. others (run_lines ls q)) a b was t begun later next (run_lines ls) others c u more goes (λ q e. refl))

  pub turn_stops : now ≤ MAX_STATEMENTS → (stop : RunStop) (c : Option (List ℕ)) → Halts stop now (run_lines ls) b c t → Halts stop before whole a c was
  turn_stops fits stop c halts =
      midway_stops before now whole (λ q. others (run_lines ls q)) a b was t begun later fits stop (run_lines ls) others c halts (turns_run ls w _ (v +ℤ pos 1)) (λ q e. refl)

  pub turn_cut : (next : ℕ) (c : Option (List ℕ)) → now ≤ next → Cuts now next (run_lines ls) b c t → Cuts before next whole a c was
  turn_cut next c more cuts =
      midway_cut before now whole (λ q. others (run_lines ls q)) a b was t begun later next (run_lines ls) others c more cuts (turns_run ls w _ (v +ℤ pos 1)) (λ q e. refl)

-- no turn is left
pub turns_end : (ls : LineTrees) (w : List ℕ) (v to : ℤ) → to ≤ℤ v → (q : Progress) → turns (run_lines ls) w (turn_count (v, to)) v q ≡ q
turns_end ls w v to h q = ap (λ n. turns (run_lines ls) w n v q) (turns_none v to h)

-- the next number is a weak one
pub ranged_next : (v to x : ℤ) → x ≡ v +ℤ pos 1 → v <ℤ to → IsRanged (integer v) → IsRanged (integer to) → IsRanged (integer x)
ranged_next v to x is h r s = (omega (arith, ints, is, r.0), omega (arith, ints, is, h, s.1))

-- before the first turn
pub turns_begin : (ls : LineTrees) (w : List ℕ) (from to x : ℤ) (before : ℕ) (a : Option (List ℕ)) (s : Session) → x ≡ from
    → Midway before before (looped (run_lines ls) w (from, to)) (turns (run_lines ls) w (turn_count (x, to)) x) a a s s
turns_begin ls w from to x before a s is =
    subst (λ y. Midway before before (looped (run_lines ls) w (from, to)) (turns (run_lines ls) w (turn_count (y, to)) y) a a s s) (sym is)
    (midway_none before (looped (run_lines ls) w (from, to)) a s)

pub ranged_first : (from x : ℤ) → x ≡ from → IsRanged (integer from) → IsRanged (integer x)
ranged_first from x is r = subst (λ y. IsRanged (integer y)) (sym is) r

-- what the code's test says
pub test_true : (v to x : ℤ) → x ≡ to → int_lt v x ≡ true → v <ℤ to
test_true v to x is e = omega (arith, ints, is)

pub test_false : (v to x : ℤ) → x ≡ to → int_lt v x ≡ false → to ≤ℤ v
test_false v to x is e = omega (arith, ints, is)
