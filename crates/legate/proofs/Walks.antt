-- The walk of the code beside the run of the definition.
use Rattle.std.proofs.Common.{◌≡◌, ℕ, ◌+◌, ◌-◌, ◌≤◌, ◌<◌, suc, zero, nat_lt, Bool, true, false, if◌then◌else◌, List, [], ◌∷◌, ◌++◌, Option, None, Some, Result, Ok, Err, refl, sym, ap, subst, ◌∙◌, append_assoc, append-nil, arith}
use Rattle.std.proofs.lemmas.Bool.Decides.{nat_tests}
use Rattle.std.specs.Io.KnownBytes.{Appends}
use Rattle.std.proofs.KnownBytes.{Appends-nil, Appends-trans}
use Rattle.lg_outside.specs.Outside.{AppendsPart}
use Rattle.lg_meaning.specs.Run.{done, fault_at, Progress, MAX_STATEMENTS}
use Rattle.lg_meaning.specs.declared.fault.FaultKind.{FaultKind}
use Rattle.lg_session.specs.declared.session.Session.{Session}
use Rattle.legate.specs.Running.{IsAt, Gains, GainsPart, Passes, Goes, Stops, Halts, IsCut, Cuts}
use Rattle.legate.specs.declared.running.RunStop.{RunStop}
use Rattle.legate.specs.declared.running.RunStop.TheVariants.{Fault, WriteFault, NoMemory}
use Rattle.legate.proofs.PartLemmas.{part_first, part_behind}
use Rattle.legate.proofs.Runs.{Grows, Full, Rests, still_full, IsRun}

-- ---- parts one behind the other

pub gains_none : (p q : Progress) (a : Option (List ℕ)) → q.text ≡ p.text → Gains p q a a
gains_none p q a is = record { text = []; more = is ∙ sym (append-nil p.text); appended = Appends-nil a }

gains_more : (p q r : Progress) (a b c : Option (List ℕ)) → Gains p q a b → Gains q r b c → Gains p r a c
gains_more p q r a b c x y = record {
  text = x.text ++ y.text;
  more = y.more ∙ ap (λ l. l ++ y.text) x.more ∙ append_assoc p.text x.text y.text;
  appended = Appends-trans a b c x.text y.text x.appended y.appended;
}

pub passes_more : (u v : ℕ) (p q r : Progress) (a b c : Option (List ℕ)) (s t : Session) → Passes u p q a b s → Passes v q r b c t → Passes (u + v) p r a c t
passes_more u v p q r a b c s t x y = record {
  counted = omega (arith, x.counted, y.counted);
  gains = gains_more p q r a b c x.gains y.gains;
  at = y.at;
}

stops_behind : (stop : RunStop) (p q r : Progress) (a b c : Option (List ℕ)) → Gains p q a b → Stops stop q r b c → Stops stop p r a c
stops_behind (Fault line kind) p q r a b c x y = (y.0, gains_more p q r a b c x y.1)
stops_behind WriteFault p q r a b c x y = record {
  text = x.text ++ y.text;
  more = y.more ∙ ap (λ l. l ++ y.text) x.more ∙ append_assoc p.text x.text y.text;
  appended = part_behind a b c x.text x.text y.text refl x.appended y.appended;
}
stops_behind NoMemory p q r a b c x y = tt

stops_on : (stop : RunStop) (p q : Progress) (a b : Option (List ℕ)) (f : Progress → Progress) → IsRun f → Stops stop p q a b → Stops stop p (f q) a b
stops_on (Fault line kind) p q a b f run x =
    subst (λ (r : Progress). Stops (Fault line kind) p r a b) (sym (run.ended q line kind x.0)) x
stops_on WriteFault p q a b f run x =
    let g = run.grows q in
    record {
      text = x.text ++ g.more;
      more = g.is ∙ ap (λ l. l ++ g.more) x.more ∙ append_assoc p.text x.text g.more;
      appended = part_first a b x.text x.text g.more refl x.appended;
    }
stops_on NoMemory p q a b f run x = tt

cut_on : (p q : Progress) (a b : Option (List ℕ)) (f : Progress → Progress) → IsRun f → IsCut p q a b → IsCut p (f q) a b
cut_on p q a b f run x =
    let r = run.rests q x.full in
    record {
      full = still_full q (f q) x.full r;
      gains = record { text = x.gains.text; more = r.text ∙ x.gains.more; appended = x.gains.appended };
    }

pub at_limit : (n : ℕ) → n ≡ MAX_STATEMENTS → nat_lt n MAX_STATEMENTS ≡ false
at_limit n e = ap (λ m. nat_lt m MAX_STATEMENTS) e

-- ---- midway

-- where the walk stands somewhere between: what is left of the whole is the rest
pub record Between (used : ℕ) (whole rest : Progress → Progress) (p : Progress) (old new : Option (List ℕ)) (session : Session) : Type 0 where
  pub now : Progress
  pub passed : Passes used p now old new session
  pub left : whole p ≡ rest now

abbrev pub Midway : ℕ → ℕ → (Progress → Progress) → (Progress → Progress) → Option (List ℕ) → Option (List ℕ) → Session → Session → Type 0
Midway before now whole rest old new was session = (p : Progress) (used : ℕ) → IsAt p was → now ≡ before + used → p.count + used ≤ MAX_STATEMENTS → Between used whole rest p old new session

-- nothing was run so far
pub midway_none : (before : ℕ) (whole : Progress → Progress) (a : Option (List ℕ)) (s : Session) → Midway before before whole whole a a s s
midway_none before whole a s p used at is few = record {
  now = p;
  passed = record { counted = omega (arith, is); gains = gains_none p p a refl; at = at };
  left = refl;
}

module _ (before now : ℕ) (whole rest : Progress → Progress) (a b : Option (List ℕ)) (was s : Session) (m : Midway before now whole rest a b was s) (later : before ≤ now) where
  -- one more part was run
  pub midway_more : (next : ℕ) (part behind : Progress → Progress) (c : Option (List ℕ)) (t : Session) → now ≤ next → Goes now next part b c s t
      → ((q : Progress) → q.end ≡ done → rest q ≡ behind (part q)) → Midway before next whole behind a c was t
  midway_more next part behind c t more goes split p used at is few =
      let u : ℕ = now - before in
      let v : ℕ = next - now in
      let x = m p u at (omega (arith, later)) (omega (arith, later, more, is, few)) in
      let y = goes x.now v x.passed.at (omega (arith, more)) (omega (arith, later, more, is, few, x.passed.counted)) in
      let sum : u + v ≡ used = omega (arith, later, more, is) in
      record {
        now = part x.now;
        passed = subst (λ n. Passes n p (part x.now) a c t) sum (passes_more u v p x.now (part x.now) a b c s t x.passed y);
        left = x.left ∙ split x.now x.passed.at.going;
      }

  -- all was run
  pub midway_done : ((q : Progress) → rest q ≡ q) → Goes before now whole a b was s
  midway_done end p used at is few =
      let x = m p used at is few in
      subst (λ (q : Progress). Passes used p q a b s) (sym (x.left ∙ end x.now)) x.passed

  -- the walk stopped in a part
  pub midway_stops : now ≤ MAX_STATEMENTS → (stop : RunStop) (part behind : Progress → Progress) (c : Option (List ℕ)) → Halts stop now part b c s → IsRun behind
      → ((q : Progress) → q.end ≡ done → rest q ≡ behind (part q)) → Halts stop before whole a c was
  midway_stops fits stop part behind c halts run split p at is =
      let u : ℕ = now - before in
      let x = m p u at (omega (arith, later)) (omega (arith, later, is, fits)) in
      let y = halts x.now x.passed.at (omega (arith, later, is, x.passed.counted)) in
      subst (λ (q : Progress). Stops stop p q a c) (sym (x.left ∙ split x.now x.passed.at.going))
      (stops_on stop p (part x.now) a c behind run (stops_behind stop p x.now (part x.now) a b c x.passed.gains y))

  -- there was no memory in a part
  pub midway_cut : (next : ℕ) (part behind : Progress → Progress) (c : Option (List ℕ)) → now ≤ next → Cuts now next part b c s → IsRun behind
      → ((q : Progress) → q.end ≡ done → rest q ≡ behind (part q)) → Cuts before next whole a c was
  midway_cut next part behind c more cuts run split p used at is full =
      let u : ℕ = now - before in
      let v : ℕ = next - now in
      let x = m p u at (omega (arith, later)) (omega (arith, later, more, is, full)) in
      let y = cuts x.now v x.passed.at (omega (arith, more)) (omega (arith, later, more, is, full, x.passed.counted)) in
      subst (λ (q : Progress). IsCut p q a c) (sym (x.left ∙ split x.now x.passed.at.going))
      (cut_on p (part x.now) a c behind run (record { full = y.full; gains = gains_more p x.now (part x.now) a b c x.passed.gains y.gains }))

  -- there was no memory before the rest
  pub midway_full : IsRun rest → Cuts before now whole a b was
  midway_full run p used at is full =
      let x = m p used at is (omega (arith, full)) in
      subst (λ (q : Progress). IsCut p q a b) (sym x.left)
      (cut_on p x.now a b rest run (record { full = at_limit x.now.count (x.passed.counted ∙ full); gains = x.passed.gains }))
