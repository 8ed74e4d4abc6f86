-- A whole script: its run from the beginning.
use Rattle.std.proofs.Common.{◌≡◌, ℕ, ◌+◌, ◌≤◌, List, [], ◌++◌, map, Option, Result, Ok, Err, OnOk, IfErr, IsErrOf, refl, sym, ap, subst, ◌∙◌, arith}
use Rattle.std.specs.Io.KnownBytes.{Appends}
use Rattle.lg_outside.specs.Outside.{AppendsPart}
use Rattle.lg_tree.specs.Tree.{LineTree, line_trees}
use Rattle.lg_tree.specs.View.{line_of, lines_of}
use Rattle.lg_tree.specs.declared.trees.Line.{Line}
use Rattle.lg_meaning.specs.Run.{done, fault_at, Progress, start, beginning, run, run_lines, MAX_STATEMENTS}
use Rattle.lg_session.specs.Standing.{StandsFor}
use Rattle.lg_session.specs.declared.session.Session.{Session}
use Rattle.legate.specs.Running.{Ends, PrintsFirst, IsStopped, beginning_for, IsAt, Gains, Goes, Stops, Halts, Cuts}
use Rattle.legate.specs.declared.running.RunStop.{RunStop}
use Rattle.legate.specs.declared.running.RunStop.TheVariants.{Fault, WriteFault, NoMemory}

-- what is printed from the beginning on is the whole text
whole_text : (p q : Progress) (a b : Option (List ℕ)) → p.text ≡ [] → Gains p q a b → Appends a b q.text
whole_text p q a b none g = subst (Appends a b) (sym (g.more ∙ ap (λ l. l ++ g.text) none)) g.appended

module _ (lines seen : List Line) (is : seen ≡ lines) (next : ℕ) (a b : Option (List ℕ)) (s t : Session) (stands : StandsFor s start) (few : next ≤ MAX_STATEMENTS) where
  abbrev script : List LineTree
  script = map line_of lines

  same : lines_of seen ≡ line_trees script
  same = ap lines_of is

  first : IsAt beginning s
  first = record { going = refl; stands = stands }

  pub script_done : {T : Type 0} (r : Result T RunStop) → OnOk r (Goes 0 next (run_lines (lines_of seen)) a b s t) → OnOk r (Ends script done a b)
  script_done (Ok x) h =
      let p = subst (λ ls. Goes 0 next (run_lines ls) a b s t) same h beginning next first (omega arith) (omega (arith, few)) in
      record { ended = p.at.going; printed = whole_text beginning (run_lines (line_trees script) beginning) a b refl p.gains }
  script_done (Err e) h = h

  stopped_so : (stop : RunStop) → Stops stop beginning (run_lines (line_trees script) beginning) a b → (IsErrOf {T = Unit {0}} (Err stop) NoMemory → Cuts 0 next (run_lines (line_trees script)) a b s) → IsStopped stop script a b
  stopped_so (Fault line kind) h cut = record { ended = h.0; printed = whole_text beginning (run_lines (line_trees script) beginning) a b refl h.1 }
  stopped_so WriteFault h cut = subst (AppendsPart a b) (sym h.more) h.appended
  stopped_so NoMemory h cut =
      let p : Progress = beginning_for next in
      let x = cut refl p next (record { going = refl; stands = stands }) (omega arith) (omega (arith, few)) in
      record { count = next; printed = whole_text p (run_lines (line_trees script) p) a b refl x.gains }

  pub script_stopped : (r : Result (Unit {0}) RunStop) → IfErr r (λ stop. Halts stop 0 (run_lines (lines_of seen)) a b s) → (IsErrOf r NoMemory → Cuts 0 next (run_lines (lines_of seen)) a b s)
      → IfErr r (λ stop. IsStopped stop script a b)
  script_stopped (Ok x) h cut = h
  script_stopped (Err stop) h cut =
      stopped_so stop (subst (λ ls. Halts stop 0 (run_lines ls) a b s) same h beginning first refl) (λ e. subst (λ ls. Cuts 0 next (run_lines ls) a b s) same (cut e))
