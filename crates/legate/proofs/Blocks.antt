-- The lines of a block, as the code sees them.
use Rattle.std.proofs.Common.{◌≡◌, ℕ, ◌+◌, ◌<◌, ◌≤◌, Bool, true, false, ◌&&◌, List, [], ◌∷◌, length, map, drop, get_or, Option, None, Some, Result, Ok, Err, OnOk, IfErr, IsErrOf, ℤ, refl, sym, ap, subst, ◌∙◌, arith, rules}
use Rattle.std.proofs.lemmas.List.{drop_all}
use Rattle.lg_tree.specs.Tree.{Tree, MaybeTree, LineTree, LineTrees, StatementTree, bind, update, put, update_at, print, loop, load, save, line_trees}
use Rattle.lg_tree.specs.View.{tree_of, maybe_of, statement_of, line_of, lines_of}
use Rattle.lg_tree.specs.declared.trees.Line.{Line}
use Rattle.lg_meaning.specs.Run.{done, Progress, looped, run_lines, run_line, MAX_STATEMENTS}
use Rattle.lg_tree.specs.declared.trees.Expr.{Expr}
use Rattle.lg_tree.specs.declared.trees.Statement.{Statement, For, the_lemmas}
use Rattle.lg_meaning.specs.Memory.{State}
use Rattle.lg_meaning.specs.Loops.{bounds_of}
use Rattle.lg_session.specs.Built.{or_else, unless_built, is_built, unbuilt_in, unbuilt_at, is_built_tree, is_built_maybe}
use Rattle.lg_session.specs.Standing.{StandsFor}
use Rattle.lg_session.specs.declared.session.Session.{Session}
use Rattle.lg_session.proofs.BuiltLemmas.{line-Line, both}
use Rattle.legate.specs.Running.{is_loop, block_turns, block_unbuilt, Goes, Halts, Cuts}
use Rattle.legate.specs.declared.running.RunStop.{RunStop}
use Rattle.legate.specs.declared.running.RunStop.TheVariants.{NoMemory}
use Rattle.legate.proofs.Runs.{nothing_run}
use Rattle.legate.proofs.Walks.{Midway, midway_more, midway_done, midway_stops, midway_cut}
use Rattle.legate.proofs.Lines.{midway_loop}
use Rattle.lg_session.proofs.ShapeLemmas.{rest_at}

none_of_both : (a b : Option ℕ) → or_else a b ≡ None → (a ≡ None) × (b ≡ None)
none_of_both None b h = (refl, h)
none_of_both (Some n) b h = cc

module _ (lines : List Line) (i : ℕ) (line : Line) (within : i < length lines) (is : line ≡ get_or lines i line) where
  cut : lines_of (drop i lines) ≡ line_trees (line_of line ∷ map line_of (drop (i + 1) lines))
  cut = ap line_trees (rest_at line_of lines i line within is)

  -- what is left to be run, with its first line taken off
  pub lines_split : (q : Progress) → q.end ≡ done → run_lines (lines_of (drop i lines)) q ≡ run_lines (lines_of (drop (i + 1) lines)) (run_line (line_of line).number (line_of line).statement q)
  lines_split q e = ap (λ ls. run_lines ls q) cut

  pub lines_built : unbuilt_in (lines_of (drop i lines)) ≡ None → (unbuilt_at (line_of line).number (line_of line).statement ≡ None) × (unbuilt_in (lines_of (drop (i + 1) lines)) ≡ None)
  lines_built h = none_of_both (unbuilt_at (line_of line).number (line_of line).statement) (unbuilt_in (lines_of (drop (i + 1) lines))) (ap unbuilt_in (sym cut) ∙ h)

-- nothing is left
pub lines_end : (lines : List Line) (i : ℕ) → length lines ≤ i → (q : Progress) → run_lines (lines_of (drop i lines)) q ≡ q
lines_end lines i past q = ap (λ ls. run_lines (lines_of ls) q) (drop_all i lines past)

-- an error that was handed on
pub err_of : {T : Type 0} (r : Result T RunStop) (x y : RunStop) → r ≡ Err x → x ≡ y → IsErrOf r NoMemory → IsErrOf {T = T} (Err y) NoMemory
err_of {T} r x y a b h = subst (λ e. IsErrOf {T = T} (Err e) NoMemory) b (subst (λ (s : Result T RunStop). IsErrOf s NoMemory) a h)

-- ---- the line of a loop

statement-For : (w : List ℕ) (from : Option Expr) (to : Expr) (body : List Line) → statement_of (For w from to body) ≡ loop w (maybe_of from) (tree_of to) (lines_of body)
statement-For w from to body = search (rules, the_lemmas)

-- what holds of the number and the statement of a line
pub as_line : (line : Line) (P : LineTree → Type 0) → P (record { number = line.number; statement = statement_of line.statement }) → P (line_of line)
as_line line P h = subst P (sym (line-Line line)) h

-- a statement that is no loop is built where its line is not told as unbuilt
no_loop : (s : Statement) → ((w : List ℕ) (from : Option Expr) (to : Expr) (body : List Line) → s ≡ For w from to body → ⊥) → is_loop (statement_of s) ≡ false
no_loop s never = search (rules, the_lemmas)

built_unless : (b : Bool) (n : ℕ) → unless_built b n None ≡ None → b ≡ true
built_unless true n h = refl
built_unless false n h = cc

tree_built : (n : ℕ) (t : StatementTree) → is_loop t ≡ false → unbuilt_at n t ≡ None → is_built t ≡ true
tree_built n (bind w e) other h = built_unless (is_built (bind w e)) n h
tree_built n (update w op e) other h = built_unless (is_built (update w op e)) n h
tree_built n (put w is e) other h = built_unless (is_built (put w is e)) n h
tree_built n (update_at w is op e) other h = built_unless (is_built (update_at w is op e)) n h
tree_built n (print e) other h = built_unless (is_built (print e)) n h
tree_built n (load w file) other h = built_unless (is_built (load w file)) n h
tree_built n (save file e) other h = built_unless (is_built (save file e)) n h
tree_built n (loop w from to ls) other h = cc

pub step_built : (line : Line) → ((w : List ℕ) (from : Option Expr) (to : Expr) (body : List Line) → line.statement ≡ For w from to body → ⊥)
    → unbuilt_at (line_of line).number (line_of line).statement ≡ None → is_built (line_of line).statement ≡ true
step_built line never h =
    let same : (line_of line).statement ≡ statement_of line.statement = ap (λ (l : LineTree). l.statement) (line-Line line) in
    tree_built (line_of line).number (line_of line).statement (ap is_loop same ∙ no_loop line.statement never) h

-- a loop that is built has bounds and a block that are
loop_built : (b : Bool) (n : ℕ) (rest : Option ℕ) → unless_built b n rest ≡ None → (b ≡ true) × (rest ≡ None)
loop_built true n rest h = (refl, h)
loop_built false n rest h = cc

on_ok : {T : Type 0} (r : Result T RunStop) (X Y : Type 0) → (X → Y) → OnOk r X → OnOk r Y
on_ok (Ok x) X Y f h = f h
on_ok (Err e) X Y f h = h

if_err : {T : Type 0} (r : Result T RunStop) (P Q : RunStop → Type 0) → ((x : RunStop) → P x → Q x) → IfErr r P → IfErr r Q
if_err (Ok x) P Q f h = h
if_err (Err e) P Q f h = f e h

module _ (n : ℕ) (s : Statement) (w : List ℕ) (from : Option Expr) (to : Expr) (body : List Line) (is : s ≡ For w from to body) where
  seen : statement_of s ≡ loop w (maybe_of from) (tree_of to) (lines_of body)
  seen = ap statement_of is ∙ statement-For w from to body

  module _ (h : unbuilt_at n (statement_of s) ≡ None) where
    parts_built : ((is_built_maybe (maybe_of from) && is_built_tree (tree_of to)) ≡ true) × (unbuilt_in (lines_of body) ≡ None)
    parts_built = loop_built (is_built_maybe (maybe_of from) && is_built_tree (tree_of to)) n (unbuilt_in (lines_of body))
        (ap (unbuilt_at n) (sym seen) ∙ h)

    pub first_built : is_built_maybe (maybe_of from) ≡ true
    first_built = (both (is_built_maybe (maybe_of from)) (is_built_tree (tree_of to)) parts_built.0).0

    pub second_built : is_built_tree (tree_of to) ≡ true
    second_built = (both (is_built_maybe (maybe_of from)) (is_built_tree (tree_of to)) parts_built.0).1

    pub block_built : block_unbuilt (statement_of s) ≡ None
    block_built = ap block_unbuilt seen ∙ parts_built.1

  -- the turns of a loop, as the code hands them on
  pub turns_seen : (bounds : ℤ × ℤ) (v : List ℕ) (block : List Line) → v ≡ w → block ≡ body → looped (run_lines (lines_of block)) v bounds ≡ block_turns (statement_of s) bounds
  turns_seen bounds v block e f = ap (λ u. looped (run_lines (lines_of block)) u bounds) e ∙ ap (λ ls. looped (run_lines (lines_of ls)) w bounds) f ∙ ap (λ x. block_turns x bounds) (sym seen)

  pub block_left : (block : List Line) → block ≡ body → block_unbuilt (statement_of s) ≡ None → unbuilt_in (lines_of block) ≡ None
  block_left block f h = ap (λ ls. unbuilt_in (lines_of ls)) f ∙ ap block_unbuilt (sym seen) ∙ h

  -- a loop whose line was performed, and then its turns
  module _ (before next : ℕ) (a b : Option (List ℕ)) (was now t : Session) (same : now ≡ was) (few : before < MAX_STATEMENTS) (more : before + 1 ≤ next) (bounds : ℤ × ℤ)
      (known : (state : State) → StandsFor was state → bounds_of (maybe_of from) (tree_of to) state.names ≡ Ok bounds) where
    abbrev whole : Progress → Progress
    whole = run_line n (statement_of s)

    abbrev turned : Progress → Progress
    turned = block_turns (statement_of s) bounds

    mid : Midway before (before + 1) whole turned a a was now
    mid =
        let f : Progress → Progress = run_line n (loop w (maybe_of from) (tree_of to) (lines_of body)) in
        let g : Progress → Progress = looped (run_lines (lines_of body)) w bounds in
        subst (λ (x : StatementTree). Midway before (before + 1) (run_line n x) (block_turns x bounds) a a was now) (sym seen)
        (subst (λ (x : Session). Midway before (before + 1) f g a a was x) (sym same)
        (midway_loop n w (maybe_of from) (tree_of to) (lines_of body) before a was few bounds known))

    pub loop_goes : {T : Type 0} (r : Result T RunStop) → OnOk r (Goes (before + 1) next turned a b now t) → OnOk r (Goes before next whole a b was t)
    loop_goes r h = on_ok r (Goes (before + 1) next turned a b now t) (Goes before next whole a b was t)
        (λ goes. midway_done before next whole (λ q. q) a b was t
        (midway_more before (before + 1) whole turned a a was now mid (omega arith) next turned (λ q. q) b t more goes (λ q e. refl)) (omega (arith, more)) (λ q. refl)) h

    pub loop_halts : {T : Type 0} (r : Result T RunStop) → IfErr r (λ stop. Halts stop (before + 1) turned a b now) → IfErr r (λ stop. Halts stop before whole a b was)
    loop_halts r h = if_err r (λ stop. Halts stop (before + 1) turned a b now) (λ stop. Halts stop before whole a b was)
        (λ stop halts. midway_stops before (before + 1) whole turned a a was now mid (omega arith) (omega (arith, few)) stop turned (λ q. q) b halts nothing_run (λ q e. refl)) h

    pub loop_cuts : Cuts (before + 1) next turned a b now → Cuts before next whole a b was
    loop_cuts cuts = midway_cut before (before + 1) whole turned a a was now mid (omega arith) next turned (λ q. q) b more cuts nothing_run (λ q e. refl)
