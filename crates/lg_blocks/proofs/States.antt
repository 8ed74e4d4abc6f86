-- Blocks that have been read in part: what a line more and the end of a loop do to their rows.
use Rattle.std.proofs.Common.{◌≡◌, ℕ, suc, ◌+◌, ◌<◌, ◌≤◌, ◌↔◌, IsTrue, eqb, leb, inl, inr, Option, None, Some, option_to_list, Result, Err, List, [], ◌∷◌, ◌++◌, length, refl, sym, ap, ◌∙◌, subst, arith, append_assoc, append-nil, length-append}
use Rattle.std.proofs.lemmas.Bool.{false≢true}
use Rattle.std.proofs.lemmas.Bool.Decides.{Decides-eqb, leb_tells}
use Rattle.lg_tree.specs.declared.trees.Line.{Line}
use Rattle.lg_blocks.specs.declared.ends.FinishEnd.{FinishEnd}
use Rattle.lg_blocks.specs.declared.ends.FinishEnd.TheVariants.{Open}
use Rattle.lg_tree.specs.Tree.{StatementTree, loop, LineTrees, no_lines, more_lines}
use Rattle.lg_tree.specs.Heads.{HeadTree, IsSimple, whole, loop_head}
use Rattle.lg_tree.specs.View.{tree_of, maybe_of, lines_of}
use Rattle.lg_blocks.specs.Lines.{with_line}
use Rattle.lg_blocks.specs.Rows.{Row, row, rows_of, HasLine, IsFull, MayFollow, Follows, last_of, IsClosed, IsWhole, IsOpenAt}
use Rattle.lg_blocks.specs.Unfinished.{open_head, loop_rows, state_rows, AreFullLoops, IsWholeAt, EndsAt}
use Rattle.lg_blocks.specs.declared.unfinished.OpenLoop.{OpenLoop}
use Rattle.lg_blocks.proofs.Ordered.{last_of-append, follows-append, ordered, settled_by, closed_where}
use Rattle.lg_blocks.proofs.Pushed.{rows-with_line, full-with_line, line-with_line, simple_row, simple_full}

-- the rows of a loop's first line and of the lines before it
abbrev own_rows : ℕ → OpenLoop → List Row
own_rows d o = rows_of d (lines_of o.before) ++ (row o.number d (open_head o) ∷ [])

loop_rows-push : (d : ℕ) (os : List OpenLoop) (o : OpenLoop) → loop_rows d (os ++ o ∷ []) ≡ loop_rows d os ++ own_rows (d + length os) o
loop_rows-push d [] o = ap (λ (e : ℕ). own_rows e o) (let same : d ≡ d + 0 = omega arith in same)
loop_rows-push d (p ∷ os) o =
    let same : suc d + length os ≡ d + suc (length os) = omega arith in
    ap (λ (z : List Row). rows_of d (lines_of p.before) ++ (row p.number d (open_head p) ∷ z)) (loop_rows-push (suc d) os o ∙ ap (λ (e : ℕ). loop_rows (suc d) os ++ own_rows e o) same)
    ∙ sym (append_assoc (rows_of d (lines_of p.before)) (row p.number d (open_head p) ∷ loop_rows (suc d) os) (own_rows (d + suc (length os)) o))

rows_with_loop : (os : List OpenLoop) (o : OpenLoop) → loop_rows 0 (os ++ o ∷ []) ≡ loop_rows 0 os ++ own_rows (length os) o
rows_with_loop os o = loop_rows-push 0 os o ∙ ap (λ (e : ℕ). loop_rows 0 os ++ own_rows e o) (let same : 0 + length os ≡ length os = omega arith in same)

-- a loop that is opened is one row more
opened : (os : List OpenLoop) (o : OpenLoop) → state_rows (os ++ o ∷ []) no_lines ≡ state_rows os (lines_of o.before) ++ row o.number (length os) (open_head o) ∷ []
opened os o =
    append-nil (loop_rows 0 (os ++ o ∷ [])) ∙ rows_with_loop os o
    ∙ sym (append_assoc (loop_rows 0 os) (rows_of (length os) (lines_of o.before)) (row o.number (length os) (open_head o) ∷ []))

-- and a loop that ends leaves the rows as they are
regroup : (a b c : List Row) (r : Row) → (a ++ (b ++ r ∷ [])) ++ c ≡ a ++ (b ++ r ∷ c)
regroup a b c r = append_assoc a (b ++ r ∷ []) c ∙ ap (λ (z : List Row). a ++ z) (append_assoc b (r ∷ []) c)

abbrev loop_of : OpenLoop → LineTrees → StatementTree
loop_of o ls = loop o.name (maybe_of o.from) (tree_of o.to) ls

ended : (os : List OpenLoop) (o : OpenLoop) (ls : LineTrees) → state_rows (os ++ o ∷ []) ls ≡ state_rows os (with_line (lines_of o.before) o.number (loop_of o ls))
ended os o ls =
    let deeper : length (os ++ o ∷ []) ≡ suc (length os) = omega (arith, length-append os (o ∷ [])) in
    ap (λ (k : ℕ). loop_rows 0 (os ++ o ∷ []) ++ rows_of k ls) deeper
    ∙ ap (λ (z : List Row). z ++ rows_of (suc (length os)) ls) (rows_with_loop os o)
    ∙ regroup (loop_rows 0 os) (rows_of (length os) (lines_of o.before)) (rows_of (suc (length os)) ls) (row o.number (length os) (open_head o))
    ∙ ap (λ (z : List Row). loop_rows 0 os ++ z) (sym (rows-with_line (length os) (lines_of o.before) o.number (loop_of o ls)))

popped : (os front : List OpenLoop) (o : OpenLoop) (r : Option OpenLoop) → os ≡ front ++ option_to_list r → r ≡ Some o → os ≡ front ++ o ∷ []
popped os front o r e h = e ∙ ap (λ (z : Option OpenLoop). front ++ option_to_list z) h

-- what the end of the innermost loop leaves: these loops and these lines
pub record Ending (os now : List OpenLoop) (ls new : LineTrees) : Type 0 where
  pub ends : OpenLoop
  pub split : os ≡ now ++ ends ∷ []
  pub lines : new ≡ with_line (lines_of ends.before) ends.number (loop_of ends ls)

pub ending : (os front now : List OpenLoop) (o : OpenLoop) (r : Option OpenLoop) (ls new : LineTrees) → os ≡ front ++ option_to_list r → r ≡ Some o → now ≡ front → new ≡ with_line (lines_of o.before) o.number (loop_of o ls) → Ending os now ls new
ending os front now o r ls new e h same lines = record {
  ends = o;
  split = popped os front o r e h ∙ ap (λ (z : List OpenLoop). z ++ o ∷ []) (sym same);
  lines = lines;
}

ended_rows : (os front : List OpenLoop) (o : OpenLoop) (ls new : LineTrees) → os ≡ front ++ o ∷ [] → new ≡ with_line (lines_of o.before) o.number (loop_of o ls) → state_rows front new ≡ state_rows os ls
ended_rows os front o ls new e h = ap (λ (z : LineTrees). state_rows front z) h ∙ sym (ended front o ls) ∙ ap (λ (z : List OpenLoop). state_rows z ls) (sym e)

full_loops-push : (os : List OpenLoop) (o : OpenLoop) → AreFullLoops os → IsFull (lines_of o.before) → AreFullLoops (os ++ o ∷ [])
full_loops-push [] o f h = (h, tt)
full_loops-push (p ∷ os) o f h = (f.0, full_loops-push os o f.1 h)

full_loops-pop : (os : List OpenLoop) (o : OpenLoop) → AreFullLoops (os ++ o ∷ []) → AreFullLoops os × IsFull (lines_of o.before)
full_loops-pop [] o f = (tt, f.0)
full_loops-pop (p ∷ os) o f = let more = full_loops-pop os o f.1 in ((f.0, more.0), more.1)

ended_full : (os front : List OpenLoop) (o : OpenLoop) (ls new : LineTrees) → os ≡ front ++ o ∷ [] → new ≡ with_line (lines_of o.before) o.number (loop_of o ls) → AreFullLoops os → IsFull ls → HasLine ls → AreFullLoops front × IsFull new
ended_full os front o ls new e h f g l =
    let popped = full_loops-pop front o (subst AreFullLoops e f) in
    (popped.0, subst IsFull (sym h) (full-with_line (lines_of o.before) o.number (loop_of o ls) popped.1 (l, g)))

ended_line : (o : OpenLoop) (ls new : LineTrees) → new ≡ with_line (lines_of o.before) o.number (loop_of o ls) → HasLine new
ended_line o ls new h = subst HasLine (sym h) (line-with_line (lines_of o.before) o.number (loop_of o ls))

pub ending_rows : (os now : List OpenLoop) (ls new : LineTrees) → Ending os now ls new → state_rows now new ≡ state_rows os ls
ending_rows os now ls new x = ended_rows os now x.ends ls new x.split x.lines

pub ending_full : (os now : List OpenLoop) (ls new : LineTrees) → Ending os now ls new → AreFullLoops os → IsFull ls → HasLine ls → AreFullLoops now × IsFull new
ending_full os now ls new x f g l = ended_full os now x.ends ls new x.split x.lines f g l

pub ending_line : (os now : List OpenLoop) (ls new : LineTrees) → Ending os now ls new → HasLine new
ending_line os now ls new x = ended_line x.ends ls new x.lines

pub ending_fewer : (os now : List OpenLoop) (ls new : LineTrees) → Ending os now ls new → length os ≡ suc (length now)
ending_fewer os now ls new x = ap length x.split ∙ (let one : length (now ++ x.ends ∷ []) ≡ suc (length now) = omega (arith, length-append now (x.ends ∷ [])) in one)

-- where a row may stand
may_loops : (d : ℕ) (os : List OpenLoop) (b : Option Row) → ((e : ℕ) → MayFollow b e ↔ (e ≡ d)) → (e : ℕ) → MayFollow (last_of b (loop_rows d os)) e ↔ (e ≡ d + length os)
may_loops d [] b h e = let same : d ≡ d + 0 = omega arith in subst (λ (k : ℕ). MayFollow b e ↔ (e ≡ k)) same (h e)
may_loops d (o ∷ os) b h e =
    let first : Option Row = Some (row o.number d (open_head o)) in
    let behind = last_of-append b (rows_of d (lines_of o.before)) (row o.number d (open_head o) ∷ loop_rows (suc d) os) in
    let more = may_loops (suc d) os first (λ (k : ℕ). (λ x. x, λ x. x)) e in
    let same : suc d + length os ≡ d + suc (length os) = omega arith in
    subst (λ (k : ℕ). MayFollow (last_of b (loop_rows d (o ∷ os))) e ↔ (e ≡ k)) same (subst (λ (l : Option Row). MayFollow l e ↔ (e ≡ suc d + length os)) (sym behind) more)

may_first : (os : List OpenLoop) (e : ℕ) → MayFollow (last_of None (loop_rows 0 os)) e ↔ (e ≡ length os)
may_first os e =
    let same : 0 + length os ≡ length os = omega arith in
    subst (λ (k : ℕ). MayFollow (last_of None (loop_rows 0 os)) e ↔ (e ≡ k)) same (may_loops 0 os None (λ (k : ℕ). (λ x. x, λ x. x)) e)

may_head : (n k : ℕ) (h : HeadTree) (d : ℕ) → k ≡ d → IsWhole h → (e : ℕ) → MayFollow (Some (row n k h)) e ↔ (e ≤ d)
may_head n k (whole s) d same w e = (λ x. omega arith, λ x. omega arith)
may_head n k (loop_head v from to) d same w e = absurd w

may_whole : (d : ℕ) (b : Option Row) → IsWholeAt d b → (e : ℕ) → MayFollow b e ↔ (e ≤ d)
may_whole d None h e = absurd h
may_whole d (Some r) h e = may_head r.number r.depth r.head d h.0 h.1 e

abbrev AtEnd : List OpenLoop → LineTrees → Type 0
AtEnd os ls = EndsAt (length os) ls (last_of None (state_rows os ls))

may_empty : (os : List OpenLoop) (e : ℕ) → MayFollow (last_of None (state_rows os no_lines)) e ↔ (e ≡ length os)
may_empty os e = subst (λ (z : List Row). MayFollow (last_of None z) e ↔ (e ≡ length os)) (sym (append-nil (loop_rows 0 os))) (may_first os e)

may_at_first : (os : List OpenLoop) (ls : LineTrees) → ls ≡ no_lines → (e : ℕ) → MayFollow (last_of None (state_rows os ls)) e ↔ (e ≡ length os)
may_at_first os ls h e = subst (λ (z : LineTrees). MayFollow (last_of None (state_rows os z)) e ↔ (e ≡ length os)) (sym h) (may_empty os e)

may_behind : (os : List OpenLoop) (ls : LineTrees) → HasLine ls → AtEnd os ls → (e : ℕ) → MayFollow (last_of None (state_rows os ls)) e ↔ (e ≤ length os)
may_behind os no_lines l h e = absurd l
may_behind os (more_lines n s ls) l h e = may_whole (length os) (last_of None (state_rows os (more_lines n s ls))) h e

pub some_line : (xs : List Line) → (xs ≡ [] → ⊥) → HasLine (lines_of xs)
some_line [] e = absurd (e refl)
some_line (x ∷ xs) e = tt

leb_iff : (d n : ℕ) → IsTrue (leb d n) ↔ (d ≤ n)
leb_iff d n = elim (leb_tells d n) [ inl t ↦ (λ h. t.1, λ h. t.0) | inr f ↦ (λ h. absurd (false≢true (sym f.0 ∙ h)), λ h. absurd (omega (arith, f.1))) ]

pub first_test : (os : List OpenLoop) (xs : List Line) (d n : ℕ) → n ≡ length os → xs ≡ [] → IsTrue (eqb d n) ↔ MayFollow (last_of None (state_rows os (lines_of xs))) d
first_test os xs d n same e =
    let p = may_at_first os (lines_of xs) (ap lines_of e) d in
    let t = Decides-eqb d n in
    (λ h. p.1 (t.0 h ∙ same), λ m. t.1 (p.0 m ∙ sym same))

pub behind_test : (os : List OpenLoop) (xs : List Line) (d n : ℕ) → n ≡ length os → (xs ≡ [] → ⊥) → AtEnd os (lines_of xs) → IsTrue (leb d n) ↔ MayFollow (last_of None (state_rows os (lines_of xs))) d
behind_test os xs d n same e h =
    let p = may_behind os (lines_of xs) (some_line xs e) h d in
    let t = leb_iff d n in
    (λ x. p.1 (subst (λ (k : ℕ). d ≤ k) same (t.0 x)), λ m. t.1 (subst (λ (k : ℕ). d ≤ k) (sym same) (p.0 m)))

pub placed : (os : List OpenLoop) (ls : LineTrees) → AtEnd os ls → (e : ℕ) → MayFollow (last_of None (state_rows os ls)) e → (e ≤ length os) × (e < length os → HasLine ls)
placed os no_lines h e p = let same : e ≡ length os = (may_empty os e).0 p in (omega arith, λ less. absurd (omega arith))
placed os (more_lines n s ls) h e p = ((may_behind os (more_lines n s ls) tt h e).0 p, λ less. tt)

-- a whole statement more
with_simple : (os : List OpenLoop) (ls : LineTrees) (n : ℕ) (s : StatementTree) → IsSimple s → state_rows os (with_line ls n s) ≡ state_rows os ls ++ row n (length os) (whole s) ∷ []
with_simple os ls n s h =
    ap (λ (z : List Row). loop_rows 0 os ++ z) (rows-with_line (length os) ls n s ∙ ap (λ (z : List Row). rows_of (length os) ls ++ z) (simple_row (length os) n s h))
    ∙ sym (append_assoc (loop_rows 0 os) (rows_of (length os) ls) (row n (length os) (whole s) ∷ []))

pub whole_rows : (os : List OpenLoop) (ls new : LineTrees) (n d : ℕ) (s : StatementTree) → IsSimple s → length os ≡ d → new ≡ with_line ls n s → state_rows os new ≡ state_rows os ls ++ row n d (whole s) ∷ []
whole_rows os ls new n d s h same e =
    ap (λ (z : LineTrees). state_rows os z) e ∙ with_simple os ls n s h ∙ ap (λ (k : ℕ). state_rows os ls ++ row n k (whole s) ∷ []) same

ends_at : (d : ℕ) (ls : LineTrees) (b : Option Row) → IsWholeAt d b → EndsAt d ls b
ends_at d no_lines b h = tt
ends_at d (more_lines n s ls) b h = h

pub whole_ends : (os : List OpenLoop) (ls new : LineTrees) (n : ℕ) (s : StatementTree) → IsSimple s → new ≡ with_line ls n s → AtEnd os new
whole_ends os ls new n s h e =
    let last : last_of None (state_rows os new) ≡ Some (row n (length os) (whole s))
    = ap (last_of None) (whole_rows os ls new n (length os) s h refl e) ∙ last_of-append None (state_rows os ls) (row n (length os) (whole s) ∷ []) in
    ends_at (length os) new (last_of None (state_rows os new)) (subst (IsWholeAt (length os)) (sym last) (refl, tt))

pub whole_full : (ls new : LineTrees) (n : ℕ) (s : StatementTree) → IsSimple s → new ≡ with_line ls n s → IsFull ls → IsFull new
whole_full ls new n s h e f = subst IsFull (sym e) (full-with_line ls n s f (simple_full s h))

-- a loop more
opened_rows : (os new : List OpenLoop) (o : OpenLoop) → new ≡ os ++ o ∷ [] → state_rows new no_lines ≡ state_rows os (lines_of o.before) ++ row o.number (length os) (open_head o) ∷ []
opened_rows os new o e = ap (λ (z : List OpenLoop). state_rows z no_lines) e ∙ opened os o

-- these loops and no lines are left where it is opened
pub record Opening (os new : List OpenLoop) (ls now : List Line) (o : OpenLoop) : Type 0 where
  pub split : new ≡ os ++ o ∷ []
  pub before : o.before ≡ ls
  pub empty : now ≡ []

pub opening_rows : (os new : List OpenLoop) (ls now : List Line) (o : OpenLoop) → Opening os new ls now o → state_rows new (lines_of now) ≡ state_rows os (lines_of ls) ++ row o.number (length os) (open_head o) ∷ []
opening_rows os new ls now o x =
    ap (λ (z : List Line). state_rows new (lines_of z)) x.empty ∙ opened_rows os new o x.split
    ∙ ap (λ (z : List Line). state_rows os (lines_of z) ++ row o.number (length os) (open_head o) ∷ []) x.before

pub opening_full : (os new : List OpenLoop) (ls now : List Line) (o : OpenLoop) → Opening os new ls now o → AreFullLoops os → IsFull (lines_of ls) → AreFullLoops new × IsFull (lines_of now)
opening_full os new ls now o x f g = (
  subst AreFullLoops (sym x.split) (full_loops-push os o f (subst (λ (z : List Line). IsFull (lines_of z)) (sym x.before) g)),
  subst (λ (z : List Line). IsFull (lines_of z)) (sym x.empty) tt,
)

pub opening_ends : (os new : List OpenLoop) (ls now : List Line) (o : OpenLoop) → Opening os new ls now o → AtEnd new (lines_of now)
opening_ends os new ls now o x = subst (λ (z : List Line). AtEnd new (lines_of z)) (sym x.empty) tt

-- a row at the depth that was asked for
pub row_at : {before mid after : List Row} {k d : ℕ} (n : ℕ) (h g : HeadTree) → mid ≡ before → after ≡ mid ++ row n k h ∷ [] → k ≡ d → g ≡ h → after ≡ before ++ row n d g ∷ []
row_at {before} {mid} {after} {k} {d} n h g same more deep is =
    more ∙ ap (λ (z : List Row). z ++ row n k h ∷ []) same ∙ ap (λ (j : ℕ). before ++ row n j h ∷ []) deep ∙ ap (λ (t : HeadTree). before ++ row n d t ∷ []) (sym is)

-- the rows follow one another
still : (d : ℕ) (ls : LineTrees) (b : Option Row) → MayFollow b d → IsFull ls → MayFollow (last_of b (rows_of d ls)) d
still d no_lines b p f = p
still d (more_lines n s ls) b p f = settled_by d (more_lines n s ls) b tt f d (omega arith)

loops_ordered : (d : ℕ) (os : List OpenLoop) (b : Option Row) → MayFollow b d → AreFullLoops os → Follows b (loop_rows d os)
loops_ordered d [] b p f = tt
loops_ordered d (o ∷ os) b p f =
    follows-append b (rows_of d (lines_of o.before)) (row o.number d (open_head o) ∷ loop_rows (suc d) os) (ordered d (lines_of o.before) b p f.0)
    (still d (lines_of o.before) b p f.0, loops_ordered (suc d) os (Some (row o.number d (open_head o))) refl f.1)

pub state_ordered : (os : List OpenLoop) (ls : LineTrees) → AreFullLoops os → IsFull ls → Follows None (state_rows os ls)
state_ordered os ls f g =
    follows-append None (loop_rows 0 os) (rows_of (length os) ls) (loops_ordered 0 os None refl f)
    (ordered (length os) ls (last_of None (loop_rows 0 os)) ((may_first os (length os)).1 refl) g)

-- the end
closed_whole : (d : ℕ) (b : Option Row) → IsWholeAt d b → IsClosed b
closed_whole d None h = absurd h
closed_whole d (Some r) h = h.1

not_open : (b : Option Row) → IsClosed b → (n : ℕ) → IsOpenAt n b → ⊥
not_open None c n h = h
not_open (Some r) c n h = h.0 c

open_last : (os front : List OpenLoop) (o : OpenLoop) (ls : LineTrees) → os ≡ front ++ o ∷ [] → ls ≡ no_lines → last_of None (state_rows os ls) ≡ Some (row o.number (length front) (open_head o))
open_last os front o ls e h =
    ap (λ (z : LineTrees). last_of None (state_rows os z)) h ∙ ap (last_of None) (opened_rows front os o e)
    ∙ last_of-append None (state_rows front (lines_of o.before)) (row o.number (length front) (open_head o) ∷ [])

open_at : (os front : List OpenLoop) (o : OpenLoop) (ls : LineTrees) → os ≡ front ++ o ∷ [] → ls ≡ no_lines → (n : ℕ) → (n ≡ o.number) ↔ IsOpenAt n (last_of None (state_rows os ls))
open_at os front o ls e h n =
    subst (λ (b : Option Row). (n ≡ o.number) ↔ IsOpenAt n b) (sym (open_last os front o ls e h)) (λ same. (λ w. w, same), λ p. p.1)

pub all_ended : (os : List OpenLoop) (ls : LineTrees) → length os ≡ 0 → rows_of 0 ls ≡ state_rows os ls
all_ended [] ls h = refl
all_ended (o ∷ os) ls h = absurd (let none : suc (length os) ≡ 0 = h in omega arith)

-- the end at the first line of a loop
abbrev open_error : (T : Type 0) → ℕ → Result T FinishEnd
open_error T n = Err (Open n)

abbrev line_in : (T : Type 0) → Result T FinishEnd → ℕ
line_in T (Err (Open n)) = n
line_in T _ = 0

pub ends_open : (T : Type 0) (os front : List OpenLoop) (o : OpenLoop) (r : Option OpenLoop) (xs : List Line) → os ≡ front ++ option_to_list r → r ≡ Some o → xs ≡ [] → (n : ℕ) → (open_error T o.number ≡ open_error T n) ↔ IsOpenAt n (last_of None (state_rows os (lines_of xs)))
ends_open T os front o r xs e h none n =
    let p = open_at os front o (lines_of xs) (popped os front o r e h) (ap lines_of none) n in
    (λ x. p.0 (ap (line_in T) (sym x)), λ x. ap (open_error T) (sym (p.1 x)))

-- the end elsewhere
pub closed_first : (os : List OpenLoop) (xs : List Line) → length os ≡ 0 → xs ≡ [] → IsClosed (last_of None (state_rows os (lines_of xs)))
closed_first os xs none e = closed_where (last_of None (state_rows os (lines_of xs))) ((may_at_first os (lines_of xs) (ap lines_of e) 0).1 (sym none))

pub closed_behind : (os : List OpenLoop) (xs : List Line) → AtEnd os (lines_of xs) → (xs ≡ [] → ⊥) → IsClosed (last_of None (state_rows os (lines_of xs)))
closed_behind os [] h e = absurd (e refl)
closed_behind os (x ∷ xs) h e = closed_whole (length os) (last_of None (state_rows os (lines_of (x ∷ xs)))) h

pub not_named : (T : Type 0) (r : Result T FinishEnd) (b : Option Row) → IsClosed b → ((n : ℕ) → r ≡ open_error T n → ⊥) → (n : ℕ) → (r ≡ open_error T n) ↔ IsOpenAt n b
not_named T r b c e n = (λ h. absurd (e n h), λ p. absurd (not_open b c n p))

pub whole_read : (os now : List OpenLoop) (ls new : LineTrees) → state_rows now new ≡ state_rows os ls → length now ≡ 0 → rows_of 0 new ≡ state_rows os ls
whole_read os now ls new e h = all_ended now new h ∙ e
