-- Rows that may stand behind one another are those of full blocks. They are put in front one by
-- one. The blocks to which lines can still be put lie on a stack, one for each depth.
use Rattle.std.proofs.Common.{◌≡◌, ℕ, zero, suc, ◌≤◌, None, Some, List, [], ◌∷◌, ◌++◌, length, refl, sym, ap, ◌∙◌, subst, arith, append_assoc, append-nil, inl, inr, ◌⊎◌}
use Rattle.std.proofs.Math.Nat.{le-suc_iff}
use Rattle.lg_tree.specs.Tree.{Tree, MaybeTree, StatementTree, loop, LineTrees, no_lines, more_lines}
use Rattle.lg_tree.specs.Heads.{HeadTree, whole, loop_head, IsSimple, IsHead}
use Rattle.lg_blocks.specs.Rows.{Row, row, rows_of, HasLine, IsFull, Follows, last_of, IsClosed, AreHeads}

abbrev stack_rows : List LineTrees → List Row
stack_rows [] = []
stack_rows (ls ∷ below) = rows_of (length below) ls ++ stack_rows below

abbrev AreFull : List LineTrees → Type 0
AreFull [] = Unit {0}
AreFull (ls ∷ below) = IsFull ls × AreFull below

-- these rows are those of lines of this depth and of lines that are less deep
record Stack (d : ℕ) (rows : List Row) : Type 0 where
  top : LineTrees
  below : List LineTrees
  deep : length below ≡ d
  is : rows_of d top ++ stack_rows below ≡ rows
  full : IsFull top
  full_below : AreFull below

-- and there is a line of this depth
record Begun (d : ℕ) (rows : List Row) : Type 0 where
  stack : Stack d rows
  begun : HasLine stack.top

raised : (d : ℕ) (rows : List Row) → Stack d rows → Stack (suc d) rows
raised d rows x = record {
  top = no_lines;
  below = x.top ∷ x.below;
  deep = ap suc x.deep;
  is = ap (λ (k : ℕ). rows_of k x.top ++ stack_rows x.below) x.deep ∙ x.is;
  full = tt;
  full_below = (x.full, x.full_below);
}

empty : (d : ℕ) → Stack d []
empty zero = record { top = no_lines; below = []; deep = refl; is = refl; full = tt; full_below = tt }
empty (suc d) = raised d [] (empty d)

at_most : (d e : ℕ) → d ≤ suc e → (d ≤ e) ⊎ (d ≡ suc e)
at_most d e h = (le-suc_iff {m = d} {n = e}).0 h

raised_to : (d e : ℕ) (rows : List Row) → d ≤ e → Stack d rows → Stack e rows
raised_to d zero rows h x = subst (λ (k : ℕ). Stack k rows) (let none : d ≡ 0 = omega arith in none) x
raised_to d (suc e) rows h x =
    elim (at_most d e h) [ inl less ↦ raised e rows (raised_to d e rows less x) | inr same ↦ subst (λ (k : ℕ). Stack k rows) same x ]

with_whole : (d n : ℕ) (s : StatementTree) (rows : List Row) → IsSimple s → Stack d rows → Begun d (row n d (whole s) ∷ rows)
with_whole d n (loop w from to ls) rows h x = absurd h
with_whole d n s rows h x = record {
  stack = record {
    top = more_lines n s x.top;
    below = x.below;
    deep = x.deep;
    is = ap (λ (z : List Row). row n d (whole s) ∷ z) x.is;
    full = (tt, x.full);
    full_below = x.full_below;
  };
  begun = tt;
}

loop_below : (d n : ℕ) (w : List ℕ) (from : MaybeTree) (to : Tree) (rows : List Row) (top : LineTrees) (below : List LineTrees) → length below ≡ suc d → rows_of (suc d) top ++ stack_rows below ≡ rows → IsFull top → HasLine top → AreFull below → Begun d (row n d (loop_head w from to) ∷ rows)
loop_below d n w from to rows top [] deep is full line full_below = absurd (let none : 0 ≡ suc d = deep in omega arith)
loop_below d n w from to rows top (ls ∷ below) deep is full line full_below =
    let less : length below ≡ d = omega arith in
    let same : rows_of (length below) ls ≡ rows_of d ls = ap (λ (k : ℕ). rows_of k ls) less in
    let whole_rows : (rows_of (suc d) top ++ rows_of d ls) ++ stack_rows below ≡ rows
    = append_assoc (rows_of (suc d) top) (rows_of d ls) (stack_rows below) ∙ ap (λ (z : List Row). rows_of (suc d) top ++ (z ++ stack_rows below)) (sym same) ∙ is in
    record {
      stack = record {
        top = more_lines n (loop w from to top) ls;
        below = below;
        deep = less;
        is = ap (λ (z : List Row). row n d (loop_head w from to) ∷ z) whole_rows;
        full = ((line, full), full_below.0);
        full_below = full_below.1;
      };
      begun = tt;
    }

with_loop : (d n : ℕ) (w : List ℕ) (from : MaybeTree) (to : Tree) (rows : List Row) → Begun (suc d) rows → Begun d (row n d (loop_head w from to) ∷ rows)
with_loop d n w from to rows x =
    let s = x.stack in loop_below d n w from to rows s.top s.below s.deep s.is s.full x.begun s.full_below

built : (n d : ℕ) (h : HeadTree) (rs : List Row) → IsHead h → AreHeads rs → Follows (Some (row n d h)) rs → IsClosed (last_of (Some (row n d h)) rs) → Begun d (row n d h ∷ rs)
built n d (whole s) [] k hs f c = with_whole d n s [] k (empty d)
built n d (loop_head w from to) [] k hs f c = absurd c
built n d (whole s) (q ∷ rs) k hs f c =
    let x = built q.number q.depth q.head rs hs.0 hs.1 f.1 c in
    with_whole d n s (q ∷ rs) k (raised_to q.depth d (q ∷ rs) f.0 x.stack)
built n d (loop_head w from to) (q ∷ rs) k hs f c =
    let x = built q.number q.depth q.head rs hs.0 hs.1 f.1 c in
    with_loop d n w from to (q ∷ rs) (subst (λ (e : ℕ). Begun e (q ∷ rs)) f.0 x)

at_zero : (rows : List Row) (below : List LineTrees) (top : LineTrees) → length below ≡ 0 → rows_of 0 top ++ stack_rows below ≡ rows → rows_of 0 top ≡ rows
at_zero rows [] top deep is = sym (append-nil (rows_of 0 top)) ∙ is
at_zero rows (ls ∷ below) top deep is = absurd (let none : suc (length below) ≡ 0 = deep in omega arith)

pub reached : (rows : List Row) → Follows None rows → IsClosed (last_of None rows) → AreHeads rows → (ls : LineTrees) × ((rows_of 0 ls ≡ rows) × IsFull ls)
reached [] f c h = (no_lines, (refl, tt))
reached (r ∷ rs) f c h =
    let x = subst (λ (e : ℕ). Begun e (r ∷ rs)) f.0 (built r.number r.depth r.head rs h.0 h.1 f.1 c) in
    let s = x.stack in
    (s.top, (at_zero (r ∷ rs) s.below s.top s.deep s.is, s.full))
