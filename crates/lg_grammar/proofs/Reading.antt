-- The rows of the lines that were read, and what they are to the script.
use Rattle.std.proofs.Common.{◌≡◌, ℕ, suc, ◌+◌, ◌≤◌, ◌⊎◌, inl, inr, Option, None, Some, leb, cond, Bool, true, false, ◌-◌, List, [], ◌∷◌, ◌++◌, length, take, drop, sum_by, refl, sym, ap, ◌∙◌, subst, arith, append-nil, append_assoc, length-append, length-take}
use Rattle.std.proofs.lemmas.Bool.{cond-true, le-leb}
use Rattle.std.specs.List.{slice_range}
use Rattle.std.proofs.lemmas.List.Sums.{sum_by-cons, sum_by-append}
use Rattle.lg_tree.specs.Heads.{HeadTree, head_nodes}
use Rattle.lg_tree.specs.Tree.{StatementTree, LineTree, line_trees}
use Rattle.lg_blocks.specs.Laws.{row_nodes}
use Rattle.lg_blocks.specs.Rows.{Row, row, rows_of, IsFull, MayFollow, Follows, last_of, IsClosed, IsOpenAt}
use Rattle.lg_blocks.proofs.Ordered.{follows-append, ordered, closed}
use Rattle.lg_blocks.proofs.Told.{told}
use Rattle.lg_blocks.proofs.Counted.{nodes_counted, listed}
use Rattle.lg_lex.specs.Bytes.{without_return}
use Rattle.lg_tree.specs.Measures.{line_nodes}
use Rattle.lg_grammar.specs.Script.{lines_of, IsSkipped, HoldsLine, HoldsRows, ended, skipped, held, Spells, IsBad, HasBadLine, EndsOpen, IsFirstBad}
use Rattle.lg_grammar.specs.Lines.{lines_from, AddsLine, EndsAdding, EndsBlocks}
use Rattle.lg_grammar.specs.Ends.{SpellsNone, NamesFirstBad}
use Rattle.lg_grammar.specs.declared.ends.ScriptEnd.{ScriptEnd}
use Rattle.lg_grammar.specs.declared.ends.ScriptEnd.TheVariants.{Syntax, NoMemory}
use Rattle.lg_grammar.proofs.Held.{Split, held_split, held_once, held_append}

follows-first : (b : Option Row) (r : Row) → MayFollow b r.depth → Follows b (r ∷ [])
follows-first b r p = (p, tt)

-- rows behind others may stand there
follows-split : (b : Option Row) (xs ys : List Row) → Follows b (xs ++ ys) → Follows (last_of b xs) ys
follows-split b [] ys f = f
follows-split b (r ∷ xs) ys f = follows-split (Some r) xs ys f.1

-- the rows of the lines in front, where others are left
pub record ReadSoFar (all others : List (List ℕ)) (k : ℕ) (rows : List Row) : Type 0 where
  pub front : List (List ℕ)
  pub cut : all ≡ front ++ others
  pub counted : k ≡ 1 + length front
  pub good : HoldsRows 1 front rows
  pub placed : Follows None rows

further : (k : ℕ) (front : List (List ℕ)) (line : List ℕ) → k ≡ 1 + length front → k + 1 ≡ 1 + length (front ++ line ∷ [])
further k front line e = omega (arith, length-append front (line ∷ []))

read_skipped : (all others : List (List ℕ)) (line : List ℕ) (k : ℕ) (rows : List Row) → IsSkipped line → ReadSoFar all (line ∷ others) k rows → ReadSoFar all others (k + 1) rows
read_skipped all others line k rows s r = record {
  front = r.front ++ line ∷ [];
  cut = r.cut ∙ sym (append_assoc r.front (line ∷ []) others);
  counted = further k r.front line r.counted;
  good = subst (λ (z : List Row). HoldsRows 1 (r.front ++ line ∷ []) z) (append-nil rows) (held_append r.good k r.counted (skipped s ended));
  placed = r.placed;
}

read_held : (all others : List (List ℕ)) (line : List ℕ) (k : ℕ) (rows : List Row) (d : ℕ) (h : HeadTree) → HoldsLine line d h → MayFollow (last_of None rows) d → ReadSoFar all (line ∷ others) k rows → ReadSoFar all others (k + 1) (rows ++ row k d h ∷ [])
read_held all others line k rows d h x may r = record {
  front = r.front ++ line ∷ [];
  cut = r.cut ∙ sym (append_assoc r.front (line ∷ []) others);
  counted = further k r.front line r.counted;
  good = held_append r.good k r.counted (held x ended);
  placed = follows-append None rows (row k d h ∷ []) r.placed (follows-first (last_of None rows) (row k d h) may);
}

pub read_nothing : (bytes : List ℕ) (rows : List Row) → rows ≡ [] → ReadSoFar (lines_of bytes) (lines_from bytes 0) 1 rows
read_nothing bytes rows none = record {
  front = [];
  cut = sym (cond-true (leb 0 (length bytes)) (lines_of bytes) [] (le-leb 0 (length bytes) (omega arith)));
  counted = refl;
  good = subst (λ (z : List Row). HoldsRows 1 [] z) (sym none) ended;
  placed = subst (λ (z : List Row). Follows None z) (sym none) tt;
}

-- a line more
pub read_more : (all left others : List (List ℕ)) (line : List ℕ) (k : ℕ) (old new : List Row) → left ≡ line ∷ others → AddsLine k line old new → ReadSoFar all left k old → ReadSoFar all others (k + 1) new
read_more all left others line k old new cut h r =
    let here : ReadSoFar all (line ∷ others) k old = subst (λ (z : List (List ℕ)). ReadSoFar all z k old) cut r in
    elim h [
      | inl a ↦ subst (λ (z : List Row). ReadSoFar all others (k + 1) z) (sym a.1) (read_skipped all others line k old a.0 here)
      | inr b ↦ subst (λ (z : List Row). ReadSoFar all others (k + 1) z) (sym b.rows) (read_held all others line k old b.depth b.head b.holds b.may here)
    ]

-- and its nodes
nodes_more : (old : List Row) (r : Row) → sum_by row_nodes (old ++ r ∷ []) ≡ sum_by row_nodes old + head_nodes r.head
nodes_more old r =
    let none : List Row = [] in
    omega (arith, sum_by-append row_nodes old (r ∷ []), sum_by-cons row_nodes r none)

pub adds_few : (k : ℕ) (line : List ℕ) (old new : List Row) → AddsLine k line old new → sum_by row_nodes new ≤ sum_by row_nodes old + length line
adds_few k line old new h =
    elim h [
      | inl a ↦ let same : sum_by row_nodes new ≡ sum_by row_nodes old = ap (sum_by row_nodes) a.1 in omega arith
      | inr b ↦
          let same : sum_by row_nodes new ≡ sum_by row_nodes (old ++ row k b.depth b.head ∷ []) = ap (sum_by row_nodes) b.rows in
          let more : sum_by row_nodes (old ++ row k b.depth b.head ∷ []) ≡ sum_by row_nodes old + head_nodes b.head = nodes_more old (row k b.depth b.head) in
          let few : head_nodes b.head ≤ length line = b.small in
          omega arith
    ]

without_few : (t : Bool) (xs : List ℕ) → length (cond t (take (length xs - 1) xs) xs) ≤ length xs
without_few true xs = omega (arith, length-take (length xs - 1) xs)
without_few false xs = omega arith

pub line_few : (bytes line : List ℕ) (start end : ℕ) → line ≡ without_return (slice_range bytes start end) → length line ≤ end - start
line_few bytes line start end e =
    let whole : List ℕ = slice_range bytes start end in
    let same : length line ≡ length (without_return (slice_range bytes start end)) = ap length e in
    let few : length (without_return (slice_range bytes start end)) ≤ length (slice_range bytes start end) = without_few _ (slice_range bytes start end) in
    omega (arith, length-take (end - start) (drop start bytes))

pub script_nodes : (script : List LineTree) (rows : List Row) → rows_of 0 (line_trees script) ≡ rows → sum_by line_nodes script ≡ sum_by row_nodes rows
script_nodes script rows e = listed script ∙ nodes_counted 0 (line_trees script) ∙ ap (sum_by row_nodes) e

-- where a line is bad, no rows that may stand behind one another are those of all lines
bad_rows : (line : List ℕ) (behind : List (List ℕ)) (before more : List Row) (k : ℕ) → IsBad line before → HoldsRows k (line ∷ behind) more → Follows (last_of None before) more → ⊥
bad_rows line behind before more k bad (skipped s h) f = bad.not_skipped s
bad_rows line behind before more k bad (held {d = d} {h = a} x h) f = bad.no_place d a x f.0

no_bad : (front behind : List (List ℕ)) (line : List ℕ) (read all : List Row) → HoldsRows 1 front read → IsBad line read → HoldsRows 1 (front ++ (line ∷ behind)) all → Follows None all → ⊥
no_bad front behind line read all good bad h f =
    let p : Split (1 + length front) (line ∷ behind) read all = held_split good h (1 + length front) refl in
    bad_rows line behind read p.more (1 + length front) bad p.holds (follows-split None read p.more (subst (λ (z : List Row). Follows None z) p.is f))

not_both : (b : Option Row) (n : ℕ) → IsClosed b → IsOpenAt n b → ⊥
not_both None n c h = h
not_both (Some r) n c h = h.0 c

-- a script has no bad line
pub none_bad : (bytes : List ℕ) (script : List LineTree) (number : ℕ) → Spells bytes script → IsFirstBad bytes number → ⊥
none_bad bytes script number s h =
    let rows : List Row = rows_of 0 (line_trees script) in
    elim h [
      | inl x ↦
          no_bad x.front x.behind x.line x.read (rows_of 0 (line_trees script)) x.good x.bad
          (subst (λ (z : List (List ℕ)). HoldsRows 1 z (rows_of 0 (line_trees script))) x.cut s.rows)
          (ordered 0 (line_trees script) None refl s.full)
      | inr y ↦
          let same : rows_of 0 (line_trees script) ≡ y.read = held_once s.rows y.good in
          not_both (last_of None y.read) number (subst (λ (z : List Row). IsClosed (last_of None z)) same (closed (line_trees script) s.full)) y.unended
    ]

-- bytes spell one script at most
same_line : (k l : LineTree) → k.number ≡ l.number → k.statement ≡ l.statement → k ≡ l
same_line k l n s =
    ap (λ (m : ℕ). record { number = m; statement = k.statement }) n ∙ ap (λ (t : StatementTree). record { number = l.number; statement = t }) s

same_lines : (a b : List LineTree) → line_trees a ≡ line_trees b → a ≡ b
same_lines [] [] e = refl
same_lines [] (l ∷ ls) e = absurd (let none : ⊥ = cc in none)
same_lines (k ∷ ks) [] e = absurd (let none : ⊥ = cc in none)
same_lines (k ∷ ks) (l ∷ ls) e =
    let numbers : k.number ≡ l.number = cc in
    let statements : k.statement ≡ l.statement = cc in
    let behind : line_trees ks ≡ line_trees ls = cc in
    ap (λ (z : LineTree). z ∷ ks) (same_line k l numbers statements) ∙ ap (λ (z : List LineTree). l ∷ z) (same_lines ks ls behind)

pub script_once : (bytes : List ℕ) (a b : List LineTree) → Spells bytes a → Spells bytes b → a ≡ b
script_once bytes a b h g = same_lines a b (told 0 (line_trees a) (line_trees b) (held_once h.rows g.rows))

-- one line at most is the first bad one
pub record Beyond (xs ys : List (List ℕ)) (a : List ℕ) : Type 0 where
  pub rest : List (List ℕ)
  pub is : ys ≡ xs ++ (a ∷ rest)

further_on : (x : List ℕ) (xs ys : List (List ℕ)) (a : List ℕ) → Beyond xs ys a → Beyond (x ∷ xs) (x ∷ ys) a
further_on x xs ys a b = record { rest = b.rest; is = ap (λ (z : List (List ℕ)). x ∷ z) b.is }

same_or_beyond : (xs ys : List (List ℕ)) (a b : List ℕ) (us vs : List (List ℕ)) → xs ++ (a ∷ us) ≡ ys ++ (b ∷ vs) → (length xs ≡ length ys) ⊎ (Beyond xs ys a ⊎ Beyond ys xs b)
same_or_beyond [] [] a b us vs e = inl refl
same_or_beyond [] (y ∷ ys) a b us vs e = let first : y ≡ a = cc in inr (inl (record { rest = ys; is = ap (λ (z : List ℕ). z ∷ ys) first }))
same_or_beyond (x ∷ xs) [] a b us vs e = let first : x ≡ b = cc in inr (inr (record { rest = xs; is = ap (λ (z : List ℕ). z ∷ xs) first }))
same_or_beyond (x ∷ xs) (y ∷ ys) a b us vs e =
    let first : x ≡ y = cc in
    let behind : xs ++ (a ∷ us) ≡ ys ++ (b ∷ vs) = cc in
    elim (same_or_beyond xs ys a b us vs behind) [
      | inl same ↦ inl (ap suc same)
      | inr other ↦ elim other [
        | inl p ↦ inr (inl (subst (λ (z : List ℕ). Beyond (x ∷ xs) (z ∷ ys) a) first (further_on x xs ys a p)))
        | inr q ↦ inr (inr (subst (λ (z : List ℕ). Beyond (y ∷ ys) (z ∷ xs) b) (sym first) (further_on y ys xs b q)))
      ]
    ]

not_beyond : (bytes : List ℕ) (m n : ℕ) (x : HasBadLine bytes m) (y : HasBadLine bytes n) → Beyond x.front y.front x.line → ⊥
not_beyond bytes m n x y p = no_bad x.front p.rest x.line x.read y.read x.good x.bad (subst (λ (z : List (List ℕ)). HoldsRows 1 z y.read) p.is y.good) y.placed

not_open : (bytes : List ℕ) (m n : ℕ) → HasBadLine bytes m → EndsOpen bytes n → ⊥
not_open bytes m n x y = no_bad x.front x.behind x.line x.read y.read x.good x.bad (subst (λ (z : List (List ℕ)). HoldsRows 1 z y.read) x.cut y.good) y.placed

same_open : (b : Option Row) (m n : ℕ) → IsOpenAt m b → IsOpenAt n b → m ≡ n
same_open None m n h g = absurd h
same_open (Some r) m n h g = h.1 ∙ sym g.1

pub bad_once : (bytes : List ℕ) (a b : ℕ) → IsFirstBad bytes a → IsFirstBad bytes b → a ≡ b
bad_once bytes a b h g =
    elim h [
      | inl x ↦ elim g [
        | inl y ↦ elim (same_or_beyond x.front y.front x.line y.line x.behind y.behind (sym x.cut ∙ y.cut)) [
          | inl same ↦ let first : a ≡ 1 + length x.front = x.counted in let second : b ≡ 1 + length y.front = y.counted in omega arith
          | inr other ↦ elim other [ inl p ↦ absurd (not_beyond bytes a b x y p) | inr q ↦ absurd (not_beyond bytes b a y x q) ]
        ]
        | inr y ↦ absurd (not_open bytes a b x y)
      ]
      | inr x ↦ elim g [
        | inl y ↦ absurd (not_open bytes b a y x)
        | inr y ↦ same_open (last_of None y.read) a b (subst (λ (z : List Row). IsOpenAt a (last_of None z)) (held_once x.good y.good) x.unended) y.unended
      ]
    ]

-- a line that ends the reading
pub read_bad : (bytes : List ℕ) (left others : List (List ℕ)) (line : List ℕ) (k : ℕ) (rows : List Row) (e : ScriptEnd) → left ≡ line ∷ others → EndsAdding k line rows e → ReadSoFar (lines_of bytes) left k rows → NamesFirstBad bytes e
read_bad bytes left others line k rows (Syntax n) cut h r =
    let here : ReadSoFar (lines_of bytes) (line ∷ others) k rows = subst (λ (z : List (List ℕ)). ReadSoFar (lines_of bytes) z k rows) cut r in
    inl (record {
      front = here.front;
      line = line;
      behind = others;
      read = rows;
      cut = here.cut;
      counted = h.0 ∙ here.counted;
      good = here.good;
      placed = here.placed;
      bad = h.1;
    })
read_bad bytes left others line k rows NoMemory cut h r = tt

pub bad_none : (bytes : List ℕ) (e : ScriptEnd) → NamesFirstBad bytes e → SpellsNone bytes e
bad_none bytes (Syntax n) h = λ other g. none_bad bytes other n g h
bad_none bytes NoMemory h = tt

-- no line is left
all_read : (all left : List (List ℕ)) (k : ℕ) (rows : List Row) → left ≡ [] → ReadSoFar all left k rows → HoldsRows 1 all rows
all_read all left k rows none r =
    let whole : r.front ≡ all = sym (append-nil r.front) ∙ sym (ap (λ (z : List (List ℕ)). r.front ++ z) none) ∙ sym r.cut in
    subst (λ (z : List (List ℕ)). HoldsRows 1 z rows) whole r.good

pub read_open : (bytes : List ℕ) (left : List (List ℕ)) (k : ℕ) (rows : List Row) (e : ScriptEnd) → left ≡ [] → EndsBlocks rows e → ReadSoFar (lines_of bytes) left k rows → NamesFirstBad bytes e
read_open bytes left k rows (Syntax n) none h r = inr (record { read = rows; good = all_read (lines_of bytes) left k rows none r; placed = r.placed; unended = h })
read_open bytes left k rows NoMemory none h r = tt

pub read_whole : (bytes : List ℕ) (left : List (List ℕ)) (k : ℕ) (rows : List Row) (script : List LineTree) → left ≡ [] → rows_of 0 (line_trees script) ≡ rows → IsFull (line_trees script) → ReadSoFar (lines_of bytes) left k rows → Spells bytes script
read_whole bytes left k rows script none is full r = record {
  rows = subst (λ (z : List Row). HoldsRows 1 (lines_of bytes) z) (sym is) (all_read (lines_of bytes) left k rows none r);
  full = full;
}
