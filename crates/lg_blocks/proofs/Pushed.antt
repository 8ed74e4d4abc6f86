-- One line behind others.
use Rattle.std.proofs.Common.{◌≡◌, ℕ, suc, List, [], ◌∷◌, ◌++◌, refl, sym, ap, ◌∙◌, append_assoc, append-nil, rules}
use Rattle.lg_tree.specs.Tree.{StatementTree, loop, LineTree, LineTrees, no_lines, more_lines}
use Rattle.lg_tree.specs.Heads.{IsSimple, whole, first_line}
use Rattle.lg_tree.specs.View.{line_of, lines_of, statement_of}
use Rattle.lg_tree.specs.declared.trees.Line.{Line}
use Rattle.lg_tree.specs.declared.trees.Statement.{Statement, the_lemmas}
use Rattle.lg_blocks.specs.Lines.{with_line}
use Rattle.lg_blocks.specs.Rows.{Row, row, rows_of, block_rows, HasLine, IsFull, HasFullBlock}

pub lines-push : (xs : List Line) (l : Line) → lines_of (xs ++ l ∷ []) ≡ with_line (lines_of xs) (line_of l).number (line_of l).statement
lines-push [] l = refl
lines-push (x ∷ xs) l = ap (λ (z : LineTrees). more_lines (line_of x).number (line_of x).statement z) (lines-push xs l)

pub rows-with_line : (d : ℕ) (ls : LineTrees) (n : ℕ) (s : StatementTree) → rows_of d (with_line ls n s) ≡ rows_of d ls ++ (row n d (first_line s) ∷ block_rows (suc d) s)
rows-with_line d no_lines n s = ap (λ (z : List Row). row n d (first_line s) ∷ z) (append-nil (block_rows (suc d) s))
rows-with_line d (more_lines m t ls) n s =
    ap (λ (z : List Row). row m d (first_line t) ∷ z) (ap (λ (z : List Row). block_rows (suc d) t ++ z) (rows-with_line d ls n s)
    ∙ sym (append_assoc (block_rows (suc d) t) (rows_of d ls) (row n d (first_line s) ∷ block_rows (suc d) s)))

pub full-with_line : (ls : LineTrees) (n : ℕ) (s : StatementTree) → IsFull ls → HasFullBlock s → IsFull (with_line ls n s)
full-with_line no_lines n s f h = (h, tt)
full-with_line (more_lines m t ls) n s f h = (f.0, full-with_line ls n s f.1 h)

pub line-with_line : (ls : LineTrees) (n : ℕ) (s : StatementTree) → HasLine (with_line ls n s)
line-with_line no_lines n s = tt
line-with_line (more_lines m t ls) n s = tt

pub simple_row : (d n : ℕ) (s : StatementTree) → IsSimple s → row n d (first_line s) ∷ block_rows (suc d) s ≡ row n d (whole s) ∷ []
simple_row d n (loop w from to ls) h = absurd h
simple_row d n s h = refl

pub simple_full : (s : StatementTree) → IsSimple s → HasFullBlock s
simple_full (loop w from to ls) h = absurd h
simple_full s h = tt

line_view : (n : ℕ) (s : Statement) → line_of (record { number = n; statement = s }) ≡ record { number = n; statement = statement_of s }
line_view n s = search (rules, the_lemmas)

pub pushed : (xs new : List Line) (n : ℕ) (s : Statement) → new ≡ xs ++ record { number = n; statement = s } ∷ [] → lines_of new ≡ with_line (lines_of xs) n (statement_of s)
pushed xs new n s e =
    ap lines_of e ∙ lines-push xs (record { number = n; statement = s }) ∙ ap (λ (l : LineTree). with_line (lines_of xs) l.number l.statement) (line_view n s)
