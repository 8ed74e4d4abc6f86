-- The text of a script is the lines of its rows.
use Rattle.std.proofs.Common.{◌≡◌, ◌*◌, ℕ, suc, List, [], ◌∷◌, ◌++◌, refl, sym, ap, ◌∙◌, replicate, append_assoc}
use Rattle.lg_tree.specs.Tree.{StatementTree, loop, LineTrees, no_lines, more_lines}
use Rattle.lg_tree.specs.Heads.{first_line}
use Rattle.lg_text.specs.Text.{head_text, line_text, lines_text, block_text}
use Rattle.lg_blocks.specs.Rows.{Row, rows_of, block_rows}
use Rattle.lg_canonical.specs.Heads.{head_line}

-- the line of a row, without its end
abbrev pub row_line : Row → List ℕ
row_line r = replicate (4 * r.depth) 32 ++ head_line r.head

abbrev pub rows_text : List Row → List ℕ
rows_text [] = []
rows_text (r ∷ rs) = row_line r ++ (10 ∷ rows_text rs)

rows_text_append : (xs ys : List Row) → rows_text (xs ++ ys) ≡ rows_text xs ++ rows_text ys
rows_text_append [] ys = refl
rows_text_append (r ∷ xs) ys =
    ap (λ (z : List ℕ). row_line r ++ (10 ∷ z)) (rows_text_append xs ys) ∙ sym (append_assoc (row_line r) (10 ∷ rows_text xs) (rows_text ys))

first_text : (s : StatementTree) → head_text s ≡ head_line (first_line s)
first_text (loop w from to ls) = refl
first_text s = refl

-- a line with its end, before others
line_first : (indent text rest : List ℕ) → (indent ++ (text ++ 10 ∷ [])) ++ rest ≡ (indent ++ text) ++ (10 ∷ rest)
line_first indent text rest =
    append_assoc indent (text ++ 10 ∷ []) rest
    ∙ ap (λ (z : List ℕ). indent ++ z) (append_assoc text (10 ∷ []) rest)
    ∙ sym (append_assoc indent text (10 ∷ rest))

mutual
  pub lines_rows : (d : ℕ) (ls : LineTrees) → lines_text d ls ≡ rows_text (rows_of d ls)
  lines_rows d no_lines = refl
  lines_rows d (more_lines n s ls) =
      ap (λ (z : List ℕ). line_text d (head_text s) ++ (z ++ lines_text d ls)) (block_is d s)
      ∙ ap (λ (z : List ℕ). line_text d (head_text s) ++ (rows_text (block_rows (suc d) s) ++ z)) (lines_rows d ls)
      ∙ ap (λ (z : List ℕ). line_text d (head_text s) ++ z) (sym (rows_text_append (block_rows (suc d) s) (rows_of d ls)))
      ∙ line_first (replicate (4 * d) 32) (head_text s) (rows_text (block_rows (suc d) s ++ rows_of d ls))
      ∙ ap (λ (z : List ℕ). (replicate (4 * d) 32 ++ z) ++ (10 ∷ rows_text (block_rows (suc d) s ++ rows_of d ls))) (first_text s)

  block_is : (d : ℕ) (s : StatementTree) → block_text d s ≡ rows_text (block_rows (suc d) s)
  block_is d (loop w from to ls) = lines_rows (suc d) ls
  block_is d s = refl
