-- Lines, nodes and heights, counted over blocks and over their rows.
use Rattle.std.proofs.Common.{◌≡◌, ℕ, suc, ◌+◌, max, List, [], ◌∷◌, ◌++◌, length, sum_by, refl, sym, ap, ◌∙◌, arith, length-append}
use Rattle.std.proofs.lemmas.List.Sums.{sum_by-cons, sum_by-append}
use Rattle.lg_tree.specs.Tree.{StatementTree, loop, LineTrees, no_lines, more_lines, LineTree, line_trees}
use Rattle.lg_tree.specs.Heads.{first_line, head_height, head_nodes}
use Rattle.lg_tree.specs.Measures.{statement_nodes, lines_nodes, line_nodes, statement_height, lines_height}
use Rattle.lg_blocks.specs.Rows.{Row, row, rows_of, block_rows, HasLine, IsFull, HasFullBlock}
use Rattle.lg_blocks.specs.Renumbering.{line_count, block_count, renumbered, renumbered_block, numbered}
use Rattle.lg_blocks.specs.Laws.{row_nodes, rows_height}

mutual
  pub counted : (d : ℕ) (ls : LineTrees) → length (rows_of d ls) ≡ line_count ls
  counted d no_lines = refl
  counted d (more_lines n s ls) =
      let block = block_counted (suc d) s in
      let more = counted d ls in
      let both : length (block_rows (suc d) s ++ rows_of d ls) ≡ length (block_rows (suc d) s) + length (rows_of d ls) = length-append (block_rows (suc d) s) (rows_of d ls) in
      omega arith

  block_counted : (d : ℕ) (s : StatementTree) → length (block_rows d s) ≡ block_count s
  block_counted d (loop w from to ls) = counted d ls
  block_counted d s = refl

numbered-append : (k : ℕ) (xs ys : List Row) → numbered k (xs ++ ys) ≡ numbered k xs ++ numbered (k + length xs) ys
numbered-append k [] ys = ap (λ (j : ℕ). numbered j ys) (let same : k ≡ k + 0 = omega arith in same)
numbered-append k (r ∷ xs) ys =
    let same : suc k + length xs ≡ k + suc (length xs) = omega arith in
    ap (λ (z : List Row). row k r.depth r.head ∷ z) (numbered-append (suc k) xs ys ∙ ap (λ (j : ℕ). numbered (suc k) xs ++ numbered j ys) same)

same_line : (k : ℕ) (s : StatementTree) → first_line (renumbered_block k s) ≡ first_line s
same_line k (loop w from to ls) = refl
same_line k s = refl

mutual
  pub rows_numbered : (d k : ℕ) (ls : LineTrees) → rows_of d (renumbered k ls) ≡ numbered k (rows_of d ls)
  rows_numbered d k no_lines = refl
  rows_numbered d k (more_lines n s ls) =
      let head : first_line (renumbered_block (suc k) s) ≡ first_line s = same_line (suc k) s in
      let block = block_numbered (suc d) (suc k) s in
      let more : rows_of d (renumbered (suc k + block_count s) ls) ≡ numbered (suc k + length (block_rows (suc d) s)) (rows_of d ls)
      = rows_numbered d (suc k + block_count s) ls ∙ ap (λ (j : ℕ). numbered (suc k + j) (rows_of d ls)) (sym (block_counted (suc d) s)) in
      let both = numbered-append (suc k) (block_rows (suc d) s) (rows_of d ls) in
      cc

  block_numbered : (d k : ℕ) (s : StatementTree) → block_rows d (renumbered_block k s) ≡ numbered k (block_rows d s)
  block_numbered d k (loop w from to ls) = rows_numbered d k ls
  block_numbered d k s = refl

still_line : (k : ℕ) (ls : LineTrees) → HasLine ls → HasLine (renumbered k ls)
still_line k no_lines h = h
still_line k (more_lines n s ls) h = tt

mutual
  pub still_full : (k : ℕ) (ls : LineTrees) → IsFull ls → IsFull (renumbered k ls)
  still_full k no_lines f = tt
  still_full k (more_lines n s ls) f = (block_full (suc k) s f.0, still_full (suc k + block_count s) ls f.1)

  block_full : (k : ℕ) (s : StatementTree) → HasFullBlock s → HasFullBlock (renumbered_block k s)
  block_full k (loop w from to ls) f = (still_line k ls f.0, still_full k ls f.1)
  block_full k s f = tt

mutual
  pub nodes_counted : (d : ℕ) (ls : LineTrees) → lines_nodes ls ≡ sum_by row_nodes (rows_of d ls)
  nodes_counted d no_lines = refl
  nodes_counted d (more_lines n s ls) =
      let first = block_nodes (suc d) s in
      let more = nodes_counted d ls in
      omega (arith, sum_by-cons row_nodes (row n d (first_line s)) (block_rows (suc d) s ++ rows_of d ls), sum_by-append row_nodes (block_rows (suc d) s) (rows_of d ls))

  block_nodes : (d : ℕ) (s : StatementTree) → statement_nodes s ≡ head_nodes (first_line s) + sum_by row_nodes (block_rows d s)
  block_nodes d (loop w from to ls) = let body = nodes_counted d ls in omega arith
  block_nodes d s = omega arith

pub listed : (lines : List LineTree) → sum_by line_nodes lines ≡ lines_nodes (line_trees lines)
listed [] = refl
listed (line ∷ lines) = sum_by-cons line_nodes line lines ∙ ap (λ (n : ℕ). statement_nodes line.statement + n) (listed lines)

height-append : (xs ys : List Row) → rows_height (xs ++ ys) ≡ max (rows_height xs) (rows_height ys)
height-append [] ys = omega arith
height-append (r ∷ xs) ys = let more = height-append xs ys in omega arith

mutual
  pub as_high : (d : ℕ) (ls : LineTrees) → lines_height ls ≡ rows_height (rows_of d ls)
  as_high d no_lines = refl
  as_high d (more_lines n s ls) =
      let first = block_high (suc d) s in
      let more = as_high d ls in
      let both = height-append (block_rows (suc d) s) (rows_of d ls) in
      omega arith

  block_high : (d : ℕ) (s : StatementTree) → statement_height s ≡ max (head_height (first_line s)) (rows_height (block_rows d s))
  block_high d (loop w from to ls) = let body = as_high d ls in omega arith
  block_high d s = omega arith
