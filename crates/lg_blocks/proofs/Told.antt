-- Lines are told by their rows: those of a block end where a row is less deep.
use Rattle.std.proofs.Common.{◌≡◌, ℕ, suc, ◌<◌, List, [], ◌∷◌, ◌++◌, refl, sym, ap, ◌∙◌, subst, arith, append_assoc}
use Rattle.lg_tree.specs.Tree.{StatementTree, loop, LineTrees, no_lines, more_lines}
use Rattle.lg_tree.specs.Heads.{whole, first_line}
use Rattle.lg_blocks.specs.Rows.{Row, row, rows_of, block_rows}

-- the first row, if there is one, is less deep
abbrev BeginsBelow : ℕ → List Row → Type 0
BeginsBelow d [] = Unit {0}
BeginsBelow d (r ∷ rs) = r.depth < d

begins : (d : ℕ) (a : LineTrees) (xs : List Row) → BeginsBelow d xs → BeginsBelow (suc d) (rows_of d a ++ xs)
begins d no_lines [] p = tt
begins d no_lines (r ∷ rs) p = omega arith
begins d (more_lines n s a) xs p = omega arith

not_below : (d : ℕ) (r : Row) (rs : List Row) (xs : List Row) → r.depth ≡ d → BeginsBelow d xs → xs ≡ r ∷ rs → ⊥
not_below d r rs xs h p e = let less : r.depth < d = subst (BeginsBelow d) e p in omega arith

same_row : (r q : Row) (rs qs : List Row) → r ∷ rs ≡ q ∷ qs → (r ≡ q) × (rs ≡ qs)
same_row r q rs qs e = (cc, cc)

only_whole : (s t : StatementTree) → whole s ≡ first_line t → (s ≡ t) × ((d : ℕ) → block_rows d t ≡ [])
only_whole s (loop w f u a) e = absurd (let none : ⊥ = cc in none)
only_whole s t e = (cc, λ d. refl)

mutual
  told_before : (d : ℕ) (a b : LineTrees) (xs ys : List Row) → BeginsBelow d xs → BeginsBelow d ys → rows_of d a ++ xs ≡ rows_of d b ++ ys → (a ≡ b) × (xs ≡ ys)
  told_before d no_lines no_lines xs ys p q e = (refl, e)
  told_before d no_lines (more_lines n s b) xs ys p q e = absurd (not_below d _ _ xs refl p e)
  told_before d (more_lines n s a) no_lines xs ys p q e = absurd (not_below d _ _ ys refl q (sym e))
  told_before d (more_lines n s a) (more_lines m t b) xs ys p q e =
      let rows = same_row (row n d (first_line s)) (row m d (first_line t)) ((block_rows (suc d) s ++ rows_of d a) ++ xs) ((block_rows (suc d) t ++ rows_of d b) ++ ys) e in
      let numbers : n ≡ m = ap (λ (r : Row). r.number) rows.0 in
      let heads : first_line s ≡ first_line t = ap (λ (r : Row). r.head) rows.0 in
      let behind : block_rows (suc d) s ++ (rows_of d a ++ xs) ≡ block_rows (suc d) t ++ (rows_of d b ++ ys)
      = sym (append_assoc (block_rows (suc d) s) (rows_of d a) xs) ∙ rows.1 ∙ append_assoc (block_rows (suc d) t) (rows_of d b) ys in
      let first = told_block (suc d) s t (rows_of d a ++ xs) (rows_of d b ++ ys) (begins d a xs p) (begins d b ys q) heads behind in
      let more = told_before d a b xs ys p q first.1 in
      let statements : s ≡ t = first.0 in
      let lines : a ≡ b = more.0 in
      (cc, more.1)

  told_block : (d : ℕ) (s t : StatementTree) (xs ys : List Row) → BeginsBelow d xs → BeginsBelow d ys → first_line s ≡ first_line t → block_rows d s ++ xs ≡ block_rows d t ++ ys → (s ≡ t) × (xs ≡ ys)
  told_block d (loop w f u a) (loop v g z b) xs ys p q h e =
      let body = told_before d a b xs ys p q e in
      let lines : a ≡ b = body.0 in
      (cc, body.1)
  told_block d (loop w f u a) t xs ys p q h e = absurd (let none : ⊥ = cc in none)
  told_block d s t xs ys p q h e =
      let only = only_whole s t h in
      (only.0, e ∙ ap (λ (z : List Row). z ++ ys) (only.1 d))

pub told : (d : ℕ) (a b : LineTrees) → rows_of d a ≡ rows_of d b → a ≡ b
told d a b e = (told_before d a b [] [] tt tt (ap (λ (z : List Row). z ++ []) e)).0
