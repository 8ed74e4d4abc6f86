-- The rows of full blocks may stand behind one another.
use Rattle.std.proofs.Common.{◌≡◌, ℕ, suc, ◌≤◌, Option, None, Some, List, [], ◌∷◌, ◌++◌, refl, sym, subst, arith}
use Rattle.lg_tree.specs.Tree.{StatementTree, loop, LineTrees, no_lines, more_lines}
use Rattle.lg_tree.specs.Heads.{HeadTree, whole, loop_head, first_line}
use Rattle.lg_blocks.specs.Rows.{Row, row, rows_of, block_rows, HasLine, IsFull, HasFullBlock, MayFollow, Follows, last_of, IsClosed, AreHeads}

pub last_of-append : (b : Option Row) (xs ys : List Row) → last_of b (xs ++ ys) ≡ last_of (last_of b xs) ys
last_of-append b [] ys = refl
last_of-append b (r ∷ xs) ys = last_of-append (Some r) xs ys

pub follows-append : (b : Option Row) (xs ys : List Row) → Follows b xs → Follows (last_of b xs) ys → Follows b (xs ++ ys)
follows-append b [] ys f g = g
follows-append b (r ∷ xs) ys f g = (f.0, follows-append (Some r) xs ys f.1 g)

pub heads-append : (xs ys : List Row) → AreHeads xs → AreHeads ys → AreHeads (xs ++ ys)
heads-append [] ys f g = g
heads-append (r ∷ xs) ys f g = (f.0, heads-append xs ys f.1 g)

-- any line up to this depth may follow
abbrev pub IsSettled : ℕ → Option Row → Type 0
IsSettled d b = (e : ℕ) → e ≤ d → MayFollow b e

behind : (d : ℕ) (b : Option Row) (xs ys : List Row) → IsSettled d (last_of (last_of b xs) ys) → IsSettled d (last_of b (xs ++ ys))
behind d b xs ys h = subst (IsSettled d) (sym (last_of-append b xs ys)) h

mutual
  pub settled_by : (d : ℕ) (ls : LineTrees) (b : Option Row) → HasLine ls → IsFull ls → IsSettled d (last_of b (rows_of d ls))
  settled_by d no_lines b h f = absurd h
  settled_by d (more_lines n s ls) b h f =
      behind d (Some (row n d (first_line s))) (block_rows (suc d) s) (rows_of d ls) (stays_settled d ls (last_of (Some (row n d (first_line s))) (block_rows (suc d) s)) f.1 (settled_behind d n s f.0))

  pub stays_settled : (d : ℕ) (ls : LineTrees) (b : Option Row) → IsFull ls → IsSettled d b → IsSettled d (last_of b (rows_of d ls))
  stays_settled d no_lines b f p = p
  stays_settled d (more_lines n s ls) b f p =
      behind d (Some (row n d (first_line s))) (block_rows (suc d) s) (rows_of d ls) (stays_settled d ls (last_of (Some (row n d (first_line s))) (block_rows (suc d) s)) f.1 (settled_behind d n s f.0))

  settled_behind : (d n : ℕ) (s : StatementTree) → HasFullBlock s → IsSettled d (last_of (Some (row n d (first_line s))) (block_rows (suc d) s))
  settled_behind d n (loop w from to ls) h = λ e le. settled_by (suc d) ls (Some (row n d (loop_head w from to))) h.0 h.1 e (omega arith)
  settled_behind d n s h = λ e le. le

mutual
  pub ordered : (d : ℕ) (ls : LineTrees) (b : Option Row) → MayFollow b d → IsFull ls → Follows b (rows_of d ls)
  ordered d no_lines b p f = tt
  ordered d (more_lines n s ls) b p f =
      (p, follows-append (Some (row n d (first_line s))) (block_rows (suc d) s) (rows_of d ls) (ordered_block d n s f.0) (ordered d ls (last_of (Some (row n d (first_line s))) (block_rows (suc d) s)) (settled_behind d n s f.0 d (omega arith)) f.1))

  ordered_block : (d n : ℕ) (s : StatementTree) → HasFullBlock s → Follows (Some (row n d (first_line s))) (block_rows (suc d) s)
  ordered_block d n (loop w from to ls) h = ordered (suc d) ls (Some (row n d (loop_head w from to))) refl h.1
  ordered_block d n s h = tt

closed_head : (e : ℕ) (h : HeadTree) (n : ℕ) → MayFollow (Some (row n e h)) 0 → IsClosed (Some (row n e h))
closed_head e (whole s) n p = tt
closed_head e (loop_head w from to) n p = absurd (omega arith)

pub closed_where : (b : Option Row) → MayFollow b 0 → IsClosed b
closed_where None p = tt
closed_where (Some r) p = closed_head r.depth r.head r.number p

pub closed : (ls : LineTrees) → IsFull ls → IsClosed (last_of None (rows_of 0 ls))
closed ls f = closed_where (last_of None (rows_of 0 ls)) (stays_settled 0 ls None f (λ e le. omega arith) 0 (omega arith))

mutual
  pub heads : (d : ℕ) (ls : LineTrees) → AreHeads (rows_of d ls)
  heads d no_lines = tt
  heads d (more_lines n s ls) = first_is d n s (rows_of d ls) (heads d ls)

  first_is : (d n : ℕ) (s : StatementTree) (rest : List Row) → AreHeads rest → AreHeads (row n d (first_line s) ∷ (block_rows (suc d) s ++ rest))
  first_is d n (loop w from to ls) rest h = (tt, heads-append (rows_of (suc d) ls) rest (heads (suc d) ls) h)
  first_is d n s rest h = (tt, h)
