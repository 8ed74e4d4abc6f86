-- The text of a script is cut into the lines of its rows, and each holds its row again.
use Rattle.std.proofs.Common.{◌≡◌, ◌==◌, ◌&&◌, ◌*◌, ◌+◌, ◌-◌, ◌≤◌, ℕ, zero, suc, Bool, true, false, not, cond, if◌then◌else◌, List, [], ◌∷◌, ◌++◌, length, map, take, refl, sym, ap, ◌∙◌, subst, replicate}
use Rattle.std.specs.Prelude.{⊤, take_while, slice_index}
use Rattle.std.specs.List.{AllByRecursion, prefix_len, slice_split, onto_first}
use Rattle.lg_lex.specs.Bytes.{is_blank, without_return}
use Rattle.lg_lex.specs.Line.{Reads}
use Rattle.lg_lex.specs.declared.tokens.Token.{Token}
use Rattle.lg_tree.specs.Heads.{HeadTree, head_height}
use Rattle.lg_parse.specs.Terminal.{Terminal}
use Rattle.lg_parse.specs.Brackets.{NestsAtMost, MAX_NESTING}
use Rattle.lg_parse.specs.Lexed.{terminals_of}
use Rattle.lg_parse.specs.Statements.{SpellsHead, MAX_HEIGHT}
use Rattle.lg_blocks.specs.Rows.{Row, row}
use Rattle.lg_blocks.specs.Renumbering.{numbered}
use Rattle.lg_grammar.specs.Script.{lines_of, MAX_DEPTH, HoldsLine, HoldsRows, ended, skipped, held}
use Rattle.lg_canonical.specs.Heads.{head_line}
use Rattle.lg_canonical.proofs.Readings.{Reading, empty_read, nothing, space_first, whole_line}
use Rattle.lg_canonical.proofs.Words.{one_more, is_flat, flat_append, parts}
use Rattle.lg_canonical.proofs.Goods.{are_good}
use Rattle.lg_canonical.proofs.Lines.{IsSolid, LinePiece, line_read}
use Rattle.lg_canonical.proofs.Rows.{row_line, rows_text}

-- ---- cutting

test_no : (t : Bool) → not t ≡ true → t ≡ false
test_no true h = absurd (cc)
test_no false h = refl

split_flat : (a rest : List ℕ) → is_flat a ≡ true → slice_split (λ b. b == 10) (a ++ (10 ∷ rest)) ≡ a ∷ slice_split (λ b. b == 10) rest
split_flat [] rest h = refl
split_flat (x ∷ a) rest h =
    let f = parts (not (x == 10)) (not (x == 13) && is_flat a) h in
    let s = parts (not (x == 13)) (is_flat a) f.1 in
    ap (λ (t : Bool). cond t ([] ∷ slice_split (λ b. b == 10) (a ++ (10 ∷ rest))) (onto_first x (slice_split (λ b. b == 10) (a ++ (10 ∷ rest))))) (test_no (x == 10) f.0)
    ∙ ap (λ (ls : List (List ℕ)). onto_first x ls) (split_flat a rest s.1)

flat_at : (a : List ℕ) (i : ℕ) → is_flat a ≡ true → (slice_index a i == 13) ≡ false
flat_at [] i h = refl
flat_at (x ∷ a) zero h =
    let f = parts (not (x == 10)) (not (x == 13) && is_flat a) h in
    test_no (x == 13) (parts (not (x == 13)) (is_flat a) f.1).0
flat_at (x ∷ a) (suc i) h =
    let f = parts (not (x == 10)) (not (x == 13) && is_flat a) h in
    flat_at a i (parts (not (x == 13)) (is_flat a) f.1).1

flat_stays : (a : List ℕ) → is_flat a ≡ true → without_return a ≡ a
flat_stays a h = ap (λ (t : Bool). if t then take (length a - 1) a else a) (flat_at a (length a - 1) h)

-- ---- rows that some lines hold

pub record RowPiece (r : Row) : Type 0 where
  pub line : LinePiece r.head
  pub low : head_height r.head ≤ MAX_HEIGHT
  pub shallow : r.depth ≤ MAX_DEPTH

abbrev pub RowPieces : List Row → Type 0
RowPieces [] = ⊤
RowPieces (r ∷ rs) = RowPiece r × RowPieces rs

row_read : (k d : ℕ) (h : HeadTree) (line : List ℕ) → HoldsLine line d h → RowPiece (row k d h)
row_read k d h line g = record {
  line = line_read g.held.spelled (are_good line g.tokens g.lexed);
  low = g.held.low;
  shallow = g.shallow;
}

pub rows_read : {k : ℕ} {lines : List (List ℕ)} {rows : List Row} → HoldsRows k lines rows → RowPieces rows
rows_read ended = tt
rows_read (skipped s g) = rows_read g
rows_read (held {k = k} {d = d} {h = h} {line = line} s g) = (row_read k d h line s, rows_read g)

spaces_flat : (n : ℕ) → is_flat (replicate n 32) ≡ true
spaces_flat zero = refl
spaces_flat (suc n) = spaces_flat n

row_flat : (r : Row) → RowPiece r → is_flat (row_line r) ≡ true
row_flat r p = flat_append (replicate (4 * r.depth) 32) (head_line r.head) (spaces_flat (4 * r.depth)) p.line.runs.flat

-- the lines of the text, the last of them empty
abbrev pub row_lines : List Row → List (List ℕ)
row_lines [] = [] ∷ []
row_lines (r ∷ rs) = row_line r ∷ row_lines rs

pub cut : (rows : List Row) → RowPieces rows → lines_of (rows_text rows) ≡ row_lines rows
cut [] ps = refl
cut (r ∷ rs) ps =
    ap (λ (ls : List (List ℕ)). map without_return ls) (split_flat (row_line r) (rows_text rs) (row_flat r ps.0))
    ∙ ap (λ (line : List ℕ). line ∷ lines_of (rows_text rs)) (flat_stays (row_line r) (row_flat r ps.0))
    ∙ ap (λ (ls : List (List ℕ)). row_line r ∷ ls) (cut rs ps.1)

-- ---- each line holds its row

spaces_first : (n : ℕ) (rest : List ℕ) (ts : List Terminal) → Reading rest ts → Reading (replicate n 32 ++ rest) ts
spaces_first zero rest ts r = r
spaces_first (suc n) rest ts r = space_first (replicate n 32 ++ rest) ts (spaces_first n rest ts r)

solid_none : (text : List ℕ) → IsSolid text → take_while is_blank text ≡ []
solid_none [] h = absurd h
solid_none (b ∷ bs) h = ap (λ (t : Bool). take (cond t (1 + prefix_len is_blank bs) 0) (b ∷ bs)) h

taken_more : (n b : ℕ) (bs : List ℕ) → take (1 + n) (b ∷ bs) ≡ b ∷ take n bs
taken_more n b bs = ap (λ (m : ℕ). take m (b ∷ bs)) (one_more n)

spaces_taken : (n : ℕ) (text : List ℕ) → IsSolid text → take_while is_blank (replicate n 32 ++ text) ≡ replicate n 32
spaces_taken zero text h = solid_none text h
spaces_taken (suc n) text h =
    taken_more (prefix_len is_blank (replicate n 32 ++ text)) 32 (replicate n 32 ++ text) ∙ ap (λ (bs : List ℕ). 32 ∷ bs) (spaces_taken n text h)

abbrev pub LineShallow : List ℕ → Type 0
LineShallow line = (tokens : List Token) → Reads line tokens → NestsAtMost MAX_NESTING (terminals_of line tokens)

row_held : (r : Row) → RowPiece r → LineShallow (row_line r) → HoldsLine (row_line r) r.depth r.head
row_held r p shallow =
    let inside : Reading (head_line r.head) (p.line.put []) = whole_line (head_line r.head) (p.line.put []) (p.line.runs.run [] [] tt nothing) in
    let all : Reading (row_line r) (p.line.put []) = spaces_first (4 * r.depth) (head_line r.head) (p.line.put []) inside in
    record {
      tokens = all.tokens;
      lexed = all.reads;
      held = record {
        spelled = subst (λ (ts : List Terminal). SpellsHead ts r.head) (sym all.are) p.line.spelled;
        shallow = shallow all.tokens all.reads;
        low = p.low;
      };
      indented = spaces_taken (4 * r.depth) (head_line r.head) p.line.solid;
      shallow = p.shallow;
    }

pub rows_held : (k : ℕ) (rows : List Row) → RowPieces rows → AllByRecursion LineShallow (row_lines rows) → HoldsRows k (row_lines rows) (numbered k rows)
rows_held k [] ps h = skipped empty_read ended
rows_held k (r ∷ rs) ps h = held (row_held r ps.0 h.0) (rows_held (suc k) rs ps.1 h.1)
