-- Which script the bytes spell, and which line is the first bad one. Blocks by indentation are
-- Python's, and the limits are this project's own.
use Rattle.std.specs.Prelude.{◌≡◌, ◌⊎◌, ℕ, suc, ◌+◌, ◌*◌, ◌≤◌, ◌==◌, None, List, [], ◌∷◌, ◌++◌, length, map, replicate, take_while}
use Rattle.std.specs.List.{slice_split}
use Rattle.lg_lex.specs.Bytes.{is_blank, without_return}
use Rattle.lg_lex.specs.Line.{Reads}
use Rattle.lg_lex.specs.declared.tokens.Token.{Token}
use Rattle.lg_tree.specs.Heads.{HeadTree}
use Rattle.lg_tree.specs.Tree.{LineTree, line_trees}
use Rattle.lg_parse.specs.Lexed.{terminals_of}
use Rattle.lg_parse.specs.Statements.{HoldsHead}
use Rattle.lg_blocks.specs.Rows.{Row, row, rows_of, IsFull, MayFollow, Follows, last_of, IsOpenAt}

-- the lines: the bytes are cut at each byte 10, and a byte 13 that is the last of a line is no part
-- of it
abbrev pub lines_of : List ℕ → List (List ℕ)
lines_of bytes = map without_return (slice_split (λ b. b == 10) bytes)

-- the line has no token
abbrev pub IsSkipped : List ℕ → Type 0
IsSkipped line = Reads line []

-- the blanks before the first token
abbrev pub indentation : List ℕ → List ℕ
indentation line = take_while is_blank line

-- four spaces for each block that the line stands in, and no tab
abbrev pub IsIndented : ℕ → List ℕ → Type 0
IsIndented depth line = indentation line ≡ replicate (4 * depth) 32

-- a line may stand in so many blocks
abbrev pub MAX_DEPTH : ℕ
MAX_DEPTH = 16

-- the line stands in so many blocks and holds this, within the limits
pub record HoldsLine (line : List ℕ) (depth : ℕ) (head : HeadTree) : Type 0 where
  pub tokens : List Token
  pub lexed : Reads line tokens
  pub held : HoldsHead (terminals_of line tokens) head
  pub indented : IsIndented depth line
  pub shallow : depth ≤ MAX_DEPTH

-- the lines, numbered from k on, are these rows: each line is skipped or holds the next one
pub data HoldsRows : ℕ → List (List ℕ) → List Row → Type 0 where
  ended : {k : ℕ} → HoldsRows k [] []
  skipped : {k : ℕ} {line : List ℕ} {lines : List (List ℕ)} {rows : List Row}
      → IsSkipped line → HoldsRows (suc k) lines rows → HoldsRows k (line ∷ lines) rows
  held : {k d : ℕ} {h : HeadTree} {line : List ℕ} {lines : List (List ℕ)} {rows : List Row}
      → HoldsLine line d h → HoldsRows (suc k) lines rows
      → HoldsRows k (line ∷ lines) (row k d h ∷ rows)

-- the bytes spell this script
pub record Spells (bytes : List ℕ) (script : List LineTree) : Type 0 where
  pub rows : HoldsRows 1 (lines_of bytes) (rows_of 0 (line_trees script))
  pub full : IsFull (line_trees script)

-- a line that is not skipped, and that holds nothing that may stand behind these rows
pub record IsBad (line : List ℕ) (before : List Row) : Type 0 where
  pub not_skipped : IsSkipped line → ⊥
  pub no_place : (depth : ℕ) (head : HeadTree) → HoldsLine line depth head
      → MayFollow (last_of None before) depth → ⊥

-- the line with this number is bad, and those in front of it are skipped or hold rows that may
-- stand behind one another
pub record HasBadLine (bytes : List ℕ) (number : ℕ) : Type 0 where
  pub front : List (List ℕ)
  pub line : List ℕ
  pub behind : List (List ℕ)
  pub read : List Row
  pub cut : lines_of bytes ≡ front ++ (line ∷ behind)
  pub counted : number ≡ 1 + length front
  pub good : HoldsRows 1 front read
  pub placed : Follows None read
  pub bad : IsBad line read

-- no line is bad, but the last one that holds a statement is the first line of a loop, and has this
-- number
pub record EndsOpen (bytes : List ℕ) (number : ℕ) : Type 0 where
  pub read : List Row
  pub good : HoldsRows 1 (lines_of bytes) read
  pub placed : Follows None read
  pub unended : IsOpenAt number (last_of None read)

-- the first bad line has this number
abbrev pub IsFirstBad : List ℕ → ℕ → Type 0
IsFirstBad bytes number = HasBadLine bytes number ⊎ EndsOpen bytes number
