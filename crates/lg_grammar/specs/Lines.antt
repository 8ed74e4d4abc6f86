-- What reading one line gives, and where the lines stand in the bytes.
use Rattle.std.specs.Prelude.{◌≡◌, ◌⊎◌, ℕ, ◌≤◌, nat_le, Bool, false, cond, Option, None, Some, List, [], ◌∷◌, ◌++◌, length, drop, ⊤}
use Rattle.lg_lex.specs.Bytes.{is_blank}
use Rattle.lg_tree.specs.Heads.{HeadTree, head_nodes}
use Rattle.lg_tree.specs.HeadView.{head_of}
use Rattle.lg_tree.specs.declared.heads.Head.{Head}
use Rattle.lg_blocks.specs.Rows.{Row, row, MayFollow, last_of, IsOpenAt}
use Rattle.lg_grammar.specs.Script.{lines_of, MAX_DEPTH, IsIndented, IsSkipped, HoldsLine, IsBad}
use Rattle.lg_grammar.specs.declared.ends.ScriptEnd.{ScriptEnd}
use Rattle.lg_grammar.specs.declared.ends.ScriptEnd.TheVariants.{Syntax, NoMemory}

-- the lines that begin at this place or behind it
abbrev pub lines_from : List ℕ → ℕ → List (List ℕ)
lines_from bytes start = cond (nat_le start (length bytes)) (lines_of (drop start bytes)) []

-- a blank stands in front
abbrev pub begins_blank : List ℕ → Bool
begins_blank [] = false
begins_blank (b ∷ bs) = is_blank b

-- the line's indentation stands for so many blocks
abbrev pub IsAtDepth : List ℕ → ℕ → Type 0
IsAtDepth line depth = IsIndented depth line × (depth ≤ MAX_DEPTH)

-- the line holds this in so many blocks, or is skipped
abbrev pub HoldsFound : List ℕ → Option (ℕ × Head) → Type 0
HoldsFound line None = IsSkipped line
HoldsFound line (Some p) = HoldsLine line p.0 (head_of p.1)

-- so many nodes were found
abbrev pub found_nodes : Option (ℕ × Head) → ℕ
found_nodes None = 0
found_nodes (Some p) = head_nodes (head_of p.1)

-- the line is not skipped, and holds nothing
pub record HoldsNothing (line : List ℕ) : Type 0 where
  pub not_skipped : IsSkipped line → ⊥
  pub no_head : (depth : ℕ) (head : HeadTree) → HoldsLine line depth head → ⊥

-- what it says of a line that reading it ended so
abbrev pub EndsLine : ℕ → List ℕ → ScriptEnd → Type 0
EndsLine number line (Syntax n) = (n ≡ number) × HoldsNothing line
EndsLine number line NoMemory = ⊤

-- the line is a row more, which may stand there
pub record AddsRow (number : ℕ) (line : List ℕ) (old new : List Row) : Type 0 where
  pub depth : ℕ
  pub head : HeadTree
  pub holds : HoldsLine line depth head
  pub may : MayFollow (last_of None old) depth
  pub rows : new ≡ old ++ row number depth head ∷ []
  pub small : head_nodes head ≤ length line

-- the line is skipped, or it is a row more
abbrev pub AddsLine : ℕ → List ℕ → List Row → List Row → Type 0
AddsLine number line old new = (IsSkipped line × (new ≡ old)) ⊎ AddsRow number line old new

-- what it says of a line behind these rows that adding it ended so
abbrev pub EndsAdding : ℕ → List ℕ → List Row → ScriptEnd → Type 0
EndsAdding number line old (Syntax n) = (n ≡ number) × IsBad line old
EndsAdding number line old NoMemory = ⊤

-- what it says of these rows, which are all, that making blocks of them ended so
abbrev pub EndsBlocks : List Row → ScriptEnd → Type 0
EndsBlocks rows (Syntax n) = IsOpenAt n (last_of None rows)
EndsBlocks rows NoMemory = ⊤
