-- What a line spells is spelled by its canonical text again.
use Rattle.std.specs.Prelude.{ℕ, List, [], ◌∷◌}
use Rattle.std.specs.List.{AllByRecursion}
use Rattle.lg_lex.specs.Line.{Reads}
use Rattle.lg_lex.specs.declared.tokens.Token.{Token}
use Rattle.lg_tree.specs.Tree.{Tree, LineTree, LineTrees, no_lines, more_lines, line_trees}
use Rattle.lg_tree.specs.Heads.{HeadTree}
use Rattle.lg_text.specs.Text.{text, script_text}
use Rattle.lg_parse.specs.Lexed.{terminals_of}
use Rattle.lg_parse.specs.Brackets.{NestsAtMost, MAX_NESTING}
use Rattle.lg_parse.specs.Expressions.{Spells, expr}
use Rattle.lg_parse.specs.Statements.{SpellsHead}
use Rattle.lg_blocks.specs.Renumbering.{renumbered}
use Rattle.lg_grammar.specs.Script.{lines_of, Spells as SpellsScript}
use Rattle.lg_canonical.specs.Heads.{head_line}

-- the line is tokens that spell the expression
abbrev pub IsExpression : List ℕ → Tree → Type 0
IsExpression line e = (tokens : List Token) × (Reads line tokens × Spells expr (terminals_of line tokens) [] e)

-- the line is tokens that spell the head
abbrev pub IsLineOf : List ℕ → HeadTree → Type 0
IsLineOf line h = (tokens : List Token) × (Reads line tokens × SpellsHead (terminals_of line tokens) h)

abbrev pub ExpressionsReadBack : Type 0
ExpressionsReadBack = (line : List ℕ) (e : Tree) → IsExpression line e → IsExpression (text e) e

abbrev pub HeadsReadBack : Type 0
HeadsReadBack = (line : List ℕ) (h : HeadTree) → IsLineOf line h → IsLineOf (head_line h) h

-- lines as a list
abbrev pub line_list : LineTrees → List LineTree
line_list no_lines = []
line_list (more_lines n s ls) = record { number = n; statement = s } ∷ line_list ls

-- the same script, with its lines numbered 1, 2, 3 and so on
abbrev pub numbered_script : List LineTree → List LineTree
numbered_script script = line_list (renumbered 1 (line_trees script))

-- in no line are more brackets open than may be
abbrev pub IsShallow : List ℕ → Type 0
IsShallow bytes = AllByRecursion
    (λ line. (tokens : List Token) → Reads line tokens → NestsAtMost MAX_NESTING (terminals_of line tokens))
    (lines_of bytes)

abbrev pub ScriptsReadBack : Type 0
ScriptsReadBack = (bytes : List ℕ) (script : List LineTree) → SpellsScript bytes script
    → IsShallow (script_text script) → SpellsScript (script_text script) (numbered_script script)
