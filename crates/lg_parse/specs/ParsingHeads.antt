-- The parser of the lines of statements as a function, after Parsing.
use Rattle.std.specs.Prelude.{ℕ, ⊤, Option, None, if◌then◌else◌, List, [], ◌∷◌}
use Rattle.lg_lex.specs.declared.tokens.TokenKind.TheVariants.{Equal, Comma, Colon, LeftParenthesis, RightParenthesis, LeftBracket}
use Rattle.lg_tree.specs.declared.kinds.Arith.{Arith}
use Rattle.lg_tree.specs.Tree.{Tree, no_tree, some_tree, ItemTrees, bind, update, put, update_at, print, load, save}
use Rattle.lg_parse.specs.declared.rules.Rule.TheVariants.{Expression}
use Rattle.lg_parse.specs.declared.ends.ParseEnd.{ParseEnd}
use Rattle.lg_parse.specs.declared.ends.ParseEnd.TheVariants.{Syntax, NoMemory}
use Rattle.lg_parse.specs.declared.words.Word.{Word}
use Rattle.lg_parse.specs.declared.words.Word.TheVariants.{Print, For, In, Range, Load, Save}
use Rattle.lg_parse.specs.Operators.{assigning}
use Rattle.lg_parse.specs.Terminal.{Terminal, word, element, function, sign}
use Rattle.lg_parse.specs.Terminal as t
use Rattle.lg_tree.specs.Heads.{HeadTree, whole, loop_head}
use Rattle.lg_parse.specs.Statements.{HoldsHead}
use Rattle.lg_parse.specs.Parsing.{Outcome, Parser, ◌>>=◌, ◌>>◌, pure, refuse, made, behind, eat, expect, eat_word, expect_word, a_word, items, parse, DEPTH}

abbrev pub expression : Parser Tree
expression = parse DEPTH Expression

-- the operation of the assigning operator in front
abbrev pub assigning_ahead : List Terminal → Option Arith
assigning_ahead (sign k ∷ ts) = assigning k
assigning_ahead _ = None

unfoldable pub assigned : Parser Arith
assigned = λ ts. made (assigning_ahead ts) (behind ts)

unfoldable pub printing : Parser HeadTree
printing = do
  expect LeftParenthesis
  e ← expression
  expect RightParenthesis
  pure (whole (print e))

unfoldable pub loading : List ℕ → Parser HeadTree
loading w = do
  expect LeftParenthesis
  file ← a_word
  expect RightParenthesis
  pure (whole (load w file))

unfoldable pub saving : Parser HeadTree
saving = do
  expect LeftParenthesis
  file ← a_word
  expect Comma
  e ← expression
  expect RightParenthesis
  pure (whole (save file e))

-- behind the first bound
unfoldable pub bound : List ℕ → Tree → Parser HeadTree
bound w e = do
  goes_on ← eat Comma
  if goes_on then (do to ← expression; pure (loop_head w (some_tree e) to)) else pure (loop_head w no_tree e)

unfoldable pub looping : Parser HeadTree
looping = do
  w ← a_word
  expect_word In
  expect_word Range
  expect LeftParenthesis
  e ← expression
  h ← bound w e
  expect RightParenthesis
  expect Colon
  pure h

-- behind the name and `=`
unfoldable pub binding : List ℕ → Parser HeadTree
binding w = do
  loads ← eat_word Load
  if loads then loading w else (do e ← expression; pure (whole (bind w e)))

unfoldable pub updating : List ℕ → Parser HeadTree
updating w = do
  o ← assigned
  e ← expression
  pure (whole (update w o e))

-- behind the index of a target
unfoldable pub putting : List ℕ → ItemTrees → Parser HeadTree
putting w is = do
  plain ← eat Equal
  if plain then (do e ← expression; pure (whole (put w is e))) else (do
    o ← assigned
    e ← expression
    pure (whole (update_at w is o e)))

-- behind a name
unfoldable pub named : List ℕ → Parser HeadTree
named w = do
  binds ← eat Equal
  if binds then binding w else (do
    indexed ← eat LeftBracket
    if indexed then (do is ← items (parse DEPTH) DEPTH; putting w is) else updating w)

abbrev pub worded : Word → Parser HeadTree
worded Print = printing
worded For = looping
worded Save = saving
worded _ = refuse

abbrev pub head_by : List Terminal → Outcome HeadTree
head_by [] = None
head_by (t.name w ∷ ts) = named w ts
head_by (t.number n ∷ ts) = None
head_by (word w ∷ ts) = worded w ts
head_by (element t ∷ ts) = None
head_by (function f ∷ ts) = None
head_by (sign k ∷ ts) = None

unfoldable pub head : Parser HeadTree
head = head_by

-- what it says of terminals that reading them ended so
abbrev pub EndsHead : List Terminal → ParseEnd → Type 0
EndsHead ts Syntax = (h : HeadTree) → HoldsHead ts h → ⊥
EndsHead ts NoMemory = ⊤
