-- The grammar of the line of a statement, one constructor for each production. A statement is its
-- line but for a loop, whose block is in the lines behind it:
--
--     head = NAME "=" expr  |  NAME aop expr
--          | NAME "[" items "]" "=" expr  |  NAME "[" items "]" aop expr        (one item at least)
--          | "print" "(" expr ")"
--          | NAME "=" "load" "(" NAME ")"  |  "save" "(" NAME "," expr ")"
--          | "for" NAME "in" "range" "(" [expr ","] expr ")" ":"
--
-- where aop is an assigning operator.
use Rattle.std.specs.Prelude.{◌≡◌, ℕ, ◌≤◌, Some, List, [], ◌∷◌}
use Rattle.lg_lex.specs.declared.tokens.TokenKind.{TokenKind}
use Rattle.lg_lex.specs.declared.tokens.TokenKind.TheVariants.{
  Equal,
  Comma,
  Colon,
  LeftParenthesis,
  RightParenthesis,
  LeftBracket,
  RightBracket,
}
use Rattle.lg_tree.specs.declared.kinds.Arith.{Arith}
use Rattle.lg_tree.specs.Heads.{HeadTree, whole, loop_head, head_height}
use Rattle.lg_tree.specs.Tree.{
  Tree,
  no_tree,
  some_tree,
  ItemTree,
  ItemTrees,
  more_items,
  bind,
  update,
  put,
  update_at,
  print,
  load,
  save,
}
use Rattle.lg_parse.specs.declared.words.Word.TheVariants.{Print, For, In, Range, Load, Save}
use Rattle.lg_parse.specs.Brackets.{NestsAtMost, MAX_NESTING}
use Rattle.lg_parse.specs.Expressions.{expr, Spells, SpellsItems}
use Rattle.lg_parse.specs.Operators.{assigning}
use Rattle.lg_parse.specs.Terminal.{Terminal, name, word, sign}

-- the terminals are the head
pub data SpellsHead : List Terminal → HeadTree → Type 0 where
  a_bind : {ts : List Terminal} {e : Tree} (w : List ℕ) → Spells expr ts [] e
      → SpellsHead (name w ∷ sign Equal ∷ ts) (whole (bind w e))
  an_update : {ts : List Terminal} {e : Tree} (w : List ℕ) (k : TokenKind) (o : Arith)
      → assigning k ≡ Some o → Spells expr ts [] e
      → SpellsHead (name w ∷ sign k ∷ ts) (whole (update w o e))
  a_put : {ts us : List Terminal} {i : ItemTree} {is : ItemTrees} {e : Tree} (w : List ℕ)
      → SpellsItems ts (sign RightBracket ∷ sign Equal ∷ us) (more_items i is)
      → Spells expr us [] e
      → SpellsHead (name w ∷ sign LeftBracket ∷ ts) (whole (put w (more_items i is) e))
  an_update_at : {ts us : List Terminal} {i : ItemTree} {is : ItemTrees} {e : Tree} (w : List ℕ)
      (k : TokenKind) (o : Arith) → assigning k ≡ Some o
      → SpellsItems ts (sign RightBracket ∷ sign k ∷ us) (more_items i is) → Spells expr us [] e
      → SpellsHead (name w ∷ sign LeftBracket ∷ ts) (whole (update_at w (more_items i is) o e))
  a_print : {ts : List Terminal} {e : Tree} → Spells expr ts (sign RightParenthesis ∷ []) e
      → SpellsHead (word Print ∷ sign LeftParenthesis ∷ ts) (whole (print e))
  a_load : (w file : List ℕ)
      → SpellsHead (name w ∷ sign Equal ∷ word Load ∷ sign LeftParenthesis ∷ name file
      ∷ sign RightParenthesis ∷ []) (whole (load w file))
  a_save : {ts : List Terminal} {e : Tree} (file : List ℕ)
      → Spells expr ts (sign RightParenthesis ∷ []) e
      → SpellsHead (word Save ∷ sign LeftParenthesis ∷ name file ∷ sign Comma ∷ ts)
      (whole (save file e))
  a_loop_to : {ts : List Terminal} {e : Tree} (w : List ℕ)
      → Spells expr ts (sign RightParenthesis ∷ sign Colon ∷ []) e
      → SpellsHead (word For ∷ name w ∷ word In ∷ word Range ∷ sign LeftParenthesis ∷ ts)
      (loop_head w no_tree e)
  a_loop : {ts us : List Terminal} {from to : Tree} (w : List ℕ)
      → Spells expr ts (sign Comma ∷ us) from
      → Spells expr us (sign RightParenthesis ∷ sign Colon ∷ []) to
      → SpellsHead (word For ∷ name w ∷ word In ∷ word Range ∷ sign LeftParenthesis ∷ ts)
      (loop_head w (some_tree from) to)

-- the greatest height of a tree
abbrev pub MAX_HEIGHT : ℕ
MAX_HEIGHT = 200

-- the terminals are this head, within the limits
pub record HoldsHead (ts : List Terminal) (h : HeadTree) : Type 0 where
  pub spelled : SpellsHead ts h
  pub shallow : NestsAtMost MAX_NESTING ts
  pub low : head_height h ≤ MAX_HEIGHT
