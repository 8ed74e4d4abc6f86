-- The parser as a function, which the contracts of its parts name. What it finds is the grammar's:
-- that is a theorem (proofs/Found*.antt, proofs/Reached*.antt).
use Rattle.std.specs.Prelude.{ℕ, zero, suc, Bool, true, false, if◌then◌else◌, nat_le, ◌==◌, ◌&&◌, ◌||◌, Option, Some, None, List, [], ◌∷◌, ◌++◌, length}
use Rattle.lg_elem.specs.declared.dtype.DType.{DType}
use Rattle.lg_elem.specs.declared.kinds.Compare.{Compare}
use Rattle.lg_lex.specs.declared.tokens.TokenKind.{TokenKind}
use Rattle.lg_lex.specs.declared.tokens.TokenKind.TheVariants.{Minus, Tilde, DoubleStar, Comma, Colon, Dot, Ellipsis, Equal, LeftParenthesis, RightParenthesis, LeftBracket, RightBracket}
use Rattle.lg_tree.specs.declared.kinds.Arith.TheVariants.{Pow}
use Rattle.lg_tree.specs.declared.kinds.Red.{Red}
use Rattle.lg_tree.specs.Tree.{Tree, number, truth, name, neg, invert, arith, compare, index, full, zeros, ones, arange, array, abs, minimum, maximum, choose, reduce, take, transpose, broadcast_to, stencil, copy, flatten, as_type, reshape, apply, scan, MaybeTree, no_tree, some_tree, no_trees, ShapeTree, one, tuple, no_shape, some_shape, ItemTree, at, slice, new_axis, ellipsis, ItemTrees, ListTree, leaf, list}
use Rattle.lg_tree.specs.Measures.{height, shape_height, list_height, item_height}
use Rattle.lg_tree.specs.View.{trees, item_trees, list_trees}
use Rattle.lg_parse.specs.declared.methods.Method.{Method}
use Rattle.lg_parse.specs.declared.methods.Method.TheVariants.{Turned, Copy, Flatten, AsType, Reshape}
use Rattle.lg_parse.specs.declared.operators.Operator.{Operator}
use Rattle.lg_parse.specs.declared.rules.Rule.{Rule}
use Rattle.lg_parse.specs.declared.rules.Rule.TheVariants.{Expression, Unary}
use Rattle.lg_parse.specs.declared.words.Function.{Function}
use Rattle.lg_parse.specs.declared.words.Function.TheVariants.{Full, Zeros, Ones, Arange, Array, Abs, Minimum, Maximum, Where, Reduce, Take, Transpose, BroadcastTo, Stencil, Apply, Scan}
use Rattle.lg_parse.specs.declared.words.Word.{Word}
use Rattle.lg_parse.specs.declared.words.Word.TheVariants.{True, False, NewAxis, Axis, Dtype}
use Rattle.lg_parse.specs.Methods.{method_of}
use Rattle.lg_parse.specs.Operators.{operation, operated, comparison, WIDEST}
use Rattle.lg_parse.specs.Terminal.{Terminal, word, element, function, sign}
use Rattle.lg_parse.specs.Terminal as t
use denote.Enum.Bare.{sameb}
use Rattle.lg_lex.specs.contracts.tokens.TokenKind.{the_type as kinds}
use Rattle.lg_parse.specs.contracts.words.Word.{the_type as words}

-- ---- parsers

abbrev pub Outcome : Type 0 → Type 0
Outcome A = Option (A × List Terminal)

abbrev pub Parser : Type 0 → Type 0
Parser A = List Terminal → Outcome A

abbrev pub and_then : {A B : Type 0} → Outcome A → (A → Parser B) → Outcome B
and_then (Some p) f = f p.0 p.1
and_then None f = None

infixl 10 ◌>>=◌
abbrev pub ◌>>=◌ : {A B : Type 0} → Parser A → (A → Parser B) → Parser B
p >>= f = λ ts. and_then (p ts) f

infixl 10 ◌>>◌
abbrev pub ◌>>◌ : {A B : Type 0} → Parser A → Parser B → Parser B
p >> q = p >>= (λ _. q)

abbrev pub pure : {A : Type 0} → A → Parser A
pure a = λ ts. Some (a, ts)

abbrev pub refuse : {A : Type 0} → Parser A
refuse = λ ts. None

infixr 11 ◌<$>◌
abbrev pub ◌<$>◌ : {A B : Type 0} → (A → B) → Parser A → Parser B
f <$> p = p >>= (λ x. pure (f x))

-- ---- terminals

unfoldable pub same_kind : TokenKind → TokenKind → Bool
same_kind = sameb kinds

unfoldable pub same_word : Word → Word → Bool
same_word = sameb words

-- this sign stands in front
abbrev pub sees : TokenKind → List Terminal → Bool
sees k (sign j ∷ ts) = same_kind j k
sees k _ = false

-- this word stands in front
abbrev pub sees_word : Word → List Terminal → Bool
sees_word w (word v ∷ ts) = same_word v w
sees_word w _ = false

abbrev pub behind : List Terminal → List Terminal
behind [] = []
behind (t ∷ ts) = ts

-- takes this sign, if it stands in front
unfoldable pub eat : TokenKind → Parser Bool
eat k = λ ts. Some (sees k ts, if sees k ts then behind ts else ts)

unfoldable pub expect : TokenKind → Parser (Unit {0})
expect k = λ ts. if sees k ts then Some (tt, behind ts) else None

unfoldable pub eat_word : Word → Parser Bool
eat_word w = λ ts. Some (sees_word w ts, if sees_word w ts then behind ts else ts)

unfoldable pub expect_word : Word → Parser (Unit {0})
expect_word w = λ ts. if sees_word w ts then Some (tt, behind ts) else None

-- the operation of an operator of this level
abbrev pub at_level : ℕ → Option (ℕ × Operator) → Option Operator
at_level l None = None
at_level l (Some p) = if p.0 == l then Some p.1 else None

-- the operation of the operator in front, if it is of this level
abbrev pub operator_ahead : ℕ → List Terminal → Option Operator
operator_ahead l (sign k ∷ ts) = at_level l (operation k)
operator_ahead l _ = None

-- the comparison in front
abbrev pub comparison_ahead : List Terminal → Option Compare
comparison_ahead (sign k ∷ ts) = comparison k
comparison_ahead _ = None

-- a name in front
abbrev pub name_ahead : List Terminal → Option (List ℕ)
name_ahead (t.name w ∷ ts) = Some w
name_ahead _ = None

-- a part of a slice is left out
abbrev pub sees_end : List Terminal → Bool
sees_end ts = sees Colon ts || (sees Comma ts || sees RightBracket ts)

abbrev pub comma_behind : TokenKind → (ℕ → Bool) → ℕ → Bool
comma_behind LeftParenthesis go d = go (suc d)
comma_behind LeftBracket go d = go (suc d)
comma_behind RightParenthesis go zero = false
comma_behind RightParenthesis go (suc d) = go d
comma_behind RightBracket go zero = false
comma_behind RightBracket go (suc d) = go d
comma_behind Comma go zero = true
comma_behind Comma go (suc d) = go (suc d)
comma_behind _ go d = go d

-- where so many brackets are open, a comma stands outside of them before the bracket that closes
-- all of it
abbrev pub has_comma : List Terminal → ℕ → Bool
has_comma [] d = false
has_comma (sign k ∷ ts) d = comma_behind k (has_comma ts) d
has_comma (t ∷ ts) d = has_comma ts d

-- a tuple stands in front
abbrev pub sees_tuple : List Terminal → Bool
sees_tuple ts = sees LeftParenthesis ts
    && (sees RightParenthesis (behind ts) || has_comma (behind ts) 0)

-- ---- heights

-- the tree, if it is not too high
unfoldable pub low : {A : Type 0} → (A → ℕ) → A → Option A
low height a = if nat_le (height a) 200 then Some a else None

abbrev pub made : {A : Type 0} → Option A → Parser A
made None = refuse
made (Some a) = pure a

abbrev pub node : Tree → Parser Tree
node e = made (low height e)

-- ---- types

abbrev pub sees_type : List Terminal → Bool
sees_type (element t ∷ ts) = true
sees_type (word w ∷ ts) = same_word w Dtype
sees_type _ = false

-- a comma and a type stand in front
abbrev pub begins_type : List Terminal → Bool
begins_type ts = sees Comma ts && sees_type (behind ts)

abbrev pub type_ahead : List Terminal → Option DType
type_ahead (element t ∷ ts) = Some t
type_ahead _ = None

unfoldable pub element_type : Parser DType
element_type = λ ts. made (type_ahead ts) (behind ts)

-- behind the comma
unfoldable pub named_type : Parser DType
named_type = do
  named ← eat_word Dtype
  if named then (expect Equal >> element_type) else element_type

unfoldable pub dtype : Parser (Option DType)
dtype = λ ts. if begins_type ts then (Some <$> named_type) (behind ts) else Some (None, ts)

-- the end of a call that may have a type
unfoldable pub ending : Parser (Option DType)
ending = do
  t ← dtype
  expect RightParenthesis
  pure t

-- ---- names

unfoldable pub a_word : Parser (List ℕ)
a_word = λ ts. made (name_ahead ts) (behind ts)

-- ---- loops. The number bounds the turns, and each turn takes a terminal, so their count is enough

abbrev pub more_by : Parser Tree → (Tree → Parser Tree) → Tree → Option Operator → Parser Tree
more_by operand again a None = pure a
more_by operand again a (Some o) = λ ts. (operand >>= (λ b. node (operated o a b)) >>= again) (behind ts)

-- operators of this level, with their operands
unfoldable pub more : Parser Tree → ℕ → ℕ → Tree → Parser Tree
more operand l zero a = refuse
more operand l (suc n) a = λ ts. more_by operand (more operand l n) a (operator_ahead l ts) ts

-- members up to the bracket that closes them; a comma may stand behind the last one
unfoldable pub members : {A : Type 0} → Parser A → TokenKind → ℕ → List A → Parser (List A)
members member close zero found = refuse
members member close (suc n) found = do
  closed ← eat close
  if closed then pure found else (do
    e ← member
    goes_on ← eat Comma
    if goes_on then members member close n (found ++ e ∷ []) else (expect close >> pure (found ++ e ∷ [])))

-- members with a comma between two of them
unfoldable pub extents : {A : Type 0} → Parser A → ℕ → List A → Parser (List A)
extents member zero found = refuse
extents member (suc n) found = do
  e ← member
  goes_on ← eat Comma
  if goes_on then extents member n (found ++ e ∷ []) else pure (found ++ e ∷ [])

abbrev pub ranged : Tree → MaybeTree → Option DType → Tree
ranged a no_tree t = arange no_tree a t
ranged a (some_tree b) t = arange (some_tree a) b t

-- the empty parentheses of a method
unfoldable pub empty : Parser (Unit {0})
empty = expect LeftParenthesis >> expect RightParenthesis

-- ---- the rules, from those that stand inside. Lists stand this deep inside one another

module _ (inner : Rule → Parser Tree) (deep : ℕ) where
  -- the next argument of a call
  unfoldable pub next : Parser Tree
  next = expect Comma >> inner Expression

  -- the last argument, and the parenthesis that closes the call
  unfoldable pub last : Parser Tree
  last = do
    a ← next
    expect RightParenthesis
    pure a

  -- the extents of a tuple behind the first one
  unfoldable pub other_members : Tree → Parser ShapeTree
  other_members e = λ ts. (do
    found ← members (inner Expression) RightParenthesis (length ts) (e ∷ [])
    made (low shape_height (tuple (trees found)))) ts

  unfoldable pub filled_tuple : Parser ShapeTree
  filled_tuple = do
    e ← inner Expression
    expect Comma
    other_members e

  unfoldable pub tuple_shape : Parser ShapeTree
  tuple_shape = do
    expect LeftParenthesis
    closed ← eat RightParenthesis
    if closed then made (low shape_height (tuple no_trees)) else filled_tuple

  unfoldable pub shape : Parser ShapeTree
  shape = λ ts. if sees_tuple ts then tuple_shape ts else (one <$> inner Expression) ts

  -- a shape behind a comma
  unfoldable pub next_shape : Parser ShapeTree
  next_shape = expect Comma >> shape

  -- the extents behind the first one
  unfoldable pub other_extents : Tree → Parser ShapeTree
  other_extents e = λ ts. (do
    found ← extents (inner Expression) (length ts) (e ∷ [])
    made (low shape_height (tuple (trees found)))) ts

  unfoldable pub plain_extents : Parser ShapeTree
  plain_extents = do
    e ← inner Expression
    goes_on ← eat Comma
    if goes_on then other_extents e else pure (one e)

  unfoldable pub several : Parser ShapeTree
  several = λ ts. if sees_tuple ts then tuple_shape ts else plain_extents ts

  unfoldable pub leaf_entry : Parser ListTree
  leaf_entry = leaf <$> inner Expression

  -- an entry of a list, where this is the parser of a list
  unfoldable pub entry_by : Parser ListTree → Parser ListTree
  entry_by lists = λ ts. if sees LeftBracket ts then lists ts else leaf_entry ts

  unfoldable pub bracketed : ℕ → Parser ListTree
  bracketed zero = refuse
  bracketed (suc n) = λ ts. (do
    expect LeftBracket
    found ← members (entry_by (bracketed n)) RightBracket (length ts) []
    made (low list_height (list (list_trees found)))) ts

  -- behind the comma, or in the parentheses of a method
  unfoldable pub along : Parser Tree
  along = do
    named ← eat_word Axis
    if named then (expect Equal >> inner Expression) else inner Expression

  unfoldable pub axis : Parser MaybeTree
  axis = do
    goes_on ← eat Comma
    if goes_on then some_tree <$> along else pure no_tree

  -- the end of a call that may have an axis
  unfoldable pub axis_ending : Parser MaybeTree
  axis_ending = do
    a ← axis
    expect RightParenthesis
    pure a

  unfoldable pub full_call : Parser Tree
  full_call = do
    s ← shape
    x ← next
    t ← ending
    node (full s x t)

  unfoldable pub even_call : (ShapeTree → Option DType → Tree) → Parser Tree
  even_call make = do
    s ← shape
    t ← ending
    node (make s t)

  unfoldable pub second : Parser MaybeTree
  second = λ ts. if begins_type ts then Some (no_tree, ts) else (do
    goes_on ← eat Comma
    if goes_on then some_tree <$> inner Expression else pure no_tree) ts

  unfoldable pub arange_call : Parser Tree
  arange_call = do
    a ← inner Expression
    b ← second
    t ← ending
    node (ranged a b t)

  unfoldable pub array_call : Parser Tree
  array_call = do
    l ← bracketed deep
    t ← ending
    node (array l t)

  unfoldable pub abs_call : Parser Tree
  abs_call = do
    a ← inner Expression
    expect RightParenthesis
    node (abs a)

  unfoldable pub pair_call : (Tree → Tree → Tree) → Parser Tree
  pair_call make = do
    a ← inner Expression
    b ← last
    node (make a b)

  unfoldable pub where_call : Parser Tree
  where_call = do
    c ← inner Expression
    a ← next
    b ← last
    node (choose c a b)

  unfoldable pub axis_call : (Tree → MaybeTree → Tree) → Parser Tree
  axis_call make = do
    a ← inner Expression
    k ← axis_ending
    node (make a k)

  unfoldable pub take_call : Parser Tree
  take_call = do
    a ← inner Expression
    i ← next
    k ← axis_ending
    node (take a i k)

  unfoldable pub transpose_call : Parser Tree
  transpose_call = do
    a ← inner Expression
    closed ← eat RightParenthesis
    if closed then node (transpose a no_shape) else (do
      s ← next_shape
      expect RightParenthesis
      node (transpose a (some_shape s)))

  unfoldable pub broadcast_call : Parser Tree
  broadcast_call = do
    a ← inner Expression
    s ← next_shape
    expect RightParenthesis
    node (broadcast_to a s)

  unfoldable pub stencil_call : Parser Tree
  stencil_call = do
    a ← inner Expression
    expect Comma
    l ← bracketed deep
    expect RightParenthesis
    node (stencil a l)

  unfoldable pub apply_call : Parser Tree
  apply_call = do
    w ← a_word
    a ← next
    b ← last
    node (apply w a b)

  -- behind the word and the parenthesis
  abbrev pub inside : Function → Parser Tree
  inside Full = full_call
  inside Zeros = even_call zeros
  inside Ones = even_call ones
  inside Arange = arange_call
  inside Array = array_call
  inside Abs = abs_call
  inside Minimum = pair_call minimum
  inside Maximum = pair_call maximum
  inside Where = where_call
  inside (Reduce r) = axis_call (reduce r)
  inside Take = take_call
  inside Transpose = transpose_call
  inside BroadcastTo = broadcast_call
  inside Stencil = stencil_call
  inside Apply = apply_call
  inside (Scan c) = axis_call (scan c)

  unfoldable pub called : Function → Parser Tree
  called f = expect LeftParenthesis >> inside f

  unfoldable pub enclosed : Parser Tree
  enclosed = do
    e ← inner Expression
    expect RightParenthesis
    pure e

  abbrev pub itself : Word → Parser Tree
  itself True = pure (truth true)
  itself False = pure (truth false)
  itself _ = refuse

  abbrev pub atom_by : List Terminal → Outcome Tree
  atom_by [] = None
  atom_by (t.name w ∷ ts) = Some (name w, ts)
  atom_by (t.number n ∷ ts) = Some (number n, ts)
  atom_by (word w ∷ ts) = itself w ts
  atom_by (element t ∷ ts) = None
  atom_by (function f ∷ ts) = called f ts
  atom_by (sign k ∷ ts) = if same_kind k LeftParenthesis then enclosed ts else None

  unfoldable pub atom : Parser Tree
  atom = atom_by

  -- ---- indices

  -- a part of a slice that may be left out
  unfoldable pub part : Parser MaybeTree
  part = λ ts. if sees_end ts then Some (no_tree, ts) else (some_tree <$> inner Expression) ts

  -- behind the second colon, if there is one
  unfoldable pub step : Parser MaybeTree
  step = do
    goes_on ← eat Colon
    if goes_on then part else pure no_tree

  -- behind the first colon
  unfoldable pub sliced : MaybeTree → Parser ItemTree
  sliced from = do
    to ← part
    by ← step
    made (low item_height (slice from to by))

  unfoldable pub placed : Parser ItemTree
  placed = do
    e ← inner Expression
    colon ← eat Colon
    if colon then sliced (some_tree e) else made (low item_height (at e))

  unfoldable pub item : Parser ItemTree
  item = do
    new ← eat_word NewAxis
    if new then pure new_axis else (do
      others ← eat Ellipsis
      if others then pure ellipsis else (do
        colon ← eat Colon
        if colon then sliced no_tree else placed))

  -- behind the bracket
  unfoldable pub items : Parser ItemTrees
  items = λ ts. if sees RightBracket ts then None
      else (item_trees <$> members item RightBracket (length ts) []) ts

  -- ---- methods

  unfoldable pub casting : Tree → Parser Tree
  casting a = do
    expect LeftParenthesis
    t ← element_type
    expect RightParenthesis
    node (as_type a t)

  unfoldable pub reshaping : Tree → Parser Tree
  reshaping a = do
    expect LeftParenthesis
    s ← several
    expect RightParenthesis
    node (reshape a s)

  unfoldable pub transposing : Tree → Parser Tree
  transposing a = do
    expect LeftParenthesis
    closed ← eat RightParenthesis
    if closed then node (transpose a no_shape) else (do
      s ← several
      expect RightParenthesis
      node (transpose a (some_shape s)))

  unfoldable pub reducing : Red → Tree → Parser Tree
  reducing r a = do
    expect LeftParenthesis
    closed ← eat RightParenthesis
    if closed then node (reduce r a no_tree) else (do
      e ← along
      expect RightParenthesis
      node (reduce r a (some_tree e)))

  abbrev pub named_method : Tree → Option Method → Parser Tree
  named_method a None = refuse
  named_method a (Some Turned) = node (transpose a no_shape)
  named_method a (Some Copy) = empty >> node (copy a)
  named_method a (Some Flatten) = empty >> node (flatten a)
  named_method a (Some AsType) = casting a
  named_method a (Some Reshape) = reshaping a

  abbrev pub method_function : Tree → Function → Parser Tree
  method_function a Transpose = transposing a
  method_function a (Reduce r) = reducing r a
  method_function a _ = refuse

  abbrev pub method_by : Tree → List Terminal → Outcome Tree
  method_by a [] = None
  method_by a (t.name w ∷ ts) = named_method a (method_of w) ts
  method_by a (t.number n ∷ ts) = None
  method_by a (word w ∷ ts) = None
  method_by a (element t ∷ ts) = None
  method_by a (function f ∷ ts) = method_function a f ts
  method_by a (sign k ∷ ts) = None

  -- behind the dot
  unfoldable pub method : Tree → Parser Tree
  method a = method_by a

  -- behind the bracket of an index
  unfoldable pub indexing : Tree → Parser Tree
  indexing a = do
    is ← items
    node (index a is)

  -- ---- operands and levels

  unfoldable pub suffixes : ℕ → Tree → Parser Tree
  suffixes zero a = refuse
  suffixes (suc n) a = do
    indexed ← eat LeftBracket
    if indexed then indexing a >>= suffixes n else (do
      dotted ← eat Dot
      if dotted then method a >>= suffixes n else pure a)

  unfoldable pub postfix : Parser Tree
  postfix = λ ts. (atom >>= suffixes (length ts)) ts

  unfoldable pub power : Parser Tree
  power = do
    a ← postfix
    raised ← eat DoubleStar
    if raised then (do b ← inner Unary; node (arith Pow a b)) else pure a

  unfoldable pub unary : Parser Tree
  unary = do
    negative ← eat Minus
    if negative then (do a ← inner Unary; node (neg a)) else (do
      inverted ← eat Tilde
      if inverted then (do a ← inner Unary; node (invert a)) else power)

  unfoldable pub level : ℕ → Parser Tree
  level zero = unary
  level (suc l) = λ ts. (level l >>= more (level l) (suc l) (length ts)) ts

  abbrev pub compared_by : Tree → Option Compare → Parser Tree
  compared_by a None = pure a
  compared_by a (Some o) = λ ts. (level WIDEST >>= (λ b. node (compare o a b))) (behind ts)

  unfoldable pub expression : Parser Tree
  expression = level WIDEST >>= (λ a ts. compared_by a (comparison_ahead ts) ts)

-- so many rules may stand inside one another
unfoldable pub parse : ℕ → Rule → Parser Tree
parse zero r = refuse
parse (suc n) Expression = expression (parse n) n
parse (suc n) Unary = unary (parse n) n

-- the limits of brackets and of heights together
abbrev pub DEPTH : ℕ
DEPTH = 265
