-- The grammar of expressions, which is this project's own, a part of Python's. One constructor
-- stands for each production, and relates the terminals from which it is read to those that are
-- left behind it: `Spells expr ts rest e` says that from `ts` up to `rest` stands an expression,
-- and that it means the tree `e`. Parentheses make no node.
use Rattle.std.specs.Prelude.{◌≡◌, ℕ, suc, true, false, Option, Some, List, ◌∷◌}
use Rattle.lg_elem.specs.declared.dtype.DType.{DType}
use Rattle.lg_elem.specs.declared.kinds.Compare.{Compare}
use Rattle.lg_lex.specs.declared.tokens.TokenKind.{TokenKind}
use Rattle.lg_lex.specs.declared.tokens.TokenKind.TheVariants.{
  Minus,
  Tilde,
  DoubleStar,
  Equal,
  Comma,
  Colon,
  Dot,
  Ellipsis,
  LeftParenthesis,
  RightParenthesis,
  LeftBracket,
  RightBracket,
}
use Rattle.lg_tree.specs.declared.kinds.Arith.TheVariants.{Pow}
use Rattle.lg_tree.specs.declared.kinds.Red.{Red}
use Rattle.lg_tree.specs.declared.kinds.ScanCall.{ScanCall}
use Rattle.lg_tree.specs.Tree.{
  Tree,
  number,
  truth,
  name,
  neg,
  invert,
  arith,
  compare,
  index,
  full,
  zeros,
  ones,
  arange,
  array,
  abs,
  minimum,
  maximum,
  choose,
  reduce,
  take,
  transpose,
  broadcast_to,
  stencil,
  copy,
  flatten,
  as_type,
  reshape,
  apply,
  scan,
  MaybeTree,
  no_tree,
  some_tree,
  Trees,
  no_trees,
  more_trees,
  ShapeTree,
  one,
  tuple,
  no_shape,
  some_shape,
  ItemTree,
  at,
  slice,
  new_axis,
  ellipsis,
  ItemTrees,
  no_items,
  more_items,
  ListTree,
  leaf,
  list,
  ListTrees,
  no_lists,
  more_lists,
}
use Rattle.lg_parse.specs.declared.methods.Method.TheVariants.{Turned, Copy, Flatten, AsType, Reshape}
use Rattle.lg_parse.specs.declared.operators.Operator.{Operator}
use Rattle.lg_parse.specs.declared.words.Function.{Function}
use Rattle.lg_parse.specs.declared.words.Function.TheVariants.{
  Full,
  Zeros,
  Ones,
  Arange,
  Array,
  Abs,
  Minimum,
  Maximum,
  Where,
  Reduce,
  Take,
  Transpose,
  BroadcastTo,
  Stencil,
  Apply,
  Scan,
}
use Rattle.lg_parse.specs.declared.words.Word.TheVariants.{True, False, NewAxis, Axis}
use Rattle.lg_parse.specs.Methods.{method_word}
use Rattle.lg_parse.specs.Operators.{operation, operated, comparison, WIDEST}
use Rattle.lg_parse.specs.Terminal.{Terminal, word, element, function, sign}
use Rattle.lg_parse.specs.Terminal as t
use Rattle.lg_parse.specs.Types.{SpellsType}

pub data Form : Type 0 where
  expr : Form
  level : ℕ → Form
  unary : Form
  power : Form
  postfix : Form
  atom : Form

mutual
  -- expr    = level6 [("==" | "!=" | "<" | "<=" | ">" | ">=") level6]
  -- level6  = level5 {"|" level5}
  -- level5  = level4 {"^" level4}
  -- level4  = level3 {"&" level3}
  -- level3  = level2 {("<<" | ">>") level2}
  -- level2  = level1 {("+" | "-") level1}
  -- level1  = level0 {("*" | "//" | "%" | "@") level0}
  -- level0  = unary
  -- unary   = ("-" | "~") unary  |  power
  -- power   = postfix ["**" unary]
  -- postfix = atom {suffix}
  -- atom    = NUMBER | "True" | "False" | NAME | "(" expr ")" | function "(" arguments ")"
  pub data Spells : Form → List Terminal → List Terminal → Tree → Type 0 where
    uncompared : {ts rest : List Terminal} {e : Tree}
        → Spells (level WIDEST) ts rest e → Spells expr ts rest e
    compared : {ts us rest : List Terminal} {a b : Tree} (k : TokenKind) (o : Compare)
        → comparison k ≡ Some o → Spells (level WIDEST) ts (sign k ∷ us) a
        → Spells (level WIDEST) us rest b → Spells expr ts rest (compare o a b)
    tightest : {ts rest : List Terminal} {e : Tree}
        → Spells unary ts rest e → Spells (level 0) ts rest e
    single : {l : ℕ} {ts rest : List Terminal} {e : Tree}
        → Spells (level l) ts rest e → Spells (level (suc l)) ts rest e
    joined : {l : ℕ} {ts us rest : List Terminal} {a b : Tree} (k : TokenKind) (o : Operator)
        → operation k ≡ Some (suc l, o) → Spells (level (suc l)) ts (sign k ∷ us) a
        → Spells (level l) us rest b → Spells (level (suc l)) ts rest (operated o a b)
    negative : {ts rest : List Terminal} {e : Tree}
        → Spells unary ts rest e → Spells unary (sign Minus ∷ ts) rest (neg e)
    inverted : {ts rest : List Terminal} {e : Tree}
        → Spells unary ts rest e → Spells unary (sign Tilde ∷ ts) rest (invert e)
    unsigned : {ts rest : List Terminal} {e : Tree}
        → Spells power ts rest e → Spells unary ts rest e
    alone : {ts rest : List Terminal} {e : Tree}
        → Spells postfix ts rest e → Spells power ts rest e
    raised : {ts us rest : List Terminal} {a b : Tree}
        → Spells postfix ts (sign DoubleStar ∷ us) a → Spells unary us rest b
        → Spells power ts rest (arith Pow a b)
    bare : {ts rest : List Terminal} {e : Tree}
        → Spells atom ts rest e → Spells postfix ts rest e
    suffixed : {ts us rest : List Terminal} {a e : Tree}
        → Spells postfix ts us a → SpellsSuffix a us rest e → Spells postfix ts rest e
    a_number : {rest : List Terminal} (n : ℕ) → Spells atom (t.number n ∷ rest) rest (number n)
    a_truth : {rest : List Terminal} → Spells atom (word True ∷ rest) rest (truth true)
    a_falsehood : {rest : List Terminal} → Spells atom (word False ∷ rest) rest (truth false)
    a_name : {rest : List Terminal} (w : List ℕ) → Spells atom (t.name w ∷ rest) rest (name w)
    enclosed : {ts rest : List Terminal} {e : Tree}
        → Spells expr ts (sign RightParenthesis ∷ rest) e
        → Spells atom (sign LeftParenthesis ∷ ts) rest e
    a_call : {f : Function} {ts rest : List Terminal} {e : Tree}
        → SpellsCall f ts (sign RightParenthesis ∷ rest) e
        → Spells atom (function f ∷ sign LeftParenthesis ∷ ts) rest e

  -- The arguments of a function:
  --
  -- "full"                = shape "," expr ["," type]
  -- "zeros" | "ones"      = shape ["," type]
  -- "arange"              = expr ["," expr] ["," type]
  -- "array"               = list ["," type]
  -- "abs"                 = expr
  -- "minimum" | "maximum" = expr "," expr
  -- "where"               = expr "," expr "," expr
  -- a reduction, a scan   = expr ["," axis]
  -- "take"                = expr "," expr ["," axis]
  -- "transpose"           = expr ["," shape]
  -- "broadcast_to"        = expr "," shape
  -- "stencil"             = expr "," list
  -- "apply"               = NAME "," expr "," expr
  pub data SpellsCall : Function → List Terminal → List Terminal → Tree → Type 0 where
    a_full : {ts us vs rest : List Terminal} {s : ShapeTree} {x : Tree} {t : Option DType}
        → SpellsShape ts (sign Comma ∷ us) s → Spells expr us vs x → SpellsType vs rest t
        → SpellsCall Full ts rest (full s x t)
    some_zeros : {ts us rest : List Terminal} {s : ShapeTree} {t : Option DType}
        → SpellsShape ts us s → SpellsType us rest t → SpellsCall Zeros ts rest (zeros s t)
    some_ones : {ts us rest : List Terminal} {s : ShapeTree} {t : Option DType}
        → SpellsShape ts us s → SpellsType us rest t → SpellsCall Ones ts rest (ones s t)
    a_range_to : {ts us rest : List Terminal} {x : Tree} {t : Option DType}
        → Spells expr ts us x → SpellsType us rest t
        → SpellsCall Arange ts rest (arange no_tree x t)
    a_range : {ts us vs rest : List Terminal} {x y : Tree} {t : Option DType}
        → Spells expr ts (sign Comma ∷ us) x → Spells expr us vs y → SpellsType vs rest t
        → SpellsCall Arange ts rest (arange (some_tree x) y t)
    an_array : {ts us rest : List Terminal} {l : ListTree} {t : Option DType}
        → SpellsList ts us l → SpellsType us rest t → SpellsCall Array ts rest (array l t)
    an_abs : {ts rest : List Terminal} {x : Tree}
        → Spells expr ts rest x → SpellsCall Abs ts rest (abs x)
    a_minimum : {ts us rest : List Terminal} {x y : Tree}
        → Spells expr ts (sign Comma ∷ us) x → Spells expr us rest y
        → SpellsCall Minimum ts rest (minimum x y)
    a_maximum : {ts us rest : List Terminal} {x y : Tree}
        → Spells expr ts (sign Comma ∷ us) x → Spells expr us rest y
        → SpellsCall Maximum ts rest (maximum x y)
    a_choice : {ts us vs rest : List Terminal} {c x y : Tree}
        → Spells expr ts (sign Comma ∷ us) c → Spells expr us (sign Comma ∷ vs) x
        → Spells expr vs rest y → SpellsCall Where ts rest (choose c x y)
    a_reduction : {ts us rest : List Terminal} {x : Tree} {axis : MaybeTree} (r : Red)
        → Spells expr ts us x → SpellsAxis us rest axis
        → SpellsCall (Reduce r) ts rest (reduce r x axis)
    a_scan : {ts us rest : List Terminal} {x : Tree} {axis : MaybeTree} (c : ScanCall)
        → Spells expr ts us x → SpellsAxis us rest axis
        → SpellsCall (Scan c) ts rest (scan c x axis)
    a_take : {ts us vs rest : List Terminal} {x i : Tree} {axis : MaybeTree}
        → Spells expr ts (sign Comma ∷ us) x → Spells expr us vs i → SpellsAxis vs rest axis
        → SpellsCall Take ts rest (take x i axis)
    a_reversal : {ts rest : List Terminal} {x : Tree}
        → Spells expr ts rest x → SpellsCall Transpose ts rest (transpose x no_shape)
    a_transpose : {ts us rest : List Terminal} {x : Tree} {s : ShapeTree}
        → Spells expr ts (sign Comma ∷ us) x → SpellsShape us rest s
        → SpellsCall Transpose ts rest (transpose x (some_shape s))
    a_broadcast : {ts us rest : List Terminal} {x : Tree} {s : ShapeTree}
        → Spells expr ts (sign Comma ∷ us) x → SpellsShape us rest s
        → SpellsCall BroadcastTo ts rest (broadcast_to x s)
    a_stencil : {ts us rest : List Terminal} {x : Tree} {l : ListTree}
        → Spells expr ts (sign Comma ∷ us) x → SpellsList us rest l
        → SpellsCall Stencil ts rest (stencil x l)
    an_application : {ts us rest : List Terminal} {x y : Tree} (w : List ℕ)
        → Spells expr ts (sign Comma ∷ us) x → Spells expr us rest y
        → SpellsCall Apply (t.name w ∷ sign Comma ∷ ts) rest (apply w x y)

  -- axis = ["axis" "="] expr
  pub data SpellsAlong : List Terminal → List Terminal → Tree → Type 0 where
    plain_axis : {ts rest : List Terminal} {e : Tree}
        → Spells expr ts rest e → SpellsAlong ts rest e
    named_axis : {ts rest : List Terminal} {e : Tree}
        → Spells expr ts rest e → SpellsAlong (word Axis ∷ sign Equal ∷ ts) rest e

  -- ["," axis]
  pub data SpellsAxis : List Terminal → List Terminal → MaybeTree → Type 0 where
    no_axis : {rest : List Terminal} → SpellsAxis rest rest no_tree
    an_axis : {ts rest : List Terminal} {e : Tree}
        → SpellsAlong ts rest e → SpellsAxis (sign Comma ∷ ts) rest (some_tree e)

  -- What stands behind `a`, with the tree of both:
  --
  -- suffix  = "[" items "]"  |  "." method                         (one item at least)
  -- method  = "T"  |  "copy" "(" ")"  |  "flatten" "(" ")"  |  "astype" "(" TYPE ")"
  --         | "reshape" "(" several ")"  |  "transpose" "(" [several] ")"
  --         | reduction "(" [axis] ")"
  pub data SpellsSuffix : Tree → List Terminal → List Terminal → Tree → Type 0 where
    indexed : {a : Tree} {ts rest : List Terminal} {i : ItemTree} {is : ItemTrees}
        → SpellsItems ts (sign RightBracket ∷ rest) (more_items i is)
        → SpellsSuffix a (sign LeftBracket ∷ ts) rest (index a (more_items i is))
    turned : {a : Tree} {rest : List Terminal}
        → SpellsSuffix a (sign Dot ∷ t.name (method_word Turned) ∷ rest) rest (transpose a no_shape)
    copied : {a : Tree} {rest : List Terminal}
        → SpellsSuffix a (sign Dot ∷ t.name (method_word Copy)
        ∷ sign LeftParenthesis ∷ sign RightParenthesis ∷ rest) rest (copy a)
    flattened : {a : Tree} {rest : List Terminal}
        → SpellsSuffix a (sign Dot ∷ t.name (method_word Flatten)
        ∷ sign LeftParenthesis ∷ sign RightParenthesis ∷ rest) rest (flatten a)
    cast : {a : Tree} {rest : List Terminal} (d : DType)
        → SpellsSuffix a (sign Dot ∷ t.name (method_word AsType)
        ∷ sign LeftParenthesis ∷ element d ∷ sign RightParenthesis ∷ rest) rest (as_type a d)
    reshaped : {a : Tree} {ts rest : List Terminal} {s : ShapeTree}
        → SpellsSeveral ts (sign RightParenthesis ∷ rest) s
        → SpellsSuffix a (sign Dot ∷ t.name (method_word Reshape) ∷ sign LeftParenthesis ∷ ts) rest
        (reshape a s)
    reversed : {a : Tree} {rest : List Terminal}
        → SpellsSuffix a (sign Dot ∷ function Transpose
        ∷ sign LeftParenthesis ∷ sign RightParenthesis ∷ rest) rest (transpose a no_shape)
    transposed : {a : Tree} {ts rest : List Terminal} {s : ShapeTree}
        → SpellsSeveral ts (sign RightParenthesis ∷ rest) s
        → SpellsSuffix a (sign Dot ∷ function Transpose ∷ sign LeftParenthesis ∷ ts) rest
        (transpose a (some_shape s))
    reduced : {a : Tree} {rest : List Terminal} (r : Red)
        → SpellsSuffix a (sign Dot ∷ function (Reduce r)
        ∷ sign LeftParenthesis ∷ sign RightParenthesis ∷ rest) rest (reduce r a no_tree)
    reduced_along : {a e : Tree} {ts rest : List Terminal} (r : Red)
        → SpellsAlong ts (sign RightParenthesis ∷ rest) e
        → SpellsSuffix a (sign Dot ∷ function (Reduce r) ∷ sign LeftParenthesis ∷ ts) rest
        (reduce r a (some_tree e))

  -- item = expr | [expr] ":" [expr] [":" [expr]] | "None" | "..."
  pub data SpellsItem : List Terminal → List Terminal → ItemTree → Type 0 where
    a_place : {ts rest : List Terminal} {e : Tree}
        → Spells expr ts rest e → SpellsItem ts rest (at e)
    a_slice : {ts us rest : List Terminal} {from to : MaybeTree}
        → SpellsPart ts (sign Colon ∷ us) from → SpellsPart us rest to
        → SpellsItem ts rest (slice from to no_tree)
    a_stepped : {ts us vs rest : List Terminal} {from to by : MaybeTree}
        → SpellsPart ts (sign Colon ∷ us) from → SpellsPart us (sign Colon ∷ vs) to
        → SpellsPart vs rest by → SpellsItem ts rest (slice from to by)
    an_axis_more : {rest : List Terminal} → SpellsItem (word NewAxis ∷ rest) rest new_axis
    the_others : {rest : List Terminal} → SpellsItem (sign Ellipsis ∷ rest) rest ellipsis

  -- [expr]
  pub data SpellsPart : List Terminal → List Terminal → MaybeTree → Type 0 where
    no_part : {rest : List Terminal} → SpellsPart rest rest no_tree
    a_part : {ts rest : List Terminal} {e : Tree}
        → Spells expr ts rest e → SpellsPart ts rest (some_tree e)

  -- items = [item ["," items]]
  pub data SpellsItems : List Terminal → List Terminal → ItemTrees → Type 0 where
    nothing : {rest : List Terminal} → SpellsItems rest rest no_items
    last_item : {ts rest : List Terminal} {i : ItemTree}
        → SpellsItem ts rest i → SpellsItems ts rest (more_items i no_items)
    next_item : {ts us rest : List Terminal} {i : ItemTree} {is : ItemTrees}
        → SpellsItem ts (sign Comma ∷ us) i → SpellsItems us rest is
        → SpellsItems ts rest (more_items i is)

  -- shape = expr | "(" ")" | "(" expr "," members ")"
  pub data SpellsShape : List Terminal → List Terminal → ShapeTree → Type 0 where
    one_extent : {ts rest : List Terminal} {e : Tree}
        → Spells expr ts rest e → SpellsShape ts rest (one e)
    no_extent : {rest : List Terminal}
        → SpellsShape (sign LeftParenthesis ∷ sign RightParenthesis ∷ rest) rest (tuple no_trees)
    a_tuple : {ts us rest : List Terminal} {e : Tree} {es : Trees}
        → Spells expr ts (sign Comma ∷ us) e → SpellsMembers us (sign RightParenthesis ∷ rest) es
        → SpellsShape (sign LeftParenthesis ∷ ts) rest (tuple (more_trees e es))

  -- members = [expr ["," members]]
  pub data SpellsMembers : List Terminal → List Terminal → Trees → Type 0 where
    no_members : {rest : List Terminal} → SpellsMembers rest rest no_trees
    last_member : {ts rest : List Terminal} {e : Tree}
        → Spells expr ts rest e → SpellsMembers ts rest (more_trees e no_trees)
    next_member : {ts us rest : List Terminal} {e : Tree} {es : Trees}
        → Spells expr ts (sign Comma ∷ us) e → SpellsMembers us rest es
        → SpellsMembers ts rest (more_trees e es)

  -- several = shape | expr "," extents
  pub data SpellsSeveral : List Terminal → List Terminal → ShapeTree → Type 0 where
    as_shape : {ts rest : List Terminal} {s : ShapeTree}
        → SpellsShape ts rest s → SpellsSeveral ts rest s
    side_by_side : {ts us rest : List Terminal} {e : Tree} {es : Trees}
        → Spells expr ts (sign Comma ∷ us) e → SpellsExtents us rest es
        → SpellsSeveral ts rest (tuple (more_trees e es))

  -- extents = expr ["," extents]
  pub data SpellsExtents : List Terminal → List Terminal → Trees → Type 0 where
    last_extent : {ts rest : List Terminal} {e : Tree}
        → Spells expr ts rest e → SpellsExtents ts rest (more_trees e no_trees)
    next_extent : {ts us rest : List Terminal} {e : Tree} {es : Trees}
        → Spells expr ts (sign Comma ∷ us) e → SpellsExtents us rest es
        → SpellsExtents ts rest (more_trees e es)

  -- list = "[" entries "]"
  pub data SpellsList : List Terminal → List Terminal → ListTree → Type 0 where
    a_list : {ts rest : List Terminal} {ls : ListTrees}
        → SpellsEntries ts (sign RightBracket ∷ rest) ls
        → SpellsList (sign LeftBracket ∷ ts) rest (list ls)

  -- entries = [entry ["," entries]]
  pub data SpellsEntries : List Terminal → List Terminal → ListTrees → Type 0 where
    no_entries : {rest : List Terminal} → SpellsEntries rest rest no_lists
    last_entry : {ts rest : List Terminal} {l : ListTree}
        → SpellsEntry ts rest l → SpellsEntries ts rest (more_lists l no_lists)
    next_entry : {ts us rest : List Terminal} {l : ListTree} {ls : ListTrees}
        → SpellsEntry ts (sign Comma ∷ us) l → SpellsEntries us rest ls
        → SpellsEntries ts rest (more_lists l ls)

  -- entry = list | expr
  pub data SpellsEntry : List Terminal → List Terminal → ListTree → Type 0 where
    inner_list : {ts rest : List Terminal} {l : ListTree}
        → SpellsList ts rest l → SpellsEntry ts rest l
    one_entry : {ts rest : List Terminal} {e : Tree}
        → Spells expr ts rest e → SpellsEntry ts rest (leaf e)
