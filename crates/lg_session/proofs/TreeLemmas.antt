-- How each form of an expression is seen, and what is known of its parts.
use Rattle.std.proofs.Common.{◌≡◌, ℕ, List, Option, Result, map, rules, sym, subst, option_map}
use Rattle.lg_elem.specs.declared.dtype.DType.{DType}
use Rattle.lg_elem.specs.declared.kinds.Compare.{Compare as CompareKind}
use Rattle.lg_tree.specs.declared.kinds.Arith.{Arith as ArithKind}
use Rattle.lg_tree.specs.Tree.{Tree, arith, compare, full, zeros, ones, arange, array, minimum, maximum, choose, transpose, one, tuple, leaf, list, bind, update, put, update_at, print, index, at, slice, new_axis, ellipsis, broadcast_to}
use Rattle.lg_tree.specs.View.{tree_of, trees, list_of, shape_of, maybe_tree, maybe_shape, list_trees, statement_of, item_of, item_trees}
use Rattle.lg_tree.specs.declared.trees.Expr.{Expr, Arith, Compare, Full, Zeros, Ones, Arange, Array, Minimum, Maximum, Where, Transpose, the_lemmas, Index, BroadcastTo}
use Rattle.lg_tree.specs.declared.trees.ShapeExpr.{ShapeExpr, One, Tuple}
use Rattle.lg_tree.specs.declared.trees.Item.{Item, At, Slice, NewAxis, Ellipsis}
use Rattle.lg_tree.specs.declared.trees.ListExpr.{ListExpr, Leaf, List as Listed}
use Rattle.lg_tree.specs.declared.trees.Statement.{Bind, Update, Put, UpdateAt, Print}
use Rattle.lg_tree.specs.declared.trees.Statement as statement
use Rattle.lg_meaning.specs.Memory.{State}
use Rattle.lg_session.specs.Values.{Means, IsOutcome}
use Rattle.lg_operations.specs.declared.end.EvaluateEnd.{EvaluateEnd}
use Rattle.lg_session.specs.declared.session.Session.{Session}
use Rattle.lg_session.specs.declared.value.Value.{Value}

pub tree-Arith : (op : ArithKind) (a b : Expr) → tree_of (Arith op a b) ≡ arith op (tree_of a) (tree_of b)
tree-Arith op a b = search (rules, the_lemmas)

pub tree-Compare : (op : CompareKind) (a b : Expr) → tree_of (Compare op a b) ≡ compare op (tree_of a) (tree_of b)
tree-Compare op a b = search (rules, the_lemmas)

pub tree-Minimum : (a b : Expr) → tree_of (Minimum a b) ≡ minimum (tree_of a) (tree_of b)
tree-Minimum a b = search (rules, the_lemmas)

pub tree-Maximum : (a b : Expr) → tree_of (Maximum a b) ≡ maximum (tree_of a) (tree_of b)
tree-Maximum a b = search (rules, the_lemmas)

pub tree-Where : (c a b : Expr) → tree_of (Where c a b) ≡ choose (tree_of c) (tree_of a) (tree_of b)
tree-Where c a b = search (rules, the_lemmas)

pub tree-Full : (s : ShapeExpr) (x : Expr) (t : Option DType) → tree_of (Full s x t) ≡ full (shape_of s) (tree_of x) t
tree-Full s x t = search (rules, the_lemmas)

pub tree-Zeros : (s : ShapeExpr) (t : Option DType) → tree_of (Zeros s t) ≡ zeros (shape_of s) t
tree-Zeros s t = search (rules, the_lemmas)

pub tree-Ones : (s : ShapeExpr) (t : Option DType) → tree_of (Ones s t) ≡ ones (shape_of s) t
tree-Ones s t = search (rules, the_lemmas)

pub tree-Array : (l : ListExpr) (t : Option DType) → tree_of (Array l t) ≡ array (list_of l) t
tree-Array l t = search (rules, the_lemmas)

pub tree-Arange : (m : Option Expr) (b : Expr) (t : Option DType) → tree_of (Arange m b t) ≡ arange (maybe_tree (option_map tree_of m)) (tree_of b) t
tree-Arange m b t = search (rules, the_lemmas)

pub tree-Transpose : (a : Expr) (s : Option ShapeExpr) → tree_of (Transpose a s) ≡ transpose (tree_of a) (maybe_shape (option_map shape_of s))
tree-Transpose a s = search (rules, the_lemmas)

pub tree-Index : (a : Expr) (is : List Item) → tree_of (Index a is) ≡ index (tree_of a) (item_trees (map item_of is))
tree-Index a is = search (rules, the_lemmas)

pub item-At : (e : Expr) → item_of (At e) ≡ at (tree_of e)
item-At e = search (rules, the_lemmas)

pub item-Slice : (start stop step : Option Expr)
    → item_of (Slice start stop step) ≡ slice (maybe_tree (option_map tree_of start)) (maybe_tree (option_map tree_of stop)) (maybe_tree (option_map tree_of step))
item-Slice start stop step = search (rules, the_lemmas)

pub item-NewAxis : item_of NewAxis ≡ new_axis
item-NewAxis = search (rules, the_lemmas)

pub item-Ellipsis : item_of Ellipsis ≡ ellipsis
item-Ellipsis = search (rules, the_lemmas)

pub tree-BroadcastTo : (a : Expr) (s : ShapeExpr) → tree_of (BroadcastTo a s) ≡ broadcast_to (tree_of a) (shape_of s)
tree-BroadcastTo a s = search (rules, the_lemmas)

pub shape-One : (e : Expr) → shape_of (One e) ≡ one (tree_of e)
shape-One e = search (rules, the_lemmas)

pub shape-Tuple : (es : List Expr) → shape_of (Tuple es) ≡ tuple (trees (map tree_of es))
shape-Tuple es = search (rules, the_lemmas)

pub tree-Leaf : (e : Expr) → list_of (Leaf e) ≡ leaf (tree_of e)
tree-Leaf e = search (rules, the_lemmas)

pub tree-List : (ls : List ListExpr) → list_of (Listed ls) ≡ list (list_trees (map list_of ls))
tree-List ls = search (rules, the_lemmas)

pub statement-Bind : (w : List ℕ) (e : Expr) → statement_of (Bind w e) ≡ bind w (tree_of e)
statement-Bind w e = search (rules, statement.the_lemmas)

pub statement-Print : (e : Expr) → statement_of (Print e) ≡ print (tree_of e)
statement-Print e = search (rules, statement.the_lemmas)

pub statement-Update : (w : List ℕ) (op : ArithKind) (e : Expr) → statement_of (Update w op e) ≡ update w op (tree_of e)
statement-Update w op e = search (rules, statement.the_lemmas)

pub statement-Put : (w : List ℕ) (is : List Item) (e : Expr) → statement_of (Put w is e) ≡ put w (item_trees (map item_of is)) (tree_of e)
statement-Put w is e = search (rules, statement.the_lemmas)

pub statement-UpdateAt : (w : List ℕ) (is : List Item) (op : ArithKind) (e : Expr) → statement_of (UpdateAt w is op e) ≡ update_at w (item_trees (map item_of is)) op (tree_of e)
statement-UpdateAt w is op e = search (rules, statement.the_lemmas)

module _ (state : State) (session : Session) where
  pub means_of : (x l : Expr) (p : Value) → x ≡ l → Means (tree_of x) state session p → Means (tree_of l) state session p
  means_of x l p e h = subst (λ (y : Expr). Means (tree_of y) state session p) e h

  pub outcome_of : (t e : Tree) (answer : Result Value EvaluateEnd) → t ≡ e → IsOutcome e state session answer → IsOutcome t state session answer
  outcome_of t e answer same h = subst (λ (x : Tree). IsOutcome x state session answer) (sym same) h

  pub outcome_at : (x l : Expr) (answer : Result Value EvaluateEnd) → x ≡ l → IsOutcome (tree_of x) state session answer → IsOutcome (tree_of l) state session answer
  outcome_at x l answer e h = subst (λ (y : Expr). IsOutcome (tree_of y) state session answer) e h
