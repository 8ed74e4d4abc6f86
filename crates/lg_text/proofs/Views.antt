-- How some forms of expressions are seen as trees.
use Rattle.std.proofs.Common.{◌≡◌, Option, None, Some, rules}
use Rattle.lg_elem.specs.declared.dtype.DType.{DType}
use Rattle.lg_tree.specs.Tree.{arange, array, broadcast_to, copy, flatten, as_type, reshape, no_tree, some_tree}
use Rattle.lg_tree.specs.View.{tree_of, list_of, shape_of}
use Rattle.lg_tree.specs.declared.trees.Expr.{Expr, Arange, Array, BroadcastTo, Copy, Flatten, AsType, Reshape, the_lemmas}
use Rattle.lg_tree.specs.declared.trees.ListExpr.{ListExpr}
use Rattle.lg_tree.specs.declared.trees.ShapeExpr.{ShapeExpr}

tree-Arange_to : (b : Expr) (t : Option DType) → tree_of (Arange None b t) ≡ arange no_tree (tree_of b) t
tree-Arange_to b t = search (rules, the_lemmas)

tree-Arange : (a b : Expr) (t : Option DType) → tree_of (Arange (Some a) b t) ≡ arange (some_tree (tree_of a)) (tree_of b) t
tree-Arange a b t = search (rules, the_lemmas)

-- the same where the first bound is told to be left out, or to be there
pub tree-without_start : (e b : Expr) (from : Option Expr) (t : Option DType) → e ≡ Arange from b t → from ≡ None → tree_of e ≡ arange no_tree (tree_of b) t
tree-without_start e b from t is none = rw (is, none) (tree-Arange_to b t)

pub tree-with_start : (e a b : Expr) (from : Option Expr) (t : Option DType) → e ≡ Arange from b t → from ≡ Some a → tree_of e ≡ arange (some_tree (tree_of a)) (tree_of b) t
tree-with_start e a b from t is some = rw (is, some) (tree-Arange a b t)

pub tree-Array : (l : ListExpr) (t : Option DType) → tree_of (Array l t) ≡ array (list_of l) t
tree-Array l t = search (rules, the_lemmas)

pub tree-BroadcastTo : (a : Expr) (s : ShapeExpr) → tree_of (BroadcastTo a s) ≡ broadcast_to (tree_of a) (shape_of s)
tree-BroadcastTo a s = search (rules, the_lemmas)

pub tree-Copy : (a : Expr) → tree_of (Copy a) ≡ copy (tree_of a)
tree-Copy a = search (rules, the_lemmas)

pub tree-Flatten : (a : Expr) → tree_of (Flatten a) ≡ flatten (tree_of a)
tree-Flatten a = search (rules, the_lemmas)

pub tree-AsType : (a : Expr) (t : DType) → tree_of (AsType a t) ≡ as_type (tree_of a) t
tree-AsType a t = search (rules, the_lemmas)

pub tree-Reshape : (a : Expr) (s : ShapeExpr) → tree_of (Reshape a s) ≡ reshape (tree_of a) (shape_of s)
tree-Reshape a s = search (rules, the_lemmas)
