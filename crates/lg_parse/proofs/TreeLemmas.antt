-- How a list of parts grows by one, and how the trees of the code are seen that have optional parts.
use Rattle.std.proofs.Common.{◌≡◌, ℕ, max, Option, None, Some, List, [], ◌∷◌, ◌++◌, map, sym, ap, ap₂, ◌∙◌, rules, arith}
use Rattle.std.proofs.lemmas.List.{map-append}
use Rattle.lg_elem.specs.declared.dtype.DType.{DType}
use Rattle.lg_tree.specs.declared.kinds.Red.{Red}
use Rattle.lg_tree.specs.declared.kinds.ScanCall.{ScanCall}
use Rattle.lg_tree.specs.Tree.{Tree, arange, reduce, scan, take, transpose, at, slice, ItemTree, ListTree}
use Rattle.lg_tree.specs.Measures.{height, trees_height, item_height, items_height, list_height, lists_height}
use Rattle.lg_tree.specs.View.{tree_of, item_of, list_of, maybe_of, maybe_shape_of, trees, item_trees, list_trees, trees_of, items_of, lists_of}
use Rattle.lg_tree.specs.declared.trees.Expr.{Expr, Arange, Reduce, Scan, Take, Transpose, the_lemmas}
use Rattle.lg_tree.specs.declared.trees.Item.{Item, At, Slice}
use Rattle.lg_tree.specs.declared.trees.ListExpr.{ListExpr}
use Rattle.lg_tree.specs.declared.trees.ShapeExpr.{ShapeExpr}

pub more_view : {A B : Type 0} (f : A → B) (xs ys : List A) (e : A) → ys ≡ xs ++ e ∷ [] → map f xs ++ f e ∷ [] ≡ map f ys
more_view f xs ys e p = sym (ap (map f) p ∙ map-append f xs (e ∷ []))

highest_tree : (xs : List Tree) (l : Tree) → trees_height (trees (xs ++ l ∷ [])) ≡ max (trees_height (trees xs)) (height l)
highest_tree [] l = omega arith
highest_tree (x ∷ xs) l = let e : trees_height (trees (xs ++ l ∷ [])) ≡ max (trees_height (trees xs)) (height l) = highest_tree xs l in omega arith

highest_item : (xs : List ItemTree) (l : ItemTree) → items_height (item_trees (xs ++ l ∷ [])) ≡ max (items_height (item_trees xs)) (item_height l)
highest_item [] l = omega arith
highest_item (x ∷ xs) l = let e : items_height (item_trees (xs ++ l ∷ [])) ≡ max (items_height (item_trees xs)) (item_height l) = highest_item xs l in omega arith

highest_list : (xs : List ListTree) (l : ListTree) → lists_height (list_trees (xs ++ l ∷ [])) ≡ max (lists_height (list_trees xs)) (list_height l)
highest_list [] l = omega arith
highest_list (x ∷ xs) l = let e : lists_height (list_trees (xs ++ l ∷ [])) ≡ max (lists_height (list_trees xs)) (list_height l) = highest_list xs l in omega arith

pub more_height : {A B : Type 0} (f : A → B) (one : B → ℕ) (all : List B → ℕ) (xs ys : List A) (e : A) (n m k : ℕ) → ((bs : List B) (b : B) → all (bs ++ b ∷ []) ≡ max (all bs) (one b)) → ys ≡ xs ++ e ∷ [] → n ≡ all (map f xs) → m ≡ one (f e) → k ≡ max n m → k ≡ all (map f ys)
more_height f one all xs ys e n m k highest p u v w =
    w ∙ ap₂ (λ (i j : ℕ). max i j) u v ∙ sym (highest (map f xs) (f e)) ∙ ap all (more_view f xs ys e p)

pub tree_height_more : (xs ys : List Expr) (e : Expr) (n m k : ℕ) → ys ≡ xs ++ e ∷ [] → n ≡ trees_height (trees_of xs) → m ≡ height (tree_of e) → k ≡ max n m → k ≡ trees_height (trees_of ys)
tree_height_more xs ys e n m k = more_height tree_of height (λ es. trees_height (trees es)) xs ys e n m k highest_tree

pub item_height_more : (xs ys : List Item) (e : Item) (n m k : ℕ) → ys ≡ xs ++ e ∷ [] → n ≡ items_height (items_of xs) → m ≡ item_height (item_of e) → k ≡ max n m → k ≡ items_height (items_of ys)
item_height_more xs ys e n m k = more_height item_of item_height (λ es. items_height (item_trees es)) xs ys e n m k highest_item

pub list_height_more : (xs ys : List ListExpr) (e : ListExpr) (n m k : ℕ) → ys ≡ xs ++ e ∷ [] → n ≡ lists_height (lists_of xs) → m ≡ list_height (list_of e) → k ≡ max n m → k ≡ lists_height (lists_of ys)
list_height_more xs ys e n m k = more_height list_of list_height (λ es. lists_height (list_trees es)) xs ys e n m k highest_list

-- ---- optional parts

pub view_arange : (a : Option Expr) (b : Expr) (t : Option DType) → tree_of (Arange a b t) ≡ arange (maybe_of a) (tree_of b) t
view_arange None b t = search (rules, the_lemmas)
view_arange (Some a) b t = search (rules, the_lemmas)

pub view_reduce : (r : Red) (a : Expr) (k : Option Expr) → tree_of (Reduce r a k) ≡ reduce r (tree_of a) (maybe_of k)
view_reduce r a None = search (rules, the_lemmas)
view_reduce r a (Some k) = search (rules, the_lemmas)

pub view_scan : (c : ScanCall) (a : Expr) (k : Option Expr) → tree_of (Scan c a k) ≡ scan c (tree_of a) (maybe_of k)
view_scan c a None = search (rules, the_lemmas)
view_scan c a (Some k) = search (rules, the_lemmas)

pub view_take : (a i : Expr) (k : Option Expr) → tree_of (Take a i k) ≡ take (tree_of a) (tree_of i) (maybe_of k)
view_take a i None = search (rules, the_lemmas)
view_take a i (Some k) = search (rules, the_lemmas)

pub view_transpose : (a : Expr) (s : Option ShapeExpr) → tree_of (Transpose a s) ≡ transpose (tree_of a) (maybe_shape_of s)
view_transpose a None = search (rules, the_lemmas)
view_transpose a (Some s) = search (rules, the_lemmas)

pub view_slice : (a b c : Option Expr) → item_of (Slice a b c) ≡ slice (maybe_of a) (maybe_of b) (maybe_of c)
view_slice None None None = search (rules, the_lemmas)
view_slice None None (Some c) = search (rules, the_lemmas)
view_slice None (Some b) None = search (rules, the_lemmas)
view_slice None (Some b) (Some c) = search (rules, the_lemmas)
view_slice (Some a) None None = search (rules, the_lemmas)
view_slice (Some a) None (Some c) = search (rules, the_lemmas)
view_slice (Some a) (Some b) None = search (rules, the_lemmas)
view_slice (Some a) (Some b) (Some c) = search (rules, the_lemmas)

-- what is pushed, under another name
pub pushed : {A : Type 0} {x y : A} {new : List A} (old : List A) → new ≡ old ++ x ∷ [] → x ≡ y → new ≡ old ++ y ∷ []
pushed {A = A} old e p = e ∙ ap (λ (z : A). old ++ z ∷ []) p

pub view_at : (a : Expr) → item_of (At a) ≡ at (tree_of a)
view_at a = search (rules, the_lemmas)
