-- What is built of lists, of lines and of the parts of a form.
use Rattle.std.proofs.Common.{◌≡◌, ℕ, ◌+◌, ◌<◌, length, map, drop, get_or, subst, Bool, true, false, ◌&&◌, List, refl, ap, rules}
use Rattle.lg_tree.specs.Tree.{Tree, Trees, more_trees, ItemTree, ItemTrees, more_items, ListTree, ListTrees, more_lists}
use Rattle.lg_tree.specs.View.{tree_of, trees, item_of, item_trees, list_of, list_trees, line_of, statement_of}
use Rattle.lg_tree.specs.declared.trees.Expr.{Expr}
use Rattle.lg_tree.specs.declared.trees.Item.{Item}
use Rattle.lg_tree.specs.declared.trees.ListExpr.{ListExpr}
use Rattle.lg_tree.specs.declared.trees.Line.{Line}
use Rattle.lg_tree.specs.declared.trees.Statement.{the_lemmas}
use Rattle.lg_session.proofs.ShapeLemmas.{rest_at}
use Rattle.lg_session.specs.Built.{is_built_tree, are_built_trees, is_built_item, are_built_items, is_built_list, are_built_lists}

-- a line is seen as its number and its statement
pub line-Line : (l : Line) → line_of l ≡ record { number = l.number; statement = statement_of l.statement }
line-Line l = search (rules, the_lemmas)

-- both are true
pub both : (a b : Bool) → (a && b) ≡ true → (a ≡ true) × (b ≡ true)
both true b h = (refl, h)
both false b h = cc

pub lists_more : (x : ListTree) (rest : ListTrees) → is_built_list x ≡ true → are_built_lists (more_lists x rest) ≡ are_built_lists rest
lists_more x rest e = ap (λ b. b && are_built_lists rest) e

pub lists_stop : (x : ListTree) (rest : ListTrees) → is_built_list x ≡ false → are_built_lists (more_lists x rest) ≡ false
lists_stop x rest e = ap (λ b. b && are_built_lists rest) e

pub lists_built : (x : ListTree) (rest : ListTrees) → are_built_lists (more_lists x rest) ≡ true → (is_built_list x ≡ true) × (are_built_lists rest ≡ true)
lists_built x rest h = both (is_built_list x) (are_built_lists rest) h

-- one list of those that are left
pub list_built_at : (items : List ListExpr) (i : ℕ) (x : ListExpr) → i < length items → x ≡ get_or items i x → are_built_lists (list_trees (map list_of (drop i items))) ≡ true
    → is_built_list (list_of x) ≡ true
list_built_at items i x within is h =
    (lists_built (list_of x) (list_trees (map list_of (drop (i + 1) items))) (subst (λ ls. are_built_lists (list_trees ls) ≡ true) (rest_at list_of items i x within is) h)).0

pub trees_more : (x : Tree) (rest : Trees) → is_built_tree x ≡ true → are_built_trees (more_trees x rest) ≡ are_built_trees rest
trees_more x rest e = ap (λ b. b && are_built_trees rest) e

pub trees_stop : (x : Tree) (rest : Trees) → is_built_tree x ≡ false → are_built_trees (more_trees x rest) ≡ false
trees_stop x rest e = ap (λ b. b && are_built_trees rest) e

pub trees_built : (x : Tree) (rest : Trees) → are_built_trees (more_trees x rest) ≡ true → (is_built_tree x ≡ true) × (are_built_trees rest ≡ true)
trees_built x rest h = both (is_built_tree x) (are_built_trees rest) h

-- one expression of those that are left
pub tree_built_at : (items : List Expr) (i : ℕ) (x : Expr) → i < length items → x ≡ get_or items i x → are_built_trees (trees (map tree_of (drop i items))) ≡ true
    → is_built_tree (tree_of x) ≡ true
tree_built_at items i x within is h =
    (trees_built (tree_of x) (trees (map tree_of (drop (i + 1) items))) (subst (λ ls. are_built_trees (trees ls) ≡ true) (rest_at tree_of items i x within is) h)).0

pub items_more : (x : ItemTree) (rest : ItemTrees) → is_built_item x ≡ true → are_built_items (more_items x rest) ≡ are_built_items rest
items_more x rest e = ap (λ b. b && are_built_items rest) e

pub items_stop : (x : ItemTree) (rest : ItemTrees) → is_built_item x ≡ false → are_built_items (more_items x rest) ≡ false
items_stop x rest e = ap (λ b. b && are_built_items rest) e

pub items_built : (x : ItemTree) (rest : ItemTrees) → are_built_items (more_items x rest) ≡ true → (is_built_item x ≡ true) × (are_built_items rest ≡ true)
items_built x rest h = both (is_built_item x) (are_built_items rest) h

-- one item of those that are left
pub item_built_at : (items : List Item) (i : ℕ) (x : Item) → i < length items → x ≡ get_or items i x → are_built_items (item_trees (map item_of (drop i items))) ≡ true
    → is_built_item (item_of x) ≡ true
item_built_at items i x within is h =
    (items_built (item_of x) (item_trees (map item_of (drop (i + 1) items))) (subst (λ ls. are_built_items (item_trees ls) ≡ true) (rest_at item_of items i x within is) h)).0
