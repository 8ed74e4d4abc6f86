-- The shape of nested lists, as the code finds it.
use Rattle.std.proofs.Common.{◌≡◌, ℕ, suc, ◌+◌, ◌<◌, List, ◌∷◌, length, map, drop, drop-cons, get_or, None, Some, sym, ap, ◌∙◌, option_map, arith}
use Rattle.std.proofs.lemmas.List.{length-map}
use Rattle.lg_tree.specs.View.{list_of, list_trees}
use Rattle.lg_tree.specs.declared.trees.ListExpr.{ListExpr, List as Listed}
use Rattle.lg_meaning.specs.Creation.{list_shape, row_shape}
use Rattle.lg_session.proofs.TreeLemmas.{tree-List}
use Rattle.lg_session.proofs.ListLemmas.{rest_shape, first_shape, first_none, count-trees}

module _ (v first : ListExpr) (lists others : List ListExpr) (is : v ≡ Listed lists) (parts : lists ≡ first ∷ others) where
  seen : list_shape (list_of v) ≡ option_map (λ shape. length lists ∷ shape) (row_shape (list_trees (map list_of (first ∷ others))))
  seen =
      ap (λ l. list_shape l) (ap list_of is ∙ tree-List lists)
      ∙ ap (λ n. option_map (λ shape. n ∷ shape) (row_shape (list_trees (map list_of lists)))) (count-trees (map list_of lists) ∙ length-map lists list_of)
      ∙ ap (λ ls. option_map (λ shape. length lists ∷ shape) (row_shape (list_trees (map list_of ls)))) parts

  pub shape_none : (s : List ℕ) → list_shape (list_of first) ≡ Some s → rest_shape s (map list_of others) ≡ None → None ≡ list_shape (list_of v)
  shape_none s here rest = sym (seen ∙ ap (option_map (λ shape. length lists ∷ shape)) (first_shape s (list_of first) (map list_of others) here ∙ rest))

  pub shape_missing : list_shape (list_of first) ≡ None → None ≡ list_shape (list_of v)
  shape_missing here = sym (seen ∙ ap (option_map (λ shape. length lists ∷ shape)) (first_none (list_of first) (map list_of others) here))

  pub shape_some : (s extents : List ℕ) → list_shape (list_of first) ≡ Some s → rest_shape s (map list_of others) ≡ Some s → extents ≡ length lists ∷ s
      → Some extents ≡ list_shape (list_of v)
  shape_some s extents here rest e =
      ap Some e ∙ sym (seen ∙ ap (option_map (λ shape. length lists ∷ shape)) (first_shape s (list_of first) (map list_of others) here ∙ rest))

-- one list of those that are left
pub rest_at : {X Y : Type 0} (f : X → Y) (xs : List X) (i : ℕ) (x : X) → i < length xs → x ≡ get_or xs i x → map f (drop i xs) ≡ f x ∷ map f (drop (i + 1) xs)
rest_at f xs i x below is =
    ap (map f) (drop-cons xs i x below) ∙ ap (λ y. f y ∷ map f (drop (suc i) xs)) (sym is) ∙ ap (λ n. f x ∷ map f (drop n xs)) (next i)
  where
    next : (i : ℕ) → suc i ≡ i + 1
    next i = omega arith
