use Rattle.std.proofs.Common.{Some, sym, ap, ◌∙◌, arith}
use Rattle.lg_tree.specs.Measures.{item_height}
use Rattle.lg_tree.specs.Tree.{ItemTree, at}
use Rattle.lg_tree.specs.View.{tree_of}
use Rattle.lg_tree.specs.declared.trees.Expr.{Expr}
use Rattle.lg_parse.proofs.HeightLemmas.{low_yes, low_no}
use Rattle.lg_parse.proofs.TreeLemmas.{view_at}
use Rattle.lg_parse.proofs.indices.place_of.Goals as goal

pub returns-then-place-ge-HEIGHT_LIMIT : goal.returns-then-place-ge-HEIGHT_LIMIT
returns-then-place-ge-HEIGHT_LIMIT c = low_no item_height (at (tree_of c.args.place.tree)) (omega (arith, c.args.place.measured))

pub returns : goal.returns
returns c =
    low_yes item_height (at (tree_of c.args.place.tree)) (omega (arith, c.args.place.measured))
    ∙ ap (λ (i : ItemTree). Some i) (ap (λ (e : Expr). at (tree_of e)) (sym c.into_inner.ensures) ∙ sym (view_at c.into_inner.result))
