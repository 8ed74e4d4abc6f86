use Rattle.std.proofs.Common.{◌≡◌, ℕ, [], ◌∷◌, ◌++◌, true, false, Vec, map, drop, length, sym, ap, ◌∙◌, option_map, rules}
use Rattle.std.specs.declared.alloc.Global.{Global}
use Rattle.std.proofs.lemmas.List.{drop_all}
use Rattle.lg_tree.specs.View.{list_of}
use Rattle.lg_tree.specs.declared.trees.ListExpr.{List as Listed}
use Rattle.lg_meaning.specs.Creation.{list_shape}
use Rattle.lg_session.specs.ListShapes.{is_alike}
use Rattle.lg_session.proofs.ListLemmas.{rest_shape, rest_more, rest_differs}
use Rattle.lg_session.proofs.ShapeLemmas.{shape_none, shape_some, rest_at}
use Rattle.lg_session.proofs.lists.+list_shape.Goals as goal

pub returns-then-not-is_alike : goal.returns-then-not-is_alike
returns-then-not-is_alike t c =
    let others = c.in-Some.others.now in
    let s = c.in-Some-2.shape.items in
    let i = c.loop-other.other-index in
    let test : c.is_alike.result ≡ false = search rules in
    let differs : is_alike (list_shape (list_of c.other-item.result)) s ≡ false =
    ap (λ o. is_alike o s) (sym c.in_ok-next.ensures) ∙ ap (is_alike (option_map (λ (v : Vec ℕ Global). v.items) c.in_ok-next.next)) (sym c.deref.ensures.value) ∙ sym c.is_alike.ensures ∙ test in
    shape_none c.args.list.now c.in-Some.first.now c.as_slice-lists.result.now others (c.in-List.is ∙ ap Listed (sym c.as_slice-lists.ensures)) c.in-Some.ensures.cases.0 s
    (sym c.in_ok-shape.ensures ∙ ap (option_map (λ (v : Vec ℕ Global). v.items)) c.in-Some-2.is)
    (sym c.loop-other.invariant ∙ ap (rest_shape s) (rest_at list_of others i c.other-item.result c.loop-other-test.true c.other-item.is)
    ∙ rest_differs s (list_of c.other-item.result) _ differs)

pub loop-other-preserved : goal.loop-other-preserved
loop-other-preserved t c =
    let others = c.in-Some.others.now in
    let s = c.in-Some-2.shape.items in
    let i = c.loop-other.other-index in
    let test : c.is_alike.result ≡ true = search rules in
    let alike : is_alike (list_shape (list_of c.other-item.result)) s ≡ true =
    ap (λ o. is_alike o s) (sym c.in_ok-next.ensures) ∙ ap (is_alike (option_map (λ (v : Vec ℕ Global). v.items) c.in_ok-next.next)) (sym c.deref.ensures.value) ∙ sym c.is_alike.ensures ∙ test in
    sym (rest_more s (list_of c.other-item.result) _ alike)
    ∙ sym (ap (rest_shape s) (rest_at list_of others i c.other-item.result c.loop-other-test.true c.other-item.is)) ∙ c.loop-other.invariant

pub returns : goal.returns
returns t c =
    let others = c.in-Some.others.now in
    let s = c.in-Some-2.shape.items in
    let i = c.loop-other.other-index in
    let past : drop i others ≡ [] = drop_all i others c.loop-other-test.false in
    let extents : c.extend_from_slice.new.self.items ≡ length c.as_slice-lists.result.now ∷ s =
    c.in_ok-extend_from_slice.ensures.items ∙ ap (λ l. l ++ c.deref-2.result.now) c.in_ok-extents.ensures.items ∙ ap (λ l. length c.as_slice-lists.result.now ∷ l) c.deref-2.ensures.value in
    shape_some c.args.list.now c.in-Some.first.now c.as_slice-lists.result.now others (c.in-List.is ∙ ap Listed (sym c.as_slice-lists.ensures)) c.in-Some.ensures.cases.0 s
    c.extend_from_slice.new.self.items
    (sym c.in_ok-shape.ensures ∙ ap (option_map (λ (v : Vec ℕ Global). v.items)) c.in-Some-2.is)
    (sym c.loop-other.invariant ∙ ap (λ l. rest_shape s (map list_of l)) past) extents
