use Rattle.std.proofs.Common.{ℕ, List, map, ap, sym, subst, ◌∙◌}
use Rattle.lg_tree.specs.Tree.{put, update, update_at}
use Rattle.lg_tree.specs.View.{tree_of, item_of, item_trees, statement_of}
use Rattle.lg_tree.specs.declared.trees.Item.{Item}
use Rattle.lg_meaning.specs.Step.{step}
use Rattle.lg_session.specs.Session.{Binds, Executes, IsExecuted, Leaves}
use Rattle.lg_session.proofs.StatementLemmas.{executes_bind, executed_print}
use Rattle.lg_session.specs.Built.{are_built_items, is_built, is_built_tree}
use Rattle.lg_session.proofs.BuiltLemmas.{both}
use Rattle.lg_session.proofs.TreeLemmas.{statement-Bind, statement-Print, statement-Put, statement-Update, statement-UpdateAt}
use Rattle.lg_session.proofs.WriteSteps.{executes_put, executes_update, executes_update_at}
use Rattle.lg_session.proofs.session.Session.execute.Goals as goal

pub returns-in_ok-assign-in-Bind-clause-outcome : goal.returns-in_ok-assign-in-Bind-clause-outcome
returns-in_ok-assign-in-Bind-clause-outcome c = λ state stands.
    let w = c.in-Bind.name in
    let e = c.in-Bind.value in
    subst (λ s. Executes s state c.new.result.items c.assign.new.self) (sym (ap statement_of c.in-Bind.is ∙ statement-Bind w e))
    (executes_bind w (tree_of e) state c.new.result.items c.assign.new.self c.new.ensures.items
    (subst (λ (v : List ℕ). Binds v (tree_of e) state c.assign.new.self) c.as_slice.ensures (c.in_ok-assign-in-Bind.ensures.outcome state stands)))

pub returns-in-Print-clause-outcome : goal.returns-in-Print-clause-outcome
returns-in-Print-clause-outcome c = λ state stands.
    let e = c.in-Print.value in
    subst (λ s. IsExecuted s state c.print.result c.args.self.now) (sym (ap statement_of c.in-Print.is ∙ statement-Print e))
    (executed_print (tree_of e) state c.args.self.now c.print.result stands (c.print.ensures state stands))

pub put-requires-clause-items : goal.put-requires-clause-items
put-requires-clause-items c =
    let is = c.in-Put.index in
    let e = c.in-Put.value in
    let seen = ap statement_of c.in-Put.is ∙ statement-Put c.in-Put.name is e in
    let built = (both (are_built_items (item_trees (map item_of is))) (is_built_tree (tree_of e)) (ap is_built (sym seen) ∙ c.requires)).0 in
    ap (λ (l : List Item). are_built_items (item_trees (map item_of l))) c.as_slice-in-Put-2.ensures ∙ built

pub update_at-requires-clause-items : goal.update_at-requires-clause-items
update_at-requires-clause-items c =
    let is = c.in-UpdateAt.index in
    let e = c.in-UpdateAt.value in
    let seen = ap statement_of c.in-UpdateAt.is ∙ statement-UpdateAt c.in-UpdateAt.name is c.in-UpdateAt.op e in
    let built = (both (are_built_items (item_trees (map item_of is))) (is_built_tree (tree_of e)) (ap is_built (sym seen) ∙ c.requires)).0 in
    ap (λ (l : List Item). are_built_items (item_trees (map item_of l))) c.as_slice-in-UpdateAt-2.ensures ∙ built

pub returns-in_ok-update-in-Update-clause-outcome : goal.returns-in_ok-update-in-Update-clause-outcome
returns-in_ok-update-in-Update-clause-outcome c = λ state stands.
    let w = c.in-Update.name in
    let op = c.in-Update.op in
    let e = c.in-Update.value in
    let after = c.update.new.self in
    let text = c.new-in-Update.result.items in
    subst (λ s. Executes s state text after) (sym (ap statement_of c.in-Update.is ∙ statement-Update w op e))
    (executes_update w op (tree_of e) state text after c.new-in-Update.ensures.items
    (subst (λ (v : List ℕ). Leaves (step (update v op (tree_of e)) state) after) c.as_slice-in-Update.ensures (c.in_ok-update-in-Update.ensures.outcome state stands)))

pub returns-in_ok-put-in-Put-clause-outcome : goal.returns-in_ok-put-in-Put-clause-outcome
returns-in_ok-put-in-Put-clause-outcome c = λ state stands.
    let w = c.in-Put.name in
    let is = c.in-Put.index in
    let e = c.in-Put.value in
    let after = c.put.new.self in
    let text = c.new-in-Put.result.items in
    subst (λ s. Executes s state text after) (sym (ap statement_of c.in-Put.is ∙ statement-Put w is e))
    (executes_put w (item_trees (map item_of is)) (tree_of e) state text after c.new-in-Put.ensures.items
    (subst (λ (v : List ℕ). Leaves (step (put v (item_trees (map item_of is)) (tree_of e)) state) after) c.as_slice-in-Put.ensures
    (subst (λ (l : List Item). Leaves (step (put c.as_slice-in-Put.result.now (item_trees (map item_of l)) (tree_of e)) state) after) c.as_slice-in-Put-2.ensures
    (c.in_ok-put-in-Put.ensures.outcome state stands))))

pub returns-in_ok-update_at-in-UpdateAt-clause-outcome : goal.returns-in_ok-update_at-in-UpdateAt-clause-outcome
returns-in_ok-update_at-in-UpdateAt-clause-outcome c = λ state stands.
    let w = c.in-UpdateAt.name in
    let is = c.in-UpdateAt.index in
    let op = c.in-UpdateAt.op in
    let e = c.in-UpdateAt.value in
    let after = c.update_at.new.self in
    let text = c.new-in-UpdateAt.result.items in
    subst (λ s. Executes s state text after) (sym (ap statement_of c.in-UpdateAt.is ∙ statement-UpdateAt w is op e))
    (executes_update_at w (item_trees (map item_of is)) op (tree_of e) state text after c.new-in-UpdateAt.ensures.items
    (subst (λ (v : List ℕ). Leaves (step (update_at v (item_trees (map item_of is)) op (tree_of e)) state) after) c.as_slice-in-UpdateAt.ensures
    (subst (λ (l : List Item). Leaves (step (update_at c.as_slice-in-UpdateAt.result.now (item_trees (map item_of l)) op (tree_of e)) state) after) c.as_slice-in-UpdateAt-2.ensures
    (c.in_ok-update_at-in-UpdateAt.ensures.outcome state stands))))
