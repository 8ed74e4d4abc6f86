use Rattle.std.proofs.Common.{map}
use Rattle.std.proofs.lemmas.Result.{err_from_is_err_and}
use Rattle.lg_tree.specs.View.{tree_of, item_of, item_trees}
use Rattle.lg_meaning.specs.Step.{put_answer}
use Rattle.lg_session.proofs.WriteSteps.{write_done, put_taken_end, put_is}
use Rattle.lg_session.proofs.session.Session.put.Goals as goal

pub returns-in_err-taken-clause-outcome : goal.returns-in_err-taken-clause-outcome
returns-in_err-taken-clause-outcome c = λ state stands.
    let old = c.args.self.now in
    let p = err_from_is_err_and c.from_residual-in_err-taken.result c.from_residual-in_err-taken.ensures.1 in
    rw (p.1, p.2)
    (put_taken_end state old old c.args.word.now (item_trees (map item_of c.args.items.now)) (tree_of c.args.value.now) c.in_ok-value.value (c.in_ok-value.ensures.outcome state stands)
    c.in_ok-target.target (c.in_ok-target.ensures.target state stands) c.in_err-taken.field-0.0 c.in_err-taken.ensures)

pub returns-clause-outcome : goal.returns-clause-outcome
returns-clause-outcome c = λ state stands.
    let old = c.args.self.now in
    let w = c.args.word.now in
    let is = item_trees (map item_of c.args.items.now) in
    let e = tree_of c.args.value.now in
    let t = c.in_ok-target.ensures.target state stands in
    let has = c.in_ok-taken.ensures in
    write_done state c.write.new.self (put_answer w is e state) _ c.write.result
    (put_is state old c.write.new.self w is e c.in_ok-value.value (c.in_ok-value.ensures.outcome state stands) c.in_ok-target.target t c.in_ok-taken.taken has.0 has.1)
    (c.write.ensures.outcome state t.there _ stands t.inside t.shown has.1.same)
