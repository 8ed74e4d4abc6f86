use Rattle.std.proofs.Common.{sym, ◌∙◌}
use Rattle.std.proofs.lemmas.Bool.{false≢true}
use Rattle.lg_blocks.proofs.States.{first_test, behind_test}
use Rattle.lg_blocks.proofs.unfinished.Unfinished.may_follow.Goals as goal

pub returns-then-is_empty : goal.returns-then-is_empty
returns-then-is_empty c =
    let u = c.args.self.now in
    first_test u.loops.items u.lines c.args.depth c.len.result (c.len.ensures ∙ u.loops.ok.0) (c.is_empty.ensures.0 c.if-is_empty.true)

pub returns-else-is_empty : goal.returns-else-is_empty
returns-else-is_empty c =
    let u = c.args.self.now in
    behind_test u.loops.items u.lines c.args.depth c.len-else-is_empty.result (c.len-else-is_empty.ensures ∙ u.loops.ok.0) (λ e. false≢true (sym c.if-is_empty.false ∙ c.is_empty.ensures.1 e)) c.requires
