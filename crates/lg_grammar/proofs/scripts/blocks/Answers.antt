use Rattle.std.proofs.Common.{Err, ap, ◌∙◌}
use Rattle.lg_grammar.proofs.scripts.blocks.Goals as goal

pub returns-in-Err-Open-clause-end : goal.returns-in-Err-Open-clause-end
returns-in-Err-Open-clause-end c =
    (c.finish.ensures.named c.in-Err-Open.line).0 (c.in-Err-Open.is ∙ ap Err c.in-Err-Open.field-0-is)
