use Rattle.std.proofs.lemmas.List.{take_rest}
use Rattle.lg_grammar.proofs.Splits.{cut_from}
use Rattle.lg_grammar.proofs.scripts.line_end.Goals as goal

pub returns-clause-cut : goal.returns-clause-cut
returns-clause-cut c = cut_from c.args.bytes.now _ c.args.start c.line_length.result c.requires (take_rest c.args.bytes.now c.args.start) c.line_length.ensures.run
