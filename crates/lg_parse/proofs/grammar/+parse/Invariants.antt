use Rattle.lg_parse.proofs.grammar.+parse.Given as goal

abbrev pub decreases-parse : goal.decreases-parse
decreases-parse l = l.depth
