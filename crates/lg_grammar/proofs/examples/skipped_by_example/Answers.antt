use Rattle.std.proofs.Common.{codes, [], ◌∷◌}
use Rattle.lg_lex.proofs.ReaderLemmas.{example}
use Rattle.lg_grammar.proofs.examples.skipped_by_example.Goals as goal

pub returns-clause-blanks : goal.returns-clause-blanks
returns-clause-blanks c = example (32 ∷ 9 ∷ 32 ∷ [])

pub returns-clause-indented : goal.returns-clause-indented
returns-clause-indented c = example (codes "     # a")
