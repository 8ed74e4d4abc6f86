use Rattle.std.proofs.Common.{codes}
use Rattle.lg_lex.proofs.ReaderLemmas.{example}
use Rattle.lg_lex.proofs.examples.words_by_example.Goals as goal

pub returns-clause-words : goal.returns-clause-words
returns-clause-words c = example (codes "a1 _b2 C__9 full int64")

pub returns-clause-numbers : goal.returns-clause-numbers
returns-clause-numbers c = example (codes "0 7 10 9876543210")

pub returns-clause-greatest : goal.returns-clause-greatest
returns-clause-greatest c = example (codes "18446744073709551615")

pub returns-clause-mixed : goal.returns-clause-mixed
returns-clause-mixed c = example (codes "x1=2*y_")

pub returns-clause-dot : goal.returns-clause-dot
returns-clause-dot c = example (codes "1.5")
