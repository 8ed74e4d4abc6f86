use Rattle.std.proofs.Common.{[], ◌∷◌}
use Rattle.lg_lex.proofs.ReaderLemmas.{example}
use Rattle.lg_lex.proofs.examples.blanks_by_example.Goals as goal

pub returns-clause-nothing : goal.returns-clause-nothing
returns-clause-nothing c = example []

pub returns-clause-blanks : goal.returns-clause-blanks
returns-clause-blanks c = example (32 ∷ 9 ∷ 32 ∷ [])

pub returns-clause-tabs : goal.returns-clause-tabs
returns-clause-tabs c = example (9 ∷ 97 ∷ 9 ∷ 61 ∷ 32 ∷ 9 ∷ 98 ∷ 32 ∷ [])

pub returns-clause-indented : goal.returns-clause-indented
returns-clause-indented c = example (32 ∷ 32 ∷ 32 ∷ 32 ∷ 97 ∷ [])
