use Rattle.std.proofs.Common.{codes, [], ◌∷◌}
use Rattle.lg_lex.proofs.ReaderLemmas.{example}
use Rattle.lg_lex.proofs.examples.comments_by_example.Goals as goal

pub returns-clause-alone : goal.returns-clause-alone
returns-clause-alone c = example (codes "# a")

pub returns-clause-nothing_more : goal.returns-clause-nothing_more
returns-clause-nothing_more c = example (codes "#")

pub returns-clause-behind_tokens : goal.returns-clause-behind_tokens
returns-clause-behind_tokens c = example (codes "x = 1 # c")

pub returns-clause-at_once : goal.returns-clause-at_once
returns-clause-at_once c = example (codes "x=1#c")

pub returns-clause-behind_blanks : goal.returns-clause-behind_blanks
returns-clause-behind_blanks c = example (codes "    # c")

pub returns-clause-second : goal.returns-clause-second
returns-clause-second c = example (codes "a # b # c")

pub returns-clause-no_tokens : goal.returns-clause-no_tokens
returns-clause-no_tokens c = example (codes "a # 00 2x $ ! '")

pub returns-clause-any_bytes : goal.returns-clause-any_bytes
returns-clause-any_bytes c = example (97 ∷ 35 ∷ 195 ∷ 0 ∷ 13 ∷ 36 ∷ 9 ∷ [])

pub returns-clause-ends_with_return : goal.returns-clause-ends_with_return
returns-clause-ends_with_return c = example (35 ∷ 97 ∷ 13 ∷ [])
