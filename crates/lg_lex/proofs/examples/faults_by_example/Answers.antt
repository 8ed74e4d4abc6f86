use Rattle.std.proofs.Common.{codes, [], ◌∷◌}
use Rattle.lg_lex.proofs.ReaderLemmas.{example}
use Rattle.lg_lex.proofs.examples.faults_by_example.Goals as goal

pub returns-clause-in_the_middle : goal.returns-clause-in_the_middle
returns-clause-in_the_middle c = example (codes "a + $b")

pub returns-clause-bang : goal.returns-clause-bang
returns-clause-bang c = example (codes "a ! b")

pub returns-clause-slash : goal.returns-clause-slash
returns-clause-slash c = example (codes "a / b")

pub returns-clause-after_operator : goal.returns-clause-after_operator
returns-clause-after_operator c = example (codes "a==/b")

pub returns-clause-quote : goal.returns-clause-quote
returns-clause-quote c = example (codes "'a'")

pub returns-clause-zero_in_front : goal.returns-clause-zero_in_front
returns-clause-zero_in_front c = example (codes "a = 007")

pub returns-clause-two_zeros : goal.returns-clause-two_zeros
returns-clause-two_zeros c = example (codes "00")

pub returns-clause-too_great : goal.returns-clause-too_great
returns-clause-too_great c = example (codes "1 18446744073709551616")

pub returns-clause-letter : goal.returns-clause-letter
returns-clause-letter c = example (codes "x = 2y")

pub returns-clause-underscore : goal.returns-clause-underscore
returns-clause-underscore c = example (codes "3_")

pub returns-clause-first_of_two : goal.returns-clause-first_of_two
returns-clause-first_of_two c = example (codes "a $ b ?")

pub returns-clause-carriage_return : goal.returns-clause-carriage_return
returns-clause-carriage_return c = example (97 ∷ 13 ∷ [])

pub returns-clause-inner_return : goal.returns-clause-inner_return
returns-clause-inner_return c = example (97 ∷ 13 ∷ 32 ∷ 98 ∷ [])

pub returns-clause-second_return : goal.returns-clause-second_return
returns-clause-second_return c = example (97 ∷ 13 ∷ 13 ∷ [])

pub returns-clause-before_comment : goal.returns-clause-before_comment
returns-clause-before_comment c = example (codes "a $ # c")

pub returns-clause-no_ascii : goal.returns-clause-no_ascii
returns-clause-no_ascii c = example (97 ∷ 61 ∷ 195 ∷ 164 ∷ [])

pub returns-clause-zero_byte : goal.returns-clause-zero_byte
returns-clause-zero_byte c = example (0 ∷ [])
