use Rattle.std.proofs.Common.{codes}
use Rattle.lg_lex.proofs.ReaderLemmas.{example}
use Rattle.lg_lex.proofs.examples.operators_by_example.Goals as goal

pub returns-clause-three_bytes : goal.returns-clause-three_bytes
returns-clause-three_bytes c = example (codes "**= //= <<= >>= ...")

pub returns-clause-two_bytes : goal.returns-clause-two_bytes
returns-clause-two_bytes c = example (codes "** // << >> <= >= == != += -= *= %= &= |= ^=")

pub returns-clause-one_byte : goal.returns-clause-one_byte
returns-clause-one_byte c = example (codes "+ - * % @ & | ^ ~ < > = ( ) [ ] , : .")
