use Rattle.std.proofs.Common.{codes}
use Rattle.lg_lex.proofs.ReaderLemmas.{example}
use Rattle.lg_lex.proofs.examples.longest_by_example.Goals as goal

pub returns-clause-shift_assign : goal.returns-clause-shift_assign
returns-clause-shift_assign c = example (codes "a<<=b")

pub returns-clause-power_assign : goal.returns-clause-power_assign
returns-clause-power_assign c = example (codes "a**=b")

pub returns-clause-floor_divide_assign : goal.returns-clause-floor_divide_assign
returns-clause-floor_divide_assign c = example (codes "a//=b")

pub returns-clause-shift : goal.returns-clause-shift
returns-clause-shift c = example (codes "a<<b")

pub returns-clause-apart : goal.returns-clause-apart
returns-clause-apart c = example (codes "a< <b")

pub returns-clause-ellipsis : goal.returns-clause-ellipsis
returns-clause-ellipsis c = example (codes "....")

pub returns-clause-two_dots : goal.returns-clause-two_dots
returns-clause-two_dots c = example (codes "a..b")

pub returns-clause-equal : goal.returns-clause-equal
returns-clause-equal c = example (codes "a===b")

pub returns-clause-not_equal : goal.returns-clause-not_equal
returns-clause-not_equal c = example (codes "a!==b")

pub returns-clause-powers : goal.returns-clause-powers
returns-clause-powers c = example (codes "a****b")

pub returns-clause-greater : goal.returns-clause-greater
returns-clause-greater c = example (codes "a>>>=b")

pub returns-clause-sign : goal.returns-clause-sign
returns-clause-sign c = example (codes "a=-1")

pub returns-clause-index : goal.returns-clause-index
returns-clause-index c = example (codes "x[1:,::2]")
