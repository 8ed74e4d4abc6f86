use Rattle.std.proofs.Common.{◌≡◌, sym, ◌∙◌, arith}
use Rattle.std.proofs.lemmas.Bool.Decides.{nat_tests}
use Rattle.lg_space.proofs.Places.{place-below}
use Rattle.lg_copy.proofs.Shares.{no_common}
use Rattle.lg_copy.proofs.tests.checking.meet.Goals as goal

pub returns-then-axes : goal.returns-then-axes
returns-then-axes c = λ none index in_first in_second.
    let both = (c.intersect.ensures.both index).1 (in_first, in_second) in
    let below = place-below c.intersect.result index both in
    let empty : c.volume.result ≡ 0 = grind (arith, nat_tests) in
    omega (arith, below, c.volume.ensures.value, empty)

pub returns-else-axes : goal.returns-else-axes
returns-else-axes c = λ none index in_first in_second.
    no_common c.args.first.now c.args.second.now index (λ e. c.if-axes.false (c.axes.ensures ∙ e ∙ sym c.axes-2.ensures)) in_first in_second
