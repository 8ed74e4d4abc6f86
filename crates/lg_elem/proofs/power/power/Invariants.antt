use Rattle.std.proofs.Common.{◌≡◌, ◌*ℤ◌}
use Rattle.lg_elem.specs.Types.{wrap}
use Rattle.lg_elem.specs.Operations.{power_of}
use Rattle.lg_elem.proofs.power.power.Given as goal

abbrev pub invariant-loop-left : goal.invariant-loop-left
invariant-loop-left g l = wrap g.T.Elem.DTYPE (g.T.Elem.number l.power *ℤ power_of (g.T.Elem.number l.base) l.left) ≡ wrap g.T.Elem.DTYPE (power_of (g.T.Elem.number l.fn.x) l.fn.exponent)

abbrev pub decreases-loop-left : goal.decreases-loop-left
decreases-loop-left g l = l.left
