use Rattle.std.proofs.Common.{◌≡◌, ◌-◌, ◌++◌, false, replicate, take}
use Rattle.lg_xform.specs.Chains.{inner_of}
use Rattle.lg_xform.proofs.chain.Chain.whole_axes.Given as goal

abbrev pub invariant-loop-axis : goal.invariant-loop-axis
invariant-loop-axis l = l.inner ≡ take l.axis (inner_of l.self) ++ replicate (4 - l.axis) false
