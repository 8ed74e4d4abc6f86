use Rattle.std.proofs.Common.{ℕ, ◌<◌, List}
use Rattle.lg_space.specs.Rectangle.{IsIn, place_in}
use Rattle.lg_xform.specs.Chains.{mapped}
use Rattle.lg_copy.proofs.tests.checking.leads_into.Given as goal

abbrev pub invariant-loop-k : goal.invariant-loop-k
invariant-loop-k l = (index : List ℕ) → IsIn l.rect index → place_in l.rect index < l.k → IsIn l.tile (mapped l.chain index)
