use Rattle.std.proofs.Common.{◌≡◌, ℕ, ◌<◌, List}
use Rattle.lg_space.specs.Rectangle.{IsIn, place_in}
use Rattle.lg_xform.specs.Chains.{mapped}
use Rattle.lg_instance.proofs.tests.checking.repeats_none.Given as goal

abbrev pub invariant-loop-j : goal.invariant-loop-j
invariant-loop-j l = (a b : List ℕ) → IsIn l.rect a → IsIn l.rect b → place_in l.rect a < l.j → place_in l.rect b < place_in l.rect a → mapped l.chain a ≡ mapped l.chain b → ⊥

abbrev pub invariant-loop-k : goal.invariant-loop-k
invariant-loop-k l = (b : List ℕ) → IsIn l.rect b → place_in l.rect b < l.k → mapped l.chain b ≡ l.at → ⊥
