use Rattle.std.proofs.Common.{◌≡◌, ℕ, ◌<◌, List, Some, map, slice_get}
use Rattle.lg_space.specs.Rectangle.{IsIn}
use Rattle.lg_tile.specs.Tiles.{rect_of}
use Rattle.lg_copy.proofs.tests.checking.are_apart.Given as goal

abbrev pub invariant-loop-j : goal.invariant-loop-j
invariant-loop-j l = (j k : ℕ) (a b : List (ℕ × ℕ)) (index : List ℕ) → j < l.j → k < j → slice_get (map rect_of l.parts) j ≡ Some a → slice_get (map rect_of l.parts) k ≡ Some b → IsIn a index
    → IsIn b index → ⊥

abbrev pub invariant-loop-k : goal.invariant-loop-k
invariant-loop-k l = (k : ℕ) (a b : List (ℕ × ℕ)) (index : List ℕ) → k < l.k → slice_get (map rect_of l.parts) l.j ≡ Some a → slice_get (map rect_of l.parts) k ≡ Some b → IsIn a index
    → IsIn b index → ⊥
