-- What it means that tiles make up a set of indices. A tile is a rectangle, and its number is its
-- place in the list. The set of the indices of a rectangle is `IsIn` of it.
use Rattle.std.specs.Prelude.{◌≡◌, ℕ, List, Some, slice_get}
use Rattle.lg_space.specs.Rectangle.{IsIn}

-- each index of the set is in a tile
abbrev pub Covers : List (List (ℕ × ℕ)) → (List ℕ → Type 0) → Type 0
Covers tiles set =
    (index : List ℕ) → set index
    → (number : ℕ) × (tile : List (ℕ × ℕ)) × (slice_get tiles number ≡ Some tile) × IsIn tile index

-- no index is in two tiles
abbrev pub Disjoint : List (List (ℕ × ℕ)) → Type 0
Disjoint tiles =
    (first second : ℕ) (a b : List (ℕ × ℕ)) (index : List ℕ) → slice_get tiles first ≡ Some a
    → slice_get tiles second ≡ Some b → IsIn a index → IsIn b index → first ≡ second

-- each index of a tile is in the set
abbrev pub LieWithin : List (List (ℕ × ℕ)) → (List ℕ → Type 0) → Type 0
LieWithin tiles set =
    (number : ℕ) (tile : List (ℕ × ℕ)) (index : List ℕ) → slice_get tiles number ≡ Some tile
    → IsIn tile index → set index

-- the tiles are in the set, and each index of it is in exactly one of them
pub record Partitions (tiles : List (List (ℕ × ℕ))) (set : List ℕ → Type 0) : Type 0 where
  pub cover : Covers tiles set
  pub disjoint : Disjoint tiles
  pub within : LieWithin tiles set
