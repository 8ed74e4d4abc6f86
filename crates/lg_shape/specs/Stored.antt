-- Which shapes there are in a program. The limits are this project's own.
use Rattle.std.specs.Prelude.{◌≡◌, ℕ, ◌≤◌, List, length, take, All}
use Rattle.lg_space.specs.declared.point.TheConstants.{MAX_AXES}
use Rattle.lg_space.specs.Stored.{MAX_END, padded}

-- at most four axes, none of them too long
pub record IsShape (shape : List ℕ) : Type 0 where
  pub axes : length shape ≤ MAX_AXES
  pub extents : All (λ extent. extent ≤ MAX_END) shape

-- the extents of the axes, and ones behind them
pub record IsStoredShape (axes : ℕ) (extents : List ℕ) : Type 0 where
  pub few : axes ≤ MAX_AXES
  pub filled : extents ≡ padded 1 (take axes extents)
  pub shape : IsShape (take axes extents)
