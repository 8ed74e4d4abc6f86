-- One axis of a view, and what a slice makes of it. This project's own.
use Rattle.std.specs.Prelude.{◌≡◌, ℕ, suc, ◌+◌, ◌-◌, ◌*◌, ◌<◌, ◌≤◌, ◌^◌, ℤ, pos, negsuc}
use Rattle.lg_shape.specs.Views.{sliced_at}
use Rattle.lg_xform.specs.declared.axis.ViewAxis.{ViewAxis}
use Rattle.lg_xform.specs.Moves.{steps}

-- a slice from `start` on has a coordinate at k, and it is not too large
abbrev pub IsCoordinate : ℕ → ℕ → ℤ → Type 0
IsCoordinate start k (pos step) = start + k * step < 2 ^ 64
IsCoordinate start k (negsuc step) = k * suc step ≤ start

-- each coordinate of the new axis leads where the coordinate of the slice led, with so much ahead,
-- and the new axis reaches no farther
pub record IsSliced (start len : ℕ) (step : ℤ) (old : ViewAxis) (ahead : ℕ) (new : ViewAxis)
    : Type 0 where
  pub extent : new.extent ≡ len
  pub root : new.root ≡ old.root
  pub inner : new.inner ≡ old.inner
  pub leads : (k : ℕ) → k < len → ahead + steps new.down len k * new.stride
      ≡ steps old.down old.extent (sliced_at start step k) * old.stride
  pub reaches : ahead + (len - 1) * new.stride ≤ (old.extent - 1) * old.stride
