-- Which rectangles and points there are in a program. The limits are this project's own. The
-- greatest number of axes, `MAX_AXES`, is the constant of the code.
use Rattle.std.specs.Prelude.{◌≡◌, ℕ, ◌≤◌, ◌^◌, ◌-◌, List, ◌++◌, length, take, replicate, All}
use Rattle.lg_space.specs.Rectangle.{volume_of}
use Rattle.lg_space.specs.declared.point.TheConstants.{MAX_AXES}

-- the greatest end of a range
abbrev pub MAX_END : ℕ
MAX_END = 2 ^ 24

-- the greatest number of indices
abbrev pub MAX_VOLUME : ℕ
MAX_VOLUME = 2 ^ 48

-- each range ends where it begins or behind, within the limits
pub record IsStorable (rect : List (ℕ × ℕ)) : Type 0 where
  pub axes : length rect ≤ MAX_AXES
  pub ordered : All (λ range. range.0 ≤ range.1) rect
  pub ends : All (λ range. range.1 ≤ MAX_END) rect
  pub volume : volume_of rect ≤ MAX_VOLUME

-- so many entries as there may be axes: those of the axes, and the filler behind them
abbrev pub padded : {A : Type 0} → A → List A → List A
padded filler entries = entries ++ replicate (MAX_AXES - length entries) filler

-- the coordinates of the axes, and zeros behind them
pub record IsPoint (axes : ℕ) (at : List ℕ) : Type 0 where
  pub few : axes ≤ MAX_AXES
  pub filled : at ≡ padded 0 (take axes at)

-- the ranges of the axes, and ranges from 0 to 0 behind them
pub record IsRect (axes : ℕ) (ranges : List (ℕ × ℕ)) : Type 0 where
  pub few : axes ≤ MAX_AXES
  pub filled : ranges ≡ padded (0, 0) (take axes ranges)
  pub storable : IsStorable (take axes ranges)
