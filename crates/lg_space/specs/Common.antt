-- What is in two ranges.
use Rattle.std.specs.Prelude.{ℕ, min, max}

-- from the greater low end to the lesser high end, and an empty range where there is nothing
abbrev pub common_range : ℕ × ℕ → ℕ × ℕ → ℕ × ℕ
common_range a b = (max a.0 b.0, max (min a.1 b.1) (max a.0 b.0))
