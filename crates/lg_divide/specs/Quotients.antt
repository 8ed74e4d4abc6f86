-- Quotients rounded down, from those of numbers without a sign.
use Rattle.std.specs.Prelude.{ℕ, ◌-◌, ℤ, pos, negsuc, if◌then◌else◌}
use Rattle.lg_elem.specs.declared.dtype.DType.{DType}
use Rattle.lg_elem.specs.Types.{bits, is_signed}

-- x where it is not below 0, else its other bits: of -1 - a that is a
abbrev pub magnitude : ℤ → ℕ
magnitude (pos a) = a
magnitude (negsuc a) = a

-- q where x is not below 0, else the number with the other bits
abbrev pub turned_by : ℤ → ℕ → ℤ
turned_by (pos a) q = pos q
turned_by (negsuc a) q = negsuc q

-- how many bits the magnitudes of a type's numbers have
abbrev pub magnitude_bits : DType → ℕ
magnitude_bits t = if is_signed t then bits t - 1 else bits t
