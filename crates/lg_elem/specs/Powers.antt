-- How a power is computed by squaring.
use Rattle.std.specs.Prelude.{ℕ, ◌%◌, ◌==◌, ℤ, pos, if◌then◌else◌}
use Rattle.lg_elem.specs.declared.dtype.DType.{DType}
use Rattle.lg_elem.specs.Types.{wrap}

-- what the last bit of the exponent n gives to a power of b: the base where it is 1, else nothing
abbrev pub factor_of : DType → ℤ → ℕ → ℤ
factor_of t b n = if n % 2 == 1 then b else wrap t (pos 1)
