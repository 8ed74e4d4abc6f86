-- Division of machine integers, rounded down.
use Rattle.std.specs.Prelude.{ℤ, pos, ◌-ℤ◌, ◌*ℤ◌, if◌then◌else◌}
use Rattle.std.specs.Int.{Width, int_wrap}
use Rattle.lg_elem.specs.Operations.{is_zero, floor_div}

-- the quotient rounded down; 0 where the divisor is 0
abbrev pub floored : ℤ → ℤ → ℤ
floored x y = if is_zero y then pos 0 else floor_div x y

-- the same, wrapped to the width
abbrev pub quotient_of : Width → ℤ → ℤ → ℤ
quotient_of w x y = if is_zero y then pos 0 else int_wrap w (floor_div x y)

-- what it leaves of x; 0 where the divisor is 0
abbrev pub remainder_of : ℤ → ℤ → ℤ
remainder_of x y = if is_zero y then pos 0 else x -ℤ (y *ℤ floor_div x y)
