-- Numbers of operations as the code keeps them.
use Rattle.std.proofs.Common.{◌≡◌, ℤ, pos, negsuc, SFits, to_z, of_z, arith}
use Rattle.std.proofs.lemmas.Int.{ints, to_z-of_z}
use Rattle.std.specs.Int.{w128}
use Rattle.lg_map.specs.Mapping.{IsConstant}

-- a number that a script can write fits, and so is kept as it is
constant_fits : (x : ℤ) → IsConstant x → SFits w128 x
constant_fits (pos n) fits = record { sfits = omega (arith, ints, fits.1) }
constant_fits (negsuc n) fits = record { sfits = omega (arith, ints, fits.0) }

pub constant_kept : (x : ℤ) → IsConstant x → to_z w128 (of_z w128 x) ≡ x
constant_kept x fits = to_z-of_z w128 x (constant_fits x fits)
