-- What a number is to be, so that a product with it and a shift give a quotient.
use Rattle.std.specs.Prelude.{◌≡◌, ℕ, ◌+◌, ◌*◌, ◌/◌, ◌^◌, ◌<◌, ◌≤◌}

-- 2 ^ s is the least power of two that is not below d
pub record IsShift (d s : ℕ) : Type 0 where
  pub reaches : d ≤ 2 ^ s
  pub least : 2 ^ s < 2 * d

-- m / 2 ^ (b + s) is 1 / d, or more than it by so little that the quotients by d of the numbers of
-- b bits stay
pub record IsReciprocal (b s d m : ℕ) : Type 0 where
  pub some : 0 < d
  pub small : d < 2 ^ b
  pub enough : 2 ^ (b + s) ≤ m * d
  pub close : m * d ≤ 2 ^ (b + s) + 2 ^ s

-- with such a factor a product and a shift are a division
abbrev pub DividesByProduct : Type 0
DividesByProduct = (b s d m x : ℕ) → IsReciprocal b s d m → x < 2 ^ b → (x * m) / 2 ^ (b + s) ≡ x / d

-- and 2 ^ (b + s) / d + 1 is one, of b + 1 bits, the highest of which is 1
abbrev pub HasReciprocal : Type 0
HasReciprocal = (b s d : ℕ) → 0 < d → d < 2 ^ b → IsShift d s
    → IsReciprocal b s d (2 ^ (b + s) / d + 1)
    × (2 ^ b ≤ 2 ^ (b + s) / d + 1) × (2 ^ (b + s) / d + 1 < 2 ^ b + 2 ^ b)
