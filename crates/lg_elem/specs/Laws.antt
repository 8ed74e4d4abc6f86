-- What wrapping is, in the words of whole numbers.
use Rattle.std.specs.Prelude.{◌≡◌, ℕ, ◌^◌, ℤ, pos, ◌+ℤ◌, ◌*ℤ◌, ◌-ℤ◌, ◌≤ℤ◌, ◌<ℤ◌}
use Rattle.lg_elem.specs.declared.dtype.DType.{DType}
use Rattle.lg_elem.specs.declared.dtype.DType.TheVariants.{Bool as Truth}
use Rattle.lg_elem.specs.Types.{bits, IsNumber, wrap}
use Rattle.lg_elem.specs.Operations.{floor_div}

-- x and y differ by a multiple of m
abbrev pub IsCongruent : ℕ → ℤ → ℤ → Type 0
IsCongruent m x y = (k : ℤ) × (y ≡ x +ℤ (k *ℤ pos m))

-- a number is wrapped to a number of the type
abbrev pub WrapsIntoRange : Type 0
WrapsIntoRange = (t : DType) (x : ℤ) → IsNumber t (wrap t x)

-- a number of the type is wrapped to itself
abbrev pub KeepsNumbers : Type 0
KeepsNumbers = (t : DType) (x : ℤ) → IsNumber t x → wrap t x ≡ x

-- a number is wrapped to one that equals it modulo 2 ^ bits, except to bool
abbrev pub WrapsByModulus : Type 0
WrapsByModulus = (t : DType) (x : ℤ) → ¬ (t ≡ Truth) → IsCongruent (2 ^ bits t) x (wrap t x)

-- and the type has no other such number
abbrev pub HasNoOther : Type 0
HasNoOther = (t : DType) (x y : ℤ) → ¬ (t ≡ Truth) → IsNumber t y → IsCongruent (2 ^ bits t) x y
    → y ≡ wrap t x

-- what the quotient of x by y, rounded down, leaves of x
abbrev pub rest_of : ℤ → ℤ → ℤ
rest_of x y = x -ℤ (y *ℤ floor_div x y)

-- it lies from 0 to below a divisor above 0,
abbrev pub RestsAbove : Type 0
RestsAbove = (x y : ℤ) → pos 0 <ℤ y → (pos 0 ≤ℤ rest_of x y) × (rest_of x y <ℤ y)

-- and from 0 down to above one below 0
abbrev pub RestsBelow : Type 0
RestsBelow = (x y : ℤ) → y <ℤ pos 0 → (rest_of x y ≤ℤ pos 0) × (y <ℤ rest_of x y)
