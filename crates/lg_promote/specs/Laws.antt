-- What the common type is, in the words of the numbers that the types have.
use Rattle.std.specs.Prelude.{◌≡◌, Some, None, ℤ, true}
use Rattle.lg_elem.specs.declared.dtype.DType.{DType}
use Rattle.lg_elem.specs.Types.{IsNumber}
use Rattle.lg_promote.specs.Kinds.{is_same_kind}
use Rattle.lg_promote.specs.Promotion.{common_type}

-- u has each number that t has
abbrev pub HoldsAll : DType → DType → Type 0
HoldsAll u t = (x : ℤ) → IsNumber t x → IsNumber u x

-- the order of two types makes no difference
abbrev pub Commutes : Type 0
Commutes = (a b : DType) → common_type a b ≡ common_type b a

-- a type is what it has in common with itself
abbrev pub KeepsType : Type 0
KeepsType = (a : DType) → common_type a a ≡ Some a

-- the common type has all numbers of both types,
abbrev pub HoldsBoth : Type 0
HoldsBoth = (a b t : DType) → common_type a b ≡ Some t → HoldsAll t a × HoldsAll t b

-- and there is no other such type that lacks one of its numbers
abbrev pub IsLeast : Type 0
IsLeast = (a b t u : DType) → common_type a b ≡ Some t → HoldsAll u a → HoldsAll u b → HoldsAll u t

-- where there is none, no type has all numbers of both
abbrev pub IsNoneHolds : Type 0
IsNoneHolds = (a b u : DType) → common_type a b ≡ None → HoldsAll u a → HoldsAll u b → ⊥

-- each type is of the same kind as itself, and so on from type to type
abbrev pub IsReflexive : Type 0
IsReflexive = (a : DType) → is_same_kind a a ≡ true

abbrev pub IsTransitive : Type 0
IsTransitive = (a b c : DType) → is_same_kind a b ≡ true → is_same_kind b c ≡ true
    → is_same_kind a c ≡ true

-- going from a type to one that has all its numbers keeps the kind
abbrev pub HoldsKind : Type 0
HoldsKind = (a u : DType) → HoldsAll u a → is_same_kind a u ≡ true
