-- What arithmetic on weak numbers alone gives is in their range.
use Rattle.std.proofs.Common.{◌≡◌, Bool, true, false, Some, Ok, Err, ℤ, ◌+ℤ◌, ◌-ℤ◌, ◌*ℤ◌, if◌then◌else◌, arith}
use Rattle.std.proofs.lemmas.Option.{same_Some}
use Rattle.std.proofs.lemmas.Grind.{common_steps}
use Rattle.lg_elem.specs.Operations.{is_zero, floor_div}
use Rattle.lg_tree.specs.declared.kinds.Arith.{Arith}
use Rattle.lg_tree.specs.declared.kinds.Arith.TheVariants.{Add, Sub, Mul, FloorDiv, Rem, Pow, BitAnd, BitOr, BitXor, Shl, Shr}
use Rattle.lg_meaning.specs.declared.fault.FaultKind.TheVariants.{Divisor}
use Rattle.lg_meaning.specs.Weak.{Weak, ranged, divided, weak_arith}
use Rattle.lg_operations.specs.Operations.{IsRanged}

ranged_within : (x : ℤ) (w : Weak) → ranged x ≡ Ok w → IsRanged w
ranged_within x w h = grind (arith, common_steps)

divided_within : (y x : ℤ) (w : Weak) → divided y x ≡ Ok w → IsRanged w
divided_within y x w h = by_test (is_zero y) h
  where
    by_test : (b : Bool) → (if b then Err Divisor else ranged x) ≡ Ok w → IsRanged w
    by_test true e = cc
    by_test false e = ranged_within x w e

pub arith_within : (op : Arith) (x y : ℤ) (w : Weak) → weak_arith op x y ≡ Some (Ok w) → IsRanged w
arith_within Add x y w h = ranged_within (x +ℤ y) w (same_Some _ _ h)
arith_within Sub x y w h = ranged_within (x -ℤ y) w (same_Some _ _ h)
arith_within Mul x y w h = ranged_within (x *ℤ y) w (same_Some _ _ h)
arith_within FloorDiv x y w h = divided_within y (floor_div x y) w (same_Some _ _ h)
arith_within Rem x y w h = divided_within y (x -ℤ (y *ℤ floor_div x y)) w (same_Some _ _ h)
arith_within Pow x y w h = cc
arith_within BitAnd x y w h = cc
arith_within BitOr x y w h = cc
arith_within BitXor x y w h = cc
arith_within Shl x y w h = cc
arith_within Shr x y w h = cc
