-- Division of weak numbers by a number below 0.
use Rattle.std.proofs.Common.{◌≡◌, ℕ, zero, suc, ℤ, pos, negsuc, neg_ℤ, ◌-ℤ◌, ◌*ℤ◌, ◌<ℤ◌, refl, sym, arith}
use Rattle.std.proofs.lemmas.Int.{ints}
use Rattle.std.specs.Int.{int_div_euclid, int_rem_euclid}
use Rattle.std.proofs.lemmas.Nat.{div-add-mod'}
use Rattle.lg_elem.specs.Operations.{floor_div}

pub floor_under : (x y : ℤ) → y <ℤ pos 0 → floor_div x y ≡ int_div_euclid (neg_ℤ x) (neg_ℤ y)
floor_under x (pos n) below = absurd (omega (arith, ints))
floor_under x (negsuc n) below = refl

rest_is : (x : ℤ) (n : ℕ) → neg_ℤ (int_rem_euclid (neg_ℤ x) (pos (suc n))) ≡ x -ℤ (negsuc n *ℤ int_div_euclid (neg_ℤ x) (pos (suc n)))
rest_is (pos zero) n = omega (arith, ints)
rest_is (pos (suc a)) n = omega (arith, ints, div-add-mod' a (suc n))
rest_is (negsuc a) n = omega (arith, ints, div-add-mod' (suc a) (suc n))

pub rest_under : (x y : ℤ) → y <ℤ pos 0 → x -ℤ (y *ℤ floor_div x y) ≡ neg_ℤ (int_rem_euclid (neg_ℤ x) (neg_ℤ y))
rest_under x (pos n) below = absurd (omega (arith, ints))
rest_under x (negsuc n) below = sym (rest_is x n)
