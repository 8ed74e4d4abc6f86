-- How elements are told by their numbers.
use Rattle.std.proofs.Common.{ap, refl}
use Rattle.std.specs.Prelude.{◌≡◌, Bool, true, false, pos, int_lt}
use Rattle.std.specs.Int.{from_bool}

-- of truth values, which are 0 and 1
pub truth_distinct : (x y : Bool) → pos (from_bool x) ≡ pos (from_bool y) → x ≡ y
truth_distinct true true same = refl
truth_distinct true false same = ap (int_lt (pos 0)) same
truth_distinct false true same = ap (int_lt (pos 0)) same
truth_distinct false false same = refl
