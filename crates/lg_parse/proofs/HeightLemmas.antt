-- Which trees are not too high, by their highest part.
use Rattle.std.proofs.Common.{◌≡◌, ℕ, suc, ◌<◌, ◌≤◌, Bool, true, false, cond, nat_le, None, Some, refl, arith}
use Rattle.std.proofs.lemmas.Bool.{le-leb, lt-leb}
use Rattle.lg_parse.specs.Parsing.{low}

kept : {A : Type 0} (a : A) (b : Bool) → b ≡ true → cond b (Some a) None ≡ Some a
kept a true h = refl
kept a false h = absurd (cc)

refused : {A : Type 0} (a : A) (b : Bool) → b ≡ false → cond b (Some a) None ≡ None
refused a true h = absurd (cc)
refused a false h = refl

pub low_some : {A : Type 0} (height : A → ℕ) (a : A) (n : ℕ) → height a ≡ suc n → n < 200 → low height a ≡ Some a
unfolding low
low_some height a n e h = kept a (nat_le (height a) 200) (le-leb (height a) 200 (omega arith))

pub low_none : {A : Type 0} (height : A → ℕ) (a : A) (n : ℕ) → height a ≡ suc n → 200 ≤ n → low height a ≡ None
unfolding low
low_none height a n e h = refused a (nat_le (height a) 200) (lt-leb (height a) 200 (omega arith))

pub low_yes : {A : Type 0} (height : A → ℕ) (a : A) → height a ≤ 200 → low height a ≡ Some a
unfolding low
low_yes height a h = kept a (nat_le (height a) 200) (le-leb (height a) 200 h)

pub low_no : {A : Type 0} (height : A → ℕ) (a : A) → 200 < height a → low height a ≡ None
unfolding low
low_no height a h = refused a (nat_le (height a) 200) (lt-leb (height a) 200 h)
