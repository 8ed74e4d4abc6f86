-- `for v in range(p, q)`: its bounds and its turns. After Python's reference, "The for statement"
-- and "range". That the bounds are weak integers, and so the variable, is this project's own.
use Rattle.std.specs.Prelude.{ℕ, if◌then◌else◌, Result, Ok, ℤ, ◌-ℤ◌, int_lt, unsigned_abs}
use Rattle.lg_tree.specs.Tree.{Tree, MaybeTree}
use Rattle.lg_meaning.specs.declared.fault.FaultKind.{FaultKind}
use Rattle.lg_meaning.specs.Faults.{from_both}
use Rattle.lg_meaning.specs.Memory.{Names}
use Rattle.lg_meaning.specs.Static.{Static, integer_of}
use Rattle.lg_meaning.specs.Expressions.{static_of, maybe_static}

-- weak integers. The first bound is 0 where it is left out
abbrev pub bounds_static : Static → Static → Result (ℤ × ℤ) FaultKind
bounds_static p q = from_both (integer_of p) (integer_of q) (λ x y. Ok (x, y))

abbrev pub bounds_of : MaybeTree → Tree → Names → Result (ℤ × ℤ) FaultKind
bounds_of from to names = from_both (maybe_static from names) (static_of to names) bounds_static

-- from the first bound up to below the second
abbrev pub turn_count : ℤ × ℤ → ℕ
turn_count bounds =
    if int_lt bounds.0 bounds.1 then unsigned_abs (bounds.1 -ℤ bounds.0) else 0
