-- Arrays in another shape of as many elements. Only private functions speak of it.
use Rattle.std.specs.Prelude.{ℕ, if◌then◌else◌, List, Result, ℤ, pos, unsigned_abs}
use Rattle.lg_elem.specs.Operations.{is_negative}
use Rattle.lg_shape.specs.Shapes.{size_of}
use Rattle.lg_meaning.specs.declared.fault.FaultKind.{FaultKind}
use Rattle.lg_meaning.specs.declared.fault.FaultKind.TheVariants.{Shape}
use Rattle.lg_meaning.specs.Copies.{inferred, is_reshape}
use Rattle.lg_meaning.specs.Faults.{needing}
use Rattle.lg_meaning.specs.Memory.{ArrayKind}
use Rattle.lg_meaning.specs.Static.{Static, made}

-- an array of this kind in the shape that is written
abbrev pub reshape_kind : List ℤ → ArrayKind → Result Static FaultKind
reshape_kind xs kind = needing (is_reshape (size_of kind.shape) xs) Shape
    (made kind.dtype (inferred (size_of kind.shape) xs))

-- an extent that is written, or this one where it is left open
abbrev pub filled : ℕ → ℤ → ℤ
filled n x = if is_negative x then pos n else x

-- an extent that is written; one that is left open counts as 1
abbrev pub known_extent : ℤ → ℕ
known_extent x = if is_negative x then 1 else unsigned_abs x
