-- What is kept of a shape can be told from its list alone.
use Rattle.std.proofs.Common.{◌≡◌, length, take, sym}
use Rattle.lg_space.specs.Stored.{padded}
use Rattle.lg_space.specs.Again.{axes_again}
use Rattle.lg_shape.specs.Stored.{IsStoredShape}
use Rattle.lg_shape.specs.declared.shape.Shape.TheInside.{Inside}

pub shape_again : (a : Inside) → IsStoredShape a.axes a.extents
    → ◌≡◌ {A = Inside}
    (record { axes = length (take a.axes a.extents); extents = padded 1 (take a.axes a.extents) }) a
shape_again a h =
    λ i. record { axes = axes_again 1 a.axes a.extents h.few h.filled i; extents = sym h.filled i }
