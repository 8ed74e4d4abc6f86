-- What is kept of a point or a rectangle can be told from its list alone.
use Rattle.std.proofs.Common.{◌≡◌, ℕ, ◌-◌, ◌≤◌, List, length, take, replicate, sym, ap, arith, length-append, length-take}
use Rattle.std.proofs.lemmas.List.{length-replicate}
use Rattle.lg_space.specs.declared.point.TheConstants.{MAX_AXES}
use Rattle.lg_space.specs.Stored.{padded, IsPoint, IsRect}
use Rattle.lg_space.specs.declared.point.Point.TheInside.{Inside as PointInside}
use Rattle.lg_space.specs.declared.rect.AnyRect.TheInside.{Inside as RectInside}

-- the axes are counted by the entries in front of the filler
pub axes_again : {A : Type 0} (filler : A) (axes : ℕ) (entries : List A) → axes ≤ MAX_AXES
    → entries ≡ padded filler (take axes entries) → length (take axes entries) ≡ axes
axes_again filler axes entries few filled =
    let fill = replicate (MAX_AXES - length (take axes entries)) filler in
    omega (
      arith,
      ap length filled,
      length-append (take axes entries) fill,
      length-replicate (MAX_AXES - length (take axes entries)) filler,
      length-take axes entries,
    )

pub point_again : (a : PointInside) → IsPoint a.axes a.at
    → ◌≡◌ {A = PointInside}
    (record { axes = length (take a.axes a.at); at = padded 0 (take a.axes a.at) }) a
point_again a h = λ i. record {
  axes = axes_again 0 a.axes a.at h.few h.filled i;
  at = sym h.filled i;
}

pub rect_again : (a : RectInside) → IsRect a.axes a.ranges
    → ◌≡◌ {A = RectInside} (record {
      axes = length (take a.axes a.ranges);
      ranges = padded (0, 0) (take a.axes a.ranges);
    }) a
rect_again a h = λ i. record {
  axes = axes_again (0, 0) a.axes a.ranges h.few h.filled i;
  ranges = sym h.filled i;
}
