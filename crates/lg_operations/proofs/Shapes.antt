-- The shape of a rectangle that begins at 0 on each axis.
use Rattle.std.proofs.Common.{◌≡◌, ℕ, ◌≤◌, List, [], ◌∷◌, length, map, take, refl, sym, ap, ◌∙◌, arith}
use Rattle.std.specs.List.{All}
use Rattle.std.proofs.lemmas.List.{length-map, take_all}
use Rattle.std.proofs.lemmas.List.Elements.{All-nil, All-cons, All-head, All-tail}
use Rattle.lg_space.specs.Stored.{MAX_END, IsStorable}
use Rattle.lg_shape.specs.Shapes.{whole}
use Rattle.lg_shape.specs.Stored.{IsShape}
use Rattle.lg_tile.specs.declared.any_tile.AnyTile.{AnyTile}
use Rattle.lg_tile.specs.Tiles.{rect_of}
use Rattle.lg_operations.specs.Operations.{IsWhole}

abbrev pub ends_of : List (ℕ × ℕ) → List ℕ
ends_of ranges = map (λ range. range.1) ranges

ends_small : (ranges : List (ℕ × ℕ)) → All (λ (range : ℕ × ℕ). range.1 ≤ MAX_END) ranges → All (λ extent. extent ≤ MAX_END) (ends_of ranges)
ends_small [] h = All-nil _
ends_small (range ∷ ranges) h =
    All-cons (λ extent. extent ≤ MAX_END) range.1 (ends_of ranges) (All-head (λ (r : ℕ × ℕ). r.1 ≤ MAX_END) range ranges h)
    (ends_small ranges (All-tail (λ (r : ℕ × ℕ). r.1 ≤ MAX_END) range ranges h))

pub ends_shape : (ranges : List (ℕ × ℕ)) → IsStorable ranges → IsShape (ends_of ranges)
ends_shape ranges h = record { axes = omega (arith, length-map {B = ℕ} ranges (λ (range : ℕ × ℕ). range.1), h.axes); extents = ends_small ranges h.ends }

pub ends_all : (ranges : List (ℕ × ℕ)) (extents : List ℕ) (axis : ℕ) → length ranges ≤ axis → axis ≤ length ranges → take axis extents ≡ ends_of (take axis ranges)
    → take (length ranges) extents ≡ ends_of ranges
ends_all ranges extents axis past within so_far =
    let end : length ranges ≡ axis = omega arith in
    ap (λ n. take n extents) end ∙ so_far ∙ ap ends_of (take_all axis ranges past)

-- the extents of the whole of a shape are the shape
pub ends-whole : (shape : List ℕ) → ends_of (whole shape) ≡ shape
ends-whole [] = refl
ends-whole (extent ∷ shape) = ap (extent ∷◌) (ends-whole shape)

pub whole_tile : (tile : AnyTile) (shape : List ℕ) → rect_of tile ≡ whole shape → IsWhole tile
whole_tile tile shape rect = rect ∙ ap whole (sym (ap ends_of rect ∙ ends-whole shape))
