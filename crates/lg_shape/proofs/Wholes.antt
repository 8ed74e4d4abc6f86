-- The rectangle of all indices of a shape.
use Rattle.std.proofs.Common.{◌≡◌, ℕ, ◌≤◌, List, [], ◌∷◌, length, take, ap, ◌∙◌, arith}
use Rattle.std.specs.List.{All}
use Rattle.std.proofs.lemmas.List.{length-map, take_all}
use Rattle.std.proofs.lemmas.List.Elements.{All-nil, All-cons, All-head, All-tail}
use Rattle.lg_space.specs.Stored.{MAX_VOLUME, MAX_END, IsStorable}
use Rattle.lg_shape.specs.Shapes.{whole, size_of}
use Rattle.lg_shape.specs.Stored.{IsShape}

ends-whole : (shape : List ℕ) → All (λ extent. extent ≤ MAX_END) shape → All (λ (range : ℕ × ℕ). range.1 ≤ MAX_END) (whole shape)
ends-whole [] h = All-nil _
ends-whole (extent ∷ shape) h = All-cons (λ (range : ℕ × ℕ). range.1 ≤ MAX_END) (0, extent) (whole shape) (All-head (λ e. e ≤ MAX_END) extent shape h) (ends-whole shape (All-tail (λ e. e ≤ MAX_END) extent shape h))

ordered-whole : (shape : List ℕ) → All (λ (range : ℕ × ℕ). range.0 ≤ range.1) (whole shape)
ordered-whole [] = All-nil _
ordered-whole (extent ∷ shape) = All-cons (λ (range : ℕ × ℕ). range.0 ≤ range.1) (0, extent) (whole shape) (omega arith) (ordered-whole shape)

pub storable-whole : (shape : List ℕ) → IsShape shape → size_of shape ≤ MAX_VOLUME → IsStorable (whole shape)
storable-whole shape h small = record {
  axes = omega (arith, length-map {B = ℕ × ℕ} shape (λ (extent : ℕ). (0, extent)), h.axes);
  ordered = ordered-whole shape;
  ends = ends-whole shape h.extents;
  volume = small;
}

-- all axes
pub whole_all : (shape : List ℕ) (ranges : List (ℕ × ℕ)) (axis : ℕ) → length shape ≤ axis → axis ≤ length shape → take axis ranges ≡ take axis (whole shape)
    → take (length shape) ranges ≡ whole shape
whole_all shape ranges axis past within so_far =
    let end : length shape ≡ axis = omega arith in
    ap (λ n. take n ranges) end ∙ so_far ∙ take_all axis (whole shape) (omega (arith, past, length-map {B = ℕ × ℕ} shape (λ (extent : ℕ). (0, extent))))
