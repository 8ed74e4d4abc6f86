-- All axes: the tiles make up the shape.
use Rattle.std.proofs.Common.{◌≡◌, ℕ, suc, ◌-◌, ◌*◌, ◌/◌, ◌≤◌, max, Bool, true, false, List, [], ◌∷◌, length, map, Some, slice_get, All, refl, sym, ap, ◌∙◌, subst, arith}
use Rattle.std.proofs.Math.Nat.{mul-div-le}
use Rattle.std.proofs.lemmas.Nat.{mul-le, le-div}
use Rattle.std.proofs.lemmas.List.Elements.{All-nil, All-cons, All-head, All-tail}
use Rattle.lg_space.specs.Rectangle.{IsIn, volume_of, combinations}
use Rattle.lg_space.specs.Partition.{Partitions}
use Rattle.lg_space.specs.Stored.{MAX_END, MAX_VOLUME, IsStorable}
use Rattle.lg_space.proofs.Combinations.{PicksAt, place_among, product_of, combination_at, combination_of, length-combinations}
use Rattle.lg_shape.specs.Shapes.{whole, size_of}
use Rattle.lg_shape.specs.Stored.{IsShape}
use Rattle.lg_shape.specs.Tiling.{part_count, axis_parts, tiles}
use Rattle.lg_shape.proofs.Parts.{CutsAxis, cuts_axis, whole_cut, whole_parts, parts_axis, length-parts, part_count_most}

-- each axis of the shape is cut into ranges
abbrev pub CutsAll : List (List (ℕ × ℕ)) → List ℕ → Type 0
CutsAll [] [] = Unit {0}
CutsAll (ranges ∷ axes) (extent ∷ shape) = CutsAxis ranges extent × CutsAll axes shape
CutsAll axes shape = ⊥

-- ---- an index is in one tile

covering : (axes : List (List (ℕ × ℕ))) (shape index : List ℕ) → CutsAll axes shape → IsIn (whole shape) index
    → (ds : List ℕ) × (tile : List (ℕ × ℕ)) × PicksAt axes ds tile × IsIn tile index
covering [] [] [] cut inside = ([], [], tt, tt)
covering [] [] (i ∷ index) cut inside = absurd inside
covering (ranges ∷ axes) (extent ∷ shape) [] cut inside = absurd inside
covering (ranges ∷ axes) (extent ∷ shape) (i ∷ index) cut inside =
    let here = cut.0.cover i inside.1 in
    let rest = covering axes shape index cut.1 inside.2 in
    (here.0 ∷ rest.0, here.1 ∷ rest.1, (here.2, rest.2), (here.3, here.4, rest.3))
covering axes shape index cut inside = absurd cut

same_places : (axes : List (List (ℕ × ℕ))) (shape ds es : List ℕ) (a b : List (ℕ × ℕ)) (index : List ℕ) → CutsAll axes shape → PicksAt axes ds a → PicksAt axes es b → IsIn a index → IsIn b index
    → ds ≡ es
same_places [] shape [] [] a b index cut picks_a picks_b in_a in_b = refl
same_places [] shape [] (e ∷ es) a b index cut picks_a picks_b in_a in_b = absurd picks_b
same_places [] shape (d ∷ ds) es a b index cut picks_a picks_b in_a in_b = absurd picks_a
same_places (ranges ∷ axes) [] ds es a b index cut picks_a picks_b in_a in_b = absurd cut
same_places (ranges ∷ axes) (extent ∷ shape) (d ∷ ds) (e ∷ es) (x ∷ a) (y ∷ b) (i ∷ index) cut picks_a picks_b in_a in_b =
    let here = cut.0.disjoint d e i x y picks_a.0 picks_b.0 in_a.0 in_a.1 in_b.0 in_b.1 in
    let rest = same_places axes shape ds es a b index cut.1 picks_a.1 picks_b.1 in_a.2 in_b.2 in
    λ k. here k ∷ rest k
same_places (ranges ∷ axes) (extent ∷ shape) [] es a b index cut picks_a picks_b in_a in_b = absurd picks_a
same_places (ranges ∷ axes) (extent ∷ shape) (d ∷ ds) [] a b index cut picks_a picks_b in_a in_b = absurd picks_b
same_places (ranges ∷ axes) (extent ∷ shape) (d ∷ ds) (e ∷ es) [] b index cut picks_a picks_b in_a in_b = absurd picks_a
same_places (ranges ∷ axes) (extent ∷ shape) (d ∷ ds) (e ∷ es) (x ∷ a) [] index cut picks_a picks_b in_a in_b = absurd picks_b
same_places (ranges ∷ axes) (extent ∷ shape) (d ∷ ds) (e ∷ es) (x ∷ a) (y ∷ b) [] cut picks_a picks_b in_a in_b = absurd in_a

-- ---- a tile is in the shape

abbrev IsOrdered : ℕ × ℕ → Type 0
IsOrdered range = range.0 ≤ range.1

abbrev EndsWithin : ℕ → ℕ × ℕ → Type 0
EndsWithin limit range = range.1 ≤ limit

-- what holds of a tile of the shape
pub record IsTile (shape : List ℕ) (tile : List (ℕ × ℕ)) : Type 0 where
  pub axes : length tile ≡ length shape
  pub ordered : All (λ range. range.0 ≤ range.1) tile
  pub ends : (limit : ℕ) → All (λ extent. extent ≤ limit) shape → All (λ range. range.1 ≤ limit) tile
  pub volume : volume_of tile ≤ size_of shape
  pub within : (index : List ℕ) → IsIn tile index → IsIn (whole shape) index

within_more : (range : ℕ × ℕ) (tile : List (ℕ × ℕ)) (extent : ℕ) (shape : List ℕ) → range.1 ≤ extent → ((index : List ℕ) → IsIn tile index → IsIn (whole shape) index)
    → (index : List ℕ) → IsIn (range ∷ tile) index → IsIn (whole (extent ∷ shape)) index
within_more range tile extent shape end rest [] inside = absurd inside
within_more range tile extent shape end rest (i ∷ index) inside = (omega arith, omega (arith, inside.1), rest index inside.2)

picked_tile : (axes : List (List (ℕ × ℕ))) (shape ds : List ℕ) (tile : List (ℕ × ℕ)) → CutsAll axes shape → PicksAt axes ds tile → IsTile shape tile
picked_tile [] [] [] [] cut picks = record {
  axes = refl;
  ordered = All-nil IsOrdered;
  ends = λ limit extents. All-nil (EndsWithin limit);
  volume = omega arith;
  within = λ index inside. inside;
}
picked_tile [] [] [] (x ∷ tile) cut picks = absurd picks
picked_tile [] [] (d ∷ ds) tile cut picks = absurd picks
picked_tile [] (extent ∷ shape) ds tile cut picks = absurd cut
picked_tile (ranges ∷ axes) [] ds tile cut picks = absurd cut
picked_tile (ranges ∷ axes) (extent ∷ shape) [] tile cut picks = absurd picks
picked_tile (ranges ∷ axes) (extent ∷ shape) (d ∷ ds) [] cut picks = absurd picks
picked_tile (ranges ∷ axes) (extent ∷ shape) (d ∷ ds) (x ∷ tile) cut picks =
    let rest = picked_tile axes shape ds tile cut.1 picks.1 in
    let end = cut.0.within d x picks.0 in
    record {
      axes = ap suc rest.axes;
      ordered = All-cons IsOrdered x tile (cut.0.ordered d x picks.0) rest.ordered;
      ends = λ limit extents.
          let here : extent ≤ limit = All-head (λ n. n ≤ limit) extent shape extents in
          let others = All-tail (λ n. n ≤ limit) extent shape extents in
          All-cons (EndsWithin limit) x tile (omega arith) (rest.ends limit others);
      volume = mul-le (x.1 - x.0) (volume_of tile) (extent - 0) (size_of shape) (omega arith) rest.volume;
      within = within_more x tile extent shape end rest.within;
    }

-- ---- the tiles make up the shape

module _ (axes : List (List (ℕ × ℕ))) (shape : List ℕ) (cut : CutsAll axes shape) where
  pub combination_tile : (number : ℕ) (tile : List (ℕ × ℕ)) → slice_get (combinations axes) number ≡ Some tile → IsTile shape tile
  combination_tile number tile at =
      let p = combination_of axes number tile at in
      picked_tile axes shape p.0 tile cut p.1

  pub combinations_partition : Partitions (combinations axes) (IsIn (whole shape))
  combinations_partition = record {
    cover = λ index inside.
        let c = covering axes shape index cut inside in
        (place_among axes c.0, c.1, combination_at axes c.0 c.1 c.2, c.3);
    disjoint = λ first second a b index at_first at_second in_a in_b.
        let p = combination_of axes first a at_first in
        let q = combination_of axes second b at_second in
        sym p.2 ∙ ap (place_among axes) (same_places axes shape p.0 q.0 a b index cut p.1 q.1 in_a in_b) ∙ q.2;
    within = λ number tile index at inside. (combination_tile number tile at).within index inside;
  }

-- the rule cuts each axis
pieces_left : (pieces extent : ℕ) → 1 ≤ pieces → 1 ≤ pieces / part_count pieces extent
pieces_left pieces extent h =
    le-div 1 pieces (part_count pieces extent) (omega arith) (omega (arith, part_count_most pieces extent h))

pub axis_parts_cut : (pieces : ℕ) (shape : List ℕ) (whole_axes : List Bool) → 1 ≤ pieces → CutsAll (axis_parts pieces shape whole_axes) shape
axis_parts_cut pieces [] whole_axes h = tt
axis_parts_cut pieces (extent ∷ shape) (true ∷ whole_axes) h =
    (subst (λ ranges. CutsAxis ranges extent) (whole_parts extent) (cuts_axis extent (max extent 1) 1 (whole_cut extent)), axis_parts_cut pieces shape whole_axes h)
axis_parts_cut pieces (extent ∷ shape) (false ∷ whole_axes) h =
    (parts_axis pieces extent h, axis_parts_cut (pieces / part_count pieces extent) shape whole_axes (pieces_left pieces extent h))
axis_parts_cut pieces (extent ∷ shape) [] h =
    (parts_axis pieces extent h, axis_parts_cut (pieces / part_count pieces extent) shape [] (pieces_left pieces extent h))

-- each index of the shape is in exactly one tile
pub tiles_partition : (pieces : ℕ) (shape : List ℕ) (whole_axes : List Bool) → 1 ≤ pieces → Partitions (tiles pieces shape whole_axes) (IsIn (whole shape))
tiles_partition pieces shape whole_axes h =
    combinations_partition (axis_parts pieces shape whole_axes) shape (axis_parts_cut pieces shape whole_axes h)

-- a tile of a shape that a program has can be kept
pub tile_storable : {shape : List ℕ} {tile : List (ℕ × ℕ)} → IsTile shape tile → IsShape shape → size_of shape ≤ MAX_VOLUME → IsStorable tile
tile_storable tile shape small = record {
  axes = omega (arith, tile.axes, shape.axes);
  ordered = tile.ordered;
  ends = tile.ends MAX_END shape.extents;
  volume = omega (arith, tile.volume);
}

-- ---- how many tiles there are

product_some : (axes : List (List (ℕ × ℕ))) (shape : List ℕ) → CutsAll axes shape → 1 ≤ product_of (map length axes)
product_some [] shape cut = omega arith
product_some (ranges ∷ axes) [] cut = absurd cut
product_some (ranges ∷ axes) (extent ∷ shape) cut =
    omega (arith, mul-le 1 1 (length ranges) (product_of (map length axes)) cut.0.some (product_some axes shape cut.1))

pub combinations_some : (axes : List (List (ℕ × ℕ))) (shape : List ℕ) → CutsAll axes shape → 1 ≤ length (combinations axes)
combinations_some axes shape cut = omega (arith, length-combinations axes, product_some axes shape cut)

-- what the axes behind it may take, times what an axis takes
product_more : (pieces extent rest : ℕ) → rest ≤ pieces / part_count pieces extent → part_count pieces extent * rest ≤ pieces
product_more pieces extent rest h =
    let count = part_count pieces extent in
    omega (arith, mul-div-le pieces count, mul-le count rest count (pieces / count) (omega arith) h)

product_most : (pieces : ℕ) (shape : List ℕ) (whole_axes : List Bool) → 1 ≤ pieces → product_of (map length (axis_parts pieces shape whole_axes)) ≤ pieces
product_most pieces [] whole_axes h = h
product_most pieces (extent ∷ shape) (true ∷ whole_axes) h = omega (arith, product_most pieces shape whole_axes h)
product_most pieces (extent ∷ shape) (false ∷ whole_axes) h =
    rw (length-parts pieces extent) (product_more pieces extent _ (product_most (pieces / part_count pieces extent) shape whole_axes (pieces_left pieces extent h)))
product_most pieces (extent ∷ shape) [] h =
    rw (length-parts pieces extent) (product_more pieces extent _ (product_most (pieces / part_count pieces extent) shape [] (pieces_left pieces extent h)))

-- there is a tile, and there are at most as many as pieces are wanted
pub tiles_some : (pieces : ℕ) (shape : List ℕ) (whole_axes : List Bool) → 1 ≤ pieces → 1 ≤ length (tiles pieces shape whole_axes)
tiles_some pieces shape whole_axes h =
    combinations_some (axis_parts pieces shape whole_axes) shape (axis_parts_cut pieces shape whole_axes h)

pub tiles_most : (pieces : ℕ) (shape : List ℕ) (whole_axes : List Bool) → 1 ≤ pieces → length (tiles pieces shape whole_axes) ≤ pieces
tiles_most pieces shape whole_axes h =
    omega (arith, length-combinations (axis_parts pieces shape whole_axes), product_most pieces shape whole_axes h)
