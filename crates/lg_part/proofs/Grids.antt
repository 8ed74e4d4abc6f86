-- What a grid keeps, and its tiles.
use Rattle.std.proofs.Common.{◌≡◌, ℕ, zero, suc, ◌+◌, ◌-◌, ◌*◌, ◌<◌, ◌≤◌, max, List, [], ◌∷◌, ◌++◌, length, get_or, take, map, Some, slice_get, refl, sym, ap, ◌∙◌, subst, arith}
use Rattle.std.specs.Int.{div_ceil}
use Rattle.std.specs.Option.{option_map}
use Rattle.std.specs.List.{range_with_len}
use Rattle.std.proofs.lemmas.Nat.{mul-le}
use Rattle.std.proofs.lemmas.List.{length-map, take_more}
use Rattle.std.proofs.lemmas.Option.{slice_get-map, slice_get_within, get_or_from_slice_get}
use Rattle.std.proofs.lemmas.List.Elements.{All-get_or}
use Rattle.lg_space.specs.Rectangle.{combinations, indices, numbers_in, IsIn}
use Rattle.lg_space.proofs.Combinations.{PicksAt, place_among, product_of, combination_at, combination_of, length-combinations}
use Rattle.lg_space.specs.Stored.{MAX_END, MAX_VOLUME, IsStorable}
use Rattle.lg_shape.specs.Shapes.{size_of}
use Rattle.lg_shape.specs.Stored.{IsShape}
use Rattle.lg_shape.specs.Tiling.{ceiling, part}
use Rattle.lg_shape.proofs.Parts.{IsCut, CutsAxis, cuts_axis}
use Rattle.lg_shape.proofs.Tilings.{CutsAll, combination_tile, tile_storable}
use Rattle.lg_part.specs.Grids.{axes_of, IsCutAxis, IsCutShape}

-- std's quotient that is rounded up is the rule's
pub div_ceil-ceiling : (a b : ℕ) → 1 ≤ b → div_ceil a b ≡ ceiling a b
div_ceil-ceiling a b h = grind arith

-- ---- one axis

-- the numbers of the parts are those below their count
numbers_from_0 : (numbers : ℕ × ℕ) → numbers.0 ≡ 0 → numbers_in numbers ≡ range_with_len 0 numbers.1
numbers_from_0 numbers e =
    let count : numbers.1 - numbers.0 ≡ numbers.1 = omega arith in
    λ i. range_with_len (e i) (count i)

cut_of : {extent size : ℕ} {numbers : ℕ × ℕ} → IsCutAxis extent size numbers → IsCut extent size numbers.1
cut_of {size = size} {numbers = numbers} h = record {
  some = h.some;
  size_some = h.size_some;
  reaches = h.reaches;
  begins = λ number below. omega (arith, h.begins, mul-le number size (numbers.1 - 1) size (omega (arith, h.some)) (omega arith));
}

cuts_numbers : (extent size : ℕ) (numbers : ℕ × ℕ) → IsCutAxis extent size numbers → CutsAxis (map (part extent size) (numbers_in numbers)) extent
cuts_numbers extent size numbers h =
    subst (λ ns. CutsAxis (map (part extent size) ns) extent) (sym (numbers_from_0 numbers h.from_0)) (cuts_axis extent size numbers.1 (cut_of h))

-- ---- all axes

pub axes_cut : (shape sizes : List ℕ) (colors : List (ℕ × ℕ)) → IsCutShape shape sizes colors → CutsAll (axes_of shape sizes colors) shape
axes_cut [] sizes colors h = tt
axes_cut (extent ∷ shape) (size ∷ sizes) (numbers ∷ colors) h = (cuts_numbers extent size numbers h.0, axes_cut shape sizes colors h.1)
axes_cut (extent ∷ shape) [] colors h = absurd h
axes_cut (extent ∷ shape) (size ∷ sizes) [] h = absurd h

-- an axis has as many parts as numbers of parts
same_lengths : (shape sizes : List ℕ) (colors : List (ℕ × ℕ)) → IsCutShape shape sizes colors → map length (axes_of shape sizes colors) ≡ map length (map numbers_in colors)
same_lengths [] sizes [] h = refl
same_lengths [] sizes (numbers ∷ colors) h = absurd h
same_lengths (extent ∷ shape) (size ∷ sizes) (numbers ∷ colors) h =
    let here = length-map (numbers_in numbers) (part extent size) in
    λ i. here i ∷ same_lengths shape sizes colors h.1 i
same_lengths (extent ∷ shape) [] colors h = absurd h
same_lengths (extent ∷ shape) (size ∷ sizes) [] h = absurd h

-- there are as many tiles as indices of the rectangle of colours
pub count_tiles : (shape sizes : List ℕ) (colors : List (ℕ × ℕ)) → IsCutShape shape sizes colors → length (combinations (axes_of shape sizes colors)) ≡ length (indices colors)
count_tiles shape sizes colors h =
    length-combinations (axes_of shape sizes colors) ∙ ap product_of (same_lengths shape sizes colors h) ∙ sym (length-combinations (map numbers_in colors))

-- the tile with these numbers of parts
abbrev pub tile_at : List ℕ → List ℕ → List ℕ → List (ℕ × ℕ)
tile_at (extent ∷ shape) (size ∷ sizes) (number ∷ numbers) = part extent size number ∷ tile_at shape sizes numbers
tile_at shape sizes numbers = []

same_place : (shape sizes : List ℕ) (colors : List (ℕ × ℕ)) (ds : List ℕ) → IsCutShape shape sizes colors → place_among (axes_of shape sizes colors) ds ≡ place_among (map numbers_in colors) ds
same_place [] sizes [] ds h = refl
same_place [] sizes (numbers ∷ colors) ds h = absurd h
same_place (extent ∷ shape) (size ∷ sizes) (numbers ∷ colors) [] h = refl
same_place (extent ∷ shape) (size ∷ sizes) (numbers ∷ colors) (d ∷ ds) h =
    λ i. d * count_tiles shape sizes colors h.1 i + same_place shape sizes colors ds h.1 i
same_place (extent ∷ shape) [] colors ds h = absurd h
same_place (extent ∷ shape) (size ∷ sizes) [] ds h = absurd h

picks_tile : (shape sizes : List ℕ) (colors : List (ℕ × ℕ)) (ds index : List ℕ) → IsCutShape shape sizes colors → PicksAt (map numbers_in colors) ds index
    → PicksAt (axes_of shape sizes colors) ds (tile_at shape sizes index)
picks_tile [] sizes [] [] [] h picks = tt
picks_tile [] sizes [] [] (i ∷ index) h picks = absurd picks
picks_tile [] sizes [] (d ∷ ds) index h picks = absurd picks
picks_tile [] sizes (numbers ∷ colors) ds index h picks = absurd h
picks_tile (extent ∷ shape) [] colors ds index h picks = absurd h
picks_tile (extent ∷ shape) (size ∷ sizes) [] ds index h picks = absurd h
picks_tile (extent ∷ shape) (size ∷ sizes) (numbers ∷ colors) [] index h picks = absurd picks
picks_tile (extent ∷ shape) (size ∷ sizes) (numbers ∷ colors) (d ∷ ds) [] h picks = absurd picks
picks_tile (extent ∷ shape) (size ∷ sizes) (numbers ∷ colors) (d ∷ ds) (i ∷ index) h picks =
    (slice_get-map (part extent size) (numbers_in numbers) d ∙ ap (option_map (part extent size)) picks.0, picks_tile shape sizes colors ds index h.1 picks.1)

-- the tile of a colour is told by the index at that place in the rectangle of colours
pub tile_of_color : (shape sizes : List ℕ) (colors : List (ℕ × ℕ)) (color : ℕ) (index : List ℕ) → IsCutShape shape sizes colors → slice_get (indices colors) color ≡ Some index
    → slice_get (combinations (axes_of shape sizes colors)) color ≡ Some (tile_at shape sizes index)
tile_of_color shape sizes colors color index h at =
    let p = combination_of (map numbers_in colors) color index at in
    let there = combination_at (axes_of shape sizes colors) p.0 (tile_at shape sizes index) (picks_tile shape sizes colors p.0 index h p.1) in
    ap (slice_get (combinations (axes_of shape sizes colors))) (sym p.2 ∙ sym (same_place shape sizes colors p.0 h)) ∙ there

-- ---- the loop that makes a tile

-- what a grid's axis and an index of its colours say together
pub record IsAtAxis (extent size number : ℕ) : Type 0 where
  pub begins : number * size ≤ extent
  pub size_most : size ≤ max extent 1

pub at_axis : (shape sizes : List ℕ) (colors : List (ℕ × ℕ)) (index : List ℕ) (k : ℕ) → IsCutShape shape sizes colors → IsIn colors index → k < length shape
    → IsAtAxis (get_or shape k 0) (get_or sizes k 0) (get_or index k 0)
at_axis [] sizes colors index k h inside below = absurd (omega arith)
at_axis (extent ∷ shape) [] colors index k h inside below = absurd h
at_axis (extent ∷ shape) (size ∷ sizes) [] index k h inside below = absurd h
at_axis (extent ∷ shape) (size ∷ sizes) (numbers ∷ colors) [] k h inside below = absurd inside
at_axis (extent ∷ shape) (size ∷ sizes) (numbers ∷ colors) (i ∷ index) zero h inside below =
    record { begins = (cut_of h.0).begins i inside.1; size_most = h.0.size_most }
at_axis (extent ∷ shape) (size ∷ sizes) (numbers ∷ colors) (i ∷ index) (suc k) h inside below =
    at_axis shape sizes colors index k h.1 inside.2 (omega arith)

-- there are as many coordinates as axes, and no fewer sizes
pub same_axes : (shape sizes : List ℕ) (colors : List (ℕ × ℕ)) (index : List ℕ) → IsCutShape shape sizes colors → IsIn colors index
    → (length index ≡ length shape) × (length shape ≤ length sizes)
same_axes [] sizes [] [] h inside = (refl, omega arith)
same_axes [] sizes [] (i ∷ index) h inside = absurd inside
same_axes [] sizes (numbers ∷ colors) index h inside = absurd h
same_axes (extent ∷ shape) [] colors index h inside = absurd h
same_axes (extent ∷ shape) (size ∷ sizes) [] index h inside = absurd h
same_axes (extent ∷ shape) (size ∷ sizes) (numbers ∷ colors) [] h inside = absurd inside
same_axes (extent ∷ shape) (size ∷ sizes) (numbers ∷ colors) (i ∷ index) h inside =
    let rest = same_axes shape sizes colors index h.1 inside.2 in
    (ap suc rest.0, omega (arith, rest.1))

-- the numbers that the loop makes are small
pub record IsWithinAxis (shape sizes items : List ℕ) (axis : ℕ) : Type 0 where
  pub below : axis < length shape
  pub low : get_or items axis 0 * get_or sizes axis 0 ≤ MAX_END
  pub high : get_or items axis 0 * get_or sizes axis 0 + get_or sizes axis 0 ≤ 2 * MAX_END

pub within_axis : (shape sizes : List ℕ) (colors : List (ℕ × ℕ)) (items : List ℕ) (axis : ℕ) → IsCutShape shape sizes colors → IsShape shape → IsIn colors items → axis < length items
    → IsWithinAxis shape sizes items axis
within_axis shape sizes colors items axis h few inside below =
    let axis_below : axis < length shape = omega (arith, (same_axes shape sizes colors items h inside).0) in
    let here = at_axis shape sizes colors items axis h inside axis_below in
    let short : get_or shape axis 0 ≤ MAX_END = All-get_or (λ n. n ≤ MAX_END) shape axis 0 axis_below few.extents in
    record {
      below = axis_below;
      low = omega (arith, here.begins);
      high = omega (arith, here.begins, here.size_most);
    }

-- ranges that are the parts at each axis are the tile
pub ranges_tile : (shape sizes index : List ℕ) (ranges : List (ℕ × ℕ)) → length index ≡ length shape → length shape ≤ length sizes → length shape ≤ length ranges
    → ((k : ℕ) → k < length shape → get_or ranges k (0, 0) ≡ part (get_or shape k 0) (get_or sizes k 0) (get_or index k 0)) → take (length shape) ranges ≡ tile_at shape sizes index
ranges_tile [] sizes index ranges same many long each = refl
ranges_tile (extent ∷ shape) [] index ranges same many long each = absurd (omega arith)
ranges_tile (extent ∷ shape) (size ∷ sizes) [] ranges same many long each = absurd (omega arith)
ranges_tile (extent ∷ shape) (size ∷ sizes) (i ∷ index) [] same many long each = absurd (omega arith)
ranges_tile (extent ∷ shape) (size ∷ sizes) (i ∷ index) (range ∷ ranges) same many long each =
    let here : range ≡ part extent size i = each 0 (omega arith) in
    let rest = ranges_tile shape sizes index ranges (omega arith) (omega arith) (omega arith) (λ k below. each (suc k) (omega arith)) in
    λ j. here j ∷ rest j

-- such ranges are the tile of a colour, by the index that tells it
pub ranges_of_color : (shape sizes : List ℕ) (colors : List (ℕ × ℕ)) (color : ℕ) (index : List ℕ) (ranges : List (ℕ × ℕ)) → IsCutShape shape sizes colors → length shape ≤ length ranges
    → IsIn colors index → slice_get (indices colors) color ≡ Some index
    → ((k : ℕ) → k < length index → get_or ranges k (0, 0) ≡ part (get_or shape k 0) (get_or sizes k 0) (get_or index k 0))
    → slice_get (combinations (axes_of shape sizes colors)) color ≡ Some (take (length shape) ranges)
ranges_of_color shape sizes colors color index ranges h long inside at each =
    let axes = same_axes shape sizes colors index h inside in
    let tile = ranges_tile shape sizes index ranges axes.0 axes.1 long (λ k below. each k (omega arith)) in
    tile_of_color shape sizes colors color index h at ∙ ap Some (sym tile)

-- a tile can be kept
pub color_storable : (shape sizes : List ℕ) (colors : List (ℕ × ℕ)) (color : ℕ) (tile : List (ℕ × ℕ)) → IsCutShape shape sizes colors → IsShape shape → size_of shape ≤ MAX_VOLUME
    → slice_get (combinations (axes_of shape sizes colors)) color ≡ Some tile → IsStorable tile
color_storable shape sizes colors color tile h few small at =
    tile_storable (combination_tile (axes_of shape sizes colors) shape (axes_cut shape sizes colors h) color tile at) few small

-- ---- the loop that lists the tiles

pub take_one_more : {A : Type 0} (xs : List A) (i : ℕ) (x : A) → slice_get xs i ≡ Some x → take (i + 1) xs ≡ take i xs ++ x ∷ []
take_one_more xs i x at =
    take_more xs i x (slice_get_within xs i x at) ∙ ap (λ y. take i xs ++ y ∷ []) (get_or_from_slice_get xs i x x at)
