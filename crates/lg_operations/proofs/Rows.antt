-- Tiles that are whole in all axes but the first follow one another in row-major order.
use Rattle.std.proofs.Common.{◌≡◌, ℕ, zero, suc, ◌+◌, ◌-◌, ◌*◌, ◌/◌, ◌≤◌, min, Bool, true, false, List, [], ◌∷◌, ◌++◌, length, map, inl, inr, Option, Some, None, slice_get, refl, sym, ap, ◌∙◌, arith}
use Rattle.std.specs.List.{flat_map, range_with_len}
use Rattle.std.proofs.lemmas.Bool.{cases_lt}
use Rattle.std.proofs.lemmas.List.Concat.{flat_map-append}
use Rattle.std.proofs.lemmas.Option.{slice_get-map}
use Rattle.std.specs.Option.{option_map, unwrap_or}
use Rattle.lg_space.specs.Rectangle.{combinations, indices, numbers_in}
use Rattle.lg_shape.specs.Shapes.{whole}
use Rattle.lg_shape.specs.Tiling.{axis_parts, part, parts, part_count, part_extent, tiles}
use Rattle.lg_shape.proofs.Parts.{parts_cut}

-- ---- lists

flat_map-map : {A B C : Type 0} (f : B → List C) (h : A → B) (xs : List A) → flat_map f (map h xs) ≡ flat_map (λ x. f (h x)) xs
flat_map-map f h [] = refl
flat_map-map f h (x ∷ xs) = ap (f (h x) ++◌) (flat_map-map f h xs)

flat_map-flat_map : {A B C : Type 0} (f : B → List C) (h : A → List B) (xs : List A) → flat_map f (flat_map h xs) ≡ flat_map (λ x. flat_map f (h x)) xs
flat_map-flat_map f h [] = refl
flat_map-flat_map f h (x ∷ xs) = flat_map-append f (h x) (flat_map h xs) ∙ ap (flat_map f (h x) ++◌) (flat_map-flat_map f h xs)

pub one_each : {A B : Type 0} (f : A → B) (xs : List A) → flat_map (λ x. f x ∷ []) xs ≡ map f xs
one_each f [] = refl
one_each f (x ∷ xs) = ap (f x ∷◌) (one_each f xs)

-- ---- the parts of the first axis

range_joins : (a m n : ℕ) → range_with_len a m ++ range_with_len (a + m) n ≡ range_with_len a (m + n)
range_joins a zero n = ap (λ k. range_with_len k n) (omega arith) ∙ ap (range_with_len a) (omega arith)
range_joins a (suc m) n =
    let next : a + suc m ≡ a + 1 + m = omega arith in
    let count : suc (m + n) ≡ suc m + n = omega arith in
    ap (a ∷◌) (ap (λ k. range_with_len (a + 1) m ++ range_with_len k n) next ∙ range_joins (a + 1) m n) ∙ ap (range_with_len a) count

-- a part begins where the extent ends at the latest
cut_part : (extent low high : ℕ) → low ≤ high → range_with_len low (min extent high - low) ≡ range_with_len (min extent low) (min extent high - min extent low)
cut_part extent low high h = elim (cases_lt extent low) [
  | inl past ↦
      (let none : min extent high - low ≡ 0 = omega arith in
      let none_too : min extent high - min extent low ≡ 0 = omega arith in
      ap (range_with_len low) none ∙ ap (range_with_len (min extent low)) (sym none_too))
  | inr within ↦ (let e : low ≡ min extent low = omega arith in ap (λ n. range_with_len n (min extent high - n)) e)
]

parts_run : (extent size a n : ℕ) → flat_map numbers_in (map (part extent size) (range_with_len a n)) ≡ range_with_len (min extent (a * size)) (min extent ((a + n) * size) - min extent (a * size))
parts_run extent size a zero =
    let e : (a + 0) * size ≡ a * size = ap (λ k. k * size) (omega arith) in
    let none : min extent ((a + 0) * size) - min extent (a * size) ≡ 0 = omega (arith, e) in
    ap (range_with_len (min extent (a * size))) (sym none)
parts_run extent size a (suc n) =
    let low = a * size in
    let middle = (a + 1) * size in
    let high = (a + 1 + n) * size in
    let step : middle ≡ low + size = omega arith in
    let steps : high ≡ middle + n * size = omega arith in
    let end : (a + suc n) * size ≡ high = ap (λ k. k * size) (omega arith) in
    let begins : min extent low + (min extent middle - min extent low) ≡ min extent middle = omega (arith, step) in
    let size_is : (min extent middle - min extent low) + (min extent high - min extent middle) ≡ min extent high - min extent low = omega (arith, step, steps) in
    ap (λ l. l ++ flat_map numbers_in (map (part extent size) (range_with_len (a + 1) n))) (cut_part extent low middle (omega (arith, step)))
    ∙ ap (range_with_len (min extent low) (min extent middle - min extent low) ++◌)
    (parts_run extent size (a + 1) n ∙ ap (λ k. range_with_len k (min extent high - min extent middle)) (sym begins))
    ∙ range_joins (min extent low) (min extent middle - min extent low) (min extent high - min extent middle)
    ∙ ap (range_with_len (min extent low)) (size_is ∙ ap (λ k. min extent k - min extent low) (sym end))

parts_in_order : (pieces extent : ℕ) → 1 ≤ pieces → flat_map numbers_in (parts pieces extent) ≡ numbers_in (0, extent)
parts_in_order pieces extent some =
    let size = part_extent pieces extent in
    let count = part_count pieces extent in
    let reaches : extent ≤ count * size = (parts_cut pieces extent some).reaches in
    let from_0 : 0 + count ≡ count = omega arith in
    let begin : min extent (0 * size) ≡ 0 = omega arith in
    let end : min extent ((0 + count) * size) ≡ extent = ap (λ k. min extent (k * size)) from_0 ∙ omega (arith, reaches) in
    parts_run extent size 0 count
    ∙ ap (λ k. range_with_len k (min extent ((0 + count) * size) - k)) begin ∙ ap (λ k. range_with_len 0 (k - 0)) end

-- ---- all axes

abbrev pub first_alone : List Bool
first_alone = false ∷ true ∷ true ∷ true ∷ []

whole_axes : (pieces : ℕ) (shape : List ℕ) → length shape ≤ 3 → axis_parts pieces shape (true ∷ true ∷ true ∷ []) ≡ map (λ extent. (0, extent) ∷ []) shape
whole_axes pieces [] h = refl
whole_axes pieces (a ∷ []) h = refl
whole_axes pieces (a ∷ b ∷ []) h = refl
whole_axes pieces (a ∷ b ∷ c ∷ []) h = refl
whole_axes pieces (a ∷ b ∷ c ∷ d ∷ shape) h = absurd (omega arith)

only_choice : (shape : List ℕ) → combinations (map (λ extent. (0, extent) ∷ []) shape) ≡ whole shape ∷ []
only_choice [] = refl
only_choice (extent ∷ shape) = ap (λ l. map (λ rest. (0, extent) ∷ rest) l ++ []) (only_choice shape)

tiles_are : (pieces extent : ℕ) (shape : List ℕ) → length shape ≤ 3 → tiles pieces (extent ∷ shape) first_alone ≡ map (λ range. range ∷ whole shape) (parts pieces extent)
tiles_are pieces extent shape few =
    ap (λ l. flat_map (λ choice. map (λ rest. choice ∷ rest) l) (parts pieces extent))
    (ap combinations (whole_axes (pieces / part_count pieces extent) shape few) ∙ only_choice shape)
    ∙ one_each (λ range. range ∷ whole shape) (parts pieces extent)

-- the indices of the tiles, tile after tile, are those of the shape
pub rows_in_order : (pieces : ℕ) (shape : List ℕ) → 1 ≤ pieces → length shape ≤ 4 → flat_map indices (tiles pieces shape first_alone) ≡ indices (whole shape)
rows_in_order pieces [] some few = refl
rows_in_order pieces (extent ∷ shape) some few =
    let G : ℕ → List (List ℕ) = λ i. map (λ index. i ∷ index) (indices (whole shape)) in
    ap (flat_map indices) (tiles_are pieces extent shape (omega arith))
    ∙ flat_map-map indices (λ range. range ∷ whole shape) (parts pieces extent)
    ∙ sym (flat_map-flat_map G numbers_in (parts pieces extent))
    ∙ ap (flat_map G) (parts_in_order pieces extent some)

-- each tile has as many axes as the shape
tile_axes : (shape : List ℕ) (found : Option (ℕ × ℕ)) (extent : ℕ) (tile : List (ℕ × ℕ)) → option_map (λ range. range ∷ whole shape) found ≡ Some tile → length tile ≡ length (whole (extent ∷ shape))
tile_axes shape None extent tile e = cc
tile_axes shape (Some range) extent tile e = ap (λ found. length (unwrap_or found (range ∷ whole shape))) (sym e)

pub rows_axes : (pieces : ℕ) (shape : List ℕ) → length shape ≤ 4 → (k : ℕ) (tile : List (ℕ × ℕ)) → slice_get (tiles pieces shape first_alone) k ≡ Some tile → length tile ≡ length (whole shape)
rows_axes pieces [] few zero tile e = ap (λ found. length (unwrap_or found [])) (sym e)
rows_axes pieces [] few (suc k) tile e = cc
rows_axes pieces (extent ∷ shape) few k tile e =
    tile_axes shape (slice_get (parts pieces extent) k) extent tile
    (sym (slice_get-map (λ range. range ∷ whole shape) (parts pieces extent) k) ∙ ap (λ l. slice_get l k) (sym (tiles_are pieces extent shape (omega arith))) ∙ e)
