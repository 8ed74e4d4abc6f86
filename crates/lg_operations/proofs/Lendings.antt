-- What is read of an operand is its number at each index.
use Rattle.std.proofs.Common.{◌≡◌, ℕ, zero, suc, List, [], ◌∷◌, length, map, get_or, Option, ℤ, pos, refl, sym, ap, subst, ◌∙◌, arith}
use Rattle.std.specs.List.{All, range_with_len}
use Rattle.std.proofs.lemmas.List.{length-map, get_or-map}
use Rattle.std.proofs.lemmas.List.FromFn.{fill_by_all}
use Rattle.std.proofs.lemmas.Option.{get_or_from_slice_get}
use Rattle.std.proofs.lemmas.Int.{ints}
use mir.Val.{to_z, of_z}
use mir.Syntax.{w128}
use Rattle.lg_elem.specs.declared.dtype.DType.{DType}
use Rattle.lg_elem.specs.declared.dtype.DType.TheVariants.{Bool as Truth, Int8, Int16, Int32, Int64, UInt8, UInt16, UInt32, UInt64}
use Rattle.lg_elem.specs.Types.{IsNumber}
use Rattle.lg_space.specs.Rectangle.{IsIn, volume_of, place_in}
use Rattle.lg_space.proofs.Places.{place-below, volume_counts}
use Rattle.lg_shape.specs.Shapes.{whole, places, aligned, place_of, size_of}
use Rattle.lg_shape.specs.Views.{Layout, place_at, whole_layout}
use Rattle.lg_tile.specs.declared.any_tile.AnyTile.{AnyTile}
use Rattle.lg_tile.specs.Tiles.{dtype_of, numbers, number_at, rect_of}
use Rattle.lg_tile.proofs.NumberLemmas.{numbers_full}
use Rattle.lg_xform.specs.declared.chain.Chain.{Chain}
use Rattle.lg_xform.specs.Chains.{root_of, shape_of, mapped, layout_of}
use Rattle.lg_xform.specs.Repeats.{repeated}
use Rattle.lg_xform.proofs.Maps.{at_place}
use Rattle.lg_xform.proofs.Repeats.{repeats, aligned_inside}
use Rattle.lg_xform.proofs.Wholes.{whole_places}
use Rattle.lg_map.specs.Mapping.{IsConstant}
use Rattle.lg_meaning.specs.declared.fault.FaultKind.{FaultKind}
use Rattle.lg_meaning.specs.Static.{shape_of as shape_in}
use Rattle.lg_operations.specs.declared.values.Operand.{Operand}
use Rattle.lg_operations.specs.declared.values.Operand.TheVariants as operand
use Rattle.lg_operations.specs.Operations.{extents_of, value_with, seen_value, IsWhole, IsReady, operand_static, operand_value}
use Rattle.lg_operations.specs.Gathering.{seen_at}
use Rattle.lg_operations.specs.Lending.{SpreadsTo, spread_at}
use Rattle.lg_operations.proofs.Spreads.{aligned_same, aligned_one, one_element}

-- the numbers of each type are ones that a script can write
pub number_constant : (t : DType) (x : ℤ) → IsNumber t x → IsConstant x
number_constant Truth x h = (omega (arith, ints, h.0), omega (arith, ints, h.1))
number_constant Int8 x h = (omega (arith, ints, h.0), omega (arith, ints, h.1))
number_constant Int16 x h = (omega (arith, ints, h.0), omega (arith, ints, h.1))
number_constant Int32 x h = (omega (arith, ints, h.0), omega (arith, ints, h.1))
number_constant Int64 x h = (omega (arith, ints, h.0), omega (arith, ints, h.1))
number_constant UInt8 x h = (omega (arith, ints, h.0), omega (arith, ints, h.1))
number_constant UInt16 x h = (omega (arith, ints, h.0), omega (arith, ints, h.1))
number_constant UInt32 x h = (omega (arith, ints, h.0), omega (arith, ints, h.1))
number_constant UInt64 x h = (omega (arith, ints, h.0), omega (arith, ints, h.1))

pub kept : (x : ℤ) → IsConstant x → to_z w128 (of_z w128 x) ≡ x
kept x h = omega (arith, ints, h.0, h.1)

-- ---- the numbers of a view

past_end : (xs : List ℤ) → get_or xs (length xs) (pos 0) ≡ pos 0
past_end [] = refl
past_end (x ∷ xs) = past_end xs

-- what holds of each number of the root holds of each of the view
module _ (P : ℤ → Type 0) (xs : List ℤ) (each : (place : ℕ) → P (get_or xs place (pos 0))) where
  holds_picked : (places : List ℕ) (k : ℕ) → P (get_or (map (λ place. get_or xs place (pos 0)) places) k (pos 0))
  holds_picked [] k = subst P (past_end xs) (each (length xs))
  holds_picked (place ∷ places) zero = each place
  holds_picked (place ∷ places) (suc k) = holds_picked places k

pub seen_fits : (tile : AnyTile) (chain : Chain) → ((place : ℕ) → IsNumber (dtype_of tile) (get_or (numbers tile) place (pos 0)))
    → (index : List ℕ) → IsNumber (dtype_of tile) (spread_at (seen_value tile chain) index)
seen_fits tile chain each index =
    holds_picked (IsNumber (dtype_of tile)) (numbers tile) each (layout_of chain).places (place_of (shape_of chain) (aligned (shape_of chain) index))

places_count : (chain : Chain) → length (layout_of chain).places ≡ size_of (shape_of chain)
places_count chain = length-map (places (shape_of chain)) (λ index. place_of (root_of chain) (mapped chain index)) ∙ volume_counts (whole (shape_of chain))

-- the number that belongs to an index is the one at the place that the view has at the aligned index
pub spread_seen : (tile : AnyTile) (chain : Chain) (index : List ℕ) → IsIn (whole (shape_of chain)) (aligned (shape_of chain) index)
    → spread_at (seen_value tile chain) index ≡ seen_at tile chain (aligned (shape_of chain) index)
spread_seen tile chain index inside =
    let k = place_of (shape_of chain) (aligned (shape_of chain) index) in
    get_or-map (λ place. get_or (numbers tile) place (pos 0)) (layout_of chain).places k 0 (pos 0)
    (omega (arith, places_count chain, place-below (whole (shape_of chain)) (aligned (shape_of chain) index) inside))

-- the whole of a root, as it lies
pub whole_spread : (tile : AnyTile) (chain : Chain) (index : List ℕ) → rect_of tile ≡ whole (root_of chain) → layout_of chain ≡ whole_layout (root_of chain)
    → IsIn (whole (shape_of chain)) index → number_at tile index ≡ spread_at (seen_value tile chain) index
whole_spread tile chain index rect is inside =
    let root = root_of chain in
    let shape : shape_of chain ≡ root = ap (λ (l : Layout). l.shape) is in
    let there : IsIn (whole root) index = subst (λ s. IsIn (whole s) index) shape inside in
    let self : aligned (shape_of chain) index ≡ index = aligned_same (shape_of chain) index inside in
    let lies : place_at (layout_of chain) index ≡ place_of root index =
    ap (λ l. place_at l index) is ∙ ap (λ ps. get_or ps (place_of root index) 0) (sym (whole_places root (λ i. i) (λ i h. refl)))
    ∙ get_or_from_slice_get (map (place_of root) (places root)) (place_of root index) (place_of root index) 0 (at_place root (place_of root) index there) in
    ap (λ r. get_or (numbers tile) (place_in r index) (pos 0)) rect ∙ ap (λ k. get_or (numbers tile) k (pos 0)) (sym lies)
    ∙ ap (seen_at tile chain) (sym self) ∙ sym (spread_seen tile chain index (subst (IsIn (whole (shape_of chain))) (sym self) inside))

-- a view of one element
pub one_spread : (tile : AnyTile) (chain : Chain) (index : List ℕ) → All (λ extent. extent ≡ 1) (shape_of chain)
    → get_or (numbers tile) (get_or (layout_of chain).places 0 0) (pos 0) ≡ spread_at (seen_value tile chain) index
one_spread tile chain index ones =
    sym (ap (λ k. get_or (seen_value tile chain).numbers k (pos 0)) (aligned_one (shape_of chain) index ones)
    ∙ get_or-map (λ place. get_or (numbers tile) place (pos 0)) (layout_of chain).places 0 0 (pos 0) (omega (arith, places_count chain, one_element (shape_of chain) ones)))

-- any other, repeated
pub repeated_spread : (tile : AnyTile) (chain new : Chain) (to index : List ℕ) → SpreadsTo (shape_of chain) to → layout_of new ≡ repeated to (layout_of chain)
    → IsIn (whole to) index → seen_at tile new index ≡ spread_at (seen_value tile chain) index
repeated_spread tile chain new to index spreads is inside =
    let lead : List ℕ → ℕ = λ i. place_at (layout_of chain) (aligned (shape_of chain) i) in
    let lies : place_at (layout_of new) index ≡ lead index =
    ap (λ l. place_at l index) is ∙ get_or_from_slice_get (map lead (places to)) (place_of to index) (lead index) 0 (at_place to lead index inside) in
    ap (λ k. get_or (numbers tile) k (pos 0)) lies
    ∙ sym (spread_seen tile chain index (aligned_inside (shape_of chain) to index (repeats (shape_of chain) to spreads) inside))

-- ---- an array is a view of itself

pub array_root : (tile : AnyTile) (chain : Chain) (shape : List ℕ) → IsWhole tile → shape ≡ extents_of tile → root_of chain ≡ shape → rect_of tile ≡ whole (root_of chain)
array_root tile chain shape full same root = full ∙ ap whole (sym (root ∙ same))

-- with or without a fault, its number at an index is the view's
pub array_spread : (tile : AnyTile) (fault : Option FaultKind) (chain : Chain) (shape : List ℕ) → IsWhole tile → shape ≡ extents_of tile → shape_of chain ≡ shape
    → layout_of chain ≡ whole_layout shape → (index : List ℕ) → spread_at (seen_value tile chain) index ≡ spread_at (value_with tile fault) index
array_spread tile fault chain shape full same own is index =
    let extents : shape_of chain ≡ extents_of tile = own ∙ same in
    let count : length (numbers tile) ≡ size_of shape = numbers_full tile ∙ ap volume_of full ∙ ap size_of (sym same) in
    let all : map (λ place. get_or (numbers tile) place (pos 0)) (layout_of chain).places ≡ numbers tile =
    ap (λ (l : Layout). map (λ place. get_or (numbers tile) place (pos 0)) l.places) is
    ∙ ap (λ n. map (λ place. get_or (numbers tile) place (pos 0)) (range_with_len 0 n)) (sym count)
    ∙ sym (fill_by_all (λ place. get_or (numbers tile) place (pos 0)) (numbers tile) (length (numbers tile)) (pos 0) refl (λ i h. refl)) in
    λ i. get_or (all i) (place_of (extents i) (aligned (extents i) index)) (pos 0)

-- an operand has as many numbers as its shape has indices
pub operand_full : (a : Operand) → IsReady a → ((operand_value a).shape ≡ shape_in (operand_static a)) × (length (operand_value a).numbers ≡ size_of (shape_in (operand_static a)))
operand_full (operand.Weak w) h = (refl, refl)
operand_full (operand.Array tile right fault) h = (refl, numbers_full tile.now ∙ ap volume_of h)
operand_full (operand.View tile chain right) h =
    (refl, length-map (layout_of chain.now).places (λ place. get_or (numbers tile.now) place (pos 0)) ∙ places_count chain.now)
