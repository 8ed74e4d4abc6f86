-- One axis, cut into parts of equal size.
use Rattle.std.proofs.Common.{◌≡◌, ℕ, zero, suc, ◌+◌, ◌-◌, ◌*◌, ◌/◌, ◌<◌, ◌≤◌, min, max, List, [], ◌∷◌, length, map, sym, ap, ◌∙◌, arith}
use Rattle.std.specs.Prelude.{Some, slice_get}
use Rattle.std.specs.List.{range_with_len}
use Rattle.std.proofs.lemmas.Nat.{mul-le, div-mul-add, div_below}
use Rattle.std.proofs.lemmas.Option.{slice_get_within, same_Some, slice_get-get_or}
use Rattle.std.proofs.lemmas.List.FromFn.{get_or-map-range_with_len, length-map-range_with_len}
use Rattle.lg_shape.specs.Tiling.{ceiling, part_extent, part_count, part, parts}

-- so many parts reach the end
pub ceiling_reaches : (a b : ℕ) → 1 ≤ b → a ≤ ceiling a b * b
ceiling_reaches a b h = omega arith

-- each part begins before the end
pub ceiling_begins : (a b k : ℕ) → 1 ≤ b → k < ceiling a b → k * b < a
ceiling_begins a b k h below = omega (arith, mul-le (k + 1) b (ceiling a b) b (omega arith) (omega arith))

-- no more parts are needed than reach the end
pub ceiling_most : (a b m : ℕ) → 1 ≤ b → a ≤ m * b → ceiling a b ≤ m
ceiling_most a b m h reaches = grind (arith, ceiling_begins a b m h)

-- an axis of this extent, cut into so many parts of this size: at least one, and none begins behind
-- the end
pub record IsCut (extent size count : ℕ) : Type 0 where
  pub some : 1 ≤ count
  pub size_some : 1 ≤ size
  pub reaches : extent ≤ count * size
  pub begins : (number : ℕ) → number < count → number * size ≤ extent

-- where there is one part, it is enough that it begins at 0
begins_first : (a b k : ℕ) → 1 ≤ b → k < max 1 (ceiling a b) → k * b ≤ a
begins_first a b zero h below = omega arith
begins_first a b (suc k) h below = omega (arith, ceiling_begins a b (suc k) h (omega arith))

filled_first : (a b k : ℕ) → 1 ≤ b → k < max 1 (ceiling a b) → 1 ≤ a → k * b < a
filled_first a b zero h below some = omega arith
filled_first a b (suc k) h below some = ceiling_begins a b (suc k) h (omega arith)

-- the parts of the rule
pub parts_cut : (pieces extent : ℕ) → 1 ≤ pieces → IsCut extent (part_extent pieces extent) (part_count pieces extent)
parts_cut pieces extent h =
    let size = part_extent pieces extent in
    let some : 1 ≤ size = omega arith in
    record {
      some = omega arith;
      size_some = some;
      reaches = omega (arith, ceiling_reaches extent size some, mul-le (ceiling extent size) size (part_count pieces extent) size (omega arith) (omega arith));
      begins = λ number below. begins_first extent size number some below;
    }

-- a size that is the quotient by so many pieces, rounded up, makes no more parts than that
count_most : (extent pieces size : ℕ) → 1 ≤ pieces → ceiling extent pieces ≤ size → 1 ≤ size → ceiling extent size ≤ pieces
count_most extent pieces size h large some =
    ceiling_most extent size pieces some (omega (arith, ceiling_reaches extent pieces h, mul-le (ceiling extent pieces) pieces size pieces large (omega arith)))

pub part_count_most : (pieces extent : ℕ) → 1 ≤ pieces → part_count pieces extent ≤ pieces
part_count_most pieces extent h =
    omega (arith, count_most extent (min pieces (max extent 1)) (part_extent pieces extent) (omega arith) (omega arith) (omega arith))

-- no part is longer than the axis, unless that is empty
pub part_extent_most : (pieces extent : ℕ) → 1 ≤ pieces → part_extent pieces extent ≤ max extent 1
part_extent_most pieces extent h =
    let wanted = min pieces (max extent 1) in
    omega (arith, ceiling_most extent wanted (max extent 1) (omega arith) (omega (arith, mul-le (max extent 1) 1 (max extent 1) wanted (omega arith) (omega arith))))

-- the parts of an axis, upwards
abbrev pub cuts : ℕ → ℕ → ℕ → List (ℕ × ℕ)
cuts extent size count = map (part extent size) (range_with_len 0 count)

pub length-cuts : (extent size count : ℕ) → length (cuts extent size count) ≡ count
length-cuts extent size count = length-map-range_with_len (part extent size) 0 count

pub cut_at : (extent size count number : ℕ) → number < count → slice_get (cuts extent size count) number ≡ Some (part extent size number)
cut_at extent size count number below =
    slice_get-get_or (cuts extent size count) number (0, 0) (omega (arith, length-cuts extent size count)) ∙ ap Some (get_or-map-range_with_len (part extent size) 0 count number number (0, 0) below (omega arith))

pub at_cut : (extent size count number : ℕ) (range : ℕ × ℕ) → slice_get (cuts extent size count) number ≡ Some range → (number < count) × (range ≡ part extent size number)
at_cut extent size count number range at =
    let below : number < count = omega (arith, slice_get_within (cuts extent size count) number range at, length-cuts extent size count) in
    (below, same_Some range (part extent size number) (sym at ∙ cut_at extent size count number below))

-- what is asked of the ranges of one axis: each number below the extent is in exactly one of them
pub record CutsAxis (ranges : List (ℕ × ℕ)) (extent : ℕ) : Type 0 where
  pub some : 1 ≤ length ranges
  pub ordered : (number : ℕ) (range : ℕ × ℕ) → slice_get ranges number ≡ Some range → range.0 ≤ range.1
  pub within : (number : ℕ) (range : ℕ × ℕ) → slice_get ranges number ≡ Some range → range.1 ≤ extent
  pub cover : (i : ℕ) → i < extent → (number : ℕ) × (range : ℕ × ℕ) × (slice_get ranges number ≡ Some range) × (range.0 ≤ i) × (i < range.1)
  pub disjoint : (first second i : ℕ) (a b : ℕ × ℕ) → slice_get ranges first ≡ Some a → slice_get ranges second ≡ Some b → a.0 ≤ i → i < a.1 → b.0 ≤ i → i < b.1 → first ≡ second

-- a number is in the part whose number is its quotient by the size, and in no other
pub part_of : (extent size number i : ℕ) → (part extent size number).0 ≤ i → i < (part extent size number).1 → i / size ≡ number
part_of extent size number i low high =
    ap (λ n. n / size) e ∙ div-mul-add number size (i - number * size) (omega arith)
  where
    e : i ≡ number * size + (i - number * size)
    e = omega arith

pub in_part : (extent size count i : ℕ) → IsCut extent size count → i < extent → (i / size < count) × ((part extent size (i / size)).0 ≤ i) × (i < (part extent size (i / size)).1)
in_part extent size count i cut below =
    let some = cut.size_some in
    let number : i / size < count = div_below i size count (omega arith) (omega (arith, cut.reaches)) in
    (number, omega arith, omega arith)

part_ordered : (extent size count number : ℕ) → IsCut extent size count → number < count → number * size ≤ min extent ((number + 1) * size)
part_ordered extent size count number cut below =
    omega (arith, cut.begins number below, mul-le number size (number + 1) size (omega arith) (omega arith))

pub cuts_axis : (extent size count : ℕ) → IsCut extent size count → CutsAxis (cuts extent size count) extent
cuts_axis extent size count cut = record {
  some = omega (arith, length-cuts extent size count, cut.some);
  ordered = λ number range at.
      let h = at_cut extent size count number range at in
      rw h.1 (part_ordered extent size count number cut h.0);
  within = λ number range at.
      let h = at_cut extent size count number range at in
      rw h.1 (omega arith);
  cover = λ i below.
      let h = in_part extent size count i cut below in
      (i / size, part extent size (i / size), cut_at extent size count (i / size) h.0, h.1, h.2);
  disjoint = λ first second i a b at_first at_second low high low_second high_second.
      let e = (at_cut extent size count first a at_first).1 in
      let f = (at_cut extent size count second b at_second).1 in
      sym (part_of extent size first i (rw e at low) (rw e at high)) ∙ part_of extent size second i (rw f at low_second) (rw f at high_second);
}

-- the parts of the rule are ordered, within the axis, and each number of the axis is in exactly one
-- of them
pub parts_axis : (pieces extent : ℕ) → 1 ≤ pieces → CutsAxis (parts pieces extent) extent
parts_axis pieces extent h = cuts_axis extent (part_extent pieces extent) (part_count pieces extent) (parts_cut pieces extent h)

-- no part is empty, unless the axis is
pub part_filled : (pieces extent number : ℕ) (range : ℕ × ℕ) → 1 ≤ pieces → 1 ≤ extent → slice_get (parts pieces extent) number ≡ Some range → range.0 < range.1
part_filled pieces extent number range h some at =
    let size = part_extent pieces extent in
    let p = at_cut extent size (part_count pieces extent) number range at in
    let cut = parts_cut pieces extent h in
    let begins : number * size < extent = filled_first extent size number cut.size_some p.0 some in
    rw p.1 (omega (arith, cut.size_some))

pub length-parts : (pieces extent : ℕ) → length (parts pieces extent) ≡ part_count pieces extent
length-parts pieces extent = length-cuts extent (part_extent pieces extent) (part_count pieces extent)

-- a whole axis is cut into one part
pub whole_cut : (extent : ℕ) → IsCut extent (max extent 1) 1
whole_cut extent = record {
  some = omega arith;
  size_some = omega arith;
  reaches = omega arith;
  begins = λ number below. (let e : number ≡ 0 = omega arith in rw e (omega arith));
}

pub whole_parts : (extent : ℕ) → cuts extent (max extent 1) 1 ≡ (0, extent) ∷ []
whole_parts extent =
    let low : 0 * max extent 1 ≡ 0 = omega arith in
    let high : min extent ((0 + 1) * max extent 1) ≡ extent = omega arith in
    λ i. (low i, high i) ∷ []
