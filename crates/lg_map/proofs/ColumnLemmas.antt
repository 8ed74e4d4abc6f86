-- What is read at a place.
use Rattle.std.proofs.Common.{◌≡◌, ℕ, zero, suc, ◌+◌, ◌<◌, List, [], ◌∷◌, length, map, get_or, Option, Some, None, slice_get, unwrap_or, ℤ, pos, sym, ap, ◌∙◌, arith}
use Rattle.std.specs.Option.{option_map}
use Rattle.std.proofs.lemmas.List.{length-map, map-id}
use Rattle.std.proofs.lemmas.Int.{ints}
use Rattle.std.specs.Prelude.{slice_index, ◌+ℤ◌}
use Rattle.std.proofs.lemmas.List.FromFn.{length-map-range_with_len, get_or-map-range_with_len}
use Rattle.std.proofs.lemmas.Option.{slice_get-map, slice_get-get_or, unwrap_or-slice_get, get_or_from_slice_get, same_Some}
use Rattle.lg_elem.specs.declared.dtype.DType.{DType}
use Rattle.lg_elem.specs.Types.{IsNumber, wrap}
use Rattle.lg_elem.proofs.WrapLemmas.{wrap_same, wrap_fits}
use Rattle.lg_space.specs.Rectangle.{indices, volume_of, place_in}
use Rattle.lg_space.proofs.Places.{volume_counts, stands_at_place}
use Rattle.lg_tile.specs.declared.any_tile.AnyTile.{AnyTile}
use Rattle.lg_tile.specs.declared.section.Section.{Section}
use Rattle.lg_tile.specs.declared.tile.Tile.{Tile}
use Rattle.lg_tile.specs.Sections.{IsSection, section_items}
use Rattle.lg_tile.specs.Tile.{tile_items, tile_rect}
use Rattle.lg_tile.specs.Tiles.{IsTyped, number_at, numbers}
use Rattle.lg_map.specs.Columns.{item_at, index_in, listed, typed_at, IsPartOf}

-- a number of the type is what it is wrapped to
pub wrapped_same : (t : DType) (x y : ℤ) → IsNumber t y → y ≡ x → x ≡ wrap t x
wrapped_same t x y fits is = sym is ∙ sym (wrap_same t y fits) ∙ ap (wrap t) is

-- the number at a place is that of the element that was read there
pub item_read : {T : Type 0} (number : T → ℤ) (items : List T) (place : ℕ) (x : T) → place < length items → x ≡ get_or items place x → number x ≡ item_at number items place
item_read number [] place x within read = absurd (omega arith)
item_read number (y ∷ items) zero x within read = ap number read
item_read number (y ∷ items) (suc place) x within read = item_read number items place x (omega arith) read

-- ---- the elements of a part

module _ {T : Type 0} (number : T → ℤ) (whole part : List (ℕ × ℕ)) (items members : List T) (is : IsSection whole part items members) where
  -- there is one for each index
  pub section_full : length members ≡ volume_of part
  section_full = sym (length-map members Some) ∙ ap length is ∙ length-map (indices part) _ ∙ volume_counts part

  same_member : (place : ℕ) → place < volume_of part → slice_get members place ≡ slice_get items (place_in whole (index_in part place))
  same_member place below =
      let at = λ (index : List ℕ). slice_get items (place_in whole index) in
      let there = slice_get-get_or (indices part) place [] (omega (arith, below, volume_counts part)) in
      same_some (slice_get members place) (at (index_in part place))
      (sym (slice_get-map Some members place) ∙ ap (λ l. slice_get l place) is ∙ slice_get-map at (indices part) place ∙ ap (option_map at) there)
    where
      same_some : (o : Option T) (p : Option T) → option_map Some o ≡ Some p → o ≡ p
      same_some None p e = cc
      same_some (Some x) p e = same_Some (Some x) p e

  -- and its number is that of the item at the index
  pub section_number : (place : ℕ) → place < volume_of part → item_at number members place ≡ item_at number items (place_in whole (index_in part place))
  section_number place below =
      sym (by_option members place) ∙ ap (λ o. unwrap_or (option_map number o) (pos 0)) (same_member place below) ∙ by_option items (place_in whole (index_in part place))
    where
      by_option : (xs : List T) (i : ℕ) → unwrap_or (option_map number (slice_get xs i)) (pos 0) ≡ item_at number xs i
      by_option xs i = ap (λ o. unwrap_or o (pos 0)) (sym (slice_get-map number xs i)) ∙ unwrap_or-slice_get (map number xs) i (pos 0)

  -- as elements of type t
  pub read_stands : (t : DType) → (length members ≡ volume_of part)
      × ((place : ℕ) → place < volume_of part → wrap t (item_at number members place) ≡ wrap t (item_at number items (place_in whole (index_in part place))))
  read_stands t = (section_full, λ place below. ap (wrap t) (section_number place below))

  -- and where each was cast to type t
  pub cast_stands : {B : Type 0} (value : B → ℤ) (t : DType) (out : List B) (n : ℕ) → n ≡ volume_of part → map value out ≡ listed (λ place. wrap t (item_at number members place)) n
      → (length out ≡ volume_of part)
      × ((place : ℕ) → place < volume_of part → wrap t (item_at value out place) ≡ wrap t (item_at number items (place_in whole (index_in part place))))
  cast_stands value t out n full made = (
    sym (length-map out value) ∙ ap length made ∙ length-map-range_with_len _ 0 n ∙ full,
    λ place below.
        let at : item_at value out place ≡ wrap t (item_at number members place) =
        ap (λ l. get_or l place (pos 0)) made ∙ get_or-map-range_with_len (λ k. wrap t (item_at number members k)) 0 n place place (pos 0) (omega (arith, full, below)) (omega arith) in
        ap (wrap t) at ∙ wrap_same t (wrap t (item_at number members place)) (wrap_fits t (item_at number members place)) ∙ ap (wrap t) (section_number place below),
  )

-- ---- a tile of any type that has a known one

module _ {T : Type 0} (number : T → ℤ) (dtype : DType) (tile : Tile T) (any : AnyTile) (is : IsTyped dtype number tile any) where
  pub typed_number : (index : List ℕ) → typed_at number tile index ≡ number_at any index
  typed_number index =
      ap (λ l. get_or l (place_in (tile_rect tile) index) (pos 0)) (sym is.2) ∙ ap (λ r. get_or (numbers any) (place_in r index) (pos 0)) (sym is.1)

  pub typed_part : (part : List (ℕ × ℕ)) (section : Section T) → IsSection (tile_rect tile) part (tile_items tile) (section_items section)
      → IsPartOf number section part (number_at any)
  typed_part part section cut = (
    section_full number (tile_rect tile) part (tile_items tile) (section_items section) cut,
    λ place below.
        section_number number (tile_rect tile) part (tile_items tile) (section_items section) cut place below ∙ typed_number (index_in part place),
  )

-- ---- lists and counts

pub listed_number : (whole part : List (ℕ × ℕ)) (list members : List ℤ) → IsSection whole part list members → (place : ℕ) → place < volume_of part
    → get_or members place (pos 0) ≡ get_or list (place_in whole (index_in part place)) (pos 0)
listed_number whole part list members is place below =
    ap (λ l. get_or l place (pos 0)) (sym (map-id members)) ∙ section_number (λ x. x) whole part list members is place below
    ∙ ap (λ l. get_or l (place_in whole (index_in part place)) (pos 0)) (map-id list)

pub count_index : (rect : List (ℕ × ℕ)) (r : ℕ × ℕ) → length rect ≡ 1 → slice_get rect 0 ≡ Some r → (place : ℕ) → place < volume_of rect
    → slice_index (index_in rect place) 0 ≡ r.0 + place
count_index [] r one at place below = absurd (omega arith)
count_index (range ∷ []) r one at place below =
    let index = (range.0 + place) ∷ [] in
    let there : place_in (range ∷ []) index ≡ place = omega arith in
    let found = ap (slice_get (indices (range ∷ []))) (sym there) ∙ stands_at_place (range ∷ []) index (omega arith, omega (arith, below), tt) in
    ap (λ i. slice_index i 0) (get_or_from_slice_get (indices (range ∷ [])) place index [] found)
    ∙ ap (λ s. s.0 + place) (same_Some range r at)
count_index (range ∷ other ∷ rect) r one at place below = absurd (omega arith)

pub count_number : (t : DType) (first : ℤ) (low place at : ℕ) → at ≡ low + place → wrap t ((first +ℤ pos low) +ℤ pos place) ≡ wrap t (first +ℤ pos at)
count_number t first low place at is =
    let sum : (first +ℤ pos low) +ℤ pos place ≡ first +ℤ pos (low + place) = omega (arith, ints) in
    ap (wrap t) sum ∙ ap (λ n. wrap t (first +ℤ pos n)) (sym is)
