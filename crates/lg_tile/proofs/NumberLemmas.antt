-- The numbers of elements.
use Rattle.std.proofs.Common.{◌≡◌, ℕ, zero, suc, List, ◌∷◌, map, replicate, Some, ℤ, pos, length, slice_get, slice_set, refl, ap, ◌∙◌}
use Rattle.std.proofs.lemmas.List.{length-map, map-set}
use Rattle.std.proofs.lemmas.Option.{slice_get-map}
use Rattle.std.specs.Int.{from_bool}
use Rattle.std.specs.Option.{option_map}
use Rattle.lg_elem.specs.declared.dtype.DType.{DType}
use Rattle.lg_elem.specs.Types.{IsNumber, wrap}
use Rattle.lg_elem.proofs.WrapLemmas.{wrap_same}
use Rattle.lg_space.specs.Rectangle.{volume_of}
use Rattle.lg_tile.specs.declared.any_tile.AnyTile.{AnyTile}
use Rattle.lg_tile.specs.declared.any_tile.AnyTile.TheVariants.{Bool as Truth, Int8, Int16, Int32, Int64, UInt8, UInt16, UInt32, UInt64}
use Rattle.lg_tile.specs.declared.tile.Tile.{Tile}
use Rattle.lg_tile.specs.Tiles.{numbers, rect_of}

-- what a number of the type is wrapped to has this number
pub wrapped_number : (t : DType) (n m : ℤ) → IsNumber t n → m ≡ wrap t n → m ≡ n
wrapped_number t n m fits is = is ∙ wrap_same t n fits

map-replicate : {A B : Type 0} (f : A → B) (n : ℕ) (x : A) → map f (replicate n x) ≡ replicate n (f x)
map-replicate f zero x = refl
map-replicate f (suc n) x = ap (λ l. f x ∷ l) (map-replicate f n x)

-- the number of the element at a place stands there among the numbers
pub number_read : {T : Type 0} (number : T → ℤ) (xs : List T) (place : ℕ) (x : T) (n : ℤ) → slice_get xs place ≡ Some x → n ≡ number x
    → slice_get (map number xs) place ≡ Some n
number_read number xs place x n at is = slice_get-map number xs place ∙ ap (option_map number) at ∙ (cc)

-- where each element is the same one, each number is that element's
pub map_filled : {T : Type 0} (number : T → ℤ) (count : ℕ) (xs : List T) (x : T) (n : ℤ) → xs ≡ replicate count x → number x ≡ n
    → map number xs ≡ replicate count n
map_filled number count xs x n filled is = ap (map number) filled ∙ map-replicate number count x ∙ ap (replicate count) is

-- where an element is written, its number is
pub map_written : {T : Type 0} (number : T → ℤ) (place : ℕ) (xs ys : List T) (x : T) (n : ℤ) → ys ≡ slice_set xs place x → number x ≡ n
    → map number ys ≡ slice_set (map number xs) place n
map_written number place xs ys x n written is = ap (map number) written ∙ map-set number xs place x ∙ ap (slice_set (map number xs) place) is

-- a tile has as many elements as its rectangle has indices, and so as many numbers
mapped_full : {T : Type 0} (number : T → ℤ) (t : Tile T) → length (map number t.items.items) ≡ volume_of t.rect
mapped_full number t = length-map t.items.items number ∙ t.full

pub numbers_full : (tile : AnyTile) → length (numbers tile) ≡ volume_of (rect_of tile)
numbers_full (Truth t) = mapped_full (λ b. pos (from_bool b)) t
numbers_full (Int8 t) = mapped_full (λ x. x) t
numbers_full (Int16 t) = mapped_full (λ x. x) t
numbers_full (Int32 t) = mapped_full (λ x. x) t
numbers_full (Int64 t) = mapped_full (λ x. x) t
numbers_full (UInt8 t) = mapped_full (λ x. pos x) t
numbers_full (UInt16 t) = mapped_full (λ x. pos x) t
numbers_full (UInt32 t) = mapped_full (λ x. pos x) t
numbers_full (UInt64 t) = mapped_full (λ x. pos x) t
