-- Roots that are kept as whole tiles.
use Rattle.std.proofs.Common.{◌≡◌, ℕ, zero, suc, ◌+◌, ◌<◌, ◌≤◌, Contains, inl, inr, List, [], ◌∷◌, length, replicate, Option, None, Some, option_map, unwrap_or, slice_get, get_or, set, pos, refl, sym, ap, subst, ◌∙◌, arith}
use Rattle.std.proofs.lemmas.Bool.{cases_eq}
use Rattle.std.proofs.lemmas.Option.{same_Some, slice_get_within}
use Rattle.lg_elem.specs.declared.dtype.DType.{DType}
use Rattle.lg_space.specs.Rectangle.{IsIn, place_in, volume_of}
use Rattle.lg_shape.specs.Shapes.{size_of, whole}
use Rattle.lg_store.specs.declared.view.View.{View}
use Rattle.lg_tile.specs.declared.any_tile.AnyTile.{AnyTile}
use Rattle.lg_tile.specs.Tiles.{dtype_of, number_at, numbers, rect_of}
use Rattle.lg_tile.proofs.NumberLemmas.{numbers_full}
use Rattle.lg_xform.specs.Chains.{mapped}
use Rattle.lg_xform.specs.Footprints.{LeadsTo}
use Rattle.lg_instance.specs.Contents.{IsStored, IsWhole, IsWritten, Memory, Root, as_root, extents_of, zeros}
use Rattle.lg_instance.specs.Kept.{contents}
use Rattle.lg_instance.specs.declared.instances.Instances.{Instances}
use Rattle.lg_instance.specs.declared.instances.WholeTile.{WholeTile}

-- a tile that is kept has as many numbers as its shape has indices
tile_full : (kept : Option WholeTile) (root : Root) → option_map (λ (whole : WholeTile). as_root whole.tile) kept ≡ Some root → length root.numbers ≡ size_of root.shape
tile_full None root is = absurd (none_is_some root is)
  where
    none_is_some : (r : Root) → None ≡ Some r → ⊥
    none_is_some r e = cc
tile_full (Some whole) root is =
    let same : as_root whole.tile ≡ root = same_Some (as_root whole.tile) root is in
    subst (λ (r : Root). length r.numbers ≡ size_of r.shape) same (numbers_full whole.tile ∙ ap volume_of whole.whole)

pub roots_full : (instances : Instances) (number : ℕ) (root : Root) → contents instances number ≡ Some root → length root.numbers ≡ size_of root.shape
roots_full instances number root is = tile_full (unwrap_or (slice_get instances.tiles.items number) None) root is

-- ---- whole tiles

extents_whole : (shape : List ℕ) → extents_of (whole shape) ≡ shape
extents_whole [] = refl
extents_whole (extent ∷ shape) = ap (extent ∷◌) (extents_whole shape)

-- a tile over the whole of a shape is whole
pub whole_of : (tile : AnyTile) (shape : List ℕ) → rect_of tile ≡ whole shape → IsWhole tile
whole_of tile shape is = is ∙ ap whole (sym (ap extents_of is ∙ extents_whole shape))

-- a root whose elements are all 0
pub zeros_of : (tile : AnyTile) (dtype : DType) (shape : List ℕ) → dtype_of tile ≡ dtype → rect_of tile ≡ whole shape → numbers tile ≡ replicate (size_of shape) (pos 0)
    → as_root tile ≡ zeros dtype shape
zeros_of tile dtype shape typed is filled = λ i. record { dtype = typed i; shape = (ap extents_of is ∙ extents_whole shape) i; numbers = filled i }

-- ---- one root among all

abbrev pub memory_of : List (Option WholeTile) → Memory
memory_of tiles root = option_map (λ (whole : WholeTile). as_root whole.tile) (unwrap_or (slice_get tiles root) None)

set_here : {X : Type 0} (xs : List X) (k : ℕ) (x : X) → k < length xs → slice_get (set xs k x) k ≡ Some x
set_here [] k x below = absurd (omega (arith, below))
set_here (y ∷ xs) zero x below = refl
set_here (y ∷ xs) (suc k) x below = set_here xs k x (omega (arith, below))

set_other : {X : Type 0} (xs : List X) (k j : ℕ) (x : X) → (k ≡ j → ⊥) → slice_get (set xs k x) j ≡ slice_get xs j
set_other [] k j x apart = refl
set_other (y ∷ xs) zero zero x apart = absurd (apart refl)
set_other (y ∷ xs) zero (suc j) x apart = refl
set_other (y ∷ xs) (suc k) zero x apart = refl
set_other (y ∷ xs) (suc k) (suc j) x apart = set_other xs k j x (λ e. apart (ap suc e))

-- what is written into the tile of a root
pub tile_stored : (tiles : List (Option WholeTile)) (view : View) (tile : AnyTile) (kept new : WholeTile) → slice_get tiles view.root ≡ Some (Some kept)
    → IsWritten view tile (as_root kept.tile) (as_root new.tile) → IsStored view tile (memory_of tiles) (memory_of (set tiles view.root (Some new)))
tile_stored tiles view tile kept new at wrote = record {
  before = as_root kept.tile;
  was = ap (λ o. option_map (λ (whole : WholeTile). as_root whole.tile) (unwrap_or o None)) at;
  after = as_root new.tile;
  is = ap (λ o. option_map (λ (whole : WholeTile). as_root whole.tile) (unwrap_or o None)) (set_here tiles view.root (Some new) (slice_get_within tiles view.root (Some kept) at));
  written = wrote;
  others = λ other apart. ap (λ o. option_map (λ (whole : WholeTile). as_root whole.tile) (unwrap_or o None)) (set_other tiles view.root other (Some new) apart);
}

-- a whole tile after the elements of another one were written into it through a view
pub root_written : (view : View) (tile old new : AnyTile) → IsWhole old → dtype_of new ≡ dtype_of old → rect_of new ≡ rect_of old
    → ((index : List ℕ) → IsIn (rect_of tile) index → number_at new (mapped view.chain index) ≡ number_at tile index)
    → ((at : List ℕ) → IsIn (rect_of old) at → (LeadsTo (mapped view.chain) (rect_of tile) at → ⊥) → number_at new at ≡ number_at old at)
    → IsWritten view tile (as_root old) (as_root new)
root_written view tile old new is_whole dtype rect written kept =
    let now : rect_of new ≡ whole (extents_of (rect_of new)) = rect ∙ is_whole ∙ ap (λ r. whole (extents_of r)) (sym rect) in record {
      dtype = dtype;
      shape = ap extents_of rect;
      written = λ index inside. ap (λ r. get_or (numbers new) (place_in r (mapped view.chain index)) (pos 0)) (sym now) ∙ written index inside;
      kept = λ at inside none. ap (λ r. get_or (numbers new) (place_in r at) (pos 0)) (sym now)
          ∙ kept at (subst (λ r. IsIn r at) (sym is_whole) inside) none ∙ ap (λ r. get_or (numbers old) (place_in r at) (pos 0)) is_whole;
    }

-- a number with a root is one of those given
pub root_below : (tiles : List (Option WholeTile)) (k : ℕ) (root : Root) → memory_of tiles k ≡ Some root → k < length tiles
root_below [] k root is = absurd (none_is_some root is)
  where
    none_is_some : (r : Root) → None ≡ Some r → ⊥
    none_is_some r e = cc
root_below (x ∷ tiles) zero root is = omega arith
root_below (x ∷ tiles) (suc k) root is = let rest = root_below tiles k root is in omega (arith, rest)

-- ---- some roots alone

-- what is true of the roots when so many numbers were looked at
pub record AreKept (roots : List ℕ) (old now : Memory) (k count : ℕ) : Type 0 where
  pub kept : (root : ℕ) → Contains roots root → now root ≡ old root
  pub gone : (root : ℕ) → root < k → (Contains roots root → ⊥) → now root ≡ None
  pub behind : (root : ℕ) → count ≤ root → now root ≡ None

module _ (roots : List ℕ) (old now : Memory) (k count : ℕ) (so_far : AreKept roots old now k count) (before : k < count) where
  -- the next one is taken away
  pub kept_without : (new : Memory) → (Contains roots k → ⊥) → new k ≡ None → ((other : ℕ) → (k ≡ other → ⊥) → new other ≡ now other) → AreKept roots old new (k + 1) count
  kept_without new out taken others = record {
    kept = λ root among. others root (λ e. out (subst (λ r. Contains roots r) (sym e) among)) ∙ so_far.kept root among;
    gone = λ root below none. elim (cases_eq k root) [
      | inl e ↦ sym (ap new e) ∙ taken
      | inr ne ↦ others root ne ∙ so_far.gone root (omega (arith, below, ne)) none
    ];
    behind = λ root past. others root (λ e. omega (arith, e, before, past)) ∙ so_far.behind root past;
  }

  -- the next one stays
  pub kept_with : Contains roots k → AreKept roots old now (k + 1) count
  kept_with among = record {
    kept = so_far.kept;
    gone = λ root below none. elim (cases_eq k root) [
      | inl e ↦ absurd (none (subst (λ r. Contains roots r) e among))
      | inr ne ↦ so_far.gone root (omega (arith, below, ne)) none
    ];
    behind = so_far.behind;
  }
