-- The memory of the roots, as contracts see it: the root with each number, or none. How a root is
-- kept is not seen. This project's own.
use Rattle.std.specs.Prelude.{◌≡◌, ℕ, List, map, replicate, Option, Some, option_map, unwrap_or, slice_index_or, ℤ, pos}
use Rattle.lg_elem.specs.declared.dtype.DType.{DType}
use Rattle.lg_space.specs.Rectangle.{IsIn}
use Rattle.lg_shape.specs.Shapes.{place_of, size_of, whole}
use Rattle.lg_store.specs.declared.view.View.{View}
use Rattle.lg_tile.specs.declared.any_tile.AnyTile.{AnyTile}
use Rattle.lg_tile.specs.Tiles.{dtype_of, number_at, numbers, rect_of}
use Rattle.lg_xform.specs.Chains.{mapped, root_of}
use Rattle.lg_xform.specs.Footprints.{LeadsTo}

-- an array that owns its elements: their type, its shape, and their numbers in row-major order
pub record Root : Type 0 where
  pub dtype : DType
  pub shape : List ℕ
  pub numbers : List ℤ

-- the root with each number, if there is one
abbrev pub Memory : Type 0
Memory = ℕ → Option Root

-- the number at an index of a root
abbrev pub number_of : Root → List ℕ → ℤ
number_of root index = slice_index_or root.numbers (place_of root.shape index) (pos 0)

-- the root of this type and shape whose elements are all 0
abbrev pub zeros : DType → List ℕ → Root
zeros dtype shape =
    record { dtype = dtype; shape = shape; numbers = replicate (size_of shape) (pos 0) }

-- the extents of a rectangle that begins at 0 on each axis
abbrev pub extents_of : List (ℕ × ℕ) → List ℕ
extents_of rect = map (λ range. range.1) rect

-- a tile over all indices of a shape
abbrev pub IsWhole : AnyTile → Type 0
IsWhole tile = rect_of tile ≡ whole (extents_of (rect_of tile))

-- the root that such a tile is
abbrev pub as_root : AnyTile → Root
as_root tile =
    record { dtype = dtype_of tile; shape = extents_of (rect_of tile); numbers = numbers tile }

-- the root of a view is there: it has the view's type, and the shape from which the view starts
pub record IsHeld (memory : Memory) (view : View) : Type 0 where
  pub root : Root
  pub there : memory view.root ≡ Some root
  pub dtype : root.dtype ≡ view.dtype
  pub shape : root.shape ≡ root_of view.chain

-- what a view shows at one of its indices: the number where the index leads
abbrev pub shown : Memory → View → List ℕ → ℤ
shown memory view index =
    unwrap_or
    (option_map (λ root. number_of root (mapped view.chain index)) (memory view.root))
    (pos 0)

-- a root after the elements of a tile were written through a view of it: each element is where its
-- index leads, and all other elements are as they were
pub record IsWritten (view : View) (tile : AnyTile) (old new : Root) : Type 0 where
  pub dtype : new.dtype ≡ old.dtype
  pub shape : new.shape ≡ old.shape
  pub written : (index : List ℕ) → IsIn (rect_of tile) index
      → number_of new (mapped view.chain index) ≡ number_at tile index
  pub kept : (at : List ℕ) → IsIn (whole old.shape) at
      → (LeadsTo (mapped view.chain) (rect_of tile) at → ⊥) → number_of new at ≡ number_of old at

-- the memory after that: there is the root as it became, and each other root as it was
pub record IsStored (view : View) (tile : AnyTile) (old new : Memory) : Type 0 where
  pub before : Root
  pub was : old view.root ≡ Some before
  pub after : Root
  pub is : new view.root ≡ Some after
  pub written : IsWritten view tile before after
  pub others : (other : ℕ) → (view.root ≡ other → ⊥) → new other ≡ old other
