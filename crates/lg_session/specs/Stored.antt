-- What the code keeps of what names stand for.
use Rattle.std.specs.Prelude.{◌≡◌, ◌<◌, ◌≤◌, ℕ, List, length, None, Some, IsSomeAnd, slice_get}
use Rattle.std.specs.List.{range_with_len}
use Rattle.lg_store.specs.declared.view.View.{View}
use Rattle.lg_store.specs.declared.view.Right.TheVariants.{Writable}
use Rattle.lg_space.specs.Stored.{MAX_VOLUME}
use Rattle.lg_xform.specs.Chains.{layout_of, shape_of, root_of, inner_of, IsUnsplit}
use Rattle.lg_shape.specs.Shapes.{size_of}
use Rattle.lg_meaning.specs.Memory.{Root}
use Rattle.lg_operations.specs.Operations.{weak_of, IsRanged}
use Rattle.lg_session.specs.Worlds.{Roots, NoRepeat}
use Rattle.lg_session.specs.Names.{bound_at, IsReached}
use Rattle.lg_session.specs.declared.names.Bound.{Bound}
use Rattle.lg_session.specs.declared.names.Bound.TheVariants.{Weak, Array}
use Rattle.lg_session.specs.declared.names.Names.{Names}
use Rattle.lg_operations.specs.declared.values.Weak.{Weak as CodeWeak}

-- the root has the view's type, and the view's chain leads into it: each of its places is one of
-- the root. No axis of it was split, so that indices can pick among its elements, and it has no
-- more elements than a tile can have. Where it may be written, no place of the root is twice in it,
-- so that each place gets one number
pub record IsViewOf (view : View) (root : Root) : Type 0 where
  pub dtype : root.dtype ≡ view.dtype
  pub shape : root_of view.chain ≡ root.shape
  pub full : length root.numbers ≡ size_of root.shape
  pub small : size_of (shape_of view.chain) ≤ MAX_VOLUME
  pub unsplit : IsUnsplit (inner_of view.chain)
  pub inside : (index place : ℕ) → slice_get (layout_of view.chain).places index ≡ Some place
      → place < length root.numbers
  pub once : view.right ≡ Writable → NoRepeat (layout_of view.chain).places

-- it is a view of some root
pub record IsViewOfSome (view : View) : Type 0 where
  pub root : Root
  pub of_root : IsViewOf view root

-- it is a view of the root, and the whole of it
pub record IsWholeOf (view : View) (root : Root) : Type 0 where
  pub of_root : IsViewOf view root
  pub shape : shape_of view.chain ≡ root.shape
  pub places : (layout_of view.chain).places ≡ range_with_len 0 (size_of root.shape)

-- the view's root is there
abbrev pub IsHeld : Roots → View → Type 0
IsHeld roots view = IsSomeAnd (roots view.root) (IsViewOf view)

abbrev pub IsStored : Roots → Bound → Type 0
IsStored roots (Weak w) = IsRanged (weak_of w)
IsStored roots (Array view) = IsHeld roots view

-- each view that a name stands for is held, and each weak number is one that int64 or uint64 has
abbrev pub AreHeld : Roots → Names → Type 0
AreHeld roots names = (w : List ℕ) (view : View) → bound_at names w ≡ Some (Array view)
    → IsHeld roots view

abbrev pub AreRanged : Names → Type 0
AreRanged names = (w : List ℕ) (x : CodeWeak) → bound_at names w ≡ Some (Weak x)
    → IsRanged (weak_of x)

-- a root that no name reaches is not there
abbrev pub IsTidyAt : Roots → Names → ℕ → Type 0
IsTidyAt roots names root = (IsReached names root → ⊥) → roots root ≡ None
