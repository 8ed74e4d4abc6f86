-- What a write through a view does to a list of numbers, and to the roots. It says nothing of the
-- order of the writes. This project's own.
use Rattle.std.specs.Prelude.{◌≡◌, ◌≢◌, ℕ, List, length, Some, slice_get, slice_index_or, ℤ, pos}
use Rattle.lg_meaning.specs.Memory.{Root, View}
use Rattle.lg_session.specs.Worlds.{Roots}

-- each of these places has the value that belongs to it, and any other one what it had
pub record Puts (places : List ℕ) (values old new : List ℤ) : Type 0 where
  pub same_length : length new ≡ length old
  pub put : (i place : ℕ) → slice_get places i ≡ Some place
      → slice_index_or new place (pos 0) ≡ slice_index_or values i (pos 0)
  pub kept : (place : ℕ) → ((i : ℕ) → slice_get places i ≡ Some place → ⊥)
      → slice_index_or new place (pos 0) ≡ slice_index_or old place (pos 0)

-- the view's root has these values at the view's places; all else stays
pub record Writes (before after : Roots) (view : View) (values : List ℤ) : Type 0 where
  pub old : Root
  pub new : Root
  pub was : before view.root ≡ Some old
  pub now : after view.root ≡ Some new
  pub dtype : new.dtype ≡ old.dtype
  pub shape : new.shape ≡ old.shape
  pub puts : Puts view.places values old.numbers new.numbers
  pub others : (root : ℕ) → root ≢ view.root → after root ≡ before root
