-- Views of the roots that there are.
use Rattle.std.proofs.Common.{◌≡◌, ℕ, Some, inl, inr, sym, ap, ◌∙◌}
use Rattle.std.proofs.lemmas.Bool.{cases_eq}
use Rattle.std.proofs.lemmas.Option.{same_Some}
use Rattle.lg_store.specs.declared.view.View.{View}
use Rattle.lg_tile.specs.declared.any_tile.AnyTile.{AnyTile}
use Rattle.lg_xform.specs.Chains.{root_of}
use Rattle.lg_instance.specs.Contents.{IsHeld, IsStored, Memory, Root}

-- a view of a root that is there
pub held_by : (memory : Memory) (view : View) (number : ℕ) (root : Root) → view.root ≡ number → memory number ≡ Some root → root.dtype ≡ view.dtype → root.shape ≡ root_of view.chain → IsHeld memory view
held_by memory view number root at there dtype shape = record { root = root; there = ap memory at ∙ there; dtype = dtype; shape = shape }

-- what is written through one view leaves each other one as it is
pub still_held : (old new : Memory) (writer : View) (tile : AnyTile) (view : View) → IsStored writer tile old new → IsHeld old view → IsHeld new view
still_held old new writer tile view stored held = elim (cases_eq writer.root view.root) [
  | inl e ↦
      (let same : stored.before ≡ held.root = same_Some stored.before held.root (sym stored.was ∙ ap old e ∙ held.there) in
      record {
        root = stored.after;
        there = ap new (sym e) ∙ stored.is;
        dtype = stored.written.dtype ∙ ap (λ (r : Root). r.dtype) same ∙ held.dtype;
        shape = stored.written.shape ∙ ap (λ (r : Root). r.shape) same ∙ held.shape;
      })
  | inr ne ↦
      record { root = held.root; there = stored.others view.root ne ∙ held.there; dtype = held.dtype; shape = held.shape }
]
