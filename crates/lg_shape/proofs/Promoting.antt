-- The steps for new axes, item by item.
use Rattle.std.proofs.Common.{◌≡◌, ℕ, ◌+◌, ◌≤◌, List, [], ◌∷◌, ◌++◌, length, drop, Option, ℤ, sym, ap, ◌∙◌, arith, add-one, append_assoc, length-append}
use Rattle.lg_shape.specs.IndexSteps.{promote_steps, added_axes, taken_axes}
use Rattle.lg_shape.specs.declared.step.Step.{Step}
use Rattle.lg_shape.specs.declared.step.Step.TheVariants.{Promote}
use Rattle.lg_shape.specs.declared.index.IndexItem.{IndexItem}
use Rattle.lg_shape.specs.declared.index.IndexItem.TheVariants.{At, Slice, NewAxis, Ellipsis}

-- the steps so far, and those of the items behind, make up the whole
pub record Promoting (items : List IndexItem) (missing capacity : ℕ) (all : List Step) (index axis : ℕ) (steps : List Step) (room : ℕ) : Type 0 where
  pub so_far : steps ++ promote_steps axis missing (drop index items) ≡ all
  pub axes : axis + taken_axes missing (drop index items) + added_axes (drop index items) ≤ 8
  pub fits : length steps + added_axes (drop index items) ≤ room
  pub same : room ≡ capacity

-- one item more
module _ (items : List IndexItem) (missing capacity : ℕ) (all : List Step) (index axis : ℕ) (steps : List Step) (room : ℕ)
    (h : Promoting items missing capacity all index axis steps room) where
  pub promoting_integer : (k : ℤ) → drop index items ≡ At k ∷ drop (index + 1) items
      → Promoting items missing capacity all (index + 1) axis steps room
  promoting_integer k front = record {
    so_far = ap (λ i. steps ++ promote_steps axis missing i) (sym front) ∙ h.so_far;
    axes = omega (arith, h.axes, ap (taken_axes missing) front, ap added_axes front);
    fits = omega (arith, h.fits, ap added_axes front);
    same = h.same;
  }

  pub promoting_slice : (start stop step : Option ℤ) → drop index items ≡ Slice start stop step ∷ drop (index + 1) items
      → Promoting items missing capacity all (index + 1) (axis + 1) steps room
  promoting_slice start stop step front = record {
    so_far = ap (λ n. steps ++ promote_steps n missing (drop (index + 1) items)) (add-one axis)
        ∙ ap (λ i. steps ++ promote_steps axis missing i) (sym front) ∙ h.so_far;
    axes = omega (arith, h.axes, ap (taken_axes missing) front, ap added_axes front);
    fits = omega (arith, h.fits, ap added_axes front);
    same = h.same;
  }

  pub promoting_new_axis : drop index items ≡ NewAxis ∷ drop (index + 1) items
      → Promoting items missing capacity all (index + 1) (axis + 1) (steps ++ Promote axis 1 ∷ []) room
  promoting_new_axis front = record {
    so_far = append_assoc steps (Promote axis 1 ∷ []) (promote_steps (axis + 1) missing (drop (index + 1) items))
        ∙ ap (λ n. steps ++ Promote axis 1 ∷ promote_steps n missing (drop (index + 1) items)) (add-one axis)
        ∙ ap (λ i. steps ++ promote_steps axis missing i) (sym front) ∙ h.so_far;
    axes = omega (arith, h.axes, ap (taken_axes missing) front, ap added_axes front);
    fits = omega (arith, h.fits, ap added_axes front, length-append steps (Promote axis 1 ∷ []));
    same = h.same;
  }

  pub promoting_ellipsis : drop index items ≡ Ellipsis ∷ drop (index + 1) items
      → Promoting items missing capacity all (index + 1) (axis + missing) steps room
  promoting_ellipsis front = record {
    so_far = ap (λ i. steps ++ promote_steps axis missing i) (sym front) ∙ h.so_far;
    axes = omega (arith, h.axes, ap (taken_axes missing) front, ap added_axes front);
    fits = omega (arith, h.fits, ap added_axes front);
    same = h.same;
  }
