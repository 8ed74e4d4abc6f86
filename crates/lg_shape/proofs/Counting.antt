-- How many items of each kind there are, item by item.
use Rattle.std.proofs.Common.{◌≡◌, ℕ, suc, ◌+◌, ◌<◌, ◌≤◌, List, ◌∷◌, length, drop, get_or, Option, ℤ, ap, ◌∙◌, arith, add-one}
use Rattle.std.proofs.Math.Seq.{drop-cons}
use Rattle.lg_shape.specs.Indexing.{named_axes, ellipses}
use Rattle.lg_shape.specs.IndexSteps.{integers, added_axes}
use Rattle.lg_shape.specs.declared.index.IndexItem.{IndexItem}
use Rattle.lg_shape.specs.declared.index.IndexItem.TheVariants.{At, Slice, NewAxis, Ellipsis}

-- an item, and those behind it
pub front_item : (items : List IndexItem) (index : ℕ) (d item : IndexItem) → index < length items
    → get_or items index d ≡ item → drop index items ≡ item ∷ drop (index + 1) items
front_item items index d item lt is =
    rw add-one (drop-cons items index d lt ∙ ap (λ first. first ∷ drop (suc index) items) is)

-- what was counted before an item, and what is behind it, make up the whole
pub record Counted (items : List IndexItem) (index ints slices news dots : ℕ) : Type 0 where
  pub named : ints + slices + named_axes (drop index items) ≡ named_axes items
  pub integers : ints + integers (drop index items) ≡ integers items
  pub new_axes : news + added_axes (drop index items) ≡ added_axes items
  pub ellipses : dots + ellipses (drop index items) ≡ ellipses items
  pub few : ints + slices + news + dots ≤ index

-- one item more
module _ (items : List IndexItem) (index ints slices news dots : ℕ)
    (h : Counted items index ints slices news dots) where
  pub counted_integer : (k : ℤ) → drop index items ≡ At k ∷ drop (index + 1) items
      → Counted items (index + 1) (ints + 1) slices news dots
  counted_integer k front = record {
    named = omega (arith, h.named, ap named_axes front);
    integers = omega (arith, h.integers, ap integers front);
    new_axes = omega (arith, h.new_axes, ap added_axes front);
    ellipses = omega (arith, h.ellipses, ap ellipses front);
    few = omega (arith, h.few);
  }

  pub counted_slice : (start stop step : Option ℤ) → drop index items ≡ Slice start stop step ∷ drop (index + 1) items
      → Counted items (index + 1) ints (slices + 1) news dots
  counted_slice start stop step front = record {
    named = omega (arith, h.named, ap named_axes front);
    integers = omega (arith, h.integers, ap integers front);
    new_axes = omega (arith, h.new_axes, ap added_axes front);
    ellipses = omega (arith, h.ellipses, ap ellipses front);
    few = omega (arith, h.few);
  }

  pub counted_new_axis : drop index items ≡ NewAxis ∷ drop (index + 1) items
      → Counted items (index + 1) ints slices (news + 1) dots
  counted_new_axis front = record {
    named = omega (arith, h.named, ap named_axes front);
    integers = omega (arith, h.integers, ap integers front);
    new_axes = omega (arith, h.new_axes, ap added_axes front);
    ellipses = omega (arith, h.ellipses, ap ellipses front);
    few = omega (arith, h.few);
  }

  pub counted_ellipsis : drop index items ≡ Ellipsis ∷ drop (index + 1) items
      → Counted items (index + 1) ints slices news (dots + 1)
  counted_ellipsis front = record {
    named = omega (arith, h.named, ap named_axes front);
    integers = omega (arith, h.integers, ap integers front);
    new_axes = omega (arith, h.new_axes, ap added_axes front);
    ellipses = omega (arith, h.ellipses, ap ellipses front);
    few = omega (arith, h.few);
  }
