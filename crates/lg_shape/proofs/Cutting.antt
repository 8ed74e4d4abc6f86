-- The steps for integers and slices, item by item.
use Rattle.std.proofs.Common.{◌≡◌, ℕ, zero, suc, ◌+◌, ◌-◌, ◌≤◌, Bool, true, false, List, [], ◌∷◌, ◌++◌, length, get_or, take, drop, Option, Some, None, ℤ, pos, if◌then◌else◌, refl, sym, ap, subst, ◌∙◌, arith, add-one, append_assoc, length-append, length-drop}
use Rattle.std.specs.List.{All}
use Rattle.std.proofs.lemmas.Option.{same_Some}
use Rattle.std.proofs.lemmas.List.{take_all}
use Rattle.std.proofs.lemmas.List.Elements.{All-tail}
use Rattle.lg_space.specs.Stored.{MAX_END}
use Rattle.lg_shape.specs.Indexing.{has_coordinate, coordinate, kept_range, is_plain, named_axes, item_fault}
use Rattle.lg_shape.specs.IndexSteps.{cut_steps, taken_axes}
use Rattle.lg_shape.specs.declared.step.Step.{Step}
use Rattle.lg_shape.specs.declared.step.Step.TheVariants.{Project, Slice}
use Rattle.lg_shape.specs.declared.index.IndexItem.{IndexItem}
use Rattle.lg_shape.specs.declared.index.IndexItem.TheVariants.{At, Slice as Range, NewAxis, Ellipsis}
use Rattle.lg_shape.specs.declared.index.IndexFault.{IndexFault}
use Rattle.lg_shape.specs.declared.index.IndexFault.TheVariants.{OutOfRange, Step as BadStep}

-- every extent is within the limit, of the axes from one on too
all-drop : (n : ℕ) (shape : List ℕ) → All (λ extent. extent ≤ MAX_END) shape → All (λ extent. extent ≤ MAX_END) (drop n shape)
all-drop zero shape h = h
all-drop (suc n) [] h = h
all-drop (suc n) (extent ∷ shape) h = all-drop n shape (All-tail (λ e. e ≤ MAX_END) extent shape h)

-- the steps so far, and those of the items behind, make up the whole, and no item so far has a
-- fault
pub record Cutting (items : List IndexItem) (missing capacity : ℕ) (all : List Step) (fault : Option IndexFault)
    (index axis : ℕ) (rest : List ℕ) (steps : List Step) (room : ℕ) : Type 0 where
  pub so_far : steps ++ cut_steps axis missing rest (drop index items) ≡ all
  pub fault_behind : item_fault index missing rest (drop index items) ≡ fault
  pub taken : taken_axes missing (drop index items) ≤ length rest
  pub few : axis + length rest ≤ 4
  pub extents : All (λ extent. extent ≤ MAX_END) rest
  pub fits : length steps + named_axes (drop index items) ≤ room
  pub same : room ≡ capacity

module _ (items : List IndexItem) (missing capacity : ℕ) (all : List Step) (fault : Option IndexFault) (index axis : ℕ) where
  -- an item that names no axis
  pub cutting_new_axis : (rest : List ℕ) (steps : List Step) (room : ℕ) → Cutting items missing capacity all fault index axis rest steps room
      → drop index items ≡ NewAxis ∷ drop (index + 1) items → Cutting items missing capacity all fault (index + 1) axis rest steps room
  cutting_new_axis rest steps room h front = record {
    so_far = ap (λ i. steps ++ cut_steps axis missing rest i) (sym front) ∙ h.so_far;
    fault_behind = ap (λ n. item_fault n missing rest (drop (index + 1) items)) (add-one index) ∙ ap (item_fault index missing rest) (sym front) ∙ h.fault_behind;
    taken = omega (arith, h.taken, ap (taken_axes missing) front);
    few = h.few;
    extents = h.extents;
    fits = omega (arith, h.fits, ap named_axes front);
    same = h.same;
  }

  pub cutting_ellipsis : (rest : List ℕ) (steps : List Step) (room : ℕ) → Cutting items missing capacity all fault index axis rest steps room
      → drop index items ≡ Ellipsis ∷ drop (index + 1) items
      → Cutting items missing capacity all fault (index + 1) (axis + missing) (drop missing rest) steps room
  cutting_ellipsis rest steps room h front = record {
    so_far = ap (λ i. steps ++ cut_steps axis missing rest i) (sym front) ∙ h.so_far;
    fault_behind = ap (λ n. item_fault n missing (drop missing rest) (drop (index + 1) items)) (add-one index) ∙ ap (item_fault index missing rest) (sym front) ∙ h.fault_behind;
    taken = omega (arith, h.taken, ap (taken_axes missing) front, length-drop missing rest);
    few = omega (arith, h.few, h.taken, ap (taken_axes missing) front, length-drop missing rest);
    extents = all-drop missing rest h.extents;
    fits = omega (arith, h.fits, ap named_axes front);
    same = h.same;
  }

  pub cutting_integer : (rest : List ℕ) (steps : List Step) (room : ℕ) (k : ℤ) → Cutting items missing capacity all fault index axis rest steps room
      → drop index items ≡ At k ∷ drop (index + 1) items → has_coordinate (get_or rest 0 0) k ≡ true
      → Cutting items missing capacity all fault (index + 1) axis (drop 1 rest) (steps ++ Project axis (coordinate (get_or rest 0 0) k) ∷ []) room
  cutting_integer [] steps room k h front there = absurd (omega (arith, h.taken, ap (taken_axes missing) front))
  cutting_integer (extent ∷ rest) steps room k h front there =
      let next = item_fault (suc index) missing rest (drop (index + 1) items) in
      record {
        so_far = append_assoc steps (Project axis (coordinate extent k) ∷ []) (cut_steps axis missing rest (drop (index + 1) items))
            ∙ ap (λ i. steps ++ cut_steps axis missing (extent ∷ rest) i) (sym front) ∙ h.so_far;
        fault_behind = ap (λ n. item_fault n missing rest (drop (index + 1) items)) (add-one index)
            ∙ sym (ap (λ b. if b then next else Some (OutOfRange index)) there)
            ∙ ap (item_fault index missing (extent ∷ rest)) (sym front) ∙ h.fault_behind;
        taken = omega (arith, h.taken, ap (taken_axes missing) front);
        few = omega (arith, h.few);
        extents = All-tail (λ e. e ≤ MAX_END) extent rest h.extents;
        fits = omega (arith, h.fits, ap named_axes front, length-append steps (Project axis (coordinate extent k) ∷ []));
        same = h.same;
      }

  pub cutting_slice : (rest : List ℕ) (steps : List Step) (room : ℕ) (start stop step : Option ℤ) (low high : ℕ) → Cutting items missing capacity all fault index axis rest steps room
      → drop index items ≡ Range start stop step ∷ drop (index + 1) items → is_plain step ≡ true
      → low ≡ (kept_range (get_or rest 0 0) start stop).0 → high ≡ (kept_range (get_or rest 0 0) start stop).1
      → Cutting items missing capacity all fault (index + 1) (axis + 1) (drop 1 rest) (steps ++ Slice axis low (high - low) (pos 1) ∷ []) room
  cutting_slice [] steps room start stop step low high h front plain l g = absurd (omega (arith, h.taken, ap (taken_axes missing) front))
  cutting_slice (extent ∷ rest) steps room start stop step low high h front plain l g =
      let next = item_fault (suc index) missing rest (drop (index + 1) items) in
      record {
        so_far = append_assoc steps (Slice axis low (high - low) (pos 1) ∷ []) (cut_steps (axis + 1) missing rest (drop (index + 1) items))
            ∙ ap (λ n. steps ++ Slice axis low (high - low) (pos 1) ∷ cut_steps n missing rest (drop (index + 1) items)) (add-one axis)
            ∙ ap (λ n. steps ++ Slice axis n (high - n) (pos 1) ∷ cut_steps (suc axis) missing rest (drop (index + 1) items)) l
            ∙ ap (λ n. steps ++ Slice axis (kept_range extent start stop).0 (n - (kept_range extent start stop).0) (pos 1) ∷ cut_steps (suc axis) missing rest (drop (index + 1) items)) g
            ∙ ap (λ i. steps ++ cut_steps axis missing (extent ∷ rest) i) (sym front) ∙ h.so_far;
        fault_behind = ap (λ n. item_fault n missing rest (drop (index + 1) items)) (add-one index)
            ∙ sym (ap (λ b. if b then next else Some (BadStep index)) plain)
            ∙ ap (item_fault index missing (extent ∷ rest)) (sym front) ∙ h.fault_behind;
        taken = omega (arith, h.taken, ap (taken_axes missing) front);
        few = omega (arith, h.few);
        extents = All-tail (λ e. e ≤ MAX_END) extent rest h.extents;
        fits = omega (arith, h.fits, ap named_axes front, length-append steps (Slice axis low (high - low) (pos 1) ∷ []));
        same = h.same;
      }

-- a choice by a test
pub some_of_choice : (b : Bool) (x y : ℕ) → Some x ≡ (if b then Some y else None) → (b ≡ true) × (x ≡ y)
some_of_choice true x y e = (refl, same_Some x y e)
some_of_choice false x y e = (cc)

-- the same, of values that are equal to these
pub cutting_along : (items : List IndexItem) (missing capacity : ℕ) (all : List Step) (fault : Option IndexFault) (index axis : ℕ) (rest : List ℕ) (steps : List Step) (room : ℕ)
    (axis' : ℕ) (rest' : List ℕ) (steps' : List Step) (room' : ℕ) → axis' ≡ axis → rest' ≡ rest → steps' ≡ steps → room' ≡ room
    → Cutting items missing capacity all fault index axis rest steps room → Cutting items missing capacity all fault index axis' rest' steps' room'
cutting_along items missing capacity all fault index axis rest steps room axis' rest' steps' room' a r s o h =
    subst (λ n. Cutting items missing capacity all fault index n rest' steps' room') (sym a)
    (subst (λ l. Cutting items missing capacity all fault index axis l steps' room') (sym r)
    (subst (λ l. Cutting items missing capacity all fault index axis rest l room') (sym s)
    (subst (λ n. Cutting items missing capacity all fault index axis rest steps n) (sym o) h)))

-- what `&rest[n..]` is
pub behind : (n : ℕ) (rest : List ℕ) → take (length rest - n) (drop n rest) ≡ drop n rest
behind n rest = take_all (length rest - n) (drop n rest) (omega (arith, length-drop n rest))
