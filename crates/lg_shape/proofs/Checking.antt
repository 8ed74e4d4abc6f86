-- What is known of an index whose items were counted, and its first fault.
use Rattle.std.proofs.Common.{◌≡◌, ℕ, ◌+◌, ◌-◌, ◌<◌, ◌≤◌, Bool, true, false, List, [], ◌++◌, length, nat_lt, if◌then◌else◌, Option, Some, None, refl, sym, ap, subst, ◌∙◌, arith, length-append}
use Rattle.std.specs.Option.{option_or}
use Rattle.std.proofs.lemmas.Bool.Decides.{nat_tests}
use Rattle.lg_space.specs.declared.point.TheConstants.{MAX_AXES}
use Rattle.lg_shape.specs.Stored.{IsShape}
use Rattle.lg_shape.specs.Steps.{AreStepsOf}
use Rattle.lg_shape.specs.Indexing.{new_shape, item_fault, named_axes, ellipses, missing_axes, indexed_shape, index_fault, Picks}
use Rattle.lg_shape.specs.IndexSteps.{cut_steps, promote_steps, integers, added_axes, taken_axes}
use Rattle.lg_shape.specs.declared.step.Step.{Step}
use Rattle.lg_shape.specs.declared.index.IndexItem.{IndexItem}
use Rattle.lg_shape.specs.declared.index.IndexFault.{IndexFault}
use Rattle.lg_shape.specs.declared.index.IndexFault.TheVariants.{TwoEllipses, TooMany, TooManyAxes}
use Rattle.lg_shape.proofs.Picking.{length-cuts, length-promotes, length-new_shape, integers-most, taken_most, index_allowed, index_limits, index_picks}

-- there is one `...` at most, and no more integers and slices than axes
pub record Checked (shape : List ℕ) (items : List IndexItem) (missing : ℕ) : Type 0 where
  pub limits : IsShape shape
  pub one : ellipses items ≤ 1
  pub named : named_axes items ≤ length shape
  pub missing_is : missing ≡ missing_axes shape items

passed : (b : Bool) (x y : Option IndexFault) → b ≡ false → (if b then x else y) ≡ y
passed true x y e = (cc)
passed false x y e = refl

raised : (b : Bool) (x y : Option IndexFault) → b ≡ true → (if b then x else y) ≡ x
raised true x y e = refl
raised false x y e = (cc)

not_below : (a b : ℕ) → b ≤ a → nat_lt a b ≡ false
not_below a b h = grind (arith, nat_tests)

is_below : (a b : ℕ) → a < b → nat_lt a b ≡ true
is_below a b h = grind (arith, nat_tests)

module _ (shape : List ℕ) (items : List IndexItem) (missing : ℕ) (h : Checked shape items missing) where
  pub checked_taken : taken_axes missing items ≤ length shape
  checked_taken = subst (λ n. taken_axes n items ≤ length shape) (sym h.missing_is) (taken_most shape items h.one h.named)

  -- how many axes the view has
  axes : length (new_shape missing shape items) ≡ length shape - integers items + added_axes items
  axes = omega (arith, length-new_shape missing shape items checked_taken, integers-most items, h.named)

  -- the last fault is all that is left
  last_fault : item_fault 0 missing shape items ≡ None
      → index_fault shape items ≡ (if nat_lt MAX_AXES (length (new_shape missing shape items)) then Some TooManyAxes else None)
  last_fault none =
      let last : ℕ → Option IndexFault = λ n. option_or (item_fault 0 n shape items) (if nat_lt MAX_AXES (length (new_shape n shape items)) then Some TooManyAxes else None) in
      let third = last (missing_axes shape items) in
      passed (nat_lt 1 (ellipses items)) (Some TwoEllipses) (if nat_lt (length shape) (named_axes items) then Some TooMany else third) (not_below 1 (ellipses items) h.one)
      ∙ passed (nat_lt (length shape) (named_axes items)) (Some TooMany) third (not_below (length shape) (named_axes items) h.named)
      ∙ ap last (sym h.missing_is)
      ∙ ap (λ fault. option_or fault (if nat_lt MAX_AXES (length (new_shape missing shape items)) then Some TooManyAxes else None)) none

  pub checked_too_many : item_fault 0 missing shape items ≡ None → MAX_AXES < length shape - integers items + added_axes items → index_fault shape items ≡ Some TooManyAxes
  checked_too_many none many = last_fault none ∙ raised _ (Some TooManyAxes) None (is_below MAX_AXES (length (new_shape missing shape items)) (omega (arith, axes)))

  pub record Fine (few : length shape - integers items + added_axes items ≤ MAX_AXES) (none : item_fault 0 missing shape items ≡ None) : Type 0 where
    pub no_fault : index_fault shape items ≡ None
    pub axes_small : taken_axes missing items + added_axes items ≤ 8
    pub room : length (cut_steps 0 missing shape items) + added_axes items ≤ 8
    pub allowed : AreStepsOf (cut_steps 0 missing shape items ++ promote_steps 0 missing items) shape
    pub within : IsShape (indexed_shape shape items)
    pub picks : Picks shape items (cut_steps 0 missing shape items ++ promote_steps 0 missing items)
    pub count : length (cut_steps 0 missing shape items ++ promote_steps 0 missing items) ≤ 8

  pub checked_fine : (few : length shape - integers items + added_axes items ≤ MAX_AXES) (none : item_fault 0 missing shape items ≡ None) → Fine few none
  checked_fine few none =
      let small : length (new_shape missing shape items) ≤ MAX_AXES = omega (arith, axes) in
      let cuts = cut_steps 0 missing shape items in
      let promotes = promote_steps 0 missing items in
      let most = integers-most items in
      let room : length cuts + added_axes items ≤ 8 = omega (arith, length-cuts 0 missing shape items, h.named, h.limits.axes) in
      record {
        no_fault = last_fault none ∙ passed _ (Some TooManyAxes) None (not_below MAX_AXES (length (new_shape missing shape items)) small);
        axes_small = omega (arith, checked_taken, h.named, h.limits.axes);
        room = room;
        within = subst (λ n. IsShape (new_shape n shape items)) h.missing_is (index_limits shape items h.limits missing h.missing_is checked_taken none small);
        allowed = index_allowed shape items h.limits missing h.missing_is checked_taken none small;
        picks = index_picks shape items h.limits missing h.missing_is checked_taken none small;
        count = omega (arith, length-append cuts promotes, length-promotes 0 missing items);
      }

-- the same, of what the code has
pub checked_by : (shape extents : List ℕ) (items : List IndexItem) (ints slices dots : ℕ) → extents ≡ shape → IsShape shape
    → ints + slices ≡ named_axes items → dots ≡ ellipses items → dots ≤ 1 → ints + slices ≤ length extents
    → Checked extents items (length extents - (ints + slices))
checked_by shape extents items ints slices dots same limits named dotted one enough = record {
  limits = subst IsShape (sym same) limits;
  one = omega (arith, dotted);
  named = omega (arith, named);
  missing_is = ap (λ n. length extents - n) named;
}

-- what holds at the end, of the steps in the order in which they were added
pub record Done (shape extents : List ℕ) (items : List IndexItem) (missing : ℕ) : Type 0 where
  pub no_fault : None ≡ index_fault shape items
  pub within : IsShape (indexed_shape shape items)
  pub axes_small : taken_axes missing items + added_axes items ≤ 8
  pub room : (steps : List Step) (capacity : ℕ) → steps ≡ [] ++ cut_steps 0 missing extents items → capacity ≡ 8 → length steps + added_axes items ≤ capacity
  pub allowed : (steps : List Step) → steps ≡ ([] ++ cut_steps 0 missing extents items) ++ promote_steps 0 missing items → AreStepsOf steps shape
  pub picks : (steps : List Step) → steps ≡ ([] ++ cut_steps 0 missing extents items) ++ promote_steps 0 missing items → Picks shape items steps
  pub count : (steps : List Step) → steps ≡ ([] ++ cut_steps 0 missing extents items) ++ promote_steps 0 missing items → length steps ≤ 8

pub done_by : (shape extents : List ℕ) (items : List IndexItem) (missing ints news : ℕ) → extents ≡ shape → Checked extents items missing
    → ints ≡ integers items → news ≡ added_axes items → length extents - ints + news ≤ MAX_AXES → None ≡ item_fault 0 missing extents items
    → Done shape extents items missing
done_by shape extents items missing ints news same h counted added few none =
    let fine = checked_fine extents items missing h (omega (arith, counted, added)) (sym none) in
    record {
      no_fault = sym fine.no_fault ∙ ap (λ s. index_fault s items) same;
      within = subst (λ s. IsShape (indexed_shape s items)) same fine.within;
      axes_small = fine.axes_small;
      room = λ steps capacity e size. omega (arith, fine.room, ap length e, size);
      allowed = λ steps e. subst (AreStepsOf steps) same (subst (λ l. AreStepsOf l extents) (sym e) fine.allowed);
      picks = λ steps e. subst (λ s. Picks s items steps) same (subst (Picks extents items) (sym e) fine.picks);
      count = λ steps e. omega (arith, fine.count, ap length e);
    }
