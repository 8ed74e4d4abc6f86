-- A view of a view has no place twice where that one has none.
use Rattle.std.proofs.Common.{◌≡◌, ℕ, ◌+◌, ◌-◌, ◌<◌, List, [], ◌∷◌, ◌++◌, length, take, drop, map, get_or, Option, None, Some, option_map, slice_get, refl, sym, ap, subst, ◌∙◌, arith}
use Rattle.std.specs.List.{range_with_len}
use Rattle.std.specs.List.Sorted.{IsPermutation}
use Rattle.std.proofs.lemmas.List.{take_all, ext_get_or}
use Rattle.std.proofs.lemmas.List.FromFn.{length-range_with_len, get_or-range_with_len}
use Rattle.std.proofs.lemmas.List.Sorted.{length_permutation}
use Rattle.std.proofs.lemmas.Option.{slice_get-map, slice_get-get_or, get_or_from_slice_get, slice_get_within, same_Some}
use Rattle.lg_space.specs.Rectangle.{IsIn, numbers_in, combinations}
use Rattle.lg_space.proofs.Combinations.{PicksAt, place_among, combination_of}
use Rattle.lg_space.proofs.Places.{place-below, stands_at_place, stands_once}
use Rattle.lg_shape.specs.Shapes.{whole, places, place_of, size_of}
use Rattle.lg_shape.specs.Views.{Layout, place_at, put_at, index_before, shape_after}
use Rattle.lg_shape.specs.Indexing.{choices, coordinate, bound, missing_axes, index_fault, indexed}
use Rattle.lg_shape.specs.declared.step.Step.TheVariants.{Transpose}
use Rattle.lg_shape.specs.declared.index.IndexItem.{IndexItem}
use Rattle.lg_shape.specs.declared.index.IndexItem.TheVariants.{At, Slice, NewAxis, Ellipsis}
use Rattle.lg_xform.proofs.Befores.{stays_inside}
use Rattle.lg_xform.proofs.Orders.{is_order, put_there}
use Rattle.lg_store.specs.declared.view.Right.{Right}
use Rattle.lg_store.specs.declared.view.Right.TheVariants.{Writable, ReadOnly, Scalar}
use Rattle.lg_meaning.specs.Memory.{writable, read_only}
use Rattle.lg_meaning.specs.Views.{view_right, transposed}
use Rattle.lg_operations.specs.Operations.{right_for}
use Rattle.lg_session.specs.Worlds.{NoRepeat}
use Rattle.lg_session.proofs.AxesLemmas.{index_count}
use Rattle.lg_session.proofs.ViewLemmas.{choices_in, items_sound, picked_indices}

-- ---- lists

-- no member stands twice in a list, whose members may be of any kind
abbrev pub IsOnce : (X : Type 0) → List X → Type 0
IsOnce X xs = (i j : ℕ) (x : X) → slice_get xs i ≡ Some x → slice_get xs j ≡ Some x → i ≡ j

-- what a member was before the rule was applied
mapped_from : {X Y : Type 0} (rule : X → Y) (xs : List X) (i : ℕ) (y : Y) → slice_get (map rule xs) i ≡ Some y → (x : X) × (slice_get xs i ≡ Some x) × (rule x ≡ y)
mapped_from {X} rule xs i y at = before (slice_get xs i) refl (sym (slice_get-map rule xs i) ∙ at)
  where
    before : (o : Option X) → slice_get xs i ≡ o → option_map rule o ≡ Some y → (x : X) × (slice_get xs i ≡ Some x) × (rule x ≡ y)
    before None is e = cc
    before (Some x) is e = (x, is, same_Some (rule x) y e)

-- a rule that takes no two members to one leaves none twice
pub once_mapped : {X Y : Type 0} (rule : X → Y) (xs : List X)
    → ((i j : ℕ) (a b : X) → slice_get xs i ≡ Some a → slice_get xs j ≡ Some b → rule a ≡ rule b → a ≡ b)
    → IsOnce X xs → IsOnce Y (map rule xs)
once_mapped rule xs apart once i j y at_i at_j =
    let a = mapped_from rule xs i y at_i in
    let b = mapped_from rule xs j y at_j in
    let same = apart i j a.0 b.0 a.1 b.1 (a.2 ∙ sym b.2) in
    once i j a.0 a.1 (b.1 ∙ ap Some (sym same))

-- numbers that follow one another
pub once_range : (low n : ℕ) → NoRepeat (range_with_len low n)
once_range low n i j x at_i at_j = omega (arith, stands i at_i, stands j at_j)
  where
    stands : (k : ℕ) → slice_get (range_with_len low n) k ≡ Some x → x ≡ low + k
    stands k at =
        let below : k < n = omega (arith, slice_get_within (range_with_len low n) k x at, length-range_with_len low n) in
        sym (get_or_from_slice_get (range_with_len low n) k x 0 at) ∙ get_or-range_with_len low n k 0 below

-- one member alone
once_alone : (x : ℕ) → NoRepeat (x ∷ [])
once_alone x i j y at_i at_j = omega (arith, slice_get_within (x ∷ []) i y at_i, slice_get_within (x ∷ []) j y at_j)

-- ---- combinations

-- no list has a member twice
abbrev AreOnce : List (List ℕ) → Type 0
AreOnce [] = Unit {0}
AreOnce (xs ∷ others) = NoRepeat xs × AreOnce others

once_joined : (first second : List (List ℕ)) → AreOnce first → AreOnce second → AreOnce (first ++ second)
once_joined [] second a b = b
once_joined (xs ∷ first) second a b = (a.0, once_joined first second a.1 b)

-- then the members of a combination have one place each in the lists
picked_once : (lists : List (List ℕ)) → AreOnce lists → (cs ds xs : List ℕ) → PicksAt lists cs xs → PicksAt lists ds xs → cs ≡ ds
picked_once [] once [] [] [] p q = refl
picked_once [] once [] [] (x ∷ xs) p q = absurd p
picked_once [] once [] (d ∷ ds) [] p q = absurd q
picked_once [] once [] (d ∷ ds) (x ∷ xs) p q = absurd p
picked_once [] once (c ∷ cs) ds [] p q = absurd p
picked_once [] once (c ∷ cs) ds (x ∷ xs) p q = absurd p
picked_once (list ∷ others) once [] ds xs p q = absurd p
picked_once (list ∷ others) once (c ∷ cs) ds [] p q = absurd p
picked_once (list ∷ others) once (c ∷ cs) [] (x ∷ xs) p q = absurd q
picked_once (list ∷ others) once (c ∷ cs) (d ∷ ds) (x ∷ xs) p q =
    let first : c ≡ d = once.0 c d x p.0 q.0 in
    let rest = picked_once others once.1 cs ds xs p.1 q.1 in
    cc (first, rest)

-- and no combination stands twice
once_combined : (lists : List (List ℕ)) → AreOnce lists → IsOnce (List ℕ) (combinations lists)
once_combined lists once i j index at_i at_j =
    let a = combination_of lists i index at_i in
    let b = combination_of lists j index at_j in
    sym a.2 ∙ ap (place_among lists) (picked_once lists once a.0 b.0 index a.1 b.1) ∙ b.2

-- the coordinates that an index chooses on an axis are each another one
once_whole : (shape : List ℕ) → AreOnce (map numbers_in (whole shape))
once_whole [] = tt
once_whole (extent ∷ shape) = (once_range 0 (extent - 0), once_whole shape)

once_chosen : (missing : ℕ) (shape : List ℕ) (items : List IndexItem) → AreOnce (choices missing shape items)
once_chosen missing shape [] = once_whole shape
once_chosen missing shape (NewAxis ∷ items) = once_chosen missing shape items
once_chosen missing shape (Ellipsis ∷ items) =
    once_joined (map numbers_in (whole (take missing shape))) (choices missing (drop missing shape) items) (once_whole (take missing shape)) (once_chosen missing (drop missing shape) items)
once_chosen missing [] (At k ∷ items) = tt
once_chosen missing (extent ∷ shape) (At k ∷ items) = (once_alone (coordinate extent k), once_chosen missing shape items)
once_chosen missing [] (Slice start stop step ∷ items) = tt
once_chosen missing (extent ∷ shape) (Slice start stop step ∷ items) =
    (once_range (bound extent 0 start) (bound extent extent stop - bound extent 0 start), once_chosen missing shape items)

-- ---- layouts

-- two indices of one place are one index
same_index : (shape a b : List ℕ) → IsIn (whole shape) a → IsIn (whole shape) b → place_of shape a ≡ place_of shape b → a ≡ b
same_index shape a b in_a in_b same =
    same_Some a b (sym (stands_at_place (whole shape) a in_a) ∙ ap (slice_get (places shape)) same ∙ stands_at_place (whole shape) b in_b)

-- where no place is twice, two indices of one member are one index
module _ (layout : Layout) (full : length layout.places ≡ size_of layout.shape) (once : NoRepeat layout.places) where
  place_there : (index : List ℕ) → IsIn (whole layout.shape) index → slice_get layout.places (place_of layout.shape index) ≡ Some (place_at layout index)
  place_there index inside =
      slice_get-get_or layout.places (place_of layout.shape index) 0 (omega (arith, place-below (whole layout.shape) index inside, full))

  same_member : (a b : List ℕ) → IsIn (whole layout.shape) a → IsIn (whole layout.shape) b → place_at layout a ≡ place_at layout b → a ≡ b
  same_member a b in_a in_b same =
      same_index layout.shape a b in_a in_b
      (once (place_of layout.shape a) (place_of layout.shape b) (place_at layout b) (place_there a in_a ∙ ap Some same) (place_there b in_b))

  -- what an index picks has no place twice
  pub once_indexed : (items : List IndexItem) → index_fault layout.shape items ≡ None → NoRepeat (indexed layout items).places
  once_indexed items none =
      once_mapped (place_at layout) (picked_indices layout.shape items)
      (λ i j a b at_a at_b. same_member a b (inside i a at_a) (inside j b at_b))
      (once_combined (choices (missing_axes layout.shape items) layout.shape items) (once_chosen (missing_axes layout.shape items) layout.shape items))
    where
      inside : (k : ℕ) (index : List ℕ) → slice_get (picked_indices layout.shape items) k ≡ Some index → IsIn (whole layout.shape) index
      inside k index at =
          let of = combination_of (choices (missing_axes layout.shape items) layout.shape items) k index at in
          choices_in 0 (missing_axes layout.shape items) layout.shape items (items_sound layout.shape items none) of.0 index of.1

  -- in another order of the axes two indices of one index are one
  module _ (order : List ℕ) (moves : IsPermutation (range_with_len 0 (length layout.shape)) order) where
    abbrev new_shape : List ℕ
    new_shape = shape_after (Transpose order) layout.shape

    abbrev before : List ℕ → List ℕ
    before = index_before (Transpose order)

    count : length order ≡ length layout.shape
    count = length_permutation (range_with_len 0 (length layout.shape)) order moves ∙ length-range_with_len 0 (length layout.shape)

    all : take (length layout.shape) order ≡ order
    all = take_all (length layout.shape) order (omega (arith, count))

    moves_front : IsPermutation (range_with_len 0 (length layout.shape)) (take (length layout.shape) order)
    moves_front = subst (IsPermutation (range_with_len 0 (length layout.shape))) (sym all) moves

    axes : (index : List ℕ) → IsIn (whole new_shape) index → length index ≡ length layout.shape
    axes index inside = index_count layout.shape (take (length layout.shape) order) index moves_front inside

    coordinate_there : (index : List ℕ) → IsIn (whole new_shape) index → (k : ℕ) → k < length layout.shape → get_or (before index) (get_or order k 0) 0 ≡ get_or index k 0
    coordinate_there index inside k below =
        let o = is_order (length layout.shape) order moves in
        let long = axes index inside in
        let same : take (length index) order ≡ order = take_all (length index) order (omega (arith, count, long)) in
        ap (λ axes. get_or (put_at axes index index) (get_or order k 0) 0) same
        ∙ put_there order index index k (omega (arith, count, long)) (omega (arith, count, below)) (λ i j lt in'. o.apart i j lt (omega (arith, in', count)))
        (omega (arith, o.below k below, long))

    same_before : (a b : List ℕ) → IsIn (whole new_shape) a → IsIn (whole new_shape) b → before a ≡ before b → a ≡ b
    same_before a b in_a in_b same =
        ext_get_or 0 a b (axes a in_a ∙ sym (axes b in_b))
        (λ k lt. (let below : k < length layout.shape = omega (arith, lt, axes a in_a) in
        sym (coordinate_there a in_a k below) ∙ ap (λ l. get_or l (get_or order k 0) 0) same ∙ coordinate_there b in_b k below))

    -- what a transpose makes has no place twice
    pub once_turned : NoRepeat (transposed order layout).places
    once_turned =
        once_mapped (λ index. place_at layout (before index)) (places new_shape)
        (λ i j a b at_a at_b same.
        (let in_a = (stands_once (whole new_shape) i a at_a).0 in
        let in_b = (stands_once (whole new_shape) j b at_b).0 in
        same_before a b in_a in_b (same_member (before a) (before b) (stays a in_a) (stays b in_b) same)))
        (λ i j index at_i at_j. sym (stands_once (whole new_shape) i index at_i).1 ∙ (stands_once (whole new_shape) j index at_j).1)
      where
        stays : (index : List ℕ) → IsIn (whole new_shape) index → IsIn (whole layout.shape) (before index)
        stays index inside = stays_inside (Transpose order) layout.shape index moves_front inside

-- ---- rights

-- a view of what may be read alone is read alone
pub writable_before : (old new : Right) → right_for new ≡ view_right (right_for old) → new ≡ Writable → old ≡ Writable
writable_before Writable new same is = refl
writable_before ReadOnly new same is = absurd (differ (sym (ap right_for is) ∙ same))
  where
    differ : writable ≡ read_only → ⊥
    differ e = cc
writable_before Scalar new same is = absurd (differ (sym (ap right_for is) ∙ same))
  where
    differ : writable ≡ read_only → ⊥
    differ e = cc

-- what may be read alone may not be written
pub not_writable : ReadOnly ≡ Writable → ⊥
not_writable e = cc
