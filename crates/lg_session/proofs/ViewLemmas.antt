-- A view of a view is one of the same root.
use Rattle.std.proofs.Common.{◌≡◌, ◌==◌, eqb-true, ◌&&◌, ℕ, zero, suc, ◌+◌, ◌-◌, ◌*◌, ◌<◌, ◌≤◌, Bool, true, false, List, [], ◌∷◌, ◌++◌, length, take, drop, map, Option, Some, None, ℤ, pos, negsuc, refl, sym, ap, subst, ◌∙◌, arith, nat_lt, if◌then◌else◌, slice_get}
use Rattle.std.specs.List.{range_with_len, list_all}
use Rattle.std.specs.Option.{option_or}
use Rattle.std.proofs.lemmas.List.{take-append-drop, append-nil}
use Rattle.std.proofs.lemmas.Option.{slice_get_within, get_or_from_slice_get, same_Some}
use Rattle.std.proofs.lemmas.List.FromFn.{length-range_with_len, get_or-range_with_len}
use Rattle.lg_space.specs.Rectangle.{IsIn, numbers_in, combinations}
use Rattle.lg_space.proofs.Combinations.{PicksAt, combination_of}
use Rattle.lg_space.proofs.Places.{place-below}
use Rattle.lg_shape.specs.Shapes.{size_of, whole, place_of}
use Rattle.lg_shape.specs.Indexing.{choices, coordinate, has_coordinate, bound, kept_range, is_plain, new_shape, item_fault, index_fault, indexed_shape, missing_axes, ellipses, named_axes}
use Rattle.lg_elem.specs.declared.dtype.DType.{DType}
use Rattle.lg_meaning.specs.Memory.{Right, ArrayKind}
use Rattle.lg_meaning.specs.Indices.{are_integers, is_element, picked_kind}
use Rattle.lg_shape.specs.declared.index.IndexItem.{IndexItem}
use Rattle.lg_shape.specs.declared.index.IndexItem.TheVariants.{At, Slice, NewAxis, Ellipsis}
use Rattle.lg_shape.specs.declared.index.IndexFault.{IndexFault}
use Rattle.lg_shape.specs.declared.index.IndexFault.TheVariants.{OutOfRange, Step as BadStep, TwoEllipses, TooMany, TooManyAxes}

le_product : (a b c d : ℕ) → a ≤ b → c ≤ d → a * c ≤ b * d
le_product a b c d first second =
    let e : b ≡ a + (b - a) = omega (arith, first) in
    let f : d ≡ c + (d - c) = omega (arith, second) in
    let wide : b * d ≡ (a + (b - a)) * (c + (d - c)) = ap (λ n. n * d) e ∙ ap (λ n. (a + (b - a)) * n) f in
    omega (arith, wide)

pub size_joined : (xs ys : List ℕ) → size_of (xs ++ ys) ≡ size_of xs * size_of ys
size_joined [] ys = omega arith
size_joined (x ∷ xs) ys =
    let assoc : (x - 0) * (size_of xs * size_of ys) ≡ (x - 0) * size_of xs * size_of ys = omega arith in
    ap (λ n. (x - 0) * n) (size_joined xs ys) ∙ assoc

bound_most : (extent : ℕ) (stop : Option ℤ) → bound extent extent stop ≤ extent
bound_most extent None = omega arith
bound_most extent (Some (pos k)) = omega arith
bound_most extent (Some (negsuc k)) = omega arith

-- a slice keeps at most the whole axis
kept_most : (extent : ℕ) (start stop : Option ℤ) → length (numbers_in (kept_range extent start stop)) ≤ extent
kept_most extent start stop =
    omega (arith, length-range_with_len (bound extent 0 start) (bound extent extent stop - bound extent 0 start), bound_most extent stop)

-- an axis with a coordinate has an extent
coordinate_some : (extent : ℕ) (k : ℤ) → has_coordinate extent k ≡ true → 1 ≤ extent
coordinate_some extent (pos k) h = grind (arith, h)
coordinate_some extent (negsuc k) h = grind (arith, h)

unless_none : {A : Type 0} (b : Bool) (o : Option A) (x : A) → (if b then o else Some x) ≡ None → (b ≡ true) × (o ≡ None)
unless_none true o x e = (refl, e)
unless_none false o x e = cc

-- the view has at most as many elements as the one before it
pub size-new_shape : (place missing : ℕ) (shape : List ℕ) (items : List IndexItem) → item_fault place missing shape items ≡ None → size_of (new_shape missing shape items) ≤ size_of shape
size-new_shape place missing shape [] none = omega arith
size-new_shape place missing shape (NewAxis ∷ items) none =
    let rest = size-new_shape (suc place) missing shape items none in
    omega (arith, rest)
size-new_shape place missing shape (Ellipsis ∷ items) none =
    let rest = size-new_shape (suc place) missing (drop missing shape) items none in
    let most = le_product (size_of (take missing shape)) (size_of (take missing shape)) (size_of (new_shape missing (drop missing shape) items)) (size_of (drop missing shape)) (omega arith) rest in
    omega (arith, most, size_joined (take missing shape) (new_shape missing (drop missing shape) items), size_joined (take missing shape) (drop missing shape), ap size_of (take-append-drop missing shape))
size-new_shape place missing [] (At k ∷ items) none = omega arith
size-new_shape place missing (extent ∷ shape) (At k ∷ items) none =
    let p = unless_none (has_coordinate extent k) (item_fault (suc place) missing shape items) (OutOfRange place) none in
    let rest = size-new_shape (suc place) missing shape items p.1 in
    let some = coordinate_some extent k p.0 in
    let most = le_product 1 (extent - 0) (size_of (new_shape missing shape items)) (size_of shape) (omega (arith, some)) rest in
    omega (arith, most)
size-new_shape place missing [] (Slice start stop step ∷ items) none = omega arith
size-new_shape place missing (extent ∷ shape) (Slice start stop step ∷ items) none =
    let p = unless_none (is_plain step) (item_fault (suc place) missing shape items) (BadStep place) none in
    let rest = size-new_shape (suc place) missing shape items p.1 in
    le_product (length (numbers_in (kept_range extent start stop)) - 0) (extent - 0) (size_of (new_shape missing shape items)) (size_of shape)
    (omega (arith, kept_most extent start stop)) rest

-- where an index has no fault, no item has one
pub items_sound : (shape : List ℕ) (items : List IndexItem) → index_fault shape items ≡ None → item_fault 0 (missing_axes shape items) shape items ≡ None
items_sound shape items none = first (nat_lt 1 (ellipses items)) none
  where
    found : Option IndexFault
    found = item_fault 0 (missing_axes shape items) shape items

    third : (o : Option IndexFault) (b : Bool) → found ≡ o → option_or o (if b then Some TooManyAxes else None) ≡ None → found ≡ None
    third None b is e = is
    third (Some f) b is e = cc

    second : (b c : Bool) → (if b then Some TooMany else option_or found (if c then Some TooManyAxes else None)) ≡ None → found ≡ None
    second true c e = cc
    second false c e = third found c refl e

    first : (a : Bool) → (if a then Some TwoEllipses else (if nat_lt (length shape) (named_axes items) then Some TooMany
        else option_or found (if nat_lt 4 (length (indexed_shape shape items)) then Some TooManyAxes else None))) ≡ None → found ≡ None
    first true e = cc
    first false e = second (nat_lt (length shape) (named_axes items)) (nat_lt 4 (length (indexed_shape shape items))) e

-- the same of a whole index without a fault
pub size-indexed : (shape : List ℕ) (items : List IndexItem) → index_fault shape items ≡ None → size_of (indexed_shape shape items) ≤ size_of shape
size-indexed shape items none = size-new_shape 0 (missing_axes shape items) shape items (items_sound shape items none)

-- items are integers where each one is
pub integers_all : (items : List IndexItem) → list_all (λ item. are_integers (item ∷ [])) items ≡ are_integers items
integers_all [] = refl
integers_all (At x ∷ items) = integers_all items
integers_all (Slice start stop step ∷ items) = refl
integers_all (NewAxis ∷ items) = refl
integers_all (Ellipsis ∷ items) = refl

-- ---- each index that is picked is one of the shape

range_member : (low n d x : ℕ) → slice_get (range_with_len low n) d ≡ Some x → (low ≤ x) × (x < low + n)
range_member low n d x at =
    let below : d < n = omega (arith, slice_get_within (range_with_len low n) d x at, length-range_with_len low n) in
    let is : x ≡ low + d = sym (get_or_from_slice_get (range_with_len low n) d x 0 at) ∙ get_or-range_with_len low n d 0 below in
    (omega (arith, is), omega (arith, is, below))

pub coordinate_below : (extent : ℕ) (k : ℤ) → has_coordinate extent k ≡ true → coordinate extent k < extent
coordinate_below extent (pos k) h = grind (arith, h)
coordinate_below extent (negsuc k) h = let below : k < extent = grind (arith, h) in omega (arith, below)

only_member : (x d y : ℕ) → slice_get (x ∷ []) d ≡ Some y → x ≡ y
only_member x zero y at = same_Some x y at
only_member x (suc d) y at = cc

-- some whole axes, and others behind them
in_front : (front : List ℕ) (others : List (List ℕ)) (shape : List ℕ) → ((ds index : List ℕ) → PicksAt others ds index → IsIn (whole shape) index)
    → (ds index : List ℕ) → PicksAt (map numbers_in (whole front) ++ others) ds index → IsIn (whole (front ++ shape)) index
in_front [] others shape rest ds index picks = rest ds index picks
in_front (e ∷ front) others shape rest [] index picks = absurd picks
in_front (e ∷ front) others shape rest (d ∷ ds) [] picks = absurd picks
in_front (e ∷ front) others shape rest (d ∷ ds) (i ∷ index) picks =
    let member = range_member 0 (e - 0) d i picks.0 in
    (omega arith, omega (arith, member.1), in_front front others shape rest ds index picks.1)

no_choices : (ds index : List ℕ) → PicksAt [] ds index → IsIn (whole []) index
no_choices [] [] picks = tt
no_choices [] (i ∷ index) picks = absurd picks
no_choices (d ∷ ds) [] picks = absurd picks
no_choices (d ∷ ds) (i ∷ index) picks = absurd picks

pub choices_in : (place missing : ℕ) (shape : List ℕ) (items : List IndexItem) → item_fault place missing shape items ≡ None
    → (ds index : List ℕ) → PicksAt (choices missing shape items) ds index → IsIn (whole shape) index
choices_in place missing shape [] none ds index picks =
    subst (λ s. IsIn (whole s) index) (append-nil shape)
    (in_front shape [] [] no_choices ds index (subst (λ cs. PicksAt cs ds index) (sym (append-nil (map numbers_in (whole shape)))) picks))
choices_in place missing shape (NewAxis ∷ items) none ds index picks = choices_in (suc place) missing shape items none ds index picks
choices_in place missing shape (Ellipsis ∷ items) none ds index picks =
    subst (λ s. IsIn (whole s) index) (take-append-drop missing shape)
    (in_front (take missing shape) (choices missing (drop missing shape) items) (drop missing shape) (choices_in (suc place) missing (drop missing shape) items none) ds index picks)
choices_in place missing [] (At k ∷ items) none ds index picks = no_choices ds index picks
choices_in place missing (extent ∷ shape) (At k ∷ items) none [] index picks = absurd picks
choices_in place missing (extent ∷ shape) (At k ∷ items) none (d ∷ ds) [] picks = absurd picks
choices_in place missing (extent ∷ shape) (At k ∷ items) none (d ∷ ds) (i ∷ index) picks =
    let p = unless_none (has_coordinate extent k) (item_fault (suc place) missing shape items) (OutOfRange place) none in
    let is : coordinate extent k ≡ i = only_member (coordinate extent k) d i picks.0 in
    (omega arith, omega (arith, is, coordinate_below extent k p.0), choices_in (suc place) missing shape items p.1 ds index picks.1)
choices_in place missing [] (Slice start stop step ∷ items) none ds index picks = no_choices ds index picks
choices_in place missing (extent ∷ shape) (Slice start stop step ∷ items) none [] index picks = absurd picks
choices_in place missing (extent ∷ shape) (Slice start stop step ∷ items) none (d ∷ ds) [] picks = absurd picks
choices_in place missing (extent ∷ shape) (Slice start stop step ∷ items) none (d ∷ ds) (i ∷ index) picks =
    let p = unless_none (is_plain step) (item_fault (suc place) missing shape items) (BadStep place) none in
    let low = bound extent 0 start in
    let member = range_member low (bound extent extent stop - low) d i picks.0 in
    let within : i < bound extent extent stop = omega (arith, member.0, member.1) in
    (omega arith, omega (arith, within, bound_most extent stop), choices_in (suc place) missing shape items p.1 ds index picks.1)

-- the indices that an index picks
abbrev pub picked_indices : List ℕ → List IndexItem → List (List ℕ)
picked_indices shape items = combinations (choices (missing_axes shape items) shape items)

pub index_among : (shape : List ℕ) (items : List IndexItem) → index_fault shape items ≡ None
    → (k : ℕ) (index : List ℕ) → slice_get (picked_indices shape items) k ≡ Some index → place_of shape index < size_of shape
index_among shape items none k index at =
    let of = combination_of (choices (missing_axes shape items) shape items) k index at in
    place-below (whole shape) index (choices_in 0 (missing_axes shape items) shape items (items_sound shape items none) of.0 index of.1)

-- ---- one element

element_axes : (missing : ℕ) (shape : List ℕ) (items : List IndexItem) → are_integers items ≡ true → length items ≡ length shape → new_shape missing shape items ≡ []
element_axes missing [] [] all count = refl
element_axes missing (extent ∷ shape) [] all count = absurd (omega (arith, count))
element_axes missing [] (At k ∷ items) all count = refl
element_axes missing (extent ∷ shape) (At k ∷ items) all count = element_axes missing shape items all (omega (arith, count))
element_axes missing shape (Slice start stop step ∷ items) all count = cc
element_axes missing shape (NewAxis ∷ items) all count = cc
element_axes missing shape (Ellipsis ∷ items) all count = cc

-- one element has no axes
pub element_shape : (shape : List ℕ) (items : List IndexItem) → is_element shape items ≡ true → indexed_shape shape items ≡ []
element_shape shape items is = element_axes (missing_axes shape items) shape items (both (are_integers items) (length items == length shape) is).0
    (eqb-true (length items) (length shape) (both (are_integers items) (length items == length shape) is).1)
  where
    both : (a b : Bool) → (a && b) ≡ true → (a ≡ true) × (b ≡ true)
    both true b e = (refl, e)
    both false b e = cc

-- the kind that an index picks
pub kind_picked : (element : Bool) (kind : ArrayKind) (shape : List ℕ) (dtype : DType) (own : List ℕ) (right : Right) → dtype ≡ kind.dtype → own ≡ shape → (element ≡ true → shape ≡ [])
    → right ≡ (picked_kind element kind shape).right → record { dtype = dtype; shape = own; right = right } ≡ picked_kind element kind shape
kind_picked true kind shape dtype own right d s none r = let axes : own ≡ [] = s ∙ none refl in λ i. record { dtype = d i; shape = axes i; right = r i }
kind_picked false kind shape dtype own right d s none r = λ i. record { dtype = d i; shape = s i; right = r i }
