-- The steps of an index lead to the view that it picks.
use Rattle.std.proofs.Common.{◌≡◌, ℕ, zero, suc, ◌+◌, ◌-◌, ◌*◌, ◌<◌, ◌≤◌, Bool, true, false, List, [], ◌∷◌, ◌++◌, length, map, get_or, set, take, drop, Option, Some, None, ℤ, pos, negsuc, if◌then◌else◌, refl, sym, ap, subst, ◌∙◌, inl, inr, arith, append-nil, length-append, length-take, length-drop}
use Rattle.std.specs.List.{flat_map, range_with_len, remove, All}
use Rattle.std.proofs.lemmas.List.Elements.{All-nil, All-cons, All-head, All-tail}
use Rattle.std.proofs.lemmas.Bool.{cases_lt}
use borrow.Author.Tests.{ltb-true}
use Rattle.std.proofs.lemmas.List.{map-id, take-append-drop}
use Rattle.std.proofs.lemmas.Simd.{map-map}
use Rattle.std.proofs.lemmas.List.FromFn.{length-range_with_len}
use Rattle.lg_space.specs.Rectangle.{combinations, numbers_in}
use Rattle.lg_space.specs.declared.point.TheConstants.{MAX_AXES}
use Rattle.lg_space.specs.Stored.{MAX_END}
use Rattle.lg_shape.specs.Shapes.{whole, places, place_of}
use Rattle.lg_shape.specs.Stored.{IsShape}
use Rattle.lg_shape.specs.Steps.{AreStepsOf}
use Rattle.lg_shape.specs.Views.{Layout, IsSliceOf, shape_after}
use Rattle.lg_shape.specs.Indexing.{coordinate, has_coordinate, bound, kept_range, is_plain, choices, new_shape, item_fault, named_axes, ellipses, missing_axes, Picks}
use Rattle.lg_shape.specs.IndexSteps.{cut_steps, promote_steps, integers, added_axes, taken_axes}
use Rattle.lg_shape.specs.declared.step.Step.{Step}
use Rattle.lg_shape.specs.declared.step.Step.TheVariants.{Promote, Project, Slice}
use Rattle.lg_shape.specs.declared.index.IndexItem.{IndexItem}
use Rattle.lg_shape.specs.declared.index.IndexItem.TheVariants.{At, Slice as Range, NewAxis, Ellipsis}
use Rattle.lg_shape.specs.declared.index.IndexFault.{IndexFault}
use Rattle.lg_shape.specs.declared.index.IndexFault.TheVariants.{OutOfRange, Step as BadStep}
use Rattle.lg_shape.proofs.Stepping.{through, shapes_after, Small, Good, all_stepped_is, through-append, shapes_after-append, good-append}
use Rattle.lg_shape.proofs.Deeper.{deeper, behind, AllPlain, through-deeper, shapes-deeper, good-deeper, product_mapped, shapes-behind, good-behind, places-behind}

-- how many coordinates a slice keeps
abbrev kept_count : ℕ → Option ℤ → Option ℤ → ℕ
kept_count extent start stop = (kept_range extent start stop).1 - (kept_range extent start stop).0

-- the shape between the two kinds of steps
abbrev cut_shape : ℕ → List ℕ → List IndexItem → List ℕ
cut_shape missing shape [] = shape
cut_shape missing shape (NewAxis ∷ items) = cut_shape missing shape items
cut_shape missing shape (Ellipsis ∷ items) = take missing shape ++ cut_shape missing (drop missing shape) items
cut_shape missing [] (At k ∷ items) = []
cut_shape missing (extent ∷ shape) (At k ∷ items) = cut_shape missing shape items
cut_shape missing [] (Range start stop step ∷ items) = []
cut_shape missing (extent ∷ shape) (Range start stop step ∷ items) = kept_count extent start stop ∷ cut_shape missing shape items

-- ---- where the first axis has another number, the steps lie deeper

cut-suc : (axis missing : ℕ) (shape : List ℕ) (items : List IndexItem) → cut_steps (suc axis) missing shape items ≡ map deeper (cut_steps axis missing shape items)
cut-suc axis missing shape [] = refl
cut-suc axis missing shape (NewAxis ∷ items) = cut-suc axis missing shape items
cut-suc axis missing shape (Ellipsis ∷ items) =
    let same : suc axis + missing ≡ suc (axis + missing) = omega arith in
    ap (λ n. cut_steps n missing (drop missing shape) items) same ∙ cut-suc (axis + missing) missing (drop missing shape) items
cut-suc axis missing [] (At k ∷ items) = refl
cut-suc axis missing (extent ∷ shape) (At k ∷ items) = ap (λ l. Project (suc axis) (coordinate extent k) ∷ l) (cut-suc axis missing shape items)
cut-suc axis missing [] (Range start stop step ∷ items) = refl
cut-suc axis missing (extent ∷ shape) (Range start stop step ∷ items) =
    ap (λ l. Slice (suc axis) (kept_range extent start stop).0 (kept_count extent start stop) (pos 1) ∷ l) (cut-suc (suc axis) missing shape items)

cut-behind : (front : List ℕ) (axis missing : ℕ) (shape : List ℕ) (items : List IndexItem) → length front ≡ axis
    → cut_steps axis missing shape items ≡ behind front (cut_steps 0 missing shape items)
cut-behind [] zero missing shape items e = refl
cut-behind [] (suc axis) missing shape items e = absurd (omega arith)
cut-behind (extent ∷ front) zero missing shape items e = absurd (omega arith)
cut-behind (extent ∷ front) (suc axis) missing shape items e =
    cut-suc axis missing shape items ∙ ap (map deeper) (cut-behind front axis missing shape items (omega arith))

promote-suc : (axis missing : ℕ) (items : List IndexItem) → promote_steps (suc axis) missing items ≡ map deeper (promote_steps axis missing items)
promote-suc axis missing [] = refl
promote-suc axis missing (NewAxis ∷ items) = ap (λ l. Promote (suc axis) 1 ∷ l) (promote-suc (suc axis) missing items)
promote-suc axis missing (Ellipsis ∷ items) =
    let same : suc axis + missing ≡ suc (axis + missing) = omega arith in
    ap (λ n. promote_steps n missing items) same ∙ promote-suc (axis + missing) missing items
promote-suc axis missing (At k ∷ items) = promote-suc axis missing items
promote-suc axis missing (Range start stop step ∷ items) = promote-suc (suc axis) missing items

promote-behind : (front : List ℕ) (axis missing : ℕ) (items : List IndexItem) → length front ≡ axis
    → promote_steps axis missing items ≡ behind front (promote_steps 0 missing items)
promote-behind [] zero missing items e = refl
promote-behind [] (suc axis) missing items e = absurd (omega arith)
promote-behind (extent ∷ front) zero missing items e = absurd (omega arith)
promote-behind (extent ∷ front) (suc axis) missing items e = promote-suc axis missing items ∙ ap (map deeper) (promote-behind front axis missing items (omega arith))

-- ---- all these steps are plain

cut_plain : (axis missing : ℕ) (shape : List ℕ) (items : List IndexItem) → AllPlain (cut_steps axis missing shape items)
cut_plain axis missing shape [] = tt
cut_plain axis missing shape (NewAxis ∷ items) = cut_plain axis missing shape items
cut_plain axis missing shape (Ellipsis ∷ items) = cut_plain (axis + missing) missing (drop missing shape) items
cut_plain axis missing [] (At k ∷ items) = tt
cut_plain axis missing (extent ∷ shape) (At k ∷ items) = (tt, cut_plain axis missing shape items)
cut_plain axis missing [] (Range start stop step ∷ items) = tt
cut_plain axis missing (extent ∷ shape) (Range start stop step ∷ items) = (tt, cut_plain (suc axis) missing shape items)

promote_plain : (axis missing : ℕ) (items : List IndexItem) → AllPlain (promote_steps axis missing items)
promote_plain axis missing [] = tt
promote_plain axis missing (NewAxis ∷ items) = (tt, promote_plain (suc axis) missing items)
promote_plain axis missing (Ellipsis ∷ items) = promote_plain (axis + missing) missing items
promote_plain axis missing (At k ∷ items) = promote_plain axis missing items
promote_plain axis missing (Range start stop step ∷ items) = promote_plain (suc axis) missing items

-- ---- the first kind: what the steps make of the shape, and of the indices

-- so many axes are there
front_axes : (missing rest : ℕ) (shape : List ℕ) → missing + rest ≤ length shape → length (take missing shape) ≡ missing
front_axes missing rest shape h = omega (arith, length-take missing shape)

cut_shapes : (missing : ℕ) (shape : List ℕ) (items : List IndexItem) → taken_axes missing items ≤ length shape
    → shapes_after (cut_steps 0 missing shape items) shape ≡ cut_shape missing shape items
cut_shapes missing shape [] h = refl
cut_shapes missing shape (NewAxis ∷ items) h = cut_shapes missing shape items h
cut_shapes missing shape (Ellipsis ∷ items) h =
    let front = take missing shape in
    let rest = drop missing shape in
    let axes : length front ≡ 0 + missing = omega (arith, front_axes missing (taken_axes missing items) shape h) in
    let room : taken_axes missing items ≤ length rest = omega (arith, length-drop missing shape) in
    ap (λ l. shapes_after (cut_steps (0 + missing) missing rest items) l) (sym (take-append-drop missing shape))
    ∙ ap (λ steps. shapes_after steps (front ++ rest)) (cut-behind front (0 + missing) missing rest items axes)
    ∙ shapes-behind front (cut_steps 0 missing rest items) rest (cut_plain 0 missing rest items)
    ∙ ap (λ l. front ++ l) (cut_shapes missing rest items room)
cut_shapes missing [] (At k ∷ items) h = absurd (omega arith)
cut_shapes missing (extent ∷ shape) (At k ∷ items) h = cut_shapes missing shape items (omega arith)
cut_shapes missing [] (Range start stop step ∷ items) h = absurd (omega arith)
cut_shapes missing (extent ∷ shape) (Range start stop step ∷ items) h =
    let count = kept_count extent start stop in
    ap (λ steps. shapes_after steps (count ∷ shape)) (cut-suc 0 missing shape items)
    ∙ shapes-deeper (cut_steps 0 missing shape items) count shape (cut_plain 0 missing shape items)
    ∙ ap (λ l. count ∷ l) (cut_shapes missing shape items (omega arith))

-- the numbers from a start on
shifted : (start a n : ℕ) → map (λ i. start + i * 1) (range_with_len a n) ≡ range_with_len (start + a) n
shifted start a zero = refl
shifted start a (suc n) =
    let first : start + a * 1 ≡ start + a = omega arith in
    let next : start + (a + 1) ≡ start + a + 1 = omega arith in
    λ i. first i ∷ (shifted start (a + 1) n ∙ ap (λ m. range_with_len m n) next) i

slice_numbers : (start count : ℕ) → map (λ i. start + i * 1) (numbers_in (0, count)) ≡ range_with_len start count
slice_numbers start count =
    let low : start + 0 ≡ start = omega arith in
    let all : count - 0 ≡ count = omega arith in
    shifted start 0 (count - 0) ∙ ap (λ m. range_with_len m (count - 0)) low ∙ ap (range_with_len start) all

cut_places : (missing : ℕ) (shape : List ℕ) (items : List IndexItem) → taken_axes missing items ≤ length shape
    → map (through (cut_steps 0 missing shape items)) (places (cut_shape missing shape items)) ≡ combinations (choices missing shape items)
cut_places missing shape [] h = map-id (places shape)
cut_places missing shape (NewAxis ∷ items) h = cut_places missing shape items h
cut_places missing shape (Ellipsis ∷ items) h =
    let front = take missing shape in
    let rest = drop missing shape in
    let axes : length front ≡ 0 + missing = omega (arith, front_axes missing (taken_axes missing items) shape h) in
    let room : taken_axes missing items ≤ length rest = omega (arith, length-drop missing shape) in
    ap (λ steps. map (through steps) (places (front ++ cut_shape missing rest items))) (cut-behind front (0 + missing) missing rest items axes)
    ∙ places-behind front (cut_steps 0 missing rest items) (cut_shape missing rest items) (choices missing rest items) (cut_plain 0 missing rest items)
    (cut_places missing rest items room)
cut_places missing [] (At k ∷ items) h = absurd (omega arith)
cut_places missing (extent ∷ shape) (At k ∷ items) h =
    let at = coordinate extent k in
    sym (map-map (λ rest. at ∷ rest) (through (cut_steps 0 missing shape items)) (places (cut_shape missing shape items)))
    ∙ ap (map (λ rest. at ∷ rest)) (cut_places missing shape items (omega arith))
    ∙ sym (append-nil (map (λ rest. at ∷ rest) (combinations (choices missing shape items))))
cut_places missing [] (Range start stop step ∷ items) h = absurd (omega arith)
cut_places missing (extent ∷ shape) (Range start stop step ∷ items) h =
    let low = (kept_range extent start stop).0 in
    let count = kept_count extent start stop in
    let steps = cut_steps 0 missing shape items in
    let others = places (cut_shape missing shape items) in
    ap (λ l. map (through (Slice 0 low count (pos 1) ∷ l)) (places (count ∷ cut_shape missing shape items))) (cut-suc 0 missing shape items)
    ∙ product_mapped (through (Slice 0 low count (pos 1) ∷ map deeper steps)) (λ i. low + i * 1) (through steps)
    (λ i rest. moved low count steps i rest (cut_plain 0 missing shape items)) others (numbers_in (0, count))
    ∙ ap (λ l. flat_map (λ i. map (λ rest. i ∷ rest) (map (through steps) others)) l) (slice_numbers low count)
    ∙ ap (λ l. flat_map (λ i. map (λ rest. i ∷ rest) l) (range_with_len low count)) (cut_places missing shape items (omega arith))
  where
    moved : (low count : ℕ) (steps : List Step) (i : ℕ) (rest : List ℕ) → AllPlain steps
        → through (Slice 0 low count (pos 1) ∷ map deeper steps) (i ∷ rest) ≡ (low + i * 1) ∷ through steps rest
    moved low count steps i rest plain = ap (λ index. set index 0 (low + get_or index 0 0 * 1)) (through-deeper steps i rest plain)

-- ---- the second kind

promote_shapes : (missing : ℕ) (shape : List ℕ) (items : List IndexItem) → taken_axes missing items ≤ length shape
    → shapes_after (promote_steps 0 missing items) (cut_shape missing shape items) ≡ new_shape missing shape items
promote_shapes missing shape [] h = refl
promote_shapes missing shape (NewAxis ∷ items) h =
    let cut = cut_shape missing shape items in
    ap (λ steps. shapes_after steps (1 ∷ cut)) (promote-suc 0 missing items)
    ∙ shapes-deeper (promote_steps 0 missing items) 1 cut (promote_plain 0 missing items)
    ∙ ap (λ l. 1 ∷ l) (promote_shapes missing shape items h)
promote_shapes missing shape (Ellipsis ∷ items) h =
    let front = take missing shape in
    let rest = drop missing shape in
    let cut = cut_shape missing rest items in
    let axes : length front ≡ 0 + missing = omega (arith, front_axes missing (taken_axes missing items) shape h) in
    let room : taken_axes missing items ≤ length rest = omega (arith, length-drop missing shape) in
    ap (λ steps. shapes_after steps (front ++ cut)) (promote-behind front (0 + missing) missing items axes)
    ∙ shapes-behind front (promote_steps 0 missing items) cut (promote_plain 0 missing items)
    ∙ ap (λ l. front ++ l) (promote_shapes missing rest items room)
promote_shapes missing [] (At k ∷ items) h = absurd (omega arith)
promote_shapes missing (extent ∷ shape) (At k ∷ items) h = promote_shapes missing shape items (omega arith)
promote_shapes missing [] (Range start stop step ∷ items) h = absurd (omega arith)
promote_shapes missing (extent ∷ shape) (Range start stop step ∷ items) h =
    let range = kept_range extent start stop in
    let cut = cut_shape missing shape items in
    ap (λ steps. shapes_after steps (kept_count extent start stop ∷ cut)) (promote-suc 0 missing items)
    ∙ shapes-deeper (promote_steps 0 missing items) (kept_count extent start stop) cut (promote_plain 0 missing items)
    ∙ ap (λ l. kept_count extent start stop ∷ l) (promote_shapes missing shape items (omega arith))
    ∙ ap (λ n. n ∷ new_shape missing shape items) (sym (length-range_with_len range.0 (range.1 - range.0)))

promote_places : (missing : ℕ) (shape : List ℕ) (items : List IndexItem) → taken_axes missing items ≤ length shape
    → map (through (promote_steps 0 missing items)) (places (new_shape missing shape items)) ≡ places (cut_shape missing shape items)
promote_places missing shape [] h = map-id (places shape)
promote_places missing shape (NewAxis ∷ items) h =
    let others = places (new_shape missing shape items) in
    let steps = promote_steps 0 missing items in
    ap (λ l. map (through (Promote 0 1 ∷ l)) (map (λ rest. 0 ∷ rest) others ++ [])) (promote-suc 0 missing items)
    ∙ ap (map (through (Promote 0 1 ∷ map deeper steps))) (append-nil (map (λ rest. 0 ∷ rest) others))
    ∙ added steps (promote_plain 0 missing items) others
    ∙ promote_places missing shape items h
  where
    added : (steps : List Step) → AllPlain steps → (others : List (List ℕ))
        → map (through (Promote 0 1 ∷ map deeper steps)) (map (λ rest. 0 ∷ rest) others) ≡ map (through steps) others
    added steps plain [] = refl
    added steps plain (rest ∷ others) = λ i. ap (λ index. remove index 0) (through-deeper steps 0 rest plain) i ∷ added steps plain others i
promote_places missing shape (Ellipsis ∷ items) h =
    let front = take missing shape in
    let rest = drop missing shape in
    let axes : length front ≡ 0 + missing = omega (arith, front_axes missing (taken_axes missing items) shape h) in
    let room : taken_axes missing items ≤ length rest = omega (arith, length-drop missing shape) in
    ap (λ steps. map (through steps) (places (front ++ new_shape missing rest items))) (promote-behind front (0 + missing) missing items axes)
    ∙ places-behind front (promote_steps 0 missing items) (new_shape missing rest items) (map numbers_in (whole (cut_shape missing rest items)))
    (promote_plain 0 missing items) (promote_places missing rest items room)
    ∙ ap combinations (whole-append front (cut_shape missing rest items))
  where
    whole-append : (front rest : List ℕ) → map numbers_in (whole front) ++ map numbers_in (whole rest) ≡ map numbers_in (whole (front ++ rest))
    whole-append [] rest = refl
    whole-append (extent ∷ front) rest = ap (λ l. numbers_in (0, extent) ∷ l) (whole-append front rest)
promote_places missing [] (At k ∷ items) h = absurd (omega arith)
promote_places missing (extent ∷ shape) (At k ∷ items) h = promote_places missing shape items (omega arith)
promote_places missing [] (Range start stop step ∷ items) h = absurd (omega arith)
promote_places missing (extent ∷ shape) (Range start stop step ∷ items) h =
    let range = kept_range extent start stop in
    let count = kept_count extent start stop in
    let steps = promote_steps 0 missing items in
    let others = places (new_shape missing shape items) in
    let numbers = numbers_in (0, count) in
    ap (λ n. map (through (promote_steps 1 missing items)) (places (n ∷ new_shape missing shape items))) (length-range_with_len range.0 (range.1 - range.0))
    ∙ ap (λ l. map (through l) (places (count ∷ new_shape missing shape items))) (promote-suc 0 missing items)
    ∙ product_mapped (through (map deeper steps)) (λ i. i) (through steps) (λ i rest. through-deeper steps i rest (promote_plain 0 missing items)) others numbers
    ∙ ap (λ l. flat_map (λ i. map (λ rest. i ∷ rest) (map (through steps) others)) l) (map-id numbers)
    ∙ ap (λ l. flat_map (λ i. map (λ rest. i ∷ rest) l) numbers) (promote_places missing shape items (omega arith))

-- ---- each step may be taken

small_more : (m : ℕ) (shape : List ℕ) → Small m shape → Small (suc m) shape
small_more m [] h = tt
small_more zero (extent ∷ shape) h = absurd h
small_more (suc m) (extent ∷ shape) h = (h.0, small_more m shape h.1)

-- what is known of the items where no item has a fault
has_of_fault : (b : Bool) (next : Option IndexFault) (fault : IndexFault) → ◌≡◌ {A = Option IndexFault} (if b then next else Some fault) None → (b ≡ true) × (next ≡ None)
has_of_fault true next fault e = (refl, e)
has_of_fault false next fault e = (cc)

coordinate-below : (extent : ℕ) (k : ℤ) → has_coordinate extent k ≡ true → coordinate extent k < extent
coordinate-below extent (pos k) e = omega (arith, ltb-true k extent e)
coordinate-below extent (negsuc k) e = omega (arith, ltb-true k extent e)

bound-within : (extent absent : ℕ) (given : Option ℤ) → absent ≤ extent → bound extent absent given ≤ extent
bound-within extent absent None h = h
bound-within extent absent (Some (pos k)) h = omega arith
bound-within extent absent (Some (negsuc k)) h = omega arith

slice_of : (low high extent : ℕ) → low ≤ extent → high ≤ extent → IsSliceOf low (high - low) (pos 1) extent
slice_of low high extent l h = (
  λ e. absurd (omega arith),
  l,
  elim (cases_lt low high) [
    | inl some ↦ inr (omega arith)
    | inr none ↦ inl (omega arith)
  ],
)

good_cuts : (place m missing : ℕ) (shape : List ℕ) (items : List IndexItem) → Small m shape → taken_axes missing items ≤ length shape
    → item_fault place missing shape items ≡ None → Good m (cut_steps 0 missing shape items) shape
good_cuts place m missing shape [] small h none = tt
good_cuts place m missing shape (NewAxis ∷ items) small h none = good_cuts (suc place) m missing shape items small h none
good_cuts place m missing shape (Ellipsis ∷ items) small h none =
    let front = take missing shape in
    let rest = drop missing shape in
    let axes : length front ≡ 0 + missing = omega (arith, front_axes missing (taken_axes missing items) shape h) in
    let room : taken_axes missing items ≤ length rest = omega (arith, length-drop missing shape) in
    let same = take-append-drop missing shape in
    let good = good-behind front (cut_steps 0 missing rest items) m rest rest (subst (Small m) (sym same) small) (λ n fits. good_cuts (suc place) n missing rest items fits room none) in
    subst (Good m (cut_steps (0 + missing) missing rest items)) same
    (subst (λ steps. Good m steps (front ++ rest)) (sym (cut-behind front (0 + missing) missing rest items axes)) good)
good_cuts place m missing [] (At k ∷ items) small h none = absurd (omega arith)
good_cuts place zero missing (extent ∷ shape) (At k ∷ items) small h none = absurd small
good_cuts place (suc m) missing (extent ∷ shape) (At k ∷ items) small h none =
    let there = has_of_fault (has_coordinate extent k) (item_fault (suc place) missing shape items) (OutOfRange place) none in
    let fits = small_more m shape small.1 in
    (tt, (omega arith, coordinate-below extent k there.0), fits, good_cuts (suc place) (suc m) missing shape items fits (omega arith) there.1)
good_cuts place m missing [] (Range start stop step ∷ items) small h none = absurd (omega arith)
good_cuts place zero missing (extent ∷ shape) (Range start stop step ∷ items) small h none = absurd small
good_cuts place (suc m) missing (extent ∷ shape) (Range start stop step ∷ items) small h none =
    let range = kept_range extent start stop in
    let there = has_of_fault (is_plain step) (item_fault (suc place) missing shape items) (BadStep place) none in
    let low = bound-within extent 0 start (omega arith) in
    let high = bound-within extent extent stop (omega arith) in
    let few : range.1 - range.0 ≤ MAX_END = omega (arith, small.0, high) in (
      tt,
      (omega arith, slice_of range.0 range.1 extent low high),
      (few, small.1),
      subst (λ steps. Good (suc m) steps (kept_count extent start stop ∷ shape)) (sym (cut-suc 0 missing shape items))
          (good-deeper m (cut_steps 0 missing shape items) (kept_count extent start stop) shape few (good_cuts (suc place) m missing shape items small.1 (omega arith) there.1)),
    )

small-behind : (front : List ℕ) (m : ℕ) (a b : List ℕ) → Small m (front ++ a) → ((n : ℕ) → Small n a → Small n b) → Small m (front ++ b)
small-behind [] m a b small change = change m small
small-behind (extent ∷ front) zero a b small change = absurd small
small-behind (extent ∷ front) (suc m) a b small change = (small.0, small-behind front m a b small.1 change)

-- without the new axes the shape is no longer
small_cut : (m missing : ℕ) (shape : List ℕ) (items : List IndexItem) → Small m (new_shape missing shape items) → Small m (cut_shape missing shape items)
small_cut m missing shape [] small = small
small_cut zero missing shape (NewAxis ∷ items) small = absurd small
small_cut (suc m) missing shape (NewAxis ∷ items) small = small_more m (cut_shape missing shape items) (small_cut m missing shape items small.1)
small_cut m missing shape (Ellipsis ∷ items) small =
    let rest = drop missing shape in
    small-behind (take missing shape) m (new_shape missing rest items) (cut_shape missing rest items) small (λ n fits. small_cut n missing rest items fits)
small_cut m missing [] (At k ∷ items) small = tt
small_cut m missing (extent ∷ shape) (At k ∷ items) small = small_cut m missing shape items small
small_cut m missing [] (Range start stop step ∷ items) small = tt
small_cut zero missing (extent ∷ shape) (Range start stop step ∷ items) small = absurd small
small_cut (suc m) missing (extent ∷ shape) (Range start stop step ∷ items) small =
    let range = kept_range extent start stop in
    (omega (arith, small.0, length-range_with_len range.0 (range.1 - range.0)), small_cut m missing shape items small.1)

good_promotes : (m missing : ℕ) (shape : List ℕ) (items : List IndexItem) → Small m (new_shape missing shape items) → taken_axes missing items ≤ length shape
    → Good m (promote_steps 0 missing items) (cut_shape missing shape items)
good_promotes m missing shape [] small h = tt
good_promotes zero missing shape (NewAxis ∷ items) small h = absurd small
good_promotes (suc m) missing shape (NewAxis ∷ items) small h =
    let cut = cut_shape missing shape items in (
      tt,
      omega arith,
      (small.0, small_cut m missing shape items small.1),
      subst (λ steps. Good (suc m) steps (1 ∷ cut)) (sym (promote-suc 0 missing items))
          (good-deeper m (promote_steps 0 missing items) 1 cut small.0 (good_promotes m missing shape items small.1 h)),
    )
good_promotes m missing shape (Ellipsis ∷ items) small h =
    let front = take missing shape in
    let rest = drop missing shape in
    let cut = cut_shape missing rest items in
    let axes : length front ≡ 0 + missing = omega (arith, front_axes missing (taken_axes missing items) shape h) in
    let room : taken_axes missing items ≤ length rest = omega (arith, length-drop missing shape) in
    subst (λ steps. Good m steps (front ++ cut)) (sym (promote-behind front (0 + missing) missing items axes))
    (good-behind front (promote_steps 0 missing items) m cut (new_shape missing rest items) small (λ n fits. good_promotes n missing rest items fits room))
good_promotes m missing [] (At k ∷ items) small h = absurd (omega arith)
good_promotes m missing (extent ∷ shape) (At k ∷ items) small h = good_promotes m missing shape items small (omega arith)
good_promotes m missing [] (Range start stop step ∷ items) small h = absurd (omega arith)
good_promotes zero missing (extent ∷ shape) (Range start stop step ∷ items) small h = absurd small
good_promotes (suc m) missing (extent ∷ shape) (Range start stop step ∷ items) small h =
    let range = kept_range extent start stop in
    let count = kept_count extent start stop in
    let few : count ≤ MAX_END = omega (arith, small.0, length-range_with_len range.0 (range.1 - range.0)) in
    subst (λ steps. Good (suc m) steps (count ∷ cut_shape missing shape items)) (sym (promote-suc 0 missing items))
    (good-deeper m (promote_steps 0 missing items) count (cut_shape missing shape items) few (good_promotes m missing shape items small.1 (omega arith)))

-- ---- the limits

-- no extent is too long
abbrev Ends : List ℕ → Type 0
Ends [] = Unit {0}
Ends (extent ∷ shape) = (extent ≤ MAX_END) × Ends shape

ends_of_all : (shape : List ℕ) → All (λ extent. extent ≤ MAX_END) shape → Ends shape
ends_of_all [] h = tt
ends_of_all (extent ∷ shape) h = (All-head (λ e. e ≤ MAX_END) extent shape h, ends_of_all shape (All-tail (λ e. e ≤ MAX_END) extent shape h))

ends-take : (n : ℕ) (shape rest : List ℕ) → Ends shape → Ends rest → Ends (take n shape ++ rest)
ends-take zero shape rest h r = r
ends-take (suc n) [] rest h r = r
ends-take (suc n) (extent ∷ shape) rest h r = (h.0, ends-take n shape rest h.1 r)

ends-drop : (n : ℕ) (shape : List ℕ) → Ends shape → Ends (drop n shape)
ends-drop zero shape h = h
ends-drop (suc n) [] h = tt
ends-drop (suc n) (extent ∷ shape) h = ends-drop n shape h.1

ends_new : (missing : ℕ) (shape : List ℕ) (items : List IndexItem) → Ends shape → Ends (new_shape missing shape items)
ends_new missing shape [] h = h
ends_new missing shape (NewAxis ∷ items) h = (omega arith, ends_new missing shape items h)
ends_new missing shape (Ellipsis ∷ items) h =
    ends-take missing shape (new_shape missing (drop missing shape) items) h (ends_new missing (drop missing shape) items (ends-drop missing shape h))
ends_new missing [] (At k ∷ items) h = tt
ends_new missing (extent ∷ shape) (At k ∷ items) h = ends_new missing shape items h.1
ends_new missing [] (Range start stop step ∷ items) h = tt
ends_new missing (extent ∷ shape) (Range start stop step ∷ items) h =
    let range = kept_range extent start stop in
    (omega (arith, h.0, length-range_with_len range.0 (range.1 - range.0), bound-within extent extent stop (omega arith)), ends_new missing shape items h.1)

small_of : (m : ℕ) (shape : List ℕ) → length shape ≤ m → Ends shape → Small m shape
small_of m [] few h = tt
small_of zero (extent ∷ shape) few h = absurd (omega arith)
small_of (suc m) (extent ∷ shape) few h = (h.0, small_of m shape (omega arith) h.1)

few_of : (m : ℕ) (shape : List ℕ) → Small m shape → length shape ≤ m
few_of m [] h = omega arith
few_of zero (extent ∷ shape) h = absurd h
few_of (suc m) (extent ∷ shape) h = omega (arith, few_of m shape h.1)

all_of : (m : ℕ) (shape : List ℕ) → Small m shape → All (λ extent. extent ≤ MAX_END) shape
all_of m [] h = All-nil _
all_of zero (extent ∷ shape) h = absurd h
all_of (suc m) (extent ∷ shape) h = All-cons (λ e. e ≤ MAX_END) extent shape h.0 (all_of m shape h.1)

steps_of : (steps : List Step) (shape : List ℕ) → Good MAX_AXES steps shape → AreStepsOf steps shape
steps_of [] shape good = tt
steps_of (step ∷ steps) shape good =
    let after = shape_after step shape in
    (good.1, record { axes = few_of MAX_AXES after good.2; extents = all_of MAX_AXES after good.2 }, steps_of steps after good.3)

-- ---- how many there are

pub length-cuts : (axis missing : ℕ) (shape : List ℕ) (items : List IndexItem) → length (cut_steps axis missing shape items) ≤ named_axes items
length-cuts axis missing shape [] = omega arith
length-cuts axis missing shape (NewAxis ∷ items) = length-cuts axis missing shape items
length-cuts axis missing shape (Ellipsis ∷ items) = length-cuts (axis + missing) missing (drop missing shape) items
length-cuts axis missing [] (At k ∷ items) = omega arith
length-cuts axis missing (extent ∷ shape) (At k ∷ items) = omega (arith, length-cuts axis missing shape items)
length-cuts axis missing [] (Range start stop step ∷ items) = omega arith
length-cuts axis missing (extent ∷ shape) (Range start stop step ∷ items) = omega (arith, length-cuts (suc axis) missing shape items)

pub length-promotes : (axis missing : ℕ) (items : List IndexItem) → length (promote_steps axis missing items) ≡ added_axes items
length-promotes axis missing [] = refl
length-promotes axis missing (NewAxis ∷ items) = ap suc (length-promotes (suc axis) missing items)
length-promotes axis missing (Ellipsis ∷ items) = length-promotes (axis + missing) missing items
length-promotes axis missing (At k ∷ items) = length-promotes axis missing items
length-promotes axis missing (Range start stop step ∷ items) = length-promotes (suc axis) missing items

pub length-new_shape : (missing : ℕ) (shape : List ℕ) (items : List IndexItem) → taken_axes missing items ≤ length shape
    → length (new_shape missing shape items) + integers items ≡ length shape + added_axes items
length-new_shape missing shape [] h = refl
length-new_shape missing shape (NewAxis ∷ items) h = omega (arith, length-new_shape missing shape items h)
length-new_shape missing shape (Ellipsis ∷ items) h =
    let rest = drop missing shape in
    let room : taken_axes missing items ≤ length rest = omega (arith, length-drop missing shape) in
    omega (arith, length-new_shape missing rest items room, length-append (take missing shape) (new_shape missing rest items), length-take missing shape, length-drop missing shape)
length-new_shape missing [] (At k ∷ items) h = absurd (omega arith)
length-new_shape missing (extent ∷ shape) (At k ∷ items) h = omega (arith, length-new_shape missing shape items (omega arith))
length-new_shape missing [] (Range start stop step ∷ items) h = absurd (omega arith)
length-new_shape missing (extent ∷ shape) (Range start stop step ∷ items) h = omega (arith, length-new_shape missing shape items (omega arith))

pub integers-most : (items : List IndexItem) → integers items ≤ named_axes items
integers-most [] = omega arith
integers-most (NewAxis ∷ items) = integers-most items
integers-most (Ellipsis ∷ items) = integers-most items
integers-most (At k ∷ items) = omega (arith, integers-most items)
integers-most (Range start stop step ∷ items) = omega (arith, integers-most items)

-- how many axes the items take
no_ellipsis : (missing : ℕ) (items : List IndexItem) → ellipses items ≡ 0 → taken_axes missing items ≡ named_axes items
no_ellipsis missing [] e = refl
no_ellipsis missing (NewAxis ∷ items) e = no_ellipsis missing items e
no_ellipsis missing (Ellipsis ∷ items) e = absurd (omega arith)
no_ellipsis missing (At k ∷ items) e = ap suc (no_ellipsis missing items e)
no_ellipsis missing (Range start stop step ∷ items) e = ap suc (no_ellipsis missing items e)

one_ellipsis : (missing : ℕ) (items : List IndexItem) → ellipses items ≤ 1 → taken_axes missing items ≤ named_axes items + missing
one_ellipsis missing [] few = omega arith
one_ellipsis missing (NewAxis ∷ items) few = one_ellipsis missing items few
one_ellipsis missing (Ellipsis ∷ items) few = omega (arith, no_ellipsis missing items (omega arith))
one_ellipsis missing (At k ∷ items) few = omega (arith, one_ellipsis missing items few)
one_ellipsis missing (Range start stop step ∷ items) few = omega (arith, one_ellipsis missing items few)

pub taken_most : (shape : List ℕ) (items : List IndexItem) → ellipses items ≤ 1 → named_axes items ≤ length shape
    → taken_axes (missing_axes shape items) items ≤ length shape
taken_most shape items few named = omega (arith, one_ellipsis (missing_axes shape items) items few)

-- ---- the whole

-- the view, by how many axes are missing
abbrev indexed_with : ℕ → List ℕ → List IndexItem → List ℕ → Layout
indexed_with missing shape items ps = record {
  shape = new_shape missing shape items;
  places = map (λ index. get_or ps (place_of shape index) 0) (combinations (choices missing shape items));
}

module _ (shape : List ℕ) (items : List IndexItem) (limits : IsShape shape) (missing : ℕ) (m : missing ≡ missing_axes shape items)
    (taken : taken_axes missing items ≤ length shape) (none : item_fault 0 missing shape items ≡ None)
    (few : length (new_shape missing shape items) ≤ MAX_AXES) where
  ends : Ends shape
  ends = ends_of_all shape limits.extents

  good : Good MAX_AXES (cut_steps 0 missing shape items ++ promote_steps 0 missing items) shape
  good =
      let cuts = cut_steps 0 missing shape items in
      let promotes = promote_steps 0 missing items in
      let small = small_of MAX_AXES (new_shape missing shape items) few (ends_new missing shape items ends) in
      good-append MAX_AXES cuts promotes shape (good_cuts 0 MAX_AXES missing shape items (small_of MAX_AXES shape limits.axes ends) taken none)
      (subst (Good MAX_AXES promotes) (sym (cut_shapes missing shape items taken)) (good_promotes MAX_AXES missing shape items small taken))

  pub index_allowed : AreStepsOf (cut_steps 0 missing shape items ++ promote_steps 0 missing items) shape
  index_allowed = steps_of (cut_steps 0 missing shape items ++ promote_steps 0 missing items) shape good

  pub index_limits : IsShape (new_shape missing shape items)
  index_limits =
      let new = new_shape missing shape items in
      record { axes = few; extents = all_of MAX_AXES new (small_of MAX_AXES new few (ends_new missing shape items ends)) }

  -- the shape of the last view
  final : shapes_after (cut_steps 0 missing shape items ++ promote_steps 0 missing items) shape ≡ new_shape missing shape items
  final =
      let cuts = cut_steps 0 missing shape items in
      let promotes = promote_steps 0 missing items in
      shapes_after-append cuts promotes shape ∙ ap (shapes_after promotes) (cut_shapes missing shape items taken) ∙ promote_shapes missing shape items taken

  -- the indices of the first view, in the order of those of the last
  read : map (through (cut_steps 0 missing shape items ++ promote_steps 0 missing items)) (places (new_shape missing shape items)) ≡ combinations (choices missing shape items)
  read =
      let cuts = cut_steps 0 missing shape items in
      let promotes = promote_steps 0 missing items in
      let all = places (new_shape missing shape items) in
      map_by (through (cuts ++ promotes)) (λ index. through cuts (through promotes index)) (through-append cuts promotes) all
      ∙ sym (map-map (through cuts) (through promotes) all)
      ∙ ap (map (through cuts)) (promote_places missing shape items taken)
      ∙ cut_places missing shape items taken
    where
      map_by : (f g : List ℕ → List ℕ) → ((x : List ℕ) → f x ≡ g x) → (xs : List (List ℕ)) → map f xs ≡ map g xs
      map_by f g same [] = refl
      map_by f g same (x ∷ xs) = λ i. same x i ∷ map_by f g same xs i

  pub index_picks : Picks shape items (cut_steps 0 missing shape items ++ promote_steps 0 missing items)
  index_picks ps size =
      let steps = cut_steps 0 missing shape items ++ promote_steps 0 missing items in
      let at : List ℕ → ℕ = λ index. get_or ps (place_of shape index) 0 in
      let picked : map (λ index. at (through steps index)) (places (shapes_after steps shape)) ≡ map at (combinations (choices missing shape items)) =
      ap (λ s. map (λ index. at (through steps index)) (places s)) final ∙ sym (map-map at (through steps) (places (new_shape missing shape items))) ∙ ap (map at) read in
      all_stepped_is MAX_AXES steps shape ps good size
      ∙ (λ i. record { shape = final i; places = picked i })
      ∙ ap (λ n. indexed_with n shape items ps) m
