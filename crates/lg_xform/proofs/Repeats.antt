-- A view that is repeated to a shape: the axes ahead move nothing, and so does an axis that is
-- repeated.
use Rattle.std.proofs.Common.{◌≡◌, ◌≢◌, ℕ, zero, suc, ◌+◌, ◌-◌, ◌*◌, ◌<◌, ◌≤◌, ◌⊎◌, Bool, true, false, eqb, List, [], ◌∷◌, ◌++◌, length, map, reverse, get_or, set, take, drop, Option, Some, None, if◌then◌else◌, inl, inr, refl, sym, ap, subst, ◌∙◌, arith}
use Rattle.std.specs.Option.{option_map, option_and_then}
use Rattle.std.proofs.lemmas.Bool.Decides.{eqb_tells}
use Rattle.std.proofs.lemmas.List.{length-reverse, reverse-reverse, get_or-reverse, get_or-map, get_or-take, length-map, take_all, take_more, take_more_set}
use Rattle.std.proofs.lemmas.List.Elements.{All-nil, All-cons, All-head, All-tail, All-map, All-from_get_or}
use Rattle.std.proofs.lemmas.Option.{same_Some, get_or_from_slice_get}
use Rattle.lg_space.specs.Rectangle.{IsIn}
use Rattle.lg_space.specs.declared.point.TheConstants.{MAX_AXES}
use Rattle.lg_space.proofs.Places.{stands_once}
use Rattle.lg_shape.specs.Shapes.{whole, places, place_of, size_of, pinned, aligned, joined_extent, joined_axes, joined_shape}
use Rattle.lg_shape.specs.Stored.{IsShape}
use Rattle.lg_shape.specs.Views.{place_at}
use Rattle.lg_xform.specs.declared.axis.ViewAxis.{ViewAxis}
use Rattle.lg_xform.specs.declared.chain.Chain.{Chain}
use Rattle.lg_xform.specs.Moves.{steps, extents_of, moved, hit, reach, IsHeld, AreRooted}
use Rattle.lg_xform.specs.Chains.{axes_of, shape_of, inner_of, mapped, layout_of, IsUnsplit}
use Rattle.lg_xform.specs.Repeats.{repeated}
use Rattle.lg_xform.proofs.Insides.{in_whole_axes}
use Rattle.lg_xform.proofs.Sums.{total, share, farthest, same_moved, hit_none}
use Rattle.lg_xform.proofs.Held.{IsView, some_index, volume_some}
use Rattle.lg_xform.proofs.Maps.{map_within, at_place, laid}
use Rattle.lg_xform.proofs.Edits.{none, free, inner_in, view_of, length-axes_of, length-shape_of}

choose_true : {A : Type 0} (b : Bool) (x y : A) → b ≡ true → (if b then x else y) ≡ x
choose_true true x y e = refl
choose_true false x y e = (cc)

choose_false : {A : Type 0} (b : Bool) (x y : A) → b ≡ false → (if b then x else y) ≡ y
choose_false true x y e = (cc)
choose_false false x y e = refl

-- ---- which extents are repeated to which

-- an extent becomes another one
abbrev pub Becomes : ℕ → ℕ → Type 0
Becomes x y = (x ≡ y) ⊎ (x ≡ 1)

-- each extent becomes the one of the other shape, which has so many axes ahead
abbrev pub AllBecome : ℕ → List ℕ → List ℕ → Type 0
AllBecome zero [] [] = Unit {0}
AllBecome zero [] (y ∷ to) = ⊥
AllBecome zero (x ∷ shape) [] = ⊥
AllBecome zero (x ∷ shape) (y ∷ to) = Becomes x y × AllBecome zero shape to
AllBecome (suc ahead) shape [] = ⊥
AllBecome (suc ahead) shape (y ∷ to) = AllBecome ahead shape to

becomes : (x y : ℕ) → joined_extent x y ≡ Some y → Becomes x y
becomes x y e = elim (eqb_tells x y) [
  | inl h ↦ inl h.1
  | inr h ↦ elim (eqb_tells x 1) [
    | inl g ↦ inr g.1
    | inr g ↦ elim (eqb_tells y 1) [
      | inl f ↦ inl (same_Some x y (sym (choose_false (eqb x y) _ _ h.0 ∙ choose_false (eqb x 1) _ _ g.0 ∙ choose_true (eqb y 1) _ _ f.0) ∙ e))
      | inr f ↦ absurd (nothing y (sym (choose_false (eqb x y) _ _ h.0 ∙ choose_false (eqb x 1) _ _ g.0 ∙ choose_false (eqb y 1) _ _ f.0) ∙ e))
    ]
  ]
]
  where
    nothing : (n : ℕ) → ◌≡◌ {A = Option ℕ} None (Some n) → ⊥
    nothing n e = (cc)

-- the same, counted from the last axis
record FromLast (a b : List ℕ) : Type 0 where
  pub axes : length a ≤ length b
  pub each : (k : ℕ) → k < length a → Becomes (get_or a k 1) (get_or b k 1)

both_some : (o : Option ℕ) (p : Option (List ℕ)) (y : ℕ) (b : List ℕ)
    → option_and_then (λ extent. option_map (λ extents. extent ∷ extents) p) o ≡ Some (y ∷ b) → (o ≡ Some y) × (p ≡ Some b)
both_some None p y b e = absurd (nothing (y ∷ b) e)
  where
    nothing : (l : List ℕ) → ◌≡◌ {A = Option (List ℕ)} None (Some l) → ⊥
    nothing l e = (cc)
both_some (Some x) None y b e = absurd (nothing (y ∷ b) e)
  where
    nothing : (l : List ℕ) → ◌≡◌ {A = Option (List ℕ)} None (Some l) → ⊥
    nothing l e = (cc)
both_some (Some x) (Some a) y b e =
    let same : x ∷ a ≡ y ∷ b = same_Some (x ∷ a) (y ∷ b) e in
    (ap (λ l. Some (get_or l 0 0)) same, ap (λ l. Some (drop 1 l)) same)

from_last : (a b : List ℕ) → joined_axes a b ≡ Some b → FromLast a b
from_last [] b e = record { axes = omega arith; each = λ k lt. absurd (omega arith) }
from_last (x ∷ a) [] e =
    let same : x ∷ a ≡ [] = same_Some (x ∷ a) [] e in absurd (omega (arith, ap length same))
from_last (x ∷ a) (y ∷ b) e =
    let two = both_some (joined_extent x y) (joined_axes a b) y b e in
    let rest = from_last a b two.1 in
    record { axes = omega (arith, rest.axes); each = each (becomes x y two.0) rest.each }
  where
    each : Becomes x y → ((k : ℕ) → k < length a → Becomes (get_or a k 1) (get_or b k 1))
        → (k : ℕ) → k < suc (length a) → Becomes (get_or (x ∷ a) k 1) (get_or (y ∷ b) k 1)
    each first rest zero lt = first
    each first rest (suc k) lt = rest k (omega arith)

from_first : (ahead : ℕ) (shape to : List ℕ) → length to ≡ ahead + length shape
    → ((j k : ℕ) → k ≡ ahead + j → j < length shape → Becomes (get_or shape j 1) (get_or to k 1)) → AllBecome ahead shape to
from_first zero [] [] e each = tt
from_first zero [] (y ∷ to) e each = absurd (omega arith)
from_first zero (x ∷ shape) [] e each = absurd (omega arith)
from_first zero (x ∷ shape) (y ∷ to) e each =
    (each 0 0 (omega arith) (omega arith), from_first zero shape to (omega arith) (λ j k at lt. each (suc j) (suc k) (omega arith) (omega arith)))
from_first (suc ahead) shape [] e each = absurd (omega arith)
from_first (suc ahead) shape (y ∷ to) e each = from_first ahead shape to (omega arith) (λ j k at lt. each j (suc k) (omega arith) lt)

pub record Repeats (shape to : List ℕ) : Type 0 where
  pub axes : length shape ≤ length to
  pub each : AllBecome (length to - length shape) shape to

-- where two shapes go together at the second one, the first one is repeated to it
pub repeats : (shape to : List ℕ) → joined_shape shape to ≡ Some to → Repeats shape to
repeats shape to e =
    let last = from_last (reverse shape) (reverse to) (unmapped (joined_axes (reverse shape) (reverse to)) e) in
    let long : length shape ≤ length to = omega (arith, last.axes, length-reverse shape, length-reverse to) in
    let ahead = length to - length shape in
    record {
      axes = long;
      each = from_first ahead shape to (omega arith)
          (λ j at is lt. (let k = length shape - 1 - j in
          let first : length shape - 1 - k ≡ j = omega arith in
          let second : length to - 1 - k ≡ at = omega arith in
          let one = get_or-reverse shape k 1 (omega arith) ∙ ap (λ i. get_or shape i 1) first in
          let two = get_or-reverse to k 1 (omega arith) ∙ ap (λ i. get_or to i 1) second in
          let there = last.each k (omega (arith, length-reverse shape)) in
          subst (λ x. Becomes x (get_or to at 1)) one (subst (λ y. Becomes (get_or (reverse shape) k 1) y) two there)));
    }
  where
    unmapped : (o : Option (List ℕ)) → option_map reverse o ≡ Some to → o ≡ Some (reverse to)
    unmapped None e = absurd (nothing to e)
      where
        nothing : (l : List ℕ) → ◌≡◌ {A = Option (List ℕ)} None (Some l) → ⊥
        nothing l e = (cc)
    unmapped (Some l) e = ap Some (sym (reverse-reverse l) ∙ ap reverse (same_Some (reverse l) to e))

-- ---- an index of the one shape is aligned to one of the other

in_aligned : (ahead : ℕ) (shape to index : List ℕ) → AllBecome ahead shape to → IsIn (whole to) index → IsIn (whole shape) (pinned shape (drop ahead index))
in_aligned zero [] [] [] h in' = tt
in_aligned zero [] [] (i ∷ index) h in' = absurd in'
in_aligned zero [] (y ∷ to) index h in' = absurd h
in_aligned zero (x ∷ shape) [] index h in' = absurd h
in_aligned zero (x ∷ shape) (y ∷ to) [] h in' = absurd in'
in_aligned zero (x ∷ shape) (y ∷ to) (i ∷ index) h in' =
    (omega arith, below, in_aligned zero shape to index h.1 in'.2)
  where
    below : (if eqb x 1 then 0 else i) < x
    below = elim (eqb_tells x 1) [
      | inl one ↦ omega (arith, one.1, choose_true (eqb x 1) 0 i one.0)
      | inr other ↦ elim h.0 [
        | inl same ↦ omega (arith, same, in'.1, choose_false (eqb x 1) 0 i other.0)
        | inr one ↦ absurd (other.1 one)
      ]
    ]
in_aligned (suc ahead) shape [] index h in' = absurd h
in_aligned (suc ahead) shape (y ∷ to) [] h in' = absurd in'
in_aligned (suc ahead) shape (y ∷ to) (i ∷ index) h in' = in_aligned ahead shape to index h in'.2

module _ (shape to index : List ℕ) (h : Repeats shape to) (in' : IsIn (whole to) index) where
  pub aligned_is : aligned shape index ≡ pinned shape (drop (length to - length shape) index)
  aligned_is = ap (λ n. pinned shape (drop (n - length shape) index)) (in_whole_axes to index in')

  pub aligned_inside : IsIn (whole shape) (aligned shape index)
  aligned_inside = subst (IsIn (whole shape)) (sym aligned_is) (in_aligned (length to - length shape) shape to index h.each in')

-- ---- one axis

-- the axis with this extent: itself, or one that moves nothing
abbrev pub stretched : ViewAxis → ℕ → ViewAxis
stretched axis extent = if eqb axis.extent extent then axis else free extent

module _ (axis : ViewAxis) (extent : ℕ) where
  pub as_it_is : axis.extent ≡ extent → stretched axis extent ≡ axis
  as_it_is e = elim (eqb_tells axis.extent extent) [
    | inl h ↦ choose_true (eqb axis.extent extent) axis (free extent) h.0
    | inr h ↦ absurd (h.1 e)
  ]

  pub made_free : axis.extent ≢ extent → stretched axis extent ≡ free extent
  made_free e = elim (eqb_tells axis.extent extent) [
    | inl h ↦ absurd (e h.1)
    | inr h ↦ choose_false (eqb axis.extent extent) axis (free extent) h.0
  ]

  -- what holds of both holds of it
  of_either : (P : ViewAxis → Type 0) → (axis.extent ≡ extent → P axis) → (axis.extent ≢ extent → P (free extent)) → P (stretched axis extent)
  of_either P same other = elim (eqb_tells axis.extent extent) [
    | inl h ↦ subst P (sym (as_it_is h.1)) (same h.1)
    | inr h ↦ subst P (sym (made_free h.1)) (other h.1)
  ]

free_moves_none : (k extent i : ℕ) → share k (free extent) i ≡ 0
free_moves_none k extent i = ap (hit k 0) (let e : i * 0 ≡ 0 = omega arith in e) ∙ hit_none k 0

free_reaches_none : (k extent : ℕ) → farthest k (free extent) 0 ≡ 0
free_reaches_none k extent = ap (hit k 0) (let e : (extent - 1) * 0 ≡ 0 = omega arith in e) ∙ hit_none k 0

-- an axis of one coordinate moves nothing there
lowest : (down : Bool) (extent stride : ℕ) → extent ≡ 1 → steps down extent 0 * stride ≡ 0
lowest true extent stride one = ap (λ n. n * stride) (let e : extent - 1 - 0 ≡ 0 = omega arith in e) ∙ (omega arith)
lowest false extent stride one = omega arith

share_stretched : (k : ℕ) (axis : ViewAxis) (extent i : ℕ) → Becomes axis.extent extent → i < extent
    → share k (stretched axis extent) i ≡ share k axis (if eqb axis.extent 1 then 0 else i)
share_stretched k axis extent i h below =
    of_either axis extent (λ a. share k a i ≡ share k axis (if eqb axis.extent 1 then 0 else i))
    (λ same. ap (share k axis) (elim (eqb_tells axis.extent 1) [
      | inl one ↦ (let only : i ≡ 0 = omega (arith, same, one.1, below) in only ∙ sym (choose_true (eqb axis.extent 1) 0 i one.0))
      | inr more ↦ sym (choose_false (eqb axis.extent 1) 0 i more.0)
    ]))
    (λ other. elim h [
      | inl same ↦ absurd (other same)
      | inr one ↦ free_moves_none k extent i
          ∙ sym (ap (share k axis) (at_zero one) ∙ ap (hit k axis.root) (lowest axis.down axis.extent axis.stride one) ∙ hit_none k axis.root)
    ])
  where
    at_zero : axis.extent ≡ 1 → (if eqb axis.extent 1 then 0 else i) ≡ 0
    at_zero one = elim (eqb_tells axis.extent 1) [
      | inl g ↦ choose_true (eqb axis.extent 1) 0 i g.0
      | inr g ↦ absurd (g.1 one)
    ]

-- ---- all axes

abbrev pub stretched_axes : ℕ → List ViewAxis → List ℕ → List ViewAxis
stretched_axes zero [] [] = []
stretched_axes zero [] (extent ∷ to) = []
stretched_axes zero (axis ∷ axes) [] = []
stretched_axes zero (axis ∷ axes) (extent ∷ to) = stretched axis extent ∷ stretched_axes zero axes to
stretched_axes (suc ahead) axes [] = []
stretched_axes (suc ahead) axes (extent ∷ to) = free extent ∷ stretched_axes ahead axes to

pub extents-stretched : (ahead : ℕ) (axes : List ViewAxis) (to : List ℕ) → AllBecome ahead (extents_of axes) to → extents_of (stretched_axes ahead axes to) ≡ to
extents-stretched zero [] [] h = refl
extents-stretched zero [] (extent ∷ to) h = absurd h
extents-stretched zero (axis ∷ axes) [] h = absurd h
extents-stretched zero (axis ∷ axes) (extent ∷ to) h =
    let first : (stretched axis extent).extent ≡ extent = of_either axis extent (λ a. a.extent ≡ extent) (λ same. same) (λ other. refl) in
    let rest = extents-stretched zero axes to h.1 in
    λ i. first i ∷ rest i
extents-stretched (suc ahead) axes [] h = absurd h
extents-stretched (suc ahead) axes (extent ∷ to) h = ap (λ l. extent ∷ l) (extents-stretched ahead axes to h)

all_stretched : (P : ViewAxis → Type 0) → ((extent : ℕ) → P (free extent)) → (ahead : ℕ) (axes : List ViewAxis) (to : List ℕ)
    → ((k : ℕ) (d : ViewAxis) → k < length axes → P (get_or axes k d))
    → (k : ℕ) (d : ViewAxis) → k < length (stretched_axes ahead axes to) → P (get_or (stretched_axes ahead axes to) k d)
all_stretched P frees zero [] [] all = All-nil P
all_stretched P frees zero [] (extent ∷ to) all = All-nil P
all_stretched P frees zero (axis ∷ axes) [] all = All-nil P
all_stretched P frees zero (axis ∷ axes) (extent ∷ to) all =
    All-cons P (stretched axis extent) (stretched_axes zero axes to)
    (of_either axis extent P (λ same. All-head P axis axes all) (λ other. frees extent))
    (all_stretched P frees zero axes to (All-tail P axis axes all))
all_stretched P frees (suc ahead) axes [] all = All-nil P
all_stretched P frees (suc ahead) axes (extent ∷ to) all =
    All-cons P (free extent) (stretched_axes ahead axes to) (frees extent) (all_stretched P frees ahead axes to all)

reach-stretched : (k ahead : ℕ) (axes : List ViewAxis) (to : List ℕ) → reach k (stretched_axes ahead axes to) ≤ reach k axes
reach-stretched k zero [] [] = omega arith
reach-stretched k zero [] (extent ∷ to) = omega arith
reach-stretched k zero (axis ∷ axes) [] = omega arith
reach-stretched k zero (axis ∷ axes) (extent ∷ to) =
    let rest = reach-stretched k zero axes to in
    let first : farthest k (stretched axis extent) 0 ≤ farthest k axis 0 =
    of_either axis extent (λ a. farthest k a 0 ≤ farthest k axis 0) (λ same. omega arith) (λ other. omega (arith, free_reaches_none k extent)) in
    omega (arith, rest, first)
reach-stretched k (suc ahead) axes [] = omega arith
reach-stretched k (suc ahead) axes (extent ∷ to) = omega (arith, reach-stretched k ahead axes to, free_reaches_none k extent)

total-stretched : (k ahead : ℕ) (axes : List ViewAxis) (to index : List ℕ) → AllBecome ahead (extents_of axes) to → IsIn (whole to) index
    → total (share k) (stretched_axes ahead axes to) index ≡ total (share k) axes (pinned (extents_of axes) (drop ahead index))
total-stretched k zero [] [] index h in' = refl
total-stretched k zero [] (extent ∷ to) index h in' = absurd h
total-stretched k zero (axis ∷ axes) [] index h in' = absurd h
total-stretched k zero (axis ∷ axes) (extent ∷ to) [] h in' = absurd in'
total-stretched k zero (axis ∷ axes) (extent ∷ to) (i ∷ index) h in' =
    let first = share_stretched k axis extent i h.0 in'.1 in
    let rest = total-stretched k zero axes to index h.1 in'.2 in
    λ t. first t + rest t
total-stretched k (suc ahead) axes [] index h in' = absurd h
total-stretched k (suc ahead) axes (extent ∷ to) [] h in' = absurd in'
total-stretched k (suc ahead) axes (extent ∷ to) (i ∷ index) h in' =
    omega (arith, free_moves_none k extent i, total-stretched k ahead axes to index h in'.2)

-- ---- the view

pub laid_repeated : (root shape to : List ℕ) (m n : List ℕ → List ℕ) → Repeats shape to
    → ((index : List ℕ) → IsIn (whole to) index → n index ≡ m (aligned shape index)) → laid root to n ≡ repeated to (laid root shape m)
laid_repeated root shape to m n h same =
    let all : map (λ index. place_of root (n index)) (places to) ≡ map (λ index. place_at (laid root shape m) (aligned shape index)) (places to) =
    map_within _ _ (places to) (λ k index at.
    (let in' = (stands_once (whole to) k index at).0 in
    let there = get_or_from_slice_get (map (λ i. place_of root (m i)) (places shape)) (place_of shape (aligned shape index)) (place_of root (m (aligned shape index))) 0
    (at_place shape (λ i. place_of root (m i)) (aligned shape index) (aligned_inside shape to index h in')) in
    ap (place_of root) (same index in') ∙ sym there)) in
    λ i. record { shape = to; places = all i }

module _ (old : Chain) (to : List ℕ) (h : Repeats (shape_of old) to) (axes : List ViewAxis) (e : axes ≡ stretched_axes (length to - length (shape_of old)) (axes_of old) to) where
  pub repeated_shape : extents_of axes ≡ to
  repeated_shape = ap extents_of e ∙ extents-stretched (length to - length (shape_of old)) (axes_of old) to h.each

  pub repeated_view : IsShape to → IsView old.root old.from axes
  repeated_view shape =
      let ahead = length to - length (shape_of old) in
      let v = view_of old in
      record {
        rooted = subst AreRooted (sym e) (all_stretched (λ a. a.root < MAX_AXES) (λ extent. omega arith) ahead (axes_of old) to v.rooted);
        shape = subst IsShape (sym repeated_shape) shape;
        held = subst (IsHeld old.root old.from) (sym e) (λ k. omega (arith, v.held k, reach-stretched k ahead (axes_of old) to));
        filled = λ some. (let one = some_index (whole to) (subst (λ s. 0 < size_of s) repeated_shape some) in
            v.filled (volume_some (whole (shape_of old)) (aligned (shape_of old) one.0) (aligned_inside (shape_of old) to one.0 h one.1)));
      }

  repeated_map : (index : List ℕ) → IsIn (whole to) index → take (length old.root) (moved old.from axes index) ≡ mapped old (aligned (shape_of old) index)
  repeated_map index in' =
      let ahead = length to - length (shape_of old) in
      let at = pinned (shape_of old) (drop ahead index) in
      let same : moved old.from (stretched_axes ahead (axes_of old) to) index ≡ moved old.from (axes_of old) at =
      same_moved old.from old.from (stretched_axes ahead (axes_of old) to) (axes_of old) index at refl
      (λ k lt. omega (arith, total-stretched k ahead (axes_of old) to index h.each in')) in
      ap (λ a. take (length old.root) (moved old.from a index)) e ∙ ap (take (length old.root)) same
      ∙ ap (mapped old) (sym (aligned_is (shape_of old) to index h in'))

  pub repeated_layout : laid old.root (extents_of axes) (λ index. take (length old.root) (moved old.from axes index)) ≡ repeated to (layout_of old)
  repeated_layout =
      let lead = λ (index : List ℕ). take (length old.root) (moved old.from axes index) in
      ap (λ s. laid old.root s lead) repeated_shape ∙ laid_repeated old.root (shape_of old) to (mapped old) lead h repeated_map

  pub repeated_unsplit : IsUnsplit (inner_of old) → IsUnsplit (map inner_in axes)
  repeated_unsplit all =
      let ahead = length to - length (shape_of old) in
      let whole_axes = All-from_get_or (λ a. a.inner ≡ false) (axes_of old) none
      (λ k lt. sym (get_or-map inner_in (axes_of old) k none false lt) ∙ all k false (omega (arith, lt, length-map (axes_of old) inner_in))) in
      subst (λ (l : List ViewAxis). IsUnsplit (map inner_in l)) (sym e)
      (All-map (λ b. b ≡ false) inner_in (stretched_axes ahead (axes_of old) to)
      (all_stretched (λ a. a.inner ≡ false) (λ extent. refl) ahead (axes_of old) to whole_axes))

-- ---- written one by one

-- the view has no more axes than the shape
pub few_axes : (old : Chain) (to extents : List ℕ) → length old.axes ≡ 4 → joined_shape (shape_of old) to ≡ Some to → extents ≡ to → old.count ≤ length extents
few_axes old to extents long joined same =
    let h = repeats (shape_of old) to joined in
    omega (arith, h.axes, length-shape_of old, length-axes_of old long, ap length same)

length-stretched : (ahead : ℕ) (axes : List ViewAxis) (to : List ℕ) → length to ≡ ahead + length axes → length (stretched_axes ahead axes to) ≡ length to
length-stretched zero [] [] e = refl
length-stretched zero [] (extent ∷ to) e = absurd (omega arith)
length-stretched zero (axis ∷ axes) [] e = absurd (omega arith)
length-stretched zero (axis ∷ axes) (extent ∷ to) e = ap suc (length-stretched zero axes to (omega arith))
length-stretched (suc ahead) axes [] e = absurd (omega arith)
length-stretched (suc ahead) axes (extent ∷ to) e = ap suc (length-stretched ahead axes to (omega arith))

at_ahead : (ahead : ℕ) (axes : List ViewAxis) (to : List ℕ) (k : ℕ) (d : ViewAxis) → k < ahead → k < length to → get_or (stretched_axes ahead axes to) k d ≡ free (get_or to k 0)
at_ahead zero axes to k d h lt = absurd (omega arith)
at_ahead (suc ahead) axes [] k d h lt = absurd (omega arith)
at_ahead (suc ahead) axes (extent ∷ to) zero d h lt = refl
at_ahead (suc ahead) axes (extent ∷ to) (suc k) d h lt = at_ahead ahead axes to k d (omega arith) (omega arith)

at_old : (ahead : ℕ) (axes : List ViewAxis) (to : List ℕ) (j k : ℕ) (c d : ViewAxis) → k ≡ ahead + j → j < length axes → length to ≡ ahead + length axes
    → get_or (stretched_axes ahead axes to) k d ≡ stretched (get_or axes j c) (get_or to k 0)
at_old zero [] to j k c d at lt e = absurd (omega arith)
at_old zero (axis ∷ axes) [] j k c d at lt e = absurd (omega arith)
at_old zero (axis ∷ axes) (extent ∷ to) zero zero c d at lt e = refl
at_old zero (axis ∷ axes) (extent ∷ to) zero (suc k) c d at lt e = absurd (omega arith)
at_old zero (axis ∷ axes) (extent ∷ to) (suc j) zero c d at lt e = absurd (omega arith)
at_old zero (axis ∷ axes) (extent ∷ to) (suc j) (suc k) c d at lt e = at_old zero axes to j k c d (omega arith) (omega arith) (omega arith)
at_old (suc ahead) axes [] j k c d at lt e = absurd (omega arith)
at_old (suc ahead) axes (extent ∷ to) j zero c d at lt e = absurd (omega arith)
at_old (suc ahead) axes (extent ∷ to) j (suc k) c d at lt e = at_old ahead axes to j k c d (omega arith) lt (omega arith)

-- what stands at k
module _ (old : Chain) (to : List ℕ) (long : length old.axes ≡ 4) (few : old.count ≤ length to) (k : ℕ) (new : ViewAxis) (lt : k < length to) where
  counted : length to ≡ length to - old.count + length (axes_of old)
  counted = omega (arith, length-axes_of old long)

  module _ (j : ℕ) (from : length to - old.count ≤ k) (is : j ≡ k - (length to - old.count)) where
    below : j < old.count
    below = omega arith

    this : get_or (stretched_axes (length to - old.count) (axes_of old) to) k new ≡ stretched (get_or old.axes j none) (get_or to k 0)
    this =
        at_old (length to - old.count) (axes_of old) to j k none new (omega arith) (omega (arith, below, length-axes_of old long)) counted
        ∙ ap (λ a. stretched a (get_or to k 0)) (get_or-take old.count old.axes j none below)

    pub kept_axis : (get_or old.axes j none).extent ≡ get_or to k 0 → new ≡ get_or old.axes j none → new ≡ get_or (stretched_axes (length to - old.count) (axes_of old) to) k new
    kept_axis same e = e ∙ sym (this ∙ as_it_is (get_or old.axes j none) (get_or to k 0) same)

    pub freed_axis : (get_or old.axes j none).extent ≢ get_or to k 0 → new ≡ free (get_or to k 0) → new ≡ get_or (stretched_axes (length to - old.count) (axes_of old) to) k new
    freed_axis other e = e ∙ sym (this ∙ made_free (get_or old.axes j none) (get_or to k 0) other)

  pub axis_ahead : k < length to - old.count → new ≡ free (get_or to k 0) → new ≡ get_or (stretched_axes (length to - old.count) (axes_of old) to) k new
  axis_ahead ahead e = e ∙ sym (at_ahead (length to - old.count) (axes_of old) to k new ahead lt)

  pub axes_more : (made : List ViewAxis) → k < length made → take k made ≡ take k (stretched_axes (length to - old.count) (axes_of old) to)
      → new ≡ get_or (stretched_axes (length to - old.count) (axes_of old) to) k new
      → take (k + 1) (set made k new) ≡ take (k + 1) (stretched_axes (length to - old.count) (axes_of old) to)
  axes_more made room so_far is =
      let all = stretched_axes (length to - old.count) (axes_of old) to in
      take_more_set made k new room ∙ (λ i. so_far i ++ is i ∷ [])
      ∙ sym (take_more all k new (omega (arith, lt, length-stretched (length to - old.count) (axes_of old) to counted)))

-- all of them, where the extents are those of the shape
pub axes_all : (old : Chain) (to extents : List ℕ) (made : List ViewAxis) (k : ℕ) → length old.axes ≡ 4 → joined_shape (shape_of old) to ≡ Some to → extents ≡ to → length extents ≤ k → k ≤ length extents
    → take k made ≡ take k (stretched_axes (length extents - old.count) (axes_of old) extents)
    → take (length extents) made ≡ stretched_axes (length to - length (shape_of old)) (axes_of old) to
axes_all old to extents made k long joined same past within so_far =
    let few = few_axes old to extents long joined same in
    let end : length extents ≡ k = omega arith in
    let counted : length extents ≡ length extents - old.count + length (axes_of old) = omega (arith, length-axes_of old long) in
    let count : old.count ≡ length (shape_of old) = sym (length-shape_of old ∙ length-axes_of old long) in
    ap (λ n. take n made) end ∙ so_far
    ∙ take_all k (stretched_axes (length extents - old.count) (axes_of old) extents)
    (omega (arith, length-stretched (length extents - old.count) (axes_of old) extents counted))
    ∙ (λ i. stretched_axes (length (same i) - count i) (axes_of old) (same i))
