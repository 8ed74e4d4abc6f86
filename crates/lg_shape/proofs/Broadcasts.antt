-- The shape to which two shapes broadcast, axis by axis from the last one on.
use Rattle.std.proofs.Common.{◌≡◌, ◌≢◌, ℕ, zero, suc, ◌-◌, ◌<◌, ◌≤◌, max, ◌⊎◌, Bool, true, false, eqb, List, [], ◌∷◌, length, reverse, get_or, take, Option, Some, None, if◌then◌else◌, refl, sym, ap, subst, ◌∙◌, inl, inr, arith, length-take}
use Rattle.std.specs.Option.{option_map, option_and_then}
use Rattle.std.proofs.lemmas.Bool.{cases_lt}
use Rattle.std.proofs.lemmas.Bool.Decides.{eqb_tells}
use Rattle.std.proofs.lemmas.List.{length-reverse, reverse-reverse, get_or-reverse, get_or-take, get_or_past, get_or_default}
use Rattle.std.proofs.lemmas.Option.{slice_get-get_or, get_or_from_slice_get, same_Some}
use Rattle.lg_space.specs.Stored.{MAX_END}
use Rattle.lg_shape.specs.Shapes.{joined_extent, joined_axes, joined_shape}
use Rattle.lg_shape.specs.Stored.{IsShape}
use Rattle.lg_shape.specs.Mismatch.{IsFirstMismatch}

-- ---- one axis

choose_true : {A : Type 0} (b : Bool) (x y : A) → b ≡ true → (if b then x else y) ≡ x
choose_true true x y e = refl
choose_true false x y e = (cc)

choose_false : {A : Type 0} (b : Bool) (x y : A) → b ≡ false → (if b then x else y) ≡ y
choose_false true x y e = (cc)
choose_false false x y e = refl

-- an extent of 1 leaves the other one
joined-one_left : (y : ℕ) → joined_extent 1 y ≡ Some y
joined-one_left y = elim (eqb_tells 1 y) [
  | inl h ↦ choose_true (eqb 1 y) (Some 1) (Some y) h.0 ∙ ap Some h.1
  | inr h ↦ choose_false (eqb 1 y) (Some 1) (Some y) h.0
]

joined-one_right : (x : ℕ) → joined_extent x 1 ≡ Some x
joined-one_right x = elim (eqb_tells x 1) [
  | inl h ↦ choose_true (eqb x 1) (Some x) (if eqb x 1 then Some 1 else Some x) h.0
  | inr h ↦ choose_false (eqb x 1) (Some x) (if eqb x 1 then Some 1 else Some x) h.0 ∙ choose_false (eqb x 1) (Some 1) (Some x) h.0
]

-- extents that do not go together, and those that do
clash : (x y : ℕ) → x ≢ y → x ≢ 1 → y ≢ 1 → joined_extent x y ≡ None
clash x y a b c = elim (eqb_tells x y) [
  | inl h ↦ absurd (a h.1)
  | inr h ↦ elim (eqb_tells x 1) [
    | inl g ↦ absurd (b g.1)
    | inr g ↦ elim (eqb_tells y 1) [
      | inl f ↦ absurd (c f.1)
      | inr f ↦ choose_false (eqb x y) _ _ h.0 ∙ choose_false (eqb x 1) _ _ g.0 ∙ choose_false (eqb y 1) _ _ f.0
    ]
  ]
]

pub record Clash (x y : ℕ) : Type 0 where
  pub differ : x ≢ y
  pub left : x ≢ 1
  pub right : y ≢ 1

clashing : (x y : ℕ) → joined_extent x y ≡ None → Clash x y
clashing x y e = record {
  differ = λ h. some_none x (sym (ap (joined_extent x) (sym h) ∙ same x) ∙ e);
  left = λ h. some_none y (sym (ap (λ n. joined_extent n y) h ∙ joined-one_left y) ∙ e);
  right = λ h. some_none x (sym (ap (joined_extent x) h ∙ joined-one_right x) ∙ e);
}
  where
    some_none : (n : ℕ) → ◌≡◌ {A = Option ℕ} (Some n) None → ⊥
    some_none n e = (cc)

    same : (n : ℕ) → joined_extent n n ≡ Some n
    same n = elim (eqb_tells n n) [
      | inl h ↦ choose_true (eqb n n) _ _ h.0
      | inr h ↦ absurd (h.1 refl)
    ]

-- the extent is one of the two
either : (x y z : ℕ) → joined_extent x y ≡ Some z → (z ≡ x) ⊎ (z ≡ y)
either x y z e = elim (eqb_tells x y) [
  | inl h ↦ inl (sym (same_Some x z (sym (choose_true (eqb x y) _ _ h.0) ∙ e)))
  | inr h ↦ elim (eqb_tells x 1) [
    | inl g ↦ inr (sym (same_Some y z (sym (choose_false (eqb x y) _ _ h.0 ∙ choose_true (eqb x 1) _ _ g.0) ∙ e)))
    | inr g ↦ elim (eqb_tells y 1) [
      | inl f ↦ inl (sym (same_Some x z (sym (choose_false (eqb x y) _ _ h.0 ∙ choose_false (eqb x 1) _ _ g.0 ∙ choose_true (eqb y 1) _ _ f.0) ∙ e)))
      | inr f ↦ absurd (none_some z (sym (choose_false (eqb x y) _ _ h.0 ∙ choose_false (eqb x 1) _ _ g.0 ∙ choose_false (eqb y 1) _ _ f.0) ∙ e))
    ]
  ]
]
  where
    none_some : (n : ℕ) → ◌≡◌ {A = Option ℕ} None (Some n) → ⊥
    none_some n e = (cc)

-- ---- all axes, of lists from the last axis on

joined_all : (a b joined : List ℕ) → length joined ≡ max (length a) (length b)
    → ((k : ℕ) → k < length joined → joined_extent (get_or a k 1) (get_or b k 1) ≡ Some (get_or joined k 1)) → joined_axes a b ≡ Some joined
joined_all [] [] [] size each = refl
joined_all [] [] (z ∷ joined) size each = absurd (omega arith)
joined_all [] (y ∷ b) [] size each = absurd (omega arith)
joined_all [] (y ∷ b) (z ∷ joined) size each =
    let first = same_Some y z (sym (joined-one_left y) ∙ each 0 (omega arith)) in
    let rest = same_Some b joined (joined_all [] b joined (omega arith) (λ k lt. each (suc k) (omega arith))) in
    λ i. Some (first i ∷ rest i)
joined_all (x ∷ a) [] [] size each = absurd (omega arith)
joined_all (x ∷ a) [] (z ∷ joined) size each =
    let first = same_Some x z (sym (joined-one_right x) ∙ each 0 (omega arith)) in
    let rest = all_left a joined (omega arith) (λ k lt. each (suc k) (omega arith)) in
    λ i. Some (first i ∷ rest i)
  where
    all_left : (a joined : List ℕ) → length joined ≡ length a
        → ((k : ℕ) → k < length joined → joined_extent (get_or a k 1) 1 ≡ Some (get_or joined k 1)) → a ≡ joined
    all_left [] [] size each = refl
    all_left [] (z ∷ joined) size each = absurd (omega arith)
    all_left (x ∷ a) [] size each = absurd (omega arith)
    all_left (x ∷ a) (z ∷ joined) size each =
        let first = same_Some x z (sym (joined-one_right x) ∙ each 0 (omega arith)) in
        let rest = all_left a joined (omega arith) (λ k lt. each (suc k) (omega arith)) in
        λ i. first i ∷ rest i
joined_all (x ∷ a) (y ∷ b) [] size each = absurd (omega arith)
joined_all (x ∷ a) (y ∷ b) (z ∷ joined) size each =
    ap (option_and_then (λ extent. option_map (λ extents. extent ∷ extents) (joined_axes a b))) (each 0 (omega arith))
    ∙ ap (option_map (λ extents. z ∷ extents)) (joined_all a b joined (omega arith) (λ k lt. each (suc k) (omega arith)))

joined_none : (a b : List ℕ) (k : ℕ) → k < length a → k < length b → joined_extent (get_or a k 1) (get_or b k 1) ≡ None → joined_axes a b ≡ None
joined_none [] b k l g e = absurd (omega arith)
joined_none (x ∷ a) [] k l g e = absurd (omega arith)
joined_none (x ∷ a) (y ∷ b) zero l g e = ap (option_and_then (λ extent. option_map (λ extents. extent ∷ extents) (joined_axes a b))) e
joined_none (x ∷ a) (y ∷ b) (suc k) l g e =
    ap (λ o. option_and_then (λ extent. option_map (λ extents. extent ∷ extents) o) (joined_extent x y)) (joined_none a b k (omega arith) (omega arith) e)
    ∙ nothing (joined_extent x y)
  where
    nothing : (o : Option ℕ) → option_and_then (λ extent. option_map (λ extents. extent ∷ extents) None) o ≡ None
    nothing None = refl
    nothing (Some n) = refl

-- ---- the loop, which counts axes from the last one and writes extents from the first one on

pub record Joins (first second joined : List ℕ) (axes axis : ℕ) : Type 0 where
  pub room : length joined ≡ 4
  pub each : (k : ℕ) → k < axis → joined_extent (get_or (reverse first) k 1) (get_or (reverse second) k 1) ≡ Some (get_or joined (axes - 1 - k) 1)

-- where an axis has no extent, that is the first mismatch
pub record Stopped (a b : List ℕ) (axis : ℕ) : Type 0 where
  pub none : None ≡ joined_shape a b
  pub mismatch : IsFirstMismatch a b axis

stop : (first second joined : List ℕ) (axes axis : ℕ) → Joins first second joined axes axis
    → None ≡ joined_extent (get_or (reverse first) axis 1) (get_or (reverse second) axis 1)
    → Stopped first second axis
stop first second joined axes axis h e =
    let a = reverse first in
    let b = reverse second in
    let c = clashing (get_or a axis 1) (get_or b axis 1) (sym e) in
    let left = within a axis c.left in
    let right = within b axis c.right in
    record {
      none = sym (ap (option_map reverse) (joined_none a b axis left right (sym e)));
      mismatch = record {
        here = (get_or a axis 1, get_or b axis 1, slice_get-get_or a axis 1 left, slice_get-get_or b axis 1 right, c.differ, c.left, c.right);
        first = λ k below other. some_none _ (sym (h.each k below) ∙ ap (λ n. joined_extent n (get_or b k 1)) (get_or_from_slice_get a k other.0 1 other.2)
            ∙ ap (joined_extent other.0) (get_or_from_slice_get b k other.1 1 other.3) ∙ clash other.0 other.1 other.4 other.5 other.6);
      };
    }
  where
    some_none : (n : ℕ) → ◌≡◌ {A = Option ℕ} (Some n) None → ⊥
    some_none n e = (cc)

    within : (xs : List ℕ) (k : ℕ) → get_or xs k 1 ≢ 1 → k < length xs
    within xs k some = elim (cases_lt k (length xs)) [ inl lt ↦ lt | inr past ↦ absurd (some (get_or_past xs k 1 past)) ]

-- after all axes
pub record Joined (a b joined : List ℕ) : Type 0 where
  pub shape : Some joined ≡ joined_shape a b
  pub axes : length joined ≡ max (length a) (length b)
  pub either : (k : ℕ) → k < length joined → (get_or (reverse joined) k 1 ≡ get_or (reverse a) k 1) ⊎ (get_or (reverse joined) k 1 ≡ get_or (reverse b) k 1)
  pub limits : IsShape joined

-- an extent of a shape, counted from the last axis
extent_small : (shape : List ℕ) (k : ℕ) → IsShape shape → get_or (reverse shape) k 1 ≤ MAX_END
extent_small shape k h = elim (cases_lt k (length (reverse shape))) [
  | inl lt ↦
      (let within : k < length shape = omega (arith, length-reverse shape) in
      omega (arith, get_or-reverse shape k 1 within, h.extents (length shape - 1 - k) 1 (omega arith)))
  | inr past ↦ omega (arith, get_or_past (reverse shape) k 1 past)
]

all : (first second joined : List ℕ) (axes axis : ℕ) → IsShape first → IsShape second → axes ≡ max (length first) (length second) → axes ≤ axis
    → Joins first second joined axes axis → Joined first second (take axes joined)
all first second joined axes axis f s count past h =
    let a = reverse first in
    let b = reverse second in
    let whole = take axes joined in
    let c = reverse whole in
    let size : length whole ≡ axes = omega (arith, length-take axes joined, h.room, f.axes, s.axes) in
    let back : length c ≡ axes = length-reverse whole ∙ size in
    let each : (k : ℕ) → k < length c → joined_extent (get_or a k 1) (get_or b k 1) ≡ Some (get_or c k 1) =
    (λ k lt.
    (let at : get_or c k 1 ≡ get_or whole (length whole - 1 - k) 1 = get_or-reverse whole k 1 (omega arith) in
    let taken : get_or whole (length whole - 1 - k) 1 ≡ get_or joined (length whole - 1 - k) 1 = get_or-take axes joined (length whole - 1 - k) 1 (omega arith) in
    h.each k (omega arith) ∙ ap (λ n. Some (get_or joined (n - 1 - k) 1)) (sym size) ∙ ap Some (sym (at ∙ taken)))) in
    let chosen : (k : ℕ) → k < length whole → (get_or c k 1 ≡ get_or a k 1) ⊎ (get_or c k 1 ≡ get_or b k 1) =
    (λ k lt. either (get_or a k 1) (get_or b k 1) (get_or c k 1) (each k (omega arith))) in
    record {
      shape = sym (ap (option_map reverse) (joined_all a b c (omega (arith, length-reverse first, length-reverse second)) each) ∙ ap Some (reverse-reverse whole));
      axes = size ∙ count;
      either = chosen;
      limits = record {
        axes = omega (arith, f.axes, s.axes);
        extents = λ k d lt.
            (let j = length whole - 1 - k in
            let at : get_or c j 1 ≡ get_or whole (length whole - 1 - j) 1 = get_or-reverse whole j 1 (omega arith) in
            let same : length whole - 1 - j ≡ k = omega arith in
            let small : get_or c j 1 ≤ MAX_END = elim (chosen j (omega arith)) [
              | inl e ↦ omega (arith, e, extent_small first j f)
              | inr e ↦ omega (arith, e, extent_small second j s)
            ] in
            omega (arith, at, small, ap (λ n. get_or whole n 1) same, get_or_default whole k 1 d lt));
      };
    }

-- the same, of lists that are equal to these
module _ (a b first second : List ℕ) (f : first ≡ a) (s : second ≡ b) (joined : List ℕ) (axes axis : ℕ) (h : Joins first second joined axes axis) where
  pub joins_stop : None ≡ joined_extent (get_or (reverse first) axis 1) (get_or (reverse second) axis 1) → Stopped a b axis
  joins_stop e = subst (λ x. Stopped x b axis) f (subst (λ y. Stopped first y axis) s (stop first second joined axes axis h e))

  pub joins_all : IsShape a → IsShape b → axes ≡ max (length first) (length second) → axes ≤ axis → Joined a b (take axes joined)
  joins_all left right count past =
      subst (λ x. Joined x b (take axes joined)) f (subst (λ y. Joined first y (take axes joined)) s
      (all first second joined axes axis (subst IsShape (sym f) left) (subst IsShape (sym s) right) count past h))
