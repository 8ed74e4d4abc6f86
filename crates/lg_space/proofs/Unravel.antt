-- The index at a place, axis by axis from the first one on.
use Rattle.std.proofs.Common.{◌≡◌, ℕ, zero, suc, ◌+◌, ◌-◌, ◌*◌, ◌/◌, ◌%◌, ◌<◌, ◌≤◌, List, [], ◌∷◌, ◌++◌, length, get_or, set, take, drop, refl, sym, ap, subst, ◌∙◌, arith, add-one, append_assoc, append-nil}
use Rattle.std.proofs.Math.Nat.{div-lt_iff_lt-mul, mul-div_cancel_left, mod-add-div', mul_comm, add_comm, mul-zero, mod-lt}
use Rattle.std.proofs.Math.Seq.{drop-cons, take-suc-set}
use Rattle.std.proofs.lemmas.List.{drop_all}
use Rattle.lg_space.specs.Rectangle.{IsIn, volume_of, place_in}

-- the coordinates so far are right: any index of the axes behind them that stands at the rest
-- completes the index
pub record Unravels (rect : List (ℕ × ℕ)) (at : List ℕ) (k axis rest stride : ℕ) : Type 0 where
  pub stride_is : stride ≡ volume_of (drop axis rect)
  pub within : rest < stride
  pub completes : (index : List ℕ) → IsIn (drop axis rect) index → place_in (drop axis rect) index ≡ rest
      → IsIn rect (take axis at ++ index) × (place_in rect (take axis at ++ index) ≡ k)

-- what is above something is no product with 0
positive_right : (a b n : ℕ) → n < a * b → 0 < b
positive_right a zero n h = absurd (omega (arith, mul-zero a))
positive_right a (suc b) n h = omega arith

-- the next coordinate, in the numbers alone
pub record Digit (low high rest stride volume : ℕ) : Type 0 where
  pub ordered : low < high
  pub smaller : stride / (high - low) ≡ volume
  pub positive : 0 < volume
  pub below : low + rest / volume < high
  pub again : rest / volume * volume + rest % volume ≡ rest

pub digit : (low high rest stride volume : ℕ) → stride ≡ (high - low) * volume → rest < stride → Digit low high rest stride volume
digit low high rest stride volume e lt =
    let positive : 0 < volume = positive_right (high - low) volume rest (omega arith) in
    let extent : 0 < high - low = positive_right volume (high - low) rest (rw (mul_comm volume (high - low)) (omega arith)) in
    let quotient : rest / volume < high - low = (div-lt_iff_lt-mul positive).1 (omega arith) in
    record {
      ordered = omega arith;
      smaller = ap (λ n. n / (high - low)) e ∙ mul-div_cancel_left volume extent;
      positive = positive;
      below = omega arith;
      again = add_comm (rest / volume * volume) (rest % volume) ∙ mod-add-div' rest volume;
    }

offset : (low quotient volume : ℕ) → (low + quotient - low) * volume ≡ quotient * volume
offset low quotient volume = ap (λ n. n * volume) (omega arith)

module _ (rect : List (ℕ × ℕ)) (at : List ℕ) (k axis rest stride : ℕ) (lt : axis < length rect) (u : Unravels rect at k axis rest stride) where
  volume : ℕ
  volume = volume_of (drop (axis + 1) rect)

  x : ℕ
  x = (get_or rect axis (0, 0)).0 + rest / volume

  front : drop axis rect ≡ get_or rect axis (0, 0) ∷ drop (axis + 1) rect
  front = rw add-one (drop-cons rect axis (0, 0) lt)

  known : Digit (get_or rect axis (0, 0)).0 (get_or rect axis (0, 0)).1 rest stride volume
  unfolding volume
  known = digit _ _ rest stride (volume_of (drop (axis + 1) rect)) (u.stride_is ∙ ap volume_of front) u.within

  next : axis < length at → Unravels rect (set at axis x) k (axis + 1) (rest % volume) volume
  unfolding volume x
  next room = record {
    stride_is = refl;
    within = mod-lt rest known.positive;
    completes = λ index h e.
        (let inside : IsIn (get_or rect axis (0, 0) ∷ drop (axis + 1) rect) (x ∷ index) = (omega arith, known.below, h) in
        let place : place_in (get_or rect axis (0, 0) ∷ drop (axis + 1) rect) (x ∷ index) ≡ rest =
        omega (arith, known.again, e, offset (get_or rect axis (0, 0)).0 (rest / volume) volume) in
        let done = u.completes (x ∷ index) (subst (λ r. IsIn r (x ∷ index)) (sym front) inside) (ap (λ r. place_in r (x ∷ index)) front ∙ place) in
        let one : axis + 1 ≡ suc axis = omega arith in
        let same : take (axis + 1) (set at axis x) ++ index ≡ take axis at ++ x ∷ index =
        ap (λ n. take n (set at axis x) ++ index) one ∙ ap (λ l. l ++ index) (take-suc-set at axis x room) ∙ append_assoc (take axis at) (x ∷ []) index in
        subst (λ (i : List ℕ). IsIn rect i × (place_in rect i ≡ k)) (sym same) done);
  }

  -- what is known where an axis is reached, of the stride behind it
  pub record Turn (behind : ℕ) : Type 0 where
    pub extent : 0 < (get_or rect axis (0, 0)).1 - (get_or rect axis (0, 0)).0
    pub positive : 0 < behind
    pub below : (get_or rect axis (0, 0)).0 + rest / behind < (get_or rect axis (0, 0)).1
    pub next : axis < length at → Unravels rect (set at axis ((get_or rect axis (0, 0)).0 + rest / behind)) k (axis + 1) (rest % behind) behind

  pub turn : Turn (stride / ((get_or rect axis (0, 0)).1 - (get_or rect axis (0, 0)).0))
  unfolding volume x
  turn = subst Turn (sym known.smaller) (record {
    extent = omega (arith, known.ordered);
    positive = known.positive;
    below = known.below;
    next = next;
  })

-- the first axis is still to come
pub unravels_none : (rect : List (ℕ × ℕ)) (at : List ℕ) (k : ℕ) → k < volume_of rect → Unravels rect at k 0 k (volume_of rect)
unravels_none rect at k lt = record { stride_is = refl; within = lt; completes = λ index h e. (h, e) }

-- no axis is left
pub unravels_all : (rect : List (ℕ × ℕ)) (at : List ℕ) (k axis rest stride : ℕ) → length rect ≤ axis → Unravels rect at k axis rest stride
    → IsIn rect (take axis at) × (place_in rect (take axis at) ≡ k)
unravels_all rect at k axis rest stride past u =
    let none = drop_all axis rect past in
    let one : stride ≡ 1 = u.stride_is ∙ ap volume_of none in
    let done = u.completes [] (subst (λ r. IsIn r []) (sym none) tt) (ap (λ r. place_in r []) none ∙ (omega (arith, one, u.within))) in
    subst (λ (i : List ℕ). IsIn rect i × (place_in rect i ≡ k)) (append-nil (take axis at)) done

-- what was written is the index
pub unraveled : (rect : List (ℕ × ℕ)) (at result : List ℕ) (k axis rest stride : ℕ) → length rect ≤ axis → axis ≤ length rect
    → result ≡ take (length rect) at → Unravels rect at k axis rest stride → IsIn rect result × (place_in rect result ≡ k)
unraveled rect at result k axis rest stride past within e u =
    let all = unravels_all rect at k axis rest stride past u in
    let end : axis ≡ length rect = omega arith in
    let same : take axis at ≡ result = ap (λ n. take n at) end ∙ sym e in
    subst (λ (i : List ℕ). IsIn rect i × (place_in rect i ≡ k)) same all
