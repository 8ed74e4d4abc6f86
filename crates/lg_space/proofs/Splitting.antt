-- A rectangle cut in two on one axis.
use Rattle.std.proofs.Common.{◌≡◌, ℕ, zero, suc, ◌-◌, ◌<◌, ◌≤◌, ◌↔◌, min, max, List, [], ◌∷◌, length, get_or, set, take, replicate, Some, slice_get, ap, subst, ◌∙◌, arith}
use Rattle.std.proofs.Math.Nat.{mul-le-mul}
use Rattle.std.proofs.Math.Seq.{take-append_seam, take-set-lt}
use Rattle.std.proofs.lemmas.List.{length-set}
use Rattle.std.proofs.lemmas.List.Elements.{All-set, All-get_or}
use Rattle.std.proofs.lemmas.Option.{same_Some, slice_get_within, get_or_from_slice_get}
use Rattle.lg_space.specs.declared.point.TheConstants.{MAX_AXES}
use Rattle.lg_space.specs.Rectangle.{IsIn, volume_of}
use Rattle.lg_space.specs.Stored.{IsStorable, MAX_END, padded}

-- one range is written over
pub set_range : (rect kept : List (ℕ × ℕ)) (axes axis : ℕ) (range : ℕ × ℕ) → axis < length rect → axes ≡ length rect → kept ≡ padded (0, 0) rect
    → take axes (set kept axis range) ≡ set rect axis range
set_range rect kept axes axis range lt count same =
    ap (λ n. take n (set kept axis range)) count
    ∙ take-set-lt (length rect) kept axis range lt
    ∙ ap (λ l. set (take (length rect) l) axis range) same
    ∙ ap (λ l. set l axis range) (take-append_seam rect (replicate (MAX_AXES - length rect) (0, 0)))

-- a range inside the one that was there makes no more indices
volume-set : (rect : List (ℕ × ℕ)) (axis : ℕ) (old new : ℕ × ℕ) → slice_get rect axis ≡ Some old → old.0 ≤ new.0 → new.1 ≤ old.1
    → volume_of (set rect axis new) ≤ volume_of rect
volume-set [] axis old new at from to = omega arith
volume-set (range ∷ rect) zero old new at from to =
    let e = same_Some range old at in
    let low : range.0 ≡ old.0 = ap (λ (r : ℕ × ℕ). r.0) e in
    let high : range.1 ≡ old.1 = ap (λ (r : ℕ × ℕ). r.1) e in
    mul-le-mul (omega arith) (omega arith)
volume-set (range ∷ rect) (suc axis) old new at from to = mul-le-mul (omega arith) (volume-set rect axis old new at from to)

pub storable-set : (rect : List (ℕ × ℕ)) (axis : ℕ) (old new : ℕ × ℕ) → IsStorable rect → slice_get rect axis ≡ Some old
    → old.0 ≤ new.0 → new.0 ≤ new.1 → new.1 ≤ old.1 → IsStorable (set rect axis new)
storable-set rect axis old new h at from ordered to =
    let below : (ℕ × ℕ) → Type 0 = λ range. range.1 ≤ MAX_END in
    let within = slice_get_within rect axis old at in
    let end : (get_or rect axis (0, 0)).1 ≤ MAX_END = All-get_or below rect axis (0, 0) within h.ends in
    let same : (get_or rect axis (0, 0)).1 ≡ old.1 = ap (λ (r : ℕ × ℕ). r.1) (get_or_from_slice_get rect axis old (0, 0) at) in
    record {
      axes = omega (arith, h.axes, length-set rect axis new);
      ordered = All-set (λ (range : ℕ × ℕ). range.0 ≤ range.1) rect axis new ordered h.ordered;
      ends = All-set below rect axis new (omega arith) h.ends;
      volume = omega (arith, h.volume, volume-set rect axis old new at from to);
    }

-- the range is ordered
pub ordered_at : (rect : List (ℕ × ℕ)) (axis : ℕ) (old : ℕ × ℕ) → IsStorable rect → slice_get rect axis ≡ Some old → old.0 ≤ old.1
ordered_at rect axis old h at =
    let P : (ℕ × ℕ) → Type 0 = λ range. range.0 ≤ range.1 in
    subst P (get_or_from_slice_get rect axis old (0, 0) at)
    (All-get_or P rect axis (0, 0) (slice_get_within rect axis old at) h.ordered)

-- the indices below a coordinate
pub in_below : (rect : List (ℕ × ℕ)) (axis middle at : ℕ) (old : ℕ × ℕ) (index : List ℕ) → slice_get rect axis ≡ Some old → middle ≡ min (max at old.0) old.1
    → IsIn (set rect axis (old.0, middle)) index ↔ (IsIn rect index × (get_or index axis 0 < at))
in_below [] axis middle at old index there cut = absurd (cc)
in_below (range ∷ rect) zero middle at old [] there cut = (λ h. absurd h, λ h. absurd h.0)
in_below (range ∷ rect) zero middle at old (i ∷ index) there cut =
    let e = same_Some range old there in
    let low : range.0 ≡ old.0 = ap (λ (r : ℕ × ℕ). r.0) e in
    let high : range.1 ≡ old.1 = ap (λ (r : ℕ × ℕ). r.1) e in
    (λ h. ((omega (arith, h.0), omega (arith, h.0, h.1), h.2), omega (arith, h.0, h.1)), λ h. (omega (arith, h.0.0), omega (arith, h.0.0, h.0.1, h.1), h.0.2))
in_below (range ∷ rect) (suc axis) middle at old [] there cut = (λ h. absurd h, λ h. absurd h.0)
in_below (range ∷ rect) (suc axis) middle at old (i ∷ index) there cut =
    let rest = in_below rect axis middle at old index there cut in
    (λ h. (let r = rest.0 h.2 in ((h.0, h.1, r.0), r.1)), λ h. (h.0.0, h.0.1, rest.1 (h.0.2, h.1)))

-- the indices from a coordinate on
pub in_above : (rect : List (ℕ × ℕ)) (axis middle at : ℕ) (old : ℕ × ℕ) (index : List ℕ) → slice_get rect axis ≡ Some old → middle ≡ min (max at old.0) old.1
    → IsIn (set rect axis (middle, old.1)) index ↔ (IsIn rect index × (at ≤ get_or index axis 0))
in_above [] axis middle at old index there cut = absurd (cc)
in_above (range ∷ rect) zero middle at old [] there cut = (λ h. absurd h, λ h. absurd h.0)
in_above (range ∷ rect) zero middle at old (i ∷ index) there cut =
    let e = same_Some range old there in
    let low : range.0 ≡ old.0 = ap (λ (r : ℕ × ℕ). r.0) e in
    let high : range.1 ≡ old.1 = ap (λ (r : ℕ × ℕ). r.1) e in
    (λ h. ((omega (arith, h.0, h.1), omega (arith, h.1), h.2), omega (arith, h.0, h.1)), λ h. (omega (arith, h.0.0, h.0.1, h.1), omega (arith, h.0.1), h.0.2))
in_above (range ∷ rect) (suc axis) middle at old [] there cut = (λ h. absurd h, λ h. absurd h.0)
in_above (range ∷ rect) (suc axis) middle at old (i ∷ index) there cut =
    let rest = in_above rect axis middle at old index there cut in
    (λ h. (let r = rest.0 h.2 in ((h.0, h.1, r.0), r.1)), λ h. (h.0.0, h.0.1, rest.1 (h.0.2, h.1)))
