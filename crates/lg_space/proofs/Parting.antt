-- Parts that make up what is cut off.
use Rattle.std.proofs.Common.{◌≡◌, ℕ, zero, suc, ◌+◌, ◌*◌, ◌<◌, ◌≤◌, ◌↔◌, ◌⊎◌, List, [], ◌∷◌, ◌++◌, length, get_or, Some, slice_get, refl, sym, ap, subst, ◌∙◌, inl, inr, arith, length-append}
use Rattle.std.specs.List.{All}
use Rattle.std.proofs.lemmas.Bool.{cases_lt}
use Rattle.std.proofs.lemmas.List.Elements.{All-push, All-nil}
use Rattle.std.proofs.lemmas.Option.{same_Some}
use Rattle.lg_space.specs.Rectangle.{IsIn, volume_of}
use Rattle.lg_space.specs.Partition.{Partitions}
use Rattle.lg_space.proofs.Places.{place-below}
use Rattle.lg_space.proofs.Inside.{Between, same_axes, between_at}

-- the indices of one rectangle that are not in another
abbrev pub IsOnlyIn : List (ℕ × ℕ) → List (ℕ × ℕ) → List ℕ → Type 0
IsOnlyIn whole rest index = IsIn whole index × (IsIn rest index → ⊥)

-- an index is in a rectangle or not
decide_in : (rect : List (ℕ × ℕ)) (index : List ℕ) → IsIn rect index ⊎ (IsIn rect index → ⊥)
decide_in [] [] = inl tt
decide_in [] (i ∷ index) = inr (λ h. h)
decide_in (range ∷ rect) [] = inr (λ h. h)
decide_in (range ∷ rect) (i ∷ index) = elim (cases_lt i range.0) [
  | inl below ↦ inr (λ h. omega (arith, h.0))
  | inr from ↦ elim (cases_lt i range.1) [
    | inl to ↦ elim (decide_in rect index) [ inl h ↦ inl (from, to, h) | inr out ↦ inr (λ h. out h.2) ]
    | inr past ↦ inr (λ h. omega (arith, h.1))
  ]
]

-- ---- one entry more in a list

pushed_cases : {A : Type 0} (xs : List A) (x : A) (k : ℕ) (y : A) → slice_get (xs ++ x ∷ []) k ≡ Some y → (slice_get xs k ≡ Some y) ⊎ ((k ≡ length xs) × (x ≡ y))
pushed_cases [] x zero y at = inr (refl, same_Some x y at)
pushed_cases [] x (suc k) y at = absurd (cc)
pushed_cases (z ∷ xs) x zero y at = inl at
pushed_cases (z ∷ xs) x (suc k) y at = elim (pushed_cases xs x k y at) [ inl h ↦ inl h | inr h ↦ inr (ap suc h.0, h.1) ]

there : {A : Type 0} (xs : List A) (x : A) → slice_get (xs ++ x ∷ []) (length xs) ≡ Some x
there [] x = refl
there (z ∷ xs) x = there xs x

still : {A : Type 0} (xs : List A) (x : A) (k : ℕ) (y : A) → slice_get xs k ≡ Some y → slice_get (xs ++ x ∷ []) k ≡ Some y
still [] x k y at = absurd (cc)
still (z ∷ xs) x zero y at = at
still (z ∷ xs) x (suc k) y at = still xs x k y at

-- ---- one part more

-- each index of a rectangle is kept or cut off
pub record IsSplit (rest kept cut : List (ℕ × ℕ)) : Type 0 where
  pub either : (index : List ℕ) → IsIn rest index → IsIn kept index ⊎ IsIn cut index
  pub keeps : (index : List ℕ) → IsIn kept index → IsIn rest index
  pub cuts : (index : List ℕ) → IsIn cut index → IsIn rest index
  pub apart : (index : List ℕ) → IsIn kept index → IsIn cut index → ⊥

-- the parts so far are what was cut off
pub record PartsSoFar (whole rest : List (ℕ × ℕ)) (parts : List (List (ℕ × ℕ))) : Type 0 where
  pub inside : (index : List ℕ) → IsIn rest index → IsIn whole index
  pub axes : All (λ part. length part ≡ length whole) parts
  pub filled : All (λ part. 0 < volume_of part) parts
  pub partition : Partitions parts (IsOnlyIn whole rest)

module _ (parts : List (List (ℕ × ℕ))) (whole rest kept cut : List (ℕ × ℕ)) (so_far : PartsSoFar whole rest parts) (split : IsSplit rest kept cut) where
  kept_apart : (number : ℕ) (tile : List (ℕ × ℕ)) (index : List ℕ) → slice_get parts number ≡ Some tile → IsIn tile index → IsOnlyIn whole kept index
  kept_apart number tile index at inside =
      let old = so_far.partition.within number tile index at inside in
      (old.0, λ in_kept. old.1 (split.keeps index in_kept))

  still_inside : (index : List ℕ) → IsIn kept index → IsIn whole index
  still_inside index h = so_far.inside index (split.keeps index h)

  -- where nothing was cut off, nothing is listed
  nothing_more : volume_of cut ≡ 0 → PartsSoFar whole kept parts
  nothing_more none = record {
    inside = still_inside;
    axes = so_far.axes;
    filled = so_far.filled;
    partition = record {
      cover = λ index only. so_far.partition.cover index (
        only.0,
        λ in_rest. elim (split.either index in_rest) [
          | inl in_kept ↦ only.1 in_kept
          | inr in_cut ↦ omega (arith, place-below cut index in_cut)
        ],
      );
      disjoint = so_far.partition.disjoint;
      within = kept_apart;
    };
  }

  -- a part meets none that was there
  meets_none : (number : ℕ) (tile : List (ℕ × ℕ)) (index : List ℕ) → slice_get parts number ≡ Some tile → IsIn tile index → IsIn cut index → ⊥
  meets_none number tile index at inside in_cut = (so_far.partition.within number tile index at inside).1 (split.cuts index in_cut)

  one_more : length cut ≡ length whole → 0 < volume_of cut → PartsSoFar whole kept (parts ++ cut ∷ [])
  one_more axes some = record {
    inside = still_inside;
    axes = All-push (λ (part : List (ℕ × ℕ)). length part ≡ length whole) parts cut so_far.axes axes;
    filled = All-push (λ (part : List (ℕ × ℕ)). 0 < volume_of part) parts cut so_far.filled some;
    partition = record {
      cover = λ index only. elim (decide_in cut index) [
        | inl in_cut ↦ (length parts, cut, there parts cut, in_cut)
        | inr out ↦
            let old = so_far.partition.cover index (
              only.0,
              λ in_rest. elim (split.either index in_rest) [
                | inl in_kept ↦ only.1 in_kept
                | inr in_cut ↦ out in_cut
              ],
            ) in
            (old.0, old.1, still parts cut old.0 old.1 old.2, old.3)
      ];
      disjoint = λ first second a b index at_first at_second in_a in_b. elim (pushed_cases parts cut first a at_first) [
        | inl f ↦ elim (pushed_cases parts cut second b at_second) [
          | inl s ↦ so_far.partition.disjoint first second a b index f s in_a in_b
          | inr s ↦ absurd (meets_none first a index f in_a (subst (λ r. IsIn r index) (sym s.1) in_b))
        ]
        | inr f ↦ elim (pushed_cases parts cut second b at_second) [
          | inl s ↦ absurd (meets_none second b index s in_b (subst (λ r. IsIn r index) (sym f.1) in_a))
          | inr s ↦ f.0 ∙ sym s.0
        ]
      ];
      within = λ number tile index at inside. elim (pushed_cases parts cut number tile at) [
        | inl f ↦ kept_apart number tile index f inside
        | inr f ↦
            let in_cut = subst (λ r. IsIn r index) (sym f.1) inside in
            (so_far.inside index (split.cuts index in_cut), λ in_kept. split.apart index in_kept in_cut)
      ];
    };
  }

  -- the part is listed where it holds an index
  pub part_more : (new : List (List (ℕ × ℕ))) → length cut ≡ length whole → (volume_of cut ≡ 0 → new ≡ parts)
      → (0 < volume_of cut → new ≡ parts ++ cut ∷ []) → PartsSoFar whole kept new × (length new ≤ length parts + 1)
  part_more new axes none some = elim (cases_lt 0 (volume_of cut)) [
    | inl h ↦ (subst (PartsSoFar whole kept) (sym (some h)) (one_more axes h), omega (arith, ap length (some h), length-append parts (cut ∷ [])))
    | inr h ↦
        let zero_volume : volume_of cut ≡ 0 = omega arith in
        (subst (PartsSoFar whole kept) (sym (none zero_volume)) (nothing_more zero_volume), omega (arith, ap length (none zero_volume)))
  ]

-- ---- axis by axis

-- on the first axes an index lies in the ranges of a rectangle
abbrev pub IsInFirst : ℕ → List (ℕ × ℕ) → List ℕ → Type 0
IsInFirst axes rect index = (k : ℕ) → k < axes → Between rect index k

in_each : (rect : List (ℕ × ℕ)) (index : List ℕ) → length index ≡ length rect → IsInFirst (length rect) rect index → IsIn rect index
in_each [] [] same h = tt
in_each [] (i ∷ index) same h = absurd (omega arith)
in_each (range ∷ rect) [] same h = absurd (omega arith)
in_each (range ∷ rect) (i ∷ index) same h =
    let first = h 0 (omega arith) in
    (first.from, first.below, in_each rect index (omega arith) (λ k lt. (let b = h (suc k) (omega arith) in record { from = b.from; below = b.below })))

-- what is left after so many axes, and the parts so far
pub record CutSoFar (whole other : List (ℕ × ℕ)) (axes : ℕ) (rest : List (ℕ × ℕ)) (parts : List (List (ℕ × ℕ))) : Type 0 where
  pub same : length rest ≡ length whole
  pub few : length parts ≤ 2 * axes
  pub left : (index : List ℕ) → IsIn rest index ↔ (IsIn whole index × IsInFirst axes other index)
  pub made : PartsSoFar whole rest parts

pub cut_none : (whole other : List (ℕ × ℕ)) → CutSoFar whole other 0 whole []
cut_none whole other = record {
  same = refl;
  few = omega arith;
  left = λ index. (λ h. (h, λ k lt. absurd (omega arith)), λ h. h.0);
  made = record {
    inside = λ index h. h;
    axes = All-nil (λ (part : List (ℕ × ℕ)). length part ≡ length whole);
    filled = All-nil (λ (part : List (ℕ × ℕ)). 0 < volume_of part);
    partition = record {
      cover = λ index only. absurd (only.1 only.0);
      disjoint = λ first second a b index at_first at_second in_a in_b. absurd (cc);
      within = λ number tile index at inside. absurd (cc);
    };
  };
}

-- what is known of a cut in two
pub record IsCutAt (rect below above : List (ℕ × ℕ)) (axis at : ℕ) : Type 0 where
  pub same_below : length below ≡ length rect
  pub same_above : length above ≡ length rect
  pub is_below : (index : List ℕ) → IsIn below index ↔ (IsIn rect index × (get_or index axis 0 < at))
  pub is_above : (index : List ℕ) → IsIn above index ↔ (IsIn rect index × (at ≤ get_or index axis 0))

keeps_above : (rect below above : List (ℕ × ℕ)) (axis at : ℕ) → IsCutAt rect below above axis at → IsSplit rect above below
keeps_above rect below above axis at h = record {
  either = λ index inside. elim (cases_lt (get_or index axis 0) at) [
    | inl lt ↦ inr ((h.is_below index).1 (inside, lt))
    | inr le ↦ inl ((h.is_above index).1 (inside, le))
  ];
  keeps = λ index inside. ((h.is_above index).0 inside).0;
  cuts = λ index inside. ((h.is_below index).0 inside).0;
  apart = λ index up down. omega (arith, ((h.is_above index).0 up).1, ((h.is_below index).0 down).1);
}

keeps_below : (rect below above : List (ℕ × ℕ)) (axis at : ℕ) → IsCutAt rect below above axis at → IsSplit rect below above
keeps_below rect below above axis at h = record {
  either = λ index inside. elim (cases_lt (get_or index axis 0) at) [
    | inl lt ↦ inl ((h.is_below index).1 (inside, lt))
    | inr le ↦ inr ((h.is_above index).1 (inside, le))
  ];
  keeps = λ index inside. ((h.is_below index).0 inside).0;
  cuts = λ index inside. ((h.is_above index).0 inside).0;
  apart = λ index down up. omega (arith, ((h.is_above index).0 up).1, ((h.is_below index).0 down).1);
}

-- one axis more
pub cut_more : (whole other : List (ℕ × ℕ)) (axis : ℕ) (rest : List (ℕ × ℕ)) (parts : List (List (ℕ × ℕ))) (range : ℕ × ℕ)
    (below from within above : List (ℕ × ℕ)) (first second : List (List (ℕ × ℕ)))
    → CutSoFar whole other axis rest parts → get_or other axis (0, 0) ≡ range
    → IsCutAt rest below from axis range.0 → IsCutAt from within above axis range.1
    → (volume_of below ≡ 0 → first ≡ parts) → (0 < volume_of below → first ≡ parts ++ below ∷ [])
    → (volume_of above ≡ 0 → second ≡ first) → (0 < volume_of above → second ≡ first ++ above ∷ [])
    → CutSoFar whole other (axis + 1) within second
cut_more whole other axis rest parts range below from within above first second h is_range low high none_below some_below none_above some_above =
    let one = part_more parts whole rest from below h.made (keeps_above rest below from axis range.0 low) first (low.same_below ∙ h.same) none_below some_below in
    let two = part_more first whole from within above one.0 (keeps_below from within above axis range.1 high) second (high.same_above ∙ low.same_above ∙ h.same) none_above some_above in
    let from_is : (get_or other axis (0, 0)).0 ≡ range.0 = ap (λ (r : ℕ × ℕ). r.0) is_range in
    let to_is : (get_or other axis (0, 0)).1 ≡ range.1 = ap (λ (r : ℕ × ℕ). r.1) is_range in
    record {
      same = high.same_below ∙ low.same_above ∙ h.same;
      few = omega (arith, h.few, one.1, two.1);
      left = λ index. (
        λ inside.
            (let b = (high.is_below index).0 inside in
            let a = (low.is_above index).0 b.0 in
            let old = (h.left index).0 a.0 in
            let here : Between other index axis = record { from = omega (arith, a.1); below = omega (arith, b.1) } in (
              old.0,
              λ k lt. elim (cases_lt k axis) [
                | inl earlier ↦ old.1 k earlier
                | inr not_earlier ↦ (let e : axis ≡ k = omega arith in subst (Between other index) e here)
              ],
            )),
        λ facts.
            (let here = facts.1 axis (omega arith) in
            let old = (h.left index).1 (facts.0, λ k lt. facts.1 k (omega arith)) in
            (high.is_below index).1 ((low.is_above index).1 (old, omega (arith, here.from)), omega (arith, here.below))),
      );
      made = two.0;
    }

-- all axes
pub cut_all : (whole other : List (ℕ × ℕ)) (axes : ℕ) (rest : List (ℕ × ℕ)) (parts : List (List (ℕ × ℕ))) → length whole ≡ length other → axes ≡ length whole
    → CutSoFar whole other axes rest parts → Partitions parts (IsOnlyIn whole other)
cut_all whole other axes rest parts same all h =
    let to_other : (index : List ℕ) → IsIn rest index → IsIn other index =
    λ index inside.
    (let old = (h.left index).0 inside in
    in_each other index (omega (arith, same_axes whole index old.0)) (λ k lt. old.1 k (omega arith))) in
    let to_rest : (index : List ℕ) → IsIn whole index → IsIn other index → IsIn rest index =
    λ index inside in_other. (h.left index).1 (inside, λ k lt. between_at other index k in_other (omega arith)) in
    record {
      cover = λ index only. h.made.partition.cover index (only.0, λ in_rest. only.1 (to_other index in_rest));
      disjoint = h.made.partition.disjoint;
      within = λ number tile index at inside.
          (let old = h.made.partition.within number tile index at inside in
          (old.0, λ in_other. old.1 (to_rest index old.0 in_other)));
    }
