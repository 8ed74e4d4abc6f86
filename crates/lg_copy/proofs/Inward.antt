-- Copies along all axes, one axis inward after the other.
use Rattle.std.proofs.Common.{◌≡◌, ℕ, zero, suc, ◌+◌, ◌-◌, ◌<◌, ◌≤◌, List, [], ◌∷◌, length, ◌⊎◌, inl, inr, set, get_or, pos, ◌+ℤ◌, ◌*ℤ◌, refl, ap, subst, ◌∙◌, arith}
use Rattle.std.proofs.lemmas.Bool.{cases_eq, cases_lt}
use Rattle.std.proofs.lemmas.Int.{ints}
use Rattle.lg_space.specs.Stored.{MAX_VOLUME}
use Rattle.lg_copy.specs.declared.axis.Axis.{Axis}
use Rattle.lg_copy.specs.Copying.{Copied, IsAmong, way_from, way_to, Goes, GoesAlong, IsPlace, AreSome, AreSmall, Fits, FitsAlong, IsSingle}
use Rattle.lg_copy.proofs.Moves.{copied_none, copied_one, copied_both, copied_as}

-- the first index
abbrev zeros : List Axis → List ℕ
zeros [] = []
zeros (axis ∷ axes) = 0 ∷ zeros axes

zeros_among : (axes : List Axis) → AreSome axes → IsAmong axes (zeros axes)
zeros_among [] some = tt
zeros_among (axis ∷ axes) some = (some.0, zeros_among axes some.1)

zeros_from : (axes : List Axis) → way_from axes (zeros axes) ≡ pos 0
zeros_from [] = refl
zeros_from (axis ∷ axes) = omega (arith, ints, zeros_from axes)

zeros_to : (axes : List Axis) → way_to axes (zeros axes) ≡ pos 0
zeros_to [] = refl
zeros_to (axis ∷ axes) = omega (arith, ints, zeros_to axes)

pub no_axes : (axes : List Axis) → length axes ≡ 0 → axes ≡ []
no_axes [] h = refl
no_axes (axis ∷ axes) h = absurd (omega (arith, h))

-- ---- what fits

module _ (from to source target : ℕ) where
  -- the first index of all has its places
  pub first_fits : (axes : List Axis) → Fits from to axes source target → (from < source) × (to < target)
  first_fits axes h =
      let r = h.reads (zeros axes) (zeros_among axes h.some) in
      let w = h.writes (zeros axes) (zeros_among axes h.some) in
      (omega (arith, ints, r.low, r.high, zeros_from axes), omega (arith, ints, w.low, w.high, zeros_to axes))

  -- so has the first index at each coordinate of the first axis
  pub step_fits : (axis : Axis) (axes : List Axis) (k : ℕ) → Fits from to (axis ∷ axes) source target → k < axis.count
      → IsPlace (pos from +ℤ (pos k *ℤ axis.from)) source × IsPlace (pos to +ℤ (pos k *ℤ axis.to)) target
  step_fits axis axes k h below =
      let r = h.reads (k ∷ zeros axes) (below, zeros_among axes h.some.1) in
      let w = h.writes (k ∷ zeros axes) (below, zeros_among axes h.some.1) in (
        record { low = omega (arith, ints, r.low, zeros_from axes); high = omega (arith, ints, r.high, zeros_from axes) },
        record { low = omega (arith, ints, w.low, zeros_to axes); high = omega (arith, ints, w.high, zeros_to axes) },
      )

  -- which are small where the lists are
  pub step_small : (axis : Axis) (axes : List Axis) (k : ℕ) → Fits from to (axis ∷ axes) source target → source ≤ MAX_VOLUME → target ≤ MAX_VOLUME → AreSmall (axis ∷ axes)
      → k < axis.count
      → ((from ≤ MAX_VOLUME) × (to ≤ MAX_VOLUME) × (k ≤ MAX_VOLUME)) × IsPlace (pos from +ℤ (pos k *ℤ axis.from)) MAX_VOLUME × IsPlace (pos to +ℤ (pos k *ℤ axis.to)) MAX_VOLUME
  step_small axis axes k h few small counts below =
      let first = first_fits (axis ∷ axes) h in
      let at = step_fits axis axes k h below in (
        (omega (arith, first.0, few), omega (arith, first.1, small), omega (arith, counts.0, below)),
        record { low = at.0.low; high = omega (arith, ints, at.0.high, few) },
        record { low = at.1.low; high = omega (arith, ints, at.1.high, small) },
      )

  -- and the indices of the other axes behind it
  pub inner_fits : (axis : Axis) (axes : List Axis) (k s q : ℕ) → Fits from to (axis ∷ axes) source target → k < axis.count
      → pos s ≡ pos from +ℤ (pos k *ℤ axis.from) → pos q ≡ pos to +ℤ (pos k *ℤ axis.to) → Fits s q axes source target
  inner_fits axis axes k s q h below reads writes = record {
    some = h.some.1;
    reads = λ index among. (let r = h.reads (k ∷ index) (below, among) in record { low = omega (arith, ints, r.low, reads); high = omega (arith, ints, r.high, reads) });
    writes = λ index among. (let w = h.writes (k ∷ index) (below, among) in record { low = omega (arith, ints, w.low, writes); high = omega (arith, ints, w.high, writes) });
  }

  -- a single axis
  pub last_fits : (axis : Axis) → Fits from to (axis ∷ []) source target → FitsAlong from to axis.count axis.from axis.to source target
  last_fits axis h = record {
    reads = λ k below. (step_fits axis [] k h below).0;
    writes = λ k below. (step_fits axis [] k h below).1;
  }

-- ---- what is copied

module _ {T : Type 0} (source : List T) where
  pub goes_none : (axis : Axis) (axes : List Axis) (from to : ℕ) (old : List T) → axis.count ≡ 0 → Copied source old old (λ s q. Goes from to (axis ∷ axes) s q)
  goes_none axis axes from to old none = copied_none source old (λ s q. Goes from to (axis ∷ axes) s q) (λ s q g. by_index g.index g.among)
    where
      by_index : (index : List ℕ) → IsAmong (axis ∷ axes) index → ⊥
      by_index [] among = among
      by_index (i ∷ index) among = omega (arith, among.0, none)

  -- no axis
  pub goes_one : (from to : ℕ) (old new : List T) (x d : T) → from < length source → to < length old → x ≡ get_or source from d → new ≡ set old to x
      → Copied source old new (λ s q. Goes from to [] s q)
  goes_one from to old new x d reads writes is wrote =
      copied_one source old new from to x d (λ s q. Goes from to [] s q) reads writes is wrote
      (record { index = []; among = tt; source = omega (arith, ints); target = omega (arith, ints) })
      (λ a b g. omega (arith, ints, g.target))

  -- one axis
  pub goes_along : (axis : Axis) (from to : ℕ) (old new : List T) → Copied source old new (λ s q. GoesAlong from to axis.count axis.from axis.to s q)
      → Copied source old new (λ s q. Goes from to (axis ∷ []) s q)
  goes_along axis from to old new before =
      copied_as source old new (λ s q. GoesAlong from to axis.count axis.from axis.to s q) (λ s q. Goes from to (axis ∷ []) s q) before
      (λ s q g. record { index = g.k ∷ []; among = (g.below, tt); source = omega (arith, ints, g.source); target = omega (arith, ints, g.target) })
      (λ s q g. back s q g.index g.among g.source g.target)
    where
      back : (s q : ℕ) (index : List ℕ) → IsAmong (axis ∷ []) index → pos s ≡ pos from +ℤ way_from (axis ∷ []) index → pos q ≡ pos to +ℤ way_to (axis ∷ []) index
          → GoesAlong from to axis.count axis.from axis.to s q
      back s q [] among reads writes = absurd among
      back s q (i ∷ []) among reads writes = record { k = i; below = among.0; source = omega (arith, ints, reads); target = omega (arith, ints, writes) }
      back s q (i ∷ j ∷ index) among reads writes = absurd among.1

  -- one coordinate more of the first axis
  pub goes_next : (axis : Axis) (axes : List Axis) (from to k here there : ℕ) (old mid new : List T) → pos here ≡ pos from +ℤ (pos k *ℤ axis.from)
      → pos there ≡ pos to +ℤ (pos k *ℤ axis.to) → Copied source old mid (λ s q. Goes from to (record axis { count = k } ∷ axes) s q)
      → Copied source mid new (λ s q. Goes here there axes s q)
      → Copied source old new (λ s q. Goes from to (record axis { count = k + 1 } ∷ axes) s q)
  goes_next axis axes from to k here there old mid new reads writes before this =
      copied_both source old mid new (λ s q. Goes from to (record axis { count = k } ∷ axes) s q) (λ s q. Goes here there axes s q)
      (λ s q. Goes from to (record axis { count = k + 1 } ∷ axes) s q) before this
      (λ s q g. record { index = g.index; among = more g.index g.among; source = g.source ∙ ap (pos from +ℤ◌) (same_from g.index); target = g.target ∙ ap (pos to +ℤ◌) (same_to g.index) })
      (λ s q g. record { index = k ∷ g.index; among = (omega arith, g.among); source = omega (arith, ints, g.source, reads); target = omega (arith, ints, g.target, writes) })
      (λ s q g. back s q g.index g.among g.source g.target)
    where
      more : (index : List ℕ) → IsAmong (record axis { count = k } ∷ axes) index → IsAmong (record axis { count = k + 1 } ∷ axes) index
      more [] among = among
      more (i ∷ index) among = (omega (arith, among.0), among.1)

      same_from : (index : List ℕ) → way_from (record axis { count = k } ∷ axes) index ≡ way_from (record axis { count = k + 1 } ∷ axes) index
      same_from [] = refl
      same_from (i ∷ index) = refl

      same_to : (index : List ℕ) → way_to (record axis { count = k } ∷ axes) index ≡ way_to (record axis { count = k + 1 } ∷ axes) index
      same_to [] = refl
      same_to (i ∷ index) = refl

      back : (s q : ℕ) (index : List ℕ) → IsAmong (record axis { count = k + 1 } ∷ axes) index → pos s ≡ pos from +ℤ way_from (record axis { count = k + 1 } ∷ axes) index
          → pos q ≡ pos to +ℤ way_to (record axis { count = k + 1 } ∷ axes) index
          → Goes from to (record axis { count = k } ∷ axes) s q ⊎ Goes here there axes s q
      back s q [] among at in_target = absurd among
      back s q (i ∷ index) among at in_target = elim (cases_eq i k) [
        | inl e ↦
            inr (record {
              index = index;
              among = among.1;
              source = at ∙ ap (λ j. pos from +ℤ ((pos j *ℤ axis.from) +ℤ way_from axes index)) e ∙ omega (arith, ints, reads);
              target = in_target ∙ ap (λ j. pos to +ℤ ((pos j *ℤ axis.to) +ℤ way_to axes index)) e ∙ omega (arith, ints, writes);
            })
        | inr ne ↦ inl (record { index = i ∷ index; among = (omega (arith, among.0), among.1); source = at; target = in_target })
      ]

  pub goes_all : (axis : Axis) (axes : List Axis) (from to k : ℕ) (old new : List T) → k ≡ axis.count → Copied source old new (λ s q. Goes from to (record axis { count = k } ∷ axes) s q)
      → Copied source old new (λ s q. Goes from to (axis ∷ axes) s q)
  goes_all axis axes from to k old new e before = subst (λ n. Copied source old new (λ s q. Goes from to (record axis { count = n } ∷ axes) s q)) e before

-- ---- parts of an axis, and two axes exchanged

module _ (axis : Axis) (axes : List Axis) (from to a b here there : ℕ) (reads : pos here ≡ pos from +ℤ (pos a *ℤ axis.from)) (writes : pos there ≡ pos to +ℤ (pos a *ℤ axis.to)) where
  -- the indices of a later part of the first axis fit
  pub part_fits : (source target : ℕ) → Fits from to (axis ∷ axes) source target → a + b ≤ axis.count → 0 < b → Fits here there (record axis { count = b } ∷ axes) source target
  part_fits source target h within some = record {
    some = (some, h.some.1);
    reads = λ index among. read index among;
    writes = λ index among. write index among;
  }
    where
      read : (index : List ℕ) → IsAmong (record axis { count = b } ∷ axes) index → IsPlace (pos here +ℤ way_from (record axis { count = b } ∷ axes) index) source
      read [] among = absurd among
      read (i ∷ index) among =
          let at = h.reads ((a + i) ∷ index) (omega (arith, within, among.0), among.1) in
          record { low = omega (arith, ints, at.low, reads); high = omega (arith, ints, at.high, reads) }

      write : (index : List ℕ) → IsAmong (record axis { count = b } ∷ axes) index → IsPlace (pos there +ℤ way_to (record axis { count = b } ∷ axes) index) target
      write [] among = absurd among
      write (i ∷ index) among =
          let at = h.writes ((a + i) ∷ index) (omega (arith, within, among.0), among.1) in
          record { low = omega (arith, ints, at.low, writes); high = omega (arith, ints, at.high, writes) }

  -- one part after the other
  pub goes_more : {T : Type 0} (source old mid new : List T) → Copied source old mid (λ s q. Goes from to (record axis { count = a } ∷ axes) s q)
      → Copied source mid new (λ s q. Goes here there (record axis { count = b } ∷ axes) s q)
      → Copied source old new (λ s q. Goes from to (record axis { count = a + b } ∷ axes) s q)
  goes_more source old mid new before this =
      copied_both source old mid new (λ s q. Goes from to (record axis { count = a } ∷ axes) s q) (λ s q. Goes here there (record axis { count = b } ∷ axes) s q)
      (λ s q. Goes from to (record axis { count = a + b } ∷ axes) s q) before this
      (λ s q g. left s q g.index g.among g.source g.target) (λ s q g. right s q g.index g.among g.source g.target) (λ s q g. back s q g.index g.among g.source g.target)
    where
      left : (s q : ℕ) (index : List ℕ) → IsAmong (record axis { count = a } ∷ axes) index → pos s ≡ pos from +ℤ way_from (record axis { count = a } ∷ axes) index
          → pos q ≡ pos to +ℤ way_to (record axis { count = a } ∷ axes) index → Goes from to (record axis { count = a + b } ∷ axes) s q
      left s q [] among at in_target = absurd among
      left s q (i ∷ index) among at in_target = record { index = i ∷ index; among = (omega (arith, among.0), among.1); source = at; target = in_target }

      right : (s q : ℕ) (index : List ℕ) → IsAmong (record axis { count = b } ∷ axes) index → pos s ≡ pos here +ℤ way_from (record axis { count = b } ∷ axes) index
          → pos q ≡ pos there +ℤ way_to (record axis { count = b } ∷ axes) index → Goes from to (record axis { count = a + b } ∷ axes) s q
      right s q [] among at in_target = absurd among
      right s q (i ∷ index) among at in_target = record {
        index = (a + i) ∷ index;
        among = (omega (arith, among.0), among.1);
        source = omega (arith, ints, at, reads);
        target = omega (arith, ints, in_target, writes);
      }

      back : (s q : ℕ) (index : List ℕ) → IsAmong (record axis { count = a + b } ∷ axes) index → pos s ≡ pos from +ℤ way_from (record axis { count = a + b } ∷ axes) index
          → pos q ≡ pos to +ℤ way_to (record axis { count = a + b } ∷ axes) index
          → Goes from to (record axis { count = a } ∷ axes) s q ⊎ Goes here there (record axis { count = b } ∷ axes) s q
      back s q [] among at in_target = absurd among
      back s q (i ∷ index) among at in_target = elim (cases_lt i a) [
        | inl lt ↦ inl (record { index = i ∷ index; among = (lt, among.1); source = at; target = in_target })
        | inr ge ↦
            (let k = i - a in
            let e : i ≡ a + k = omega (arith, ge) in
            let first = at ∙ ap (λ j. pos from +ℤ ((pos j *ℤ axis.from) +ℤ way_from axes index)) e in
            let second = in_target ∙ ap (λ j. pos to +ℤ ((pos j *ℤ axis.to) +ℤ way_to axes index)) e in
            inr (record {
              index = k ∷ index;
              among = (omega (arith, among.0, ge), among.1);
              source = omega (arith, ints, first, reads);
              target = omega (arith, ints, second, writes);
            }))
      ]

pub fits_swap : (x y : Axis) (axes : List Axis) (from to source target : ℕ) → Fits from to (x ∷ y ∷ axes) source target → Fits from to (y ∷ x ∷ axes) source target
fits_swap x y axes from to source target h = record {
  some = (h.some.1.0, (h.some.0, h.some.1.1));
  reads = read;
  writes = write;
}
  where
    read : (index : List ℕ) → IsAmong (y ∷ x ∷ axes) index → IsPlace (pos from +ℤ way_from (y ∷ x ∷ axes) index) source
    read [] among = absurd among
    read (j ∷ []) among = absurd among.1
    read (j ∷ i ∷ index) among =
        let at = h.reads (i ∷ j ∷ index) (among.1.0, (among.0, among.1.1)) in
        record { low = omega (arith, ints, at.low); high = omega (arith, ints, at.high) }

    write : (index : List ℕ) → IsAmong (y ∷ x ∷ axes) index → IsPlace (pos to +ℤ way_to (y ∷ x ∷ axes) index) target
    write [] among = absurd among
    write (j ∷ []) among = absurd among.1
    write (j ∷ i ∷ index) among =
        let at = h.writes (i ∷ j ∷ index) (among.1.0, (among.0, among.1.1)) in
        record { low = omega (arith, ints, at.low); high = omega (arith, ints, at.high) }

goes_turned : (x y : Axis) (axes : List Axis) (from to s q : ℕ) → Goes from to (x ∷ y ∷ axes) s q → Goes from to (y ∷ x ∷ axes) s q
goes_turned x y axes from to s q g = by g.index g.among g.source g.target
  where
    by : (index : List ℕ) → IsAmong (x ∷ y ∷ axes) index → pos s ≡ pos from +ℤ way_from (x ∷ y ∷ axes) index → pos q ≡ pos to +ℤ way_to (x ∷ y ∷ axes) index
        → Goes from to (y ∷ x ∷ axes) s q
    by [] among at in_target = absurd among
    by (i ∷ []) among at in_target = absurd among.1
    by (i ∷ j ∷ index) among at in_target = record {
      index = j ∷ i ∷ index;
      among = (among.1.0, (among.0, among.1.1));
      source = omega (arith, ints, at);
      target = omega (arith, ints, in_target);
    }

pub goes_swap : {T : Type 0} (source old new : List T) (x y : Axis) (axes : List Axis) (from to : ℕ) → Copied source old new (λ s q. Goes from to (x ∷ y ∷ axes) s q)
    → Copied source old new (λ s q. Goes from to (y ∷ x ∷ axes) s q)
goes_swap source old new x y axes from to before =
    copied_as source old new (λ s q. Goes from to (x ∷ y ∷ axes) s q) (λ s q. Goes from to (y ∷ x ∷ axes) s q) before
    (λ s q g. goes_turned x y axes from to s q g) (λ s q g. goes_turned y x axes from to s q g)

pub only_axis : (axes : List Axis) (none : Axis) → length axes ≡ 1 → axes ≡ get_or axes 0 none ∷ []
only_axis [] none one = absurd (omega (arith, one))
only_axis (first ∷ []) none one = refl
only_axis (first ∷ second ∷ axes) none one = absurd (omega (arith, one))

-- ---- a last axis of one coordinate

-- each coordinate of the first axis has its places
pub first_along : (axis : Axis) (axes : List Axis) (from to source target : ℕ) → Fits from to (axis ∷ axes) source target
    → FitsAlong from to axis.count axis.from axis.to source target
first_along axis axes from to source target h = record {
  reads = λ k below. (step_fits from to source target axis axes k h below).0;
  writes = λ k below. (step_fits from to source target axis axes k h below).1;
}

-- and what goes along it goes along both
pub goes_single : {T : Type 0} (source : List T) (axis : Axis) (last : List Axis) (from to : ℕ) (old new : List T) → IsSingle last
    → Copied source old new (λ s q. GoesAlong from to axis.count axis.from axis.to s q) → Copied source old new (λ s q. Goes from to (axis ∷ last) s q)
goes_single source axis [] from to old new single before = absurd single
goes_single source axis (one ∷ other ∷ last) from to old new single before = absurd single
goes_single source axis (one ∷ []) from to old new single before =
    copied_as source old new (λ s q. GoesAlong from to axis.count axis.from axis.to s q) (λ s q. Goes from to (axis ∷ one ∷ []) s q) before
    (λ s q g. record {
      index = g.k ∷ 0 ∷ [];
      among = (g.below, (omega (arith, single), tt));
      source = omega (arith, ints, g.source);
      target = omega (arith, ints, g.target);
    })
    (λ s q g. back s q g.index g.among g.source g.target)
  where
    back : (s q : ℕ) (index : List ℕ) → IsAmong (axis ∷ one ∷ []) index → pos s ≡ pos from +ℤ way_from (axis ∷ one ∷ []) index
        → pos q ≡ pos to +ℤ way_to (axis ∷ one ∷ []) index → GoesAlong from to axis.count axis.from axis.to s q
    back s q [] among reads writes = absurd among
    back s q (i ∷ []) among reads writes = absurd among.1
    back s q (i ∷ zero ∷ []) among reads writes = record { k = i; below = among.0; source = omega (arith, ints, reads); target = omega (arith, ints, writes) }
    back s q (i ∷ suc j ∷ []) among reads writes = absurd (omega (arith, among.1.0, single))
    back s q (i ∷ j ∷ k ∷ index) among reads writes = absurd among.1.1
