-- Copies along one axis.
use Rattle.std.proofs.Common.{◌≡◌, ℕ, zero, suc, ◌+◌, ◌-◌, ◌<◌, ◌≤◌, List, [], ◌∷◌, ◌++◌, length, take, drop, ◌⊎◌, inl, inr, slice_get, set, get_or, ℤ, pos, ◌+ℤ◌, ◌*ℤ◌, refl, sym, ap, subst, ◌∙◌, arith}
use borrow.Rule.Slice.PartMut.{put_mid}
use Rattle.std.proofs.lemmas.Bool.{cases_eq, cases_lt}
use Rattle.std.proofs.lemmas.Int.{ints}
use Rattle.std.proofs.lemmas.List.{length-append, length-take, length-drop}
use Rattle.lg_copy.specs.Copying.{Copied, GoesAlong, FitsAlong, IsPlace}
use Rattle.lg_copy.proofs.Moves.{copied_none, copied_one, copied_both}

pub got_before : {X : Type 0} (xs ys : List X) (k : ℕ) → k < length xs → slice_get (xs ++ ys) k ≡ slice_get xs k
got_before [] ys k h = absurd (omega (arith, h))
got_before (x ∷ xs) ys zero h = refl
got_before (x ∷ xs) ys (suc k) h = got_before xs ys k (omega (arith, h))

pub got_behind : {X : Type 0} (xs ys : List X) (k : ℕ) → slice_get (xs ++ ys) (length xs + k) ≡ slice_get ys k
got_behind [] ys k = ap (slice_get ys) (omega arith)
got_behind (x ∷ xs) ys k = let e : length (x ∷ xs) + k ≡ suc (length xs + k) = omega arith in ap (slice_get (x ∷ xs ++ ys)) e ∙ got_behind xs ys k

pub got_dropped : {X : Type 0} (xs : List X) (n k : ℕ) → slice_get (drop n xs) k ≡ slice_get xs (n + k)
got_dropped xs zero k = ap (slice_get xs) (omega arith)
got_dropped [] (suc n) k = refl
got_dropped (x ∷ xs) (suc n) k = let e : suc n + k ≡ suc (n + k) = omega arith in got_dropped xs n k ∙ ap (slice_get (x ∷ xs)) (sym e)

pub got_taken : {X : Type 0} (xs : List X) (n k : ℕ) → k < n → slice_get (take n xs) k ≡ slice_get xs k
got_taken xs zero k h = absurd (omega (arith, h))
got_taken [] (suc n) k h = refl
got_taken (x ∷ xs) (suc n) zero h = refl
got_taken (x ∷ xs) (suc n) (suc k) h = got_taken xs n k (omega (arith, h))

module _ {T : Type 0} (source : List T) where
  -- no coordinate
  pub along_none : (old : List T) (from to : ℕ) (f t : ℤ) → Copied source old old (λ s q. GoesAlong from to 0 f t s q)
  along_none old from to f t = copied_none source old (λ s q. GoesAlong from to 0 f t s q) (λ s q g. omega (arith, g.below))

  -- one coordinate more
  pub along_next : (old mid new : List T) (from to k s q : ℕ) (f t : ℤ) (x d : T) → pos s ≡ pos from +ℤ (pos k *ℤ f) → pos q ≡ pos to +ℤ (pos k *ℤ t)
      → s < length source → q < length mid → x ≡ get_or source s d → new ≡ set mid q x
      → Copied source old mid (λ a b. GoesAlong from to k f t a b) → Copied source old new (λ a b. GoesAlong from to (k + 1) f t a b)
  along_next old mid new from to k s q f t x d reads writes inside within is wrote before =
      copied_both source old mid new (λ a b. GoesAlong from to k f t a b) (λ a b. (a ≡ s) × (b ≡ q)) (λ a b. GoesAlong from to (k + 1) f t a b) before
      (copied_one source mid new s q x d (λ a b. (a ≡ s) × (b ≡ q)) inside within is wrote (refl, refl) (λ a b e. e.1))
      (λ a b g. record { k = g.k; below = omega (arith, g.below); source = g.source; target = g.target })
      (λ a b g. record { k = k; below = omega arith; source = ap pos g.0 ∙ reads; target = ap pos g.1 ∙ writes })
      back
    where
      back : (a b : ℕ) → GoesAlong from to (k + 1) f t a b → GoesAlong from to k f t a b ⊎ ((a ≡ s) × (b ≡ q))
      back a b g = elim (cases_eq g.k k) [
        | inl e ↦
            inr (
              omega (arith, ints, g.source ∙ ap (λ i. pos from +ℤ (pos i *ℤ f)) e ∙ sym reads),
              omega (arith, ints, g.target ∙ ap (λ i. pos to +ℤ (pos i *ℤ t)) e ∙ sym writes),
            )
        | inr ne ↦ inl (record { k = g.k; below = omega (arith, g.below); source = g.source; target = g.target })
      ]

  -- a block
  pub along_block : (old part : List T) (from to n m : ℕ) → from + n ≤ length source → to + n ≤ length old → m ≡ n → part ≡ take n (drop from source)
      → Copied source old (put_mid to m old part) (λ a b. GoesAlong from to n (pos 1) (pos 1) a b)
  along_block old part from to n m reads writes same is = record {
    same_length = whole_length;
    each = each;
  }
    where
      part_length : length part ≡ n
      part_length = ap length is ∙ omega (arith, length-take n (drop from source), length-drop from source, reads)

      front_length : length (take to old) ≡ to
      front_length = omega (arith, length-take to old, writes)

      whole_length : length (put_mid to m old part) ≡ length old
      whole_length = omega (
        arith,
        length-append (take to old) (part ++ drop m (drop to old)),
        length-append part (drop m (drop to old)),
        length-drop m (drop to old),
        length-drop to old,
        part_length,
        front_length,
        same,
        writes,
      )

      inside : (k : ℕ) → k < n → slice_get (put_mid to m old part) (to + k) ≡ slice_get source (from + k)
      inside k h =
          ap (λ l. slice_get (put_mid to m old part) (l + k)) (sym front_length) ∙ got_behind (take to old) (part ++ drop m (drop to old)) k
          ∙ got_before part (drop m (drop to old)) k (omega (arith, part_length, h)) ∙ ap (λ l. slice_get l k) is ∙ got_taken (drop from source) n k h
          ∙ got_dropped source from k

      below : (q : ℕ) → q < to → slice_get (put_mid to m old part) q ≡ slice_get old q
      below q h = got_before (take to old) (part ++ drop m (drop to old)) q (omega (arith, front_length, h)) ∙ got_taken old to q h

      above : (k : ℕ) → slice_get (put_mid to m old part) (to + n + k) ≡ slice_get old (to + n + k)
      above k =
          let first : to + n + k ≡ length (take to old) + (length part + k) = omega (arith, front_length, part_length) in
          let last : to + (m + k) ≡ to + n + k = omega (arith, same) in
          ap (slice_get (put_mid to m old part)) first ∙ got_behind (take to old) (part ++ drop m (drop to old)) (length part + k)
          ∙ got_behind part (drop m (drop to old)) k ∙ got_dropped (drop to old) m k ∙ got_dropped old to (m + k) ∙ ap (slice_get old) last

      each : (q : ℕ) → ((s : ℕ) × GoesAlong from to n (pos 1) (pos 1) s q × (slice_get (put_mid to m old part) q ≡ slice_get source s))
          ⊎ (((s : ℕ) → GoesAlong from to n (pos 1) (pos 1) s q → ⊥) × (slice_get (put_mid to m old part) q ≡ slice_get old q))
      each q = elim (cases_lt q to) [
        | inl h ↦ inr (λ s g. omega (arith, ints, g.target, h), below q h)
        | inr h ↦
            elim (cases_lt q (to + n)) [
              | inl lt ↦
                  (let k = q - to in
                  let here : q ≡ to + k = omega (arith, h) in
                  let few : k < n = omega (arith, h, lt) in
                  inl (
                    from + k,
                    record { k = k; below = few; source = omega (arith, ints); target = omega (arith, ints, here) },
                    ap (slice_get (put_mid to m old part)) here ∙ inside k few,
                  ))
              | inr ge ↦
                  (let k = q - (to + n) in
                  let here : q ≡ to + n + k = omega (arith, ge) in
                  inr (λ s g. omega (arith, ints, g.target, g.below, ge), ap (slice_get (put_mid to m old part)) here ∙ above k ∙ ap (slice_get old) (sym here)))
            ]
      ]

-- the places of one coordinate
module _ (from to count : ℕ) (f t : ℤ) (source target : ℕ) (h : FitsAlong from to count f t source target) where
  pub read_at : (k s : ℕ) → k < count → pos s ≡ pos from +ℤ (pos k *ℤ f) → s < source
  read_at k s below is = let at = h.reads k below in omega (arith, ints, is, at.low, at.high)

  pub write_at : (k q : ℕ) → k < count → pos q ≡ pos to +ℤ (pos k *ℤ t) → q < target
  write_at k q below is = let at = h.writes k below in omega (arith, ints, is, at.low, at.high)

  pub first_read : 0 < count → from < source
  first_read some = let at = h.reads 0 some in omega (arith, ints, at.low, at.high)

  pub first_write : 0 < count → to < target
  first_write some = let at = h.writes 0 some in omega (arith, ints, at.low, at.high)

-- a run of neighbours has its end
pub run_within : (at n size : ℕ) (step : ℤ) → step ≡ pos 1 → 0 < n → ((k : ℕ) → k < n → IsPlace (pos at +ℤ (pos k *ℤ step)) size) → at + n ≤ size
run_within at zero size step one some h = absurd (omega (arith, some))
run_within at (suc n) size step one some h =
    let last : IsPlace (pos at +ℤ (pos n *ℤ pos 1)) size = subst (λ z. IsPlace (pos at +ℤ (pos n *ℤ z)) size) one (h n (omega arith)) in
    omega (arith, ints, last.low, last.high)

-- all coordinates
pub along_all : {T : Type 0} (source old new : List T) (from to k n : ℕ) (f t : ℤ) → k ≡ n → Copied source old new (λ s q. GoesAlong from to k f t s q)
    → Copied source old new (λ s q. GoesAlong from to n f t s q)
along_all source old new from to k n f t e before = subst (λ m. Copied source old new (λ s q. GoesAlong from to m f t s q)) e before

-- with strides that are the same
pub along_same : {T : Type 0} (source old new : List T) (from to n : ℕ) (f t f' t' : ℤ) → f ≡ f' → t ≡ t' → Copied source old new (λ s q. GoesAlong from to n f t s q)
    → Copied source old new (λ s q. GoesAlong from to n f' t' s q)
along_same source old new from to n f t f' t' e e' before = subst (λ z. Copied source old new (λ s q. GoesAlong from to n f' z s q)) e' (subst (λ z. Copied source old new (λ s q. GoesAlong from to n z t s q)) e before)

pub fits_same : (from to n : ℕ) (f t f' t' : ℤ) (source target : ℕ) → f ≡ f' → t ≡ t' → FitsAlong from to n f t source target → FitsAlong from to n f' t' source target
fits_same from to n f t f' t' source target e e' h = subst (λ z. FitsAlong from to n f' z source target) e' (subst (λ z. FitsAlong from to n z t source target) e h)
