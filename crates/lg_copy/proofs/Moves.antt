-- How copies add up.
use Rattle.std.proofs.Common.{◌≡◌, ℕ, zero, suc, ◌<◌, List, [], ◌∷◌, length, ◌⊎◌, inl, inr, Some, slice_get, set, get_or, refl, sym, ap, subst, ◌∙◌, arith}
use Rattle.std.proofs.lemmas.Bool.{cases_eq}
use Rattle.std.proofs.lemmas.Option.{slice_get-get_or}
use Rattle.std.proofs.lemmas.List.{length-set}
use Rattle.lg_copy.specs.Copying.{Copied}

-- what is written stands there
got_written : {T : Type 0} (xs : List T) (q : ℕ) (x : T) → q < length xs → slice_get (set xs q x) q ≡ Some x
got_written [] q x h = absurd (omega (arith, h))
got_written (y ∷ xs) zero x h = refl
got_written (y ∷ xs) (suc q) x h = got_written xs q x (omega (arith, h))

-- and elsewhere stands what stood there
got_elsewhere : {T : Type 0} (xs : List T) (q p : ℕ) (x : T) → (p ≡ q → ⊥) → slice_get (set xs q x) p ≡ slice_get xs p
got_elsewhere [] q p x ne = refl
got_elsewhere (y ∷ xs) zero zero x ne = absurd (ne refl)
got_elsewhere (y ∷ xs) zero (suc p) x ne = refl
got_elsewhere (y ∷ xs) (suc q) zero x ne = refl
got_elsewhere (y ∷ xs) (suc q) (suc p) x ne = got_elsewhere xs q p x (λ e. ne (ap suc e))

module _ {T : Type 0} (source : List T) where
  -- where nothing goes, nothing changes
  pub copied_none : (old : List T) (goes : ℕ → ℕ → Type 0) → ((s q : ℕ) → goes s q → ⊥) → Copied source old old goes
  copied_none old goes none = record {
    same_length = refl;
    each = λ q. inr (λ s. none s q, refl);
  }

  -- one element is written
  pub copied_one : (old new : List T) (s q : ℕ) (x d : T) (goes : ℕ → ℕ → Type 0) → s < length source → q < length old → x ≡ get_or source s d → new ≡ set old q x
      → goes s q → ((a b : ℕ) → goes a b → b ≡ q) → Copied source old new goes
  copied_one old new s q x d goes reads writes is wrote this only = subst (λ xs. Copied source old xs goes) (sym wrote) (record {
    same_length = length-set old q x;
    each = each;
  })
    where
      each : (p : ℕ) → ((a : ℕ) × goes a p × (slice_get (set old q x) p ≡ slice_get source a)) ⊎ (((a : ℕ) → goes a p → ⊥) × (slice_get (set old q x) p ≡ slice_get old p))
      each p = elim (cases_eq p q) [
        | inl e ↦
            inl (
              s,
              subst (goes s) (sym e) this,
              ap (slice_get (set old q x)) e ∙ got_written old q x writes ∙ ap Some is ∙ sym (slice_get-get_or source s d reads),
            )
        | inr ne ↦ inr (λ a g. ne (only a p g), got_elsewhere old q p x ne)
      ]

  -- one copy after the other
  pub copied_both : (old mid new : List T) (first second goes : ℕ → ℕ → Type 0) → Copied source old mid first → Copied source mid new second
      → ((s q : ℕ) → first s q → goes s q) → ((s q : ℕ) → second s q → goes s q) → ((s q : ℕ) → goes s q → first s q ⊎ second s q)
      → Copied source old new goes
  copied_both old mid new first second goes a b left right back = record {
    same_length = b.same_length ∙ a.same_length;
    each = λ q. last q (b.each q);
  }
    where
      earlier : (q : ℕ) → ((s : ℕ) → second s q → ⊥) → slice_get new q ≡ slice_get mid q
          → ((s : ℕ) × first s q × (slice_get mid q ≡ slice_get source s)) ⊎ (((s : ℕ) → first s q → ⊥) × (slice_get mid q ≡ slice_get old q))
          → ((s : ℕ) × goes s q × (slice_get new q ≡ slice_get source s)) ⊎ (((s : ℕ) → goes s q → ⊥) × (slice_get new q ≡ slice_get old q))
      earlier q none kept (inl (s, g, is)) = inl (s, left s q g, kept ∙ is)
      earlier q none kept (inr (nothing, is)) = inr (λ s g. ⊎-none (first s q) (second s q) (nothing s) (none s) (back s q g), kept ∙ is)
        where
          ⊎-none : (A B : Type 0) → (A → ⊥) → (B → ⊥) → A ⊎ B → ⊥
          ⊎-none A B f g (inl x) = f x
          ⊎-none A B f g (inr x) = g x

      last : (q : ℕ) → ((s : ℕ) × second s q × (slice_get new q ≡ slice_get source s)) ⊎ (((s : ℕ) → second s q → ⊥) × (slice_get new q ≡ slice_get mid q))
          → ((s : ℕ) × goes s q × (slice_get new q ≡ slice_get source s)) ⊎ (((s : ℕ) → goes s q → ⊥) × (slice_get new q ≡ slice_get old q))
      last q (inl (s, g, is)) = inl (s, right s q g, is)
      last q (inr (none, is)) = earlier q none is (a.each q)

  -- the same, said otherwise
  pub copied_as : (old new : List T) (first goes : ℕ → ℕ → Type 0) → Copied source old new first → ((s q : ℕ) → first s q → goes s q) → ((s q : ℕ) → goes s q → first s q)
      → Copied source old new goes
  copied_as old new first goes a into back = record {
    same_length = a.same_length;
    each = λ q. by q (a.each q);
  }
    where
      by : (q : ℕ) → ((s : ℕ) × first s q × (slice_get new q ≡ slice_get source s)) ⊎ (((s : ℕ) → first s q → ⊥) × (slice_get new q ≡ slice_get old q))
          → ((s : ℕ) × goes s q × (slice_get new q ≡ slice_get source s)) ⊎ (((s : ℕ) → goes s q → ⊥) × (slice_get new q ≡ slice_get old q))
      by q (inl (s, g, is)) = inl (s, into s q g, is)
      by q (inr (none, is)) = inr (λ s g. none s (back s q g), is)
