-- A map whose keys are bytes, after a change at one key.
use Rattle.std.proofs.Common.{◌≡◌, ℕ, Bool, false, List, Some, sym, subst, ◌∙◌, bytes_eq, if◌then◌else◌, ⊎_elim}
use Rattle.std.specs.Ordering.{nat_cmp, is_eq}
use Rattle.std.specs.Cmp.Lexicographic.{slice_cmp, bytes_decides, nat_list_eq_equiv}
use Rattle.std.specs.Map.{lookup, IsKeyTest, AreApart, KeepsOthers}
use Rattle.std.proofs.lemmas.Bool.{cases_Bool, cond-true, cond-false}
use Rattle.std.proofs.lemmas.Map.Text.{is_eq-slice_cmp}

module _ {K X : Type 0} (eq : K → K → Bool) (test : K → Bool) where
  other_entries : (old new : List (K × X)) → KeepsOthers eq test old new → (other : K → Bool) → IsKeyTest eq other → AreApart test other
      → lookup other new ≡ lookup other old
  unfolding KeepsOthers
  other_entries old new h = h

-- whether a key has these bytes
abbrev pub has_bytes : {K : Type 0} → (K → List ℕ) → List ℕ → K → Bool
has_bytes f bs k = is_eq (slice_cmp nat_cmp bs (f k))

module _ {K X : Type 0} (f : K → List ℕ) where
  -- what there is at the bytes cs after x was put at the bytes bs
  pub get-updated : (bs : List ℕ) (old new : List (K × X)) (x : X) → lookup (has_bytes f bs) new ≡ Some x
      → KeepsOthers (λ a b. is_eq (slice_cmp nat_cmp (f a) (f b))) (has_bytes f bs) old new → (cs : List ℕ)
      → lookup (has_bytes f cs) new ≡ (if bytes_eq bs cs then Some x else lookup (has_bytes f cs) old)
  get-updated bs old new x here others cs =
      ⊎_elim
      (λ y. subst (λ l. lookup (has_bytes f l) new ≡ Some x) ((bytes_decides bs cs).0 y) here ∙ sym (cond-true (bytes_eq bs cs) _ _ y))
      (λ n. other_entries _ _ old new others (has_bytes f cs) alike (apart n) ∙ sym (cond-false (bytes_eq bs cs) _ _ n))
      (cases_Bool (bytes_eq bs cs))
    where
      alike : IsKeyTest (λ a b. is_eq (slice_cmp nat_cmp (f a) (f b))) (has_bytes f cs)
      alike a b e = is_eq-slice_cmp cs (f b) ∙ nat_list_eq_equiv.congr cs (f a) (f b) (sym (is_eq-slice_cmp cs (f a)) ∙ e) ∙ sym (is_eq-slice_cmp (f a) (f b))

      apart : bytes_eq bs cs ≡ false → AreApart (has_bytes f bs) (has_bytes f cs)
      apart n k y =
          is_eq-slice_cmp cs (f k) ∙ nat_list_eq_equiv.symm cs (f k) ∙ sym (nat_list_eq_equiv.congr bs (f k) cs (sym (is_eq-slice_cmp bs (f k)) ∙ y)) ∙ n
