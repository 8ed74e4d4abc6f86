-- What stands at an index after a copy.
use Rattle.std.proofs.Common.{◌≡◌, ℕ, List, map, ◌⊎◌, inl, inr, option_map, slice_get, get_or, ℤ, pos, refl, sym, ap, subst, ◌∙◌}
use Rattle.std.specs.Option.{unwrap_or}
use Rattle.std.proofs.lemmas.List.{length-map}
use Rattle.std.proofs.lemmas.Option.{slice_get-map, same_Some, unwrap_or-slice_get}
use Rattle.lg_space.specs.Rectangle.{IsIn, indices, place_in}
use Rattle.lg_space.proofs.Places.{stands_at_place}
use Rattle.lg_xform.specs.declared.chain.Chain.{Chain}
use Rattle.lg_shape.specs.Shapes.{whole}
use Rattle.lg_xform.specs.Chains.{shape_of, mapped}
use Rattle.lg_xform.specs.Footprints.{LeadsTo}
use Rattle.lg_copy.specs.Copying.{Copied}
use Rattle.lg_copy.specs.Leading.{LeadsBoth, LeadsInto, RepeatsNone}

-- the same of what a function tells of the elements
pub copied_map : {A B : Type 0} (f : A → B) (source old new : List A) (goes : ℕ → ℕ → Type 0) → Copied source old new goes
    → Copied (map f source) (map f old) (map f new) goes
copied_map {A} {B} f source old new goes c = record {
  same_length = length-map new f ∙ c.same_length ∙ sym (length-map old f);
  each = λ q. by q (c.each q);
}
  where
    by : (q : ℕ) → ((s : ℕ) × goes s q × (slice_get new q ≡ slice_get source s)) ⊎ (((s : ℕ) → goes s q → ⊥) × (slice_get new q ≡ slice_get old q))
        → ((s : ℕ) × goes s q × (slice_get (map f new) q ≡ slice_get (map f source) s)) ⊎ (((s : ℕ) → goes s q → ⊥) × (slice_get (map f new) q ≡ slice_get (map f old) q))
    by q (inl (s, g, is)) = inl (s, g, slice_get-map f new q ∙ ap (option_map f) is ∙ sym (slice_get-map f source s))
    by q (inr (none, is)) = inr (none, slice_get-map f new q ∙ ap (option_map f) is ∙ sym (slice_get-map f old q))

-- where one element goes alone, it stands
pub one_lands : {T : Type 0} (source old new : List T) (goes : ℕ → ℕ → Type 0) (s q : ℕ) → Copied source old new goes → goes s q → ((a : ℕ) → goes a q → a ≡ s)
    → slice_get new q ≡ slice_get source s
one_lands {T} source old new goes s q c g alone = by (c.each q)
  where
    by : ((a : ℕ) × goes a q × (slice_get new q ≡ slice_get source a)) ⊎ (((a : ℕ) → goes a q → ⊥) × (slice_get new q ≡ slice_get old q))
        → slice_get new q ≡ slice_get source s
    by (inl (a, h, is)) = is ∙ ap (slice_get source) (alone a h)
    by (inr (none, is)) = absurd (none s g)

-- where none goes, nothing changes
pub none_lands : {T : Type 0} (source old new : List T) (goes : ℕ → ℕ → Type 0) (q : ℕ) → Copied source old new goes → ((a : ℕ) → goes a q → ⊥)
    → slice_get new q ≡ slice_get old q
none_lands {T} source old new goes q c nothing = by (c.each q)
  where
    by : ((a : ℕ) × goes a q × (slice_get new q ≡ slice_get source a)) ⊎ (((a : ℕ) → goes a q → ⊥) × (slice_get new q ≡ slice_get old q))
        → slice_get new q ≡ slice_get old q
    by (inl (a, h, is)) = absurd (nothing a h)
    by (inr (none, is)) = is

-- an index of a rectangle is told by its place
pub same_place : (rect : List (ℕ × ℕ)) (a b : List ℕ) → IsIn rect a → IsIn rect b → place_in rect a ≡ place_in rect b → a ≡ b
same_place rect a b in_a in_b same =
    same_Some a b (sym (stands_at_place rect a in_a) ∙ ap (slice_get (indices rect)) same ∙ stands_at_place rect b in_b)

-- and the numbers, if the elements are the same
pub same_number : (xs ys : List ℤ) (i j : ℕ) → slice_get xs i ≡ slice_get ys j → get_or xs i (pos 0) ≡ get_or ys j (pos 0)
same_number xs ys i j e = sym (unwrap_or-slice_get xs i (pos 0)) ∙ ap (λ o. unwrap_or o (pos 0)) e ∙ unwrap_or-slice_get ys j (pos 0)

module _ (source target rect : List (ℕ × ℕ)) (first second : Chain) (writes : LeadsInto second rect target) where
  -- no other index leads there
  module _ (once : RepeatsNone (mapped second) rect) where
    alone : (index : List ℕ) → IsIn rect index → (s : ℕ) → LeadsBoth source first target second rect s (place_in target (mapped second index))
        → s ≡ place_in source (mapped first index)
    alone index inside s g =
        let there = same_place target (mapped second g.index) (mapped second index) (writes.inside g.index g.inside) (writes.inside index inside) g.to in
        sym g.from ∙ ap (λ i. place_in source (mapped first i)) (once g.index index g.inside inside there)

    pub lands : {T : Type 0} (xs old new : List T) → Copied xs old new (λ s q. LeadsBoth source first target second rect s q) → (index : List ℕ) → IsIn rect index
        → slice_get new (place_in target (mapped second index)) ≡ slice_get xs (place_in source (mapped first index))
    lands xs old new c index inside =
        one_lands xs old new (λ s q. LeadsBoth source first target second rect s q) (place_in source (mapped first index)) (place_in target (mapped second index)) c
        (record { index = index; inside = inside; from = refl; to = refl }) (alone index inside)

  -- where no index leads
  pub stays : {T : Type 0} (xs old new : List T) → Copied xs old new (λ s q. LeadsBoth source first target second rect s q) → (at : List ℕ) → IsIn target at
      → (LeadsTo (mapped second) rect at → ⊥) → slice_get new (place_in target at) ≡ slice_get old (place_in target at)
  stays xs old new c at inside none =
      none_lands xs old new (λ s q. LeadsBoth source first target second rect s q) (place_in target at) c
      (λ s g. none (g.index, g.inside, same_place target (mapped second g.index) at (writes.inside g.index g.inside) inside g.to))

-- ---- the identity

-- a chain that leads each index of a rectangle to itself
pub record IsSame (chain : Chain) (rect : List (ℕ × ℕ)) : Type 0 where
  pub mapped : (index : List ℕ) → IsIn rect index → mapped chain index ≡ index

pub same_once : (chain : Chain) (rect : List (ℕ × ℕ)) → IsSame chain rect → RepeatsNone (mapped chain) rect
same_once chain rect h a b in_a in_b e = sym (h.mapped a in_a) ∙ e ∙ h.mapped b in_b

module _ (chain : Chain) (rect : List (ℕ × ℕ)) (h : IsSame chain rect) where
  pub same_leads : (tile : List (ℕ × ℕ)) → ((index : List ℕ) → IsIn rect index → IsIn (whole (shape_of chain)) index) → ((index : List ℕ) → IsIn rect index → IsIn tile index)
      → LeadsInto chain rect tile
  same_leads tile within inside = record {
    within = within;
    inside = λ index in_rect. subst (IsIn tile) (sym (h.mapped index in_rect)) (inside index in_rect);
  }

  pub place_same : (tile : List (ℕ × ℕ)) (index : List ℕ) → IsIn rect index → place_in tile (mapped chain index) ≡ place_in tile index
  place_same tile index inside = ap (place_in tile) (h.mapped index inside)
