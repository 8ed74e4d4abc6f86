-- Two views that pick by one rule out of two views that show one another do so too.
use Rattle.std.proofs.Common.{◌≡◌, ℕ, ◌<◌, List, [], ◌∷◌, length, map, get_or, Option, None, Some, option_map, slice_get, refl, sym, ap, ◌∙◌, arith, ℤ, pos}
use Rattle.std.proofs.lemmas.List.{length-map}
use Rattle.std.proofs.lemmas.Option.{slice_get-map, slice_get-get_or, get_or_from_slice_get, same_Some}
use Rattle.std.proofs.lemmas.List.FromFn.{get_or-range_with_len}
use Rattle.lg_xform.proofs.Maps.{map_within}
use Rattle.lg_shape.specs.Shapes.{place_of, size_of}
use Rattle.lg_shape.specs.Views.{whole_layout, place_at}
use Rattle.lg_meaning.specs.Memory.{View, ArrayKind}
use Rattle.lg_meaning.specs.Views.{layout_in}
use Rattle.lg_session.specs.Worlds.{Roots, Names, Place, number_at, shown_in, AtOneIndex, Linked, IsShown, IsInside}

-- a view of a view: at each of these indices of the old one it has the place that the old one has
pub record IsPicked (old new : View) (indices : List (List ℕ)) : Type 0 where
  pub root : new.root ≡ old.root
  pub places : new.places ≡ map (place_at (layout_in old)) indices

-- each of these indices has a place in a view
abbrev pub AreAmong : List (List ℕ) → View → Type 0
AreAmong indices view = (k : ℕ) (index : List ℕ) → slice_get indices k ≡ Some index → place_of view.kind.shape index < length view.places

-- the index behind a place of the new view
pub picked_at : (old new : View) (indices : List (List ℕ)) (i place : ℕ) (index : List ℕ) → IsPicked old new indices → slice_get indices i ≡ Some index
    → place_of old.kind.shape index < length old.places → slice_get new.places i ≡ Some place → slice_get old.places (place_of old.kind.shape index) ≡ Some place
picked_at old new indices i place index p there below at =
    let same : place_at (layout_in old) index ≡ place =
    same_Some _ _ (sym (ap (option_map (place_at (layout_in old))) there) ∙ sym (slice_get-map (place_at (layout_in old)) indices i) ∙ ap (λ l. slice_get l i) (sym p.places) ∙ at) in
    slice_get-get_or old.places (place_of old.kind.shape index) 0 below ∙ ap Some same

module _ (m n : Names) (a b c d : View) (indices : List (List ℕ)) (shown : IsShown m n a b) (first : IsPicked a c indices) (second : IsPicked b d indices)
    (kind : c.kind ≡ d.kind) (among : AreAmong indices a) where
  pub picked_shown : IsShown m n c d
  picked_shown = record {
    kind = record {
      kind = kind;
      count = ap length first.places ∙ length-map indices (place_at (layout_in a)) ∙ sym (length-map indices (place_at (layout_in b))) ∙ ap length (sym second.places);
    };
    linked = λ p q both. at p q both (slice_get indices both.index) refl;
  }
    where
      at : (p q : Place) (both : AtOneIndex c d p q) (o : Option (List ℕ)) → slice_get indices both.index ≡ o → Linked m n p q
      at p q both None e = absurd (none_some (sym (ap (option_map (place_at (layout_in a))) e) ∙ sym (slice_get-map (place_at (layout_in a)) indices both.index)
          ∙ ap (λ l. slice_get l both.index) (sym first.places) ∙ both.first))
        where
          none_some : None ≡ Some p.1 → ⊥
          none_some x = cc
      at p q both (Some index) e =
          let shape : b.kind.shape ≡ a.kind.shape = ap (λ (k : ArrayKind). k.shape) (sym shown.kind.kind) in
          let below = among both.index index e in
          let below_too : place_of b.kind.shape index < length b.places = omega (arith, below, ap (λ s. place_of s index) shape, shown.kind.count) in
          let there = picked_at b d indices both.index q.1 index second e below_too both.second in
          shown.linked p q (record {
            index = place_of a.kind.shape index;
            first_root = sym first.root ∙ both.first_root;
            first = picked_at a c indices both.index p.1 index first e below both.first;
            second_root = sym second.root ∙ both.second_root;
            second = ap (λ s. slice_get b.places (place_of s index)) (sym shape) ∙ there;
          })

-- ---- the numbers

map_twice : {X Y Z : Type 0} (g : Y → Z) (f : X → Y) (xs : List X) → map g (map f xs) ≡ map (λ x. g (f x)) xs
map_twice g f [] = refl
map_twice g f (x ∷ xs) = ap (g (f x) ∷◌) (map_twice g f xs)

got_mapped : (g : ℕ → ℤ) (xs : List ℕ) (k : ℕ) → k < length xs → get_or (map g xs) k (pos 0) ≡ g (get_or xs k 0)
got_mapped g xs k below = get_or_from_slice_get (map g xs) k (g (get_or xs k 0)) (pos 0) (slice_get-map g xs k ∙ ap (option_map g) (slice_get-get_or xs k 0 below))

-- what a view of a view shows is what the form picks of the numbers that the old one shows
pub picked_numbers : (A : Roots) (old new : View) (indices : List (List ℕ)) → IsPicked old new indices → AreAmong indices old → length old.places ≡ size_of old.kind.shape
    → shown_in A new ≡ map (λ place. get_or (shown_in A old) place (pos 0)) (map (place_at (whole_layout old.kind.shape)) indices)
picked_numbers A old new indices p among full =
    ap (λ root. map (λ place. number_at A (root, place)) new.places) p.root
    ∙ ap (map (λ place. number_at A (old.root, place))) p.places
    ∙ map_twice (λ place. number_at A (old.root, place)) (place_at (layout_in old)) indices
    ∙ map_within (λ index. number_at A (old.root, place_at (layout_in old) index)) (λ index. get_or (shown_in A old) (place_at (whole_layout old.kind.shape) index) (pos 0)) indices each
    ∙ sym (map_twice (λ place. get_or (shown_in A old) place (pos 0)) (place_at (whole_layout old.kind.shape)) indices)
  where
    each : (k : ℕ) (index : List ℕ) → slice_get indices k ≡ Some index
        → number_at A (old.root, place_at (layout_in old) index) ≡ get_or (shown_in A old) (place_at (whole_layout old.kind.shape) index) (pos 0)
    each k index at =
        let below = among k index at in
        let own : place_at (whole_layout old.kind.shape) index ≡ place_of old.kind.shape index =
        get_or-range_with_len 0 (size_of old.kind.shape) (place_of old.kind.shape index) 0 (omega (arith, below, full)) ∙ omega arith in
        sym (got_mapped (λ place. number_at A (old.root, place)) old.places (place_of old.kind.shape index) below)
        ∙ ap (λ place. get_or (shown_in A old) place (pos 0)) (sym own)

-- it lies in the root
pub inside_picked : (roots : Roots) (old new : View) (indices : List (List ℕ)) → IsInside roots old → IsPicked old new indices → AreAmong indices old → new.kind.dtype ≡ old.kind.dtype
    → IsInside roots new
inside_picked roots old new indices h p among dtype = record {
  root = h.root;
  held = ap roots p.root ∙ h.held;
  dtype = h.dtype ∙ sym dtype;
  places = λ i place at. by_index i place at (slice_get indices i) refl;
}
  where
    by_index : (i place : ℕ) → slice_get new.places i ≡ Some place → (o : Option (List ℕ)) → slice_get indices i ≡ o → place < length h.root.numbers
    by_index i place at None e = absurd (none_some (sym (ap (option_map (place_at (layout_in old))) e) ∙ sym (slice_get-map (place_at (layout_in old)) indices i)
        ∙ ap (λ l. slice_get l i) (sym p.places) ∙ at))
      where
        none_some : None ≡ Some place → ⊥
        none_some x = cc
    by_index i place at (Some index) e =
        h.places (place_of old.kind.shape index) place (picked_at old new indices i place index p e (among i index e) at)
