-- What a tile that is written through a view does to a root's numbers.
use Rattle.std.proofs.Common.{◌≡◌, ℕ, ◌<◌, ◌≤◌, inl, inr, List, length, get_or, Option, None, Some, option_map, slice_get, refl, sym, ap, subst, ◌∙◌, arith, ℤ, pos, []}
use Rattle.std.specs.List.{range_with_len}
use Rattle.std.proofs.lemmas.Bool.{cases_lt}
use Rattle.std.proofs.lemmas.List.FromFn.{length-range_with_len, get_or-range_with_len}
use Rattle.std.proofs.lemmas.Option.{slice_get-map, slice_get_past, slice_get-get_or, unwrap_or-slice_get, same_Some}
use Rattle.std.specs.Option.{unwrap_or}
use Rattle.lg_space.specs.Rectangle.{IsIn, indices, volume_of, place_in}
use Rattle.lg_space.proofs.Places.{stands_at_place, stands_once, volume_counts}
use Rattle.lg_shape.specs.Shapes.{whole, places, place_of, size_of}
use Rattle.lg_shape.specs.Views.{Layout, whole_layout}
use Rattle.lg_tile.specs.declared.any_tile.AnyTile.{AnyTile}
use Rattle.lg_tile.specs.Tiles.{numbers, number_at, rect_of}
use Rattle.lg_tile.proofs.NumberLemmas.{numbers_full}
use Rattle.lg_xform.specs.declared.chain.Chain.{Chain}
use Rattle.lg_xform.specs.Chains.{root_of, shape_of, mapped, layout_of}
use Rattle.lg_copy.specs.Leading.{RepeatsNone}
use Rattle.lg_xform.specs.Footprints.{LeadsTo}
use Rattle.lg_session.specs.Puts.{Puts}
use Rattle.lg_session.specs.Worlds.{NoRepeat}
use Rattle.lg_session.proofs.Links.{range_place}

-- the place that a chain's view has at an index
abbrev lead : Chain → List ℕ → ℕ
lead chain index = place_of (root_of chain) (mapped chain index)

-- the index behind a place of the view
index_at : (chain : Chain) (i place : ℕ) → slice_get (layout_of chain).places i ≡ Some place
    → (index : List ℕ) × (slice_get (places (shape_of chain)) i ≡ Some index) × (lead chain index ≡ place)
index_at chain i place at = by (slice_get (places (shape_of chain)) i) refl
  where
    none_some : None ≡ Some place → ⊥
    none_some e = cc

    by : (o : Option (List ℕ)) → slice_get (places (shape_of chain)) i ≡ o
        → (index : List ℕ) × (slice_get (places (shape_of chain)) i ≡ Some index) × (lead chain index ≡ place)
    by None e = absurd (none_some (sym (ap (option_map (lead chain)) e) ∙ sym (slice_get-map (lead chain) (places (shape_of chain)) i) ∙ at))
    by (Some index) e = (index, e, same_Some _ _ (sym (ap (option_map (lead chain)) e) ∙ sym (slice_get-map (lead chain) (places (shape_of chain)) i) ∙ at))

-- the view's place at an index that it has
place_there : (chain : Chain) (index : List ℕ) → IsIn (whole (shape_of chain)) index → slice_get (layout_of chain).places (place_of (shape_of chain) index) ≡ Some (lead chain index)
place_there chain index inside =
    slice_get-map (lead chain) (places (shape_of chain)) (place_of (shape_of chain) index)
    ∙ ap (option_map (lead chain)) (stands_at_place (whole (shape_of chain)) index inside)

-- places that stand once are places of indices that lead apart
pub repeats_none : (chain : Chain) (rect : List (ℕ × ℕ)) → rect ≡ whole (shape_of chain) → NoRepeat (layout_of chain).places → RepeatsNone (mapped chain) rect
repeats_none chain rect is once a b in_a in_b same =
    let inside_a = subst (λ r. IsIn r a) is in_a in
    let inside_b = subst (λ r. IsIn r b) is in_b in
    let shape = shape_of chain in
    let place : place_of shape a ≡ place_of shape b =
    once (place_of shape a) (place_of shape b) (lead chain a) (place_there chain a inside_a)
    (place_there chain b inside_b ∙ ap (λ index. Some (place_of (root_of chain) index)) (sym same)) in
    same_Some a b (sym (stands_at_place (whole shape) a inside_a) ∙ ap (slice_get (places shape)) place ∙ stands_at_place (whole shape) b inside_b)

past : (xs : List ℤ) (k : ℕ) → length xs ≤ k → get_or xs k (pos 0) ≡ pos 0
past xs k far = sym (unwrap_or-slice_get xs k (pos 0)) ∙ ap (λ o. unwrap_or o (pos 0)) (slice_get_past xs k far)

module _ (chain : Chain) (tile old new : AnyTile) (rect : rect_of tile ≡ whole (shape_of chain)) (root : rect_of old ≡ whole (root_of chain)) (same : rect_of new ≡ rect_of old)
    (written : (index : List ℕ) → IsIn (rect_of tile) index → number_at new (mapped chain index) ≡ number_at tile index)
    (kept : (at : List ℕ) → IsIn (rect_of old) at → (LeadsTo (mapped chain) (rect_of tile) at → ⊥) → number_at new at ≡ number_at old at) where
  count : length (numbers new) ≡ length (numbers old)
  count = numbers_full new ∙ ap volume_of same ∙ sym (numbers_full old)

  put : (i place : ℕ) → slice_get (layout_of chain).places i ≡ Some place → get_or (numbers new) place (pos 0) ≡ get_or (numbers tile) i (pos 0)
  put i place at =
      let found = index_at chain i place at in
      let index = found.0 in
      let stands = stands_once (whole (shape_of chain)) i index found.1 in
      let here : place_in (rect_of new) (mapped chain index) ≡ place = ap (λ r. place_in r (mapped chain index)) (same ∙ root) ∙ found.2 in
      let there : place_in (rect_of tile) index ≡ i = ap (λ r. place_in r index) rect ∙ stands.1 in
      ap (λ k. get_or (numbers new) k (pos 0)) (sym here) ∙ written index (subst (λ r. IsIn r index) (sym rect) stands.0) ∙ ap (λ k. get_or (numbers tile) k (pos 0)) there

  stays : (place : ℕ) → ((i : ℕ) → slice_get (layout_of chain).places i ≡ Some place → ⊥) → get_or (numbers new) place (pos 0) ≡ get_or (numbers old) place (pos 0)
  stays place none = elim (cases_lt place (length (numbers old))) [
    | inl below ↦ by (slice_get (indices (rect_of old)) place) refl below
    | inr far ↦ past (numbers new) place (omega (arith, count, far)) ∙ sym (past (numbers old) place far)
  ]
    where
      by : (o : Option (List ℕ)) → slice_get (indices (rect_of old)) place ≡ o → place < length (numbers old) → get_or (numbers new) place (pos 0) ≡ get_or (numbers old) place (pos 0)
      by None e below = absurd (none_some (sym e ∙ slice_get-get_or (indices (rect_of old)) place [] (omega (arith, below, numbers_full old, volume_counts (rect_of old)))))
        where
          none_some : {at : List ℕ} → None ≡ Some at → ⊥
          none_some x = cc
      by (Some at) e below =
          let stands = stands_once (rect_of old) place at e in
          let out : LeadsTo (mapped chain) (rect_of tile) at → ⊥ = λ leads. led leads stands.1 in
          ap (λ k. get_or (numbers new) k (pos 0)) (sym stands.1 ∙ ap (λ r. place_in r at) (sym same)) ∙ kept at stands.0 out ∙ ap (λ k. get_or (numbers old) k (pos 0)) stands.1
        where
          led : LeadsTo (mapped chain) (rect_of tile) at → place_in (rect_of old) at ≡ place → ⊥
          led leads is =
              let inside : IsIn (whole (shape_of chain)) leads.0 = subst (λ r. IsIn r leads.0) rect leads.1 in
              let at_root : lead chain leads.0 ≡ place = ap (place_of (root_of chain)) leads.2 ∙ ap (λ r. place_in r at) (sym root) ∙ is in
              none (place_of (shape_of chain) leads.0) (place_there chain leads.0 inside ∙ ap Some at_root)

  pub puts_scattered : Puts (layout_of chain).places (numbers tile) (numbers old) (numbers new)
  puts_scattered = record { same_length = count; put = put; kept = stays }

-- the tile itself, where the view is the whole
pub puts_replaced : (chain : Chain) (tile old : AnyTile) → rect_of tile ≡ whole (shape_of chain) → rect_of old ≡ whole (root_of chain) → layout_of chain ≡ whole_layout (root_of chain)
    → Puts (layout_of chain).places (numbers tile) (numbers old) (numbers tile)
puts_replaced chain tile old rect root is = record {
  same_length = count;
  put = λ i place at. ap (λ k. get_or (numbers tile) k (pos 0)) (range_place size i place (ap (λ l. slice_get l i) (sym in_order) ∙ at));
  kept = λ place none. elim (cases_lt place (length (numbers old))) [
    | inl below ↦ absurd (none place (ap (λ l. slice_get l place) in_order ∙ there place (omega (arith, below, numbers_full old, ap volume_of root))))
    | inr far ↦ past (numbers tile) place (omega (arith, count, far)) ∙ sym (past (numbers old) place far)
  ];
}
  where
    size : ℕ
    size = size_of (root_of chain)

    in_order : (layout_of chain).places ≡ range_with_len 0 size
    in_order = ap (λ (l : Layout). l.places) is

    count : length (numbers tile) ≡ length (numbers old)
    count = numbers_full tile ∙ ap volume_of (rect ∙ ap (λ (l : Layout). whole l.shape) is ∙ sym root) ∙ sym (numbers_full old)

    there : (place : ℕ) → place < size → slice_get (range_with_len 0 size) place ≡ Some place
    there place below =
        let number : get_or (range_with_len 0 size) place 0 ≡ place = get_or-range_with_len 0 size place 0 below ∙ omega arith in
        slice_get-get_or (range_with_len 0 size) place 0 (omega (arith, below, length-range_with_len 0 size)) ∙ ap Some number

-- the rectangle of the tile after the view is the whole
pub replaced_rect : (chain : Chain) (tile old : AnyTile) → rect_of tile ≡ whole (shape_of chain) → rect_of old ≡ whole (root_of chain) → layout_of chain ≡ whole_layout (root_of chain)
    → rect_of tile ≡ rect_of old
replaced_rect chain tile old rect root is = rect ∙ ap (λ (l : Layout). whole l.shape) is ∙ sym root
