-- What the session keeps of what names stand for, from one step to the next.
use Rattle.std.proofs.Common.{◌≡◌, ◌≢◌, ℕ, ◌==◌, eqb-true, eq-eqb, Bool, true, false, ◌⊎◌, inl, inr, ⊎_elim, ◌<◌, arith, slice_get, option_map, replicate, List, [], ◌∷◌, length, map, get_or, Option, None, Some, Result, Ok, Err, OnOk, OnErr, IfOk, IsSomeAnd, option_and_then, refl, sym, ap, subst, ◌∙◌, pos, bytes_eq, if◌then◌else◌}
use Rattle.std.specs.List.{range_with_len}
use Rattle.std.specs.Cmp.Lexicographic.{bytes_decides, slice_cmp}
use Rattle.std.specs.Ordering.{nat_cmp}
use Rattle.std.specs.FinMap.{get, get-empty}
use Rattle.std.proofs.lemmas.Bool.{cases_Bool, cond-true, cond-false}
use Rattle.std.proofs.lemmas.List.FromFn.{fill_by_all}
use Rattle.std.proofs.lemmas.List.{get_or-replicate, length-replicate}
use Rattle.std.proofs.lemmas.Option.{same_Some, slice_get-map}
use Rattle.lg_store.specs.declared.view.View.{View as CodeView}
use Rattle.lg_shape.specs.Shapes.{size_of, whole, places, place_of}
use Rattle.lg_shape.specs.Views.{Layout, whole_layout}
use Rattle.lg_space.specs.Rectangle.{IsIn}
use Rattle.lg_space.proofs.Places.{place-below, stands_once}
use Rattle.lg_xform.specs.declared.chain.Chain.{Chain}
use Rattle.lg_xform.specs.Chains.{layout_of, shape_of, mapped, IsUnsplit}
use Rattle.lg_xform.specs.Chains.{root_of as chain_root}
use Rattle.lg_tile.specs.declared.any_tile.AnyTile.{AnyTile}
use Rattle.lg_tile.specs.Tiles.{numbers, dtype_of, rect_of}
use Rattle.lg_meaning.specs.Memory as memory
use Rattle.lg_meaning.specs.Memory.{Root, View, numbers_of}
use Rattle.lg_meaning.specs.Run.{start}
use Rattle.lg_meaning.specs.Value.{plain}
use Rattle.lg_operations.specs.Operations.{value_with, kind_of, extents_of, right_for, IsWhole}
use Rattle.lg_session.specs.Worlds.{Roots, Names, number_at, shown_in, SameBound}
use Rattle.lg_operations.specs.Views.{view_of}
use Rattle.lg_session.specs.Names.{bound_at, viewed_root, IsReached}
use Rattle.lg_session.specs.Roots.{root_of}
use Rattle.lg_session.specs.Stored.{IsViewOf, IsWholeOf, IsHeld, IsStored, AreHeld, AreRanged, IsTidyAt}
use Rattle.lg_session.specs.Standing.{Represents, names_in}
use Rattle.lg_session.specs.declared.names.Bound.{Bound}
use Rattle.lg_session.specs.declared.names.Bound.TheVariants.{Weak, Array}
use Rattle.lg_session.specs.declared.names.Names.{Names as CodeNames}

-- ---- a view of a root

-- a view of a root that is what it was
pub held_kept : (A C : Roots) (view : CodeView) → C view.root ≡ A view.root → IsHeld A view → IsHeld C view
held_kept A C view same h = subst (λ (o : Option Root). IsSomeAnd o (IsViewOf view)) (sym same) h

-- the root that there is
pub view_held : (A : Roots) (view : CodeView) (root : Root) → A view.root ≡ Some root → IsHeld A view → IsViewOf view root
view_held A view root is h = subst (λ (o : Option Root). IsSomeAnd o (IsViewOf view)) is h

-- the whole of a root shows its numbers
pub shown_whole : (A : Roots) (view : CodeView) (root : Root) → A view.root ≡ Some root → IsWholeOf view root → shown_in A (view_of view) ≡ root.numbers
shown_whole A view root is w =
    ap (map (λ place. number_at A (view.root, place))) w.places
    ∙ ap (λ (o : Option Root). map (λ place. get_or (numbers_of o) place (pos 0)) (range_with_len 0 (size_of root.shape))) is
    ∙ ap (λ n. map (λ place. get_or root.numbers place (pos 0)) (range_with_len 0 n)) (sym w.of_root.full)
    ∙ sym (fill_by_all (λ place. get_or root.numbers place (pos 0)) root.numbers (length root.numbers) (pos 0) refl (λ i h. refl))

-- where a chain leads each index into its root, its places are places of the root
pub places_inside : (chain : Chain) (count : ℕ) → count ≡ size_of (chain_root chain)
    → ((index : List ℕ) → IsIn (whole (shape_of chain)) index → IsIn (whole (chain_root chain)) (mapped chain index))
    → (i place : ℕ) → slice_get (layout_of chain).places i ≡ Some place → place < count
places_inside chain count full inside i place at = by_index (slice_get (places (shape_of chain)) i) refl
  where
    lead : List ℕ → ℕ
    lead index = place_of (chain_root chain) (mapped chain index)

    none_some : None ≡ Some place → ⊥
    none_some e = cc

    by_index : (p : Option (List ℕ)) → slice_get (places (shape_of chain)) i ≡ p → place < count
    by_index None e = absurd (none_some (sym (ap (option_map lead) e) ∙ sym (slice_get-map lead (places (shape_of chain)) i) ∙ at))
    by_index (Some index) e =
        let same : lead index ≡ place = same_Some _ _ (sym (ap (option_map lead) e) ∙ sym (slice_get-map lead (places (shape_of chain)) i) ∙ at) in
        let below = place-below (whole (chain_root chain)) (mapped chain index) (inside index (stands_once (whole (shape_of chain)) i index e).0) in
        omega (arith, same, below, full)

-- no axis of a whole root is split
pub unsplit_whole : (inner : List Bool) (n : ℕ) → inner ≡ replicate n false → IsUnsplit inner
unsplit_whole inner n is = λ k d below. ap (λ l. get_or l k d) is ∙ get_or-replicate n k false d (omega (arith, below, ap length is, length-replicate n false))

-- a view with the layout of the whole root is the whole of it
whole_by : (view : CodeView) (root : Root) → IsViewOf view root → layout_of view.chain ≡ whole_layout (chain_root view.chain) → IsWholeOf view root
whole_by view root h is = record {
  of_root = h;
  shape = ap (λ (l : Layout). l.shape) is ∙ h.shape;
  places = ap (λ (l : Layout). l.places) is ∙ ap (λ s. range_with_len 0 (size_of s)) h.shape;
}

-- the kind and the value of a whole view are those of the root's tile
module _ (A : Roots) (view : CodeView) (tile : AnyTile) (is : A view.root ≡ Some (root_of tile)) (held : IsHeld A view)
    (layout : layout_of view.chain ≡ whole_layout (chain_root view.chain)) where
  pub lent_kind : kind_of tile view.right ≡ (view_of view).kind
  lent_kind =
      let h = view_held A view (root_of tile) is held in
      let w = whole_by view (root_of tile) h layout in
      λ i. record { dtype = h.dtype i; shape = sym w.shape i; right = right_for view.right }

  pub lent_value : value_with tile None ≡ plain (view_of view).kind.shape (shown_in A (view_of view))
  lent_value =
      let w = whole_by view (root_of tile) (view_held A view (root_of tile) is held) layout in
      let shape : (value_with tile None).shape ≡ (view_of view).kind.shape = sym w.shape in
      let same : numbers tile ≡ shown_in A (view_of view) = sym (shown_whole A view (root_of tile) is w) in
      λ i. record { shape = shape i; numbers = same i; fault = None }

pub extents_back : (shape : List ℕ) → map (λ (range : ℕ × ℕ). range.1) (whole shape) ≡ shape
extents_back [] = refl
extents_back (e ∷ shape) = ap (e ∷◌) (extents_back shape)

-- those of any view are those of its elements, gathered
module _ (A : Roots) (view : CodeView) (tile out : AnyTile) (is : A view.root ≡ Some (root_of tile)) (held : IsHeld A view)
    (dtype : dtype_of out ≡ dtype_of tile) (rect : rect_of out ≡ whole (shape_of view.chain))
    (gathered : numbers out ≡ map (λ place. get_or (numbers tile) place (pos 0)) (layout_of view.chain).places) where
  extents : extents_of out ≡ shape_of view.chain
  extents = ap (map (λ (range : ℕ × ℕ). range.1)) rect ∙ extents_back (shape_of view.chain)

  pub gathered_kind : kind_of out view.right ≡ (view_of view).kind
  gathered_kind =
      let same : dtype_of out ≡ view.dtype = dtype ∙ (view_held A view (root_of tile) is held).dtype in
      λ i. record { dtype = same i; shape = extents i; right = right_for view.right }

  pub gathered_value : value_with out None ≡ plain (view_of view).kind.shape (shown_in A (view_of view))
  gathered_value =
      let same : numbers out ≡ shown_in A (view_of view) =
      gathered ∙ ap (λ (o : Option Root). map (λ place. get_or (numbers_of o) place (pos 0)) (layout_of view.chain).places) (sym is) in
      λ i. record { shape = extents i; numbers = same i; fault = None }

  pub gathered_whole : IsWhole out
  gathered_whole = rect ∙ ap whole (sym extents)

-- a root's tile is over all indices of the shape that the chain leads into
pub root_rect : (A : Roots) (view : CodeView) (tile : AnyTile) → A view.root ≡ Some (root_of tile) → IsHeld A view → IsWhole tile → rect_of tile ≡ whole (chain_root view.chain)
root_rect A view tile is held full = full ∙ ap whole (sym (view_held A view (root_of tile) is held).shape)

-- ---- a name that was bound

-- what a name stands for afterwards is the new value, or an old one
pub set_cases : {X E : Type 0} (r : Result X E) (old new : CodeNames) (word : List ℕ) (bound : Bound)
    → OnOk r ((w : List ℕ) → bound_at new w ≡ (if bytes_eq word w then Some bound else bound_at old w))
    → OnErr r ((w : List ℕ) → bound_at new w ≡ bound_at old w)
    → (w : List ℕ) (b : Bound) → bound_at new w ≡ Some b → (bound ≡ b) ⊎ (bound_at old w ≡ Some b)
set_cases (Ok x) old new word bound set same w b is = by_test (bytes_eq word w) (sym (set w) ∙ is)
  where
    by_test : (t : Bool) → (if t then Some bound else bound_at old w) ≡ Some b → (bound ≡ b) ⊎ (bound_at old w ≡ Some b)
    by_test true e = inl (same_Some bound b e)
    by_test false e = inr e
set_cases (Err e) old new word bound set same w b is = inr (sym (same w) ∙ is)

module _ {X E : Type 0} (r : Result X E) (A : Roots) (old new : CodeNames) (word : List ℕ) (bound : Bound)
    (set : OnOk r ((w : List ℕ) → bound_at new w ≡ (if bytes_eq word w then Some bound else bound_at old w)))
    (same : OnErr r ((w : List ℕ) → bound_at new w ≡ bound_at old w)) (stored : IsStored A bound) where
  pub held_set : AreHeld A old → AreHeld A new
  held_set held w view is =
      ⊎_elim (λ e. subst (IsStored A) e stored) (λ e. held w view e) (set_cases r old new word bound set same w (Array view) is)

  pub ranged_set : AreRanged old → AreRanged new
  ranged_set ranged w x is =
      ⊎_elim (λ e. subst (IsStored A) e stored) (λ e. ranged w x e) (set_cases r old new word bound set same w (Weak x) is)

-- ---- a root that no name reaches

-- the roots that names reach stay where another one goes
pub kept_unreached : (names : CodeNames) (root : ℕ) (A C : Roots) → (IsReached names root → ⊥) → ((other : ℕ) → (root ≡ other → ⊥) → C other ≡ A other)
    → (w : List ℕ) (view : CodeView) → bound_at names w ≡ Some (Array view) → C view.root ≡ A view.root
kept_unreached names root A C free others w view is = others view.root (λ e. free (record { name = w; view = view; bound = is; of_root = sym e }))

-- a root is reached as before
pub tidy_same : (A : Roots) (old new : CodeNames) → ((w : List ℕ) → bound_at new w ≡ bound_at old w) → (root : ℕ) → IsTidyAt A old root → IsTidyAt A new root
tidy_same A old new same root tidy free = tidy (λ r. free (record { name = r.name; view = r.view; bound = same r.name ∙ r.bound; of_root = r.of_root }))

pub unequal : (a b : ℕ) → (a == b) ≡ false → a ≡ b → ⊥
unequal a b n e = differ (a == b) n (eq-eqb a b e)
  where
    differ : (t : Bool) → t ≡ false → t ≡ true → ⊥
    differ t x y = cc

-- a root is still reached, if the name that was bound was no view of it
module _ (A C : Roots) (old new : CodeNames) (word : List ℕ) (bound : Bound)
    (set : (w : List ℕ) → bound_at new w ≡ (if bytes_eq word w then Some bound else bound_at old w)) where
  still_reached : (root : ℕ) → ((view : CodeView) → bound_at old word ≡ Some (Array view) → view.root ≢ root) → IsReached old root → IsReached new root
  still_reached root apart r =
      ⊎_elim
      (λ y. absurd (apart r.view (subst (λ w. bound_at old w ≡ Some (Array r.view)) (sym ((bytes_decides word r.name).0 y)) r.bound) r.of_root))
      (λ n. record { name = r.name; view = r.view; bound = set r.name ∙ cond-false (bytes_eq word r.name) _ _ n ∙ r.bound; of_root = r.of_root })
      (cases_Bool (bytes_eq word r.name))

  -- the name stood for no view
  pub tidy_set : None ≡ option_and_then viewed_root (bound_at old word) → (root : ℕ) → IsTidyAt A old root → IsTidyAt A new root
  tidy_set none root tidy free = tidy (λ r. free (still_reached root apart r))
    where
      apart : (view : CodeView) → bound_at old word ≡ Some (Array view) → view.root ≢ root
      apart view is e = let some : None ≡ Some view.root = none ∙ ap (option_and_then viewed_root) is in cc

  -- the name stood for a view of a root that is tidy afterwards
  pub tidy_freed : (freed : ℕ) → Some freed ≡ option_and_then viewed_root (bound_at old word) → IsTidyAt C new freed
      → ((other : ℕ) → (freed ≡ other → ⊥) → C other ≡ A other) → (root : ℕ) → IsTidyAt A old root → IsTidyAt C new root
  tidy_freed freed was now others root tidy free =
      ⊎_elim
      (λ y. let e : freed ≡ root = eqb-true freed root y in
      ap C (sym e) ∙ now (λ r. free (record { name = r.name; view = r.view; bound = r.bound; of_root = r.of_root ∙ e })))
      (λ n. others root (unequal freed root n) ∙ tidy (λ r. free (still_reached root (apart (unequal freed root n)) r)))
      (cases_Bool (freed == root))
    where
      apart : (freed ≡ root → ⊥) → (view : CodeView) → bound_at old word ≡ Some (Array view) → view.root ≢ root
      apart n view is e = n (same_Some _ _ (was ∙ ap (option_and_then viewed_root) is) ∙ e)

-- ---- a new root

-- what names stand for is held by the roots with one more
pub held_added : {E : Type 0} (r : Result ℕ E) (A C : Roots) (names : CodeNames) → IfOk r (λ root. A root ≡ None)
    → IfOk r (λ root. (other : ℕ) → root ≢ other → C other ≡ A other) → OnErr r ((root : ℕ) → C root ≡ A root) → AreHeld A names → AreHeld C names
held_added (Ok root) A C names free others same held w view is =
    let apart : root ≡ view.root → ⊥ = λ e. subst (λ (o : Option Root). IsSomeAnd o (IsViewOf view)) (ap A (sym e) ∙ free) (held w view is) in
    held_kept A C view (others view.root apart) (held w view is)
held_added (Err e) A C names free others same held w view is = held_kept A C view (same view.root) (held w view is)

-- where the new root is reached, no other one is left over
pub tidy_reached : (A B C : Roots) (old new : CodeNames) (root : ℕ) → ((other : ℕ) → root ≢ other → B other ≡ A other)
    → ((r : ℕ) → IsTidyAt B old r → IsTidyAt C new r) → IsReached new root → (r : ℕ) → IsTidyAt A old r → IsTidyAt C new r
tidy_reached A B C old new root others step reached r tidy free =
    ⊎_elim
    (λ y. absurd (free (subst (IsReached new) (eqb-true root r y) reached)))
    (λ n. step r (λ out. others r (unequal root r n) ∙ tidy out) free)
    (cases_Bool (root == r))

-- where the new root is forgotten again, neither
pub tidy_forgotten : (A B C D : Roots) (old new last : CodeNames) (root : ℕ) → ((other : ℕ) → root ≢ other → B other ≡ A other)
    → ((r : ℕ) → IsTidyAt B old r → IsTidyAt C new r) → last ≡ new → ((other : ℕ) → root ≢ other → D other ≡ C other) → IsTidyAt D last root
    → (r : ℕ) → IsTidyAt A old r → IsTidyAt D last r
tidy_forgotten A B C D old new last root others step names kept gone r tidy free =
    ⊎_elim
    (λ y. subst (λ x. D x ≡ None) (eqb-true root r y) (gone (subst (λ x. IsReached last x → ⊥) (sym (eqb-true root r y)) free)))
    (λ n. kept r (unequal root r n) ∙ step r (λ out. others r (unequal root r n) ∙ tidy out) (subst (λ (x : CodeNames). IsReached x r → ⊥) names free))
    (cases_Bool (root == r))

-- a name that was bound to a view reaches its root
pub reached_set : (old new : CodeNames) (word : List ℕ) (view : CodeView)
    → ((w : List ℕ) → bound_at new w ≡ (if bytes_eq word w then Some (Array view) else bound_at old w)) → bound_at new word ≡ Some (Array view)
reached_set old new word view set = set word ∙ cond-true (bytes_eq word word) _ _ ((bytes_decides word word).1 refl)

-- ---- the start

-- where no name is bound, the world stands for the start
pub represents_start : (A : Roots) (m : Names) → ((w : List ℕ) → m w ≡ None) → Represents A m start
represents_start A m none = record {
  sound = λ w view is. absurd (unbound w view is);
  stands = record {
    same = λ w. let P : Option memory.Bound → Type 0 = λ o. SameBound o (get start.names w) in
        let Q : Option memory.Bound → Type 0 = λ o. SameBound None o in subst P (sym (none w)) (subst Q (sym (get-empty (slice_cmp nat_cmp) w)) tt);
    shows = λ p q link. absurd (unbound link.name link.b link.there);
    one = λ p q r s link other. absurd (unbound link.name link.b link.there);
  };
}
  where
    no_value : (view : View) → None ≡ Some (memory.array view) → ⊥
    no_value view e = cc

    unbound : (w : List ℕ) (view : View) → names_in start w ≡ Some (memory.array view) → ⊥
    unbound w view is = no_value view (sym (get-empty (slice_cmp nat_cmp) w) ∙ is)
