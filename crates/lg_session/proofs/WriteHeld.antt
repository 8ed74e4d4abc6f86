-- What the session keeps, and what it stands for, after a write.
use Rattle.std.proofs.Common.{◌≡◌, ℕ, ◌==◌, eqb-true, ⊎_elim, List, length, map, Option, None, Some, IsSomeAnd, refl, sym, ap, subst, ◌∙◌, arith, ℤ}
use Rattle.std.proofs.lemmas.Bool.{cases_Bool}
use Rattle.std.proofs.lemmas.List.{length-map}
use Rattle.lg_elem.specs.Types.{wrap}
use Rattle.lg_shape.specs.Shapes.{size_of, whole}
use Rattle.lg_space.specs.Rectangle.{volume_of}
use Rattle.lg_store.specs.declared.view.View.{View as CodeView}
use Rattle.lg_store.specs.declared.view.Right.{Right}
use Rattle.lg_store.specs.declared.view.Right.TheVariants.{Writable, ReadOnly, Scalar}
use Rattle.lg_tile.specs.declared.any_tile.AnyTile.{AnyTile}
use Rattle.lg_tile.specs.Tiles.{numbers, rect_of}
use Rattle.lg_tile.proofs.NumberLemmas.{numbers_full}
use Rattle.lg_xform.specs.Chains.{shape_of, layout_of}
use Rattle.lg_xform.proofs.Picks.{all_places}
use Rattle.lg_meaning.specs.Memory.{Root, View, ArrayKind, State, writable}
use Rattle.lg_meaning.specs.Assignments.{written as written_memory}
use Rattle.lg_operations.specs.Operations.{right_for}
use Rattle.lg_session.specs.Worlds.{Roots, IsShown, IsInside, NoRepeat}
use Rattle.lg_operations.specs.Views.{view_of}
use Rattle.lg_session.specs.Names.{environment}
use Rattle.lg_session.specs.Puts.{Writes}
use Rattle.lg_session.specs.Stored.{IsViewOf, IsHeld, AreHeld, IsTidyAt}
use Rattle.lg_session.specs.Standing.{Represents, roots_in, names_in}
use Rattle.lg_session.specs.declared.names.Names.{Names as CodeNames}
use Rattle.lg_session.proofs.HeldLemmas.{held_kept, view_held, unequal}
use Rattle.lg_session.proofs.Writes.{written, writes_written, apart_there, inside_written}

-- a view of a root is one of another root of its type, shape and count
view_alike : (view : CodeView) (old new : Root) → new.dtype ≡ old.dtype → new.shape ≡ old.shape → length new.numbers ≡ length old.numbers → IsViewOf view old → IsViewOf view new
view_alike view old new dtype shape count h = record {
  dtype = dtype ∙ h.dtype;
  shape = h.shape ∙ sym shape;
  full = count ∙ h.full ∙ ap size_of (sym shape);
  small = h.small;
  unsplit = h.unsplit;
  inside = λ i place at. omega (arith, h.inside i place at, count);
  once = h.once;
}

-- a right to write is the code's
pub writable_is : (right : Right) → right_for right ≡ writable → right ≡ Writable
writable_is Writable is = refl
writable_is ReadOnly is = cc
writable_is Scalar is = cc

-- a view that is held and may be written has no place twice
pub held_once : (A : Roots) (view : CodeView) → IsHeld A view → right_for view.right ≡ writable → NoRepeat (layout_of view.chain).places
held_once A view held right = by (A view.root) held
  where
    by : (o : Option Root) → IsSomeAnd o (IsViewOf view) → NoRepeat (layout_of view.chain).places
    by None h = absurd h
    by (Some root) h = h.once (writable_is view.right right)

-- a tile over a view's indices has as many numbers as the view has places
pub tile_count : (tile : AnyTile) (view : CodeView) → rect_of tile ≡ whole (shape_of view.chain) → length (numbers tile) ≡ length (view_of view).places
tile_count tile view rect = numbers_full tile ∙ ap volume_of rect ∙ sym (all_places view.chain)

module _ (A C : Roots) (target : CodeView) (values : List ℤ) (w : Writes A C (view_of target) values) where
  pub held_written : (view : CodeView) → IsHeld A view → IsHeld C view
  held_written view h =
      ⊎_elim
      (λ y. let is = eqb-true target.root view.root y in
      let old : IsViewOf view w.old = view_held A view w.old (ap A (sym is) ∙ w.was) h in
      subst (λ (o : Option Root). IsSomeAnd o (IsViewOf view)) (sym (ap C (sym is) ∙ w.now)) (view_alike view w.old w.new w.dtype w.shape w.puts.same_length old))
      (λ n. held_kept A C view (w.others view.root (λ e. unequal target.root view.root n (sym e))) h)
      (cases_Bool (target.root == view.root))

  pub are_held_written : (names : CodeNames) → AreHeld A names → AreHeld C names
  are_held_written names held name view is = held_written view (held name view is)

  pub tidy_written : (names : CodeNames) (root : ℕ) → IsTidyAt A names root → IsTidyAt C names root
  tidy_written names root tidy free =
      ⊎_elim
      (λ y. absurd (none_some w.old (sym (tidy free) ∙ ap A (sym (eqb-true target.root root y)) ∙ w.was)))
      (λ n. w.others root (λ e. unequal target.root root n (sym e)) ∙ tidy free)
      (cases_Bool (target.root == root))
    where
      none_some : (r : Root) → None ≡ Some r → ⊥
      none_some r e = cc

  pub represents_written : (names : CodeNames) (state : State) (there : View) (given : List ℤ) → Represents A (environment names) state → IsInside (roots_in state) there
      → IsShown (environment names) (names_in state) (view_of target) there → NoRepeat (view_of target).places → values ≡ map (wrap target.dtype) given
      → length values ≡ length (view_of target).places
      → Represents C (environment names) (record { memory = written_memory state.memory there given; names = state.names })
  represents_written names state there given r inside shown once is count =
      let m = environment names in
      let n = names_in state in
      let twice = apart_there A (roots_in state) m n (view_of target) there r.stands shown once in
      let full : length given ≡ length there.places = sym (length-map given (wrap target.dtype)) ∙ ap length (sym is) ∙ count ∙ shown.kind.count in
      let second = writes_written state.memory there given inside twice full in
      let same : map (wrap there.kind.dtype) given ≡ values = ap (λ (k : ArrayKind). map (wrap k.dtype) given) (sym shown.kind.kind) ∙ sym is in
      record {
        sound = λ w view at. inside_written (roots_in state) _ there _ second view (r.sound w view at);
        stands = written A (roots_in state) C _ m n (view_of target) there values r.stands shown w (subst (Writes (roots_in state) _ there) same second);
      }
