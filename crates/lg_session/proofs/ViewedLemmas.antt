-- The value of a view form, from what its rule picks.
use Rattle.std.proofs.Common.{◌≡◌, ℕ, ◌<◌, Bool, true, false, List, [], length, map, get_or, Option, None, Some, Result, Ok, Err, refl, sym, ap, ◌∙◌, arith, pos, slice_get, option_and_then, if◌then◌else◌}
use Rattle.lg_store.specs.declared.view.View.{View as CodeView}
use Rattle.lg_shape.specs.Shapes.{place_of, size_of}
use Rattle.lg_shape.specs.Views.{Layout, place_at, whole_layout}
use Rattle.lg_xform.proofs.Picks.{all_places}
use Rattle.lg_tree.specs.Tree.{Tree}
use Rattle.lg_meaning.specs.declared.fault.FaultKind.{FaultKind}
use Rattle.lg_meaning.specs.declared.fault.FaultKind.TheVariants.{Range}
use Rattle.lg_meaning.specs.Faults.{from_part, needing}
use Rattle.lg_meaning.specs.Memory.{ArrayKind, View, State}
use Rattle.lg_meaning.specs.Static.{Static, weak_value, array_value, as_array, scalar_of, fits, type_alone}
use Rattle.lg_meaning.specs.Expressions.{static_of, evaluated}
use Rattle.lg_meaning.specs.Sharing.{shared_view, formed}
use Rattle.lg_meaning.specs.Value.{valued, plain}
use Rattle.lg_meaning.specs.Views.{layout_in, view_by}
use Rattle.lg_session.specs.Worlds.{Roots, Names as Bindings, shown_in}
use Rattle.lg_operations.specs.Views.{view_of}
use Rattle.lg_session.specs.Names.{environment}
use Rattle.lg_session.specs.Roots.{contents}
use Rattle.lg_session.specs.Standing.{roots_in, names_in}
use Rattle.lg_operations.specs.Operations.{fresh_kind, weak_of}
use Rattle.lg_session.specs.Values.{value_static, value_in, ComesFrom, IsShared, Means, IsOutcome}
use Rattle.lg_session.specs.Viewed.{Form, Copies, IsViewed, IsViewMade, MakesView, MayCopy, picked_by}
use Rattle.lg_session.proofs.Picked.{IsPicked, AreAmong, picked_shown, picked_numbers, inside_picked}
use Rattle.lg_operations.specs.declared.end.EvaluateEnd.{EvaluateEnd}
use Rattle.lg_operations.specs.declared.end.EvaluateEnd.TheVariants.{Fault, NoMemory}
use Rattle.lg_session.specs.declared.session.Session.{Session}
use Rattle.lg_session.specs.declared.value.Value.{Value}
use Rattle.lg_session.specs.declared.value.Value.TheVariants.{Weak, Shown, Fresh}

-- ---- parts without a fault

-- what there was before
pub part_before : {A B : Type 0} (r : Result A FaultKind) (f : A → Result B FaultKind) (b : B) → from_part r f ≡ Ok b → (x : A) × (r ≡ Ok x) × (f x ≡ Ok b)
part_before (Ok x) f b e = (x, refl, e)
part_before (Err kind) f b e = cc

-- a value as an array has its own type
pub array_type : (s : Static) (k : ArrayKind) → as_array s ≡ Ok k → k.dtype ≡ type_alone s
array_type (array_value a) k e = let same : a ≡ k = cc in ap (λ (x : ArrayKind). x.dtype) (sym same)
array_type (weak_value w) k e = by_test (fits (type_alone (weak_value w)) (weak_value w)) e
  where
    by_test : (t : Bool) → needing t Range (Ok (scalar_of (type_alone (weak_value w)))) ≡ Ok k → k.dtype ≡ type_alone (weak_value w)
    by_test true e = let same : scalar_of (type_alone (weak_value w)) ≡ k = cc in ap (λ (x : ArrayKind). x.dtype) (sym same)
    by_test false e = cc

-- and its own shape
pub array_shape : (roots : Roots) (old : Value) (k : ArrayKind) → as_array (value_static old) ≡ Ok k → (value_in roots old).shape ≡ k.shape
array_shape roots (Shown view) k e = let same : (view_of view).kind ≡ k = cc in ap (λ (x : ArrayKind). x.shape) same
array_shape roots (Fresh fresh) k e = let same : fresh_kind fresh ≡ k = cc in ap (λ (x : ArrayKind). x.shape) same
array_shape roots (Weak w) k e = by_test (fits (type_alone (weak_value (weak_of w))) (weak_value (weak_of w))) e
  where
    by_test : (t : Bool) → needing t Range (Ok (scalar_of (type_alone (weak_value (weak_of w))))) ≡ Ok k → [] ≡ k.shape
    by_test true e = let same : scalar_of (type_alone (weak_value (weak_of w))) ≡ k = cc in ap (λ (x : ArrayKind). x.shape) same
    by_test false e = cc

-- ---- what a form picks

-- of each layout of this shape the rule picks the members at these indices, which lie in the shape
pub record Picks (form : Layout → Layout) (shape : List ℕ) : Type 0 where
  pub indices : List (List ℕ)
  pub places : (layout : Layout) → layout.shape ≡ shape → (form layout).places ≡ map (place_at layout) indices
  pub among : (k : ℕ) (index : List ℕ) → slice_get indices k ≡ Some index → place_of shape index < size_of shape

-- a view that is shared, where the form copies nothing
abbrev pub shared_by : Copies → Result Static FaultKind → Form → View → Option View
shared_by copies static form view = if copies view.kind.shape then None else formed static form view

-- the places of a view are as many as its shape has indices
view_full : (view : CodeView) → length (view_of view).places ≡ size_of (view_of view).kind.shape
view_full view = all_places view.chain

-- of a weak number and of a new array a new one is made, and of a view where the form copies
anew : (e a : Tree) (state : State) (names : Bindings) (static : Result Static FaultKind) (form : Form) (copies : Copies) (old : Value)
    → shared_view e state.names ≡ option_and_then (shared_by copies static form) (shared_view a state.names) → ComesFrom a state names old → MayCopy copies old → shared_view e state.names ≡ None
anew e a state names static form copies (Weak w) source none copied = source ∙ ap (option_and_then (shared_by copies static form)) none
anew e a state names static form copies (Fresh fresh) source none copied = source ∙ ap (option_and_then (shared_by copies static form)) none
anew e a state names static form copies (Shown view) source s copied =
    source ∙ ap (option_and_then (shared_by copies static form)) s.is
    ∙ ap (λ b. if b then None else formed static form s.there) (ap (λ (k : ArrayKind). copies k.shape) (sym s.shown.kind.kind) ∙ copied)

module _ (roots : Roots) (e a : Tree) (state : State) (names : Bindings) (static : Result Static FaultKind) (form : Form) (copies : Copies) (old new : CodeView)
    (source : shared_view e state.names ≡ option_and_then (shared_by copies static form) (shared_view a state.names)) (s : IsShared a state names (view_of old))
    (made : IsViewMade static form old new) (shares : copies (view_of old).kind.shape ≡ false) (picks : Picks (form (view_of new).kind) (view_of old).kind.shape)
    (dtype : (view_of new).kind.dtype ≡ (view_of old).kind.dtype) where
  abbrev there : View
  there = view_by (form (view_of new).kind) s.there (view_of new).kind

  alike : s.there.kind.shape ≡ (view_of old).kind.shape
  alike = ap (λ (k : ArrayKind). k.shape) (sym s.shown.kind.kind)

  first : IsPicked (view_of old) (view_of new) picks.indices
  first = record { root = ap (λ (v : View). v.root) made.is; places = ap (λ (v : View). v.places) made.is ∙ picks.places (layout_in (view_of old)) refl }

  second : IsPicked s.there there picks.indices
  second = record { root = refl; places = picks.places (layout_in s.there) alike }

  among : AreAmong picks.indices (view_of old)
  among k index at = omega (arith, picks.among k index at, view_full old)

  among_there : AreAmong picks.indices s.there
  among_there k index at = omega (arith, among k index at, ap (λ shape. place_of shape index) alike, s.shown.kind.count)

  shared : IsShared e state names (view_of new)
  shared = record {
    there = there;
    is = source ∙ ap (option_and_then (shared_by copies static form)) s.is
        ∙ ap (λ b. if b then None else formed static form s.there) (ap copies alike ∙ shares)
        ∙ ap (λ r. formed r form s.there) made.kind;
    inside = inside_picked (roots_in state) s.there there picks.indices s.inside second among_there (dtype ∙ ap (λ (k : ArrayKind). k.dtype) s.shown.kind.kind);
    shown = picked_shown names (names_in state) (view_of old) s.there (view_of new) there picks.indices s.shown first second refl among;
  }

  numbers : shown_in roots (view_of new) ≡ map (λ place. get_or (shown_in roots (view_of old)) place (pos 0)) (form (view_of new).kind (whole_layout (view_of old).kind.shape)).places
  numbers =
      picked_numbers roots (view_of old) (view_of new) picks.indices first among (view_full old)
      ∙ ap (map (λ place. get_or (shown_in roots (view_of old)) place (pos 0))) (sym (picks.places (whole_layout (view_of old).kind.shape) refl))

module _ (state : State) (session : Session) (e a : Tree) (old : Value) (means : Means a state session old)
    (static : Result Static FaultKind) (form : Form) (copies : Copies)
    (kind : static_of e state.names ≡ static)
    (value : evaluated e state.memory state.names ≡ valued static (picked_by form (evaluated a state.memory state.names)))
    (source : shared_view e state.names ≡ option_and_then (shared_by copies static form) (shared_view a state.names))
    (picks : (k : ArrayKind) → static ≡ Ok (array_value k) → Picks (form k) (value_in (contents session.roots) old).shape)
    (types : (k : ArrayKind) → static ≡ Ok (array_value k) → k.dtype ≡ type_alone (value_static old)) where
  pub viewed : (answer : Result Value EvaluateEnd) → IsViewed static form copies (contents session.roots) old answer → IsOutcome e state session answer
  viewed (Ok (Weak w)) h = absurd h
  viewed (Ok (Shown new)) h = by_old old means picks types h
    where
      by_old : (old : Value) → Means a state session old
          → ((k : ArrayKind) → static ≡ Ok (array_value k) → Picks (form k) (value_in (contents session.roots) old).shape)
          → ((k : ArrayKind) → static ≡ Ok (array_value k) → k.dtype ≡ type_alone (value_static old))
          → MakesView static form copies old new → Means e state session (Shown new)
      by_old (Weak w) means picks types h = absurd h
      by_old (Fresh fresh) means picks types h = absurd h
      by_old (Shown view) means picks types h =
          let p = picks (view_of new).kind h.0.kind in
          let t = types (view_of new).kind h.0.kind in
          record {
            kind = kind ∙ h.0.kind;
            same = value ∙ ap (λ s. valued s (picked_by form (evaluated a state.memory state.names))) h.0.kind
                ∙ ap (λ v. picked_by form v (view_of new).kind) means.same
                ∙ ap (plain (view_of new).kind.shape)
                (sym (numbers (contents session.roots) e a state (environment session.names) static form copies view new source means.source h.0 h.1 p t));
            source = shared (contents session.roots) e a state (environment session.names) static form copies view new source means.source h.0 h.1 p t;
          }
  viewed (Ok (Fresh fresh)) h = record {
    kind = kind ∙ h.0.kind;
    same = value ∙ ap (λ s. valued s (picked_by form (evaluated a state.memory state.names))) h.0.kind ∙ ap (λ v. picked_by form v (fresh_kind fresh)) means.same ∙ sym h.0.same;
    source = anew e a state (environment session.names) static form copies old source means.source h.1;
  }
  viewed (Err (Fault fault)) h = kind ∙ h
  viewed (Err NoMemory) h = tt
