-- The session stands for the state of the definition after a statement.
use Rattle.std.proofs.Common.{◌≡◌, ℕ, suc, zero, Bool, true, false, cond, ⊎_elim, List, [], ◌∷◌, ◌++◌, length, map, get_or, Option, None, Some, IsSomeAnd, option_map, refl, sym, ap, subst, ◌∙◌, ℤ, pos, bytes_eq, if◌then◌else◌, slice_get, arith}
use Rattle.std.specs.List.{range_with_len}
use Rattle.std.specs.Cmp.Lexicographic.{nat_list_cmp_total, nat_list_eq_equiv}
use Rattle.std.specs.FinMap.{get, insert, get-insert}
use Rattle.std.proofs.lemmas.List.FromFn.{fill_by_all, length-range_with_len}
use Rattle.std.proofs.lemmas.Map.Text.{is_eq-slice_cmp}
use Rattle.std.proofs.lemmas.Option.{slice_get_within, slice_get_past}
use Rattle.lg_store.specs.declared.view.View.{View as CodeView}
use Rattle.lg_shape.specs.Shapes.{size_of}
use Rattle.lg_tree.specs.Tree.{Tree}
use Rattle.lg_meaning.specs.Weak as weak
use Rattle.lg_meaning.specs.Memory.{Root, View, ArrayKind, Memory, State, Bound, array, numbers_of, whole_view}
use Rattle.lg_meaning.specs.Memory as memory
use Rattle.lg_meaning.specs.Static.{Static, weak_value, array_value}
use Rattle.lg_meaning.specs.Expressions.{evaluated}
use Rattle.lg_meaning.specs.Sharing.{shared_view}
use Rattle.lg_meaning.specs.Step.{rebound as rebound_state, newly_bound, bound_as, bound_to}
use Rattle.lg_session.specs.Worlds.{Roots, Names, Place, number_at, shown_in, put, SameBound, Linked, Stands, IsInside, AreInside, NoRepeat}
use Rattle.lg_operations.specs.Views.{view_of}
use Rattle.lg_session.specs.Names.{bound_of, bound_at, environment}
use Rattle.lg_session.specs.Stored.{IsViewOf, IsWholeOf, AreHeld}
use Rattle.lg_session.specs.Standing.{Represents, roots_in, names_in}
use Rattle.lg_session.proofs.Links.{number_kept, put_bound, put_linked, BoundLinked, rebound, freshly_bound, range_place, range_no_repeat, linked_there}
use Rattle.lg_session.proofs.HeldLemmas.{shown_whole}
use Rattle.lg_session.specs.declared.names.Bound.{Bound as CodeBound}
use Rattle.lg_session.specs.declared.names.Bound.TheVariants.{Weak, Array}
use Rattle.lg_session.specs.declared.names.Names.{Names as CodeNames}

-- ---- the code's names

-- a view that a name stands for is one of the code's
pub view_at : (names : CodeNames) (w : List ℕ) (v : View) → environment names w ≡ Some (array v)
    → (view : CodeView) × (bound_at names w ≡ Some (Array view)) × (view_of view ≡ v)
view_at names w v is = found (bound_at names w) refl is
  where
    found : (o : Option CodeBound) → bound_at names w ≡ o → option_map bound_of o ≡ Some (array v)
        → (view : CodeView) × (bound_at names w ≡ Some (Array view)) × (view_of view ≡ v)
    found None at e = cc
    found (Some (Weak x)) at e = cc
    found (Some (Array view)) at e = let same : view_of view ≡ v = cc in (view, at, same)

-- the names after one was bound
pub environment_set : (old new : CodeNames) (word : List ℕ) (b : CodeBound) → ((w : List ℕ) → bound_at new w ≡ (if bytes_eq word w then Some b else bound_at old w))
    → (w : List ℕ) → environment new w ≡ put (environment old) word (bound_of b) w
environment_set old new word b set w = ap (option_map bound_of) (set w) ∙ by_test (bytes_eq word w)
  where
    by_test : (t : Bool) → option_map bound_of (if t then Some b else bound_at old w) ≡ (if t then Some (bound_of b) else environment old w)
    by_test true = refl
    by_test false = refl

-- each root that a name reaches is what it was
abbrev pub Keeps : Roots → Roots → CodeNames → Type 0
Keeps A C names = (w : List ℕ) (view : CodeView) → bound_at names w ≡ Some (Array view) → C view.root ≡ A view.root

-- a view that is held lies in its root
pub inside_held : (A : Roots) (view : CodeView) (o : Option Root) → A view.root ≡ o → IsSomeAnd o (IsViewOf view) → IsInside A (view_of view)
inside_held A view None is h = absurd h
inside_held A view (Some root) is h = record {
  root = root;
  held = is;
  dtype = h.dtype;
  places = h.inside;
}

pub inside_code : (A : Roots) (names : CodeNames) → AreHeld A names → AreInside A (environment names)
inside_code A names held w v is =
    let p = view_at names w v is in
    subst (IsInside A) p.2 (inside_held A p.0 (A p.0.root) refl (held w p.0 p.1))

-- ---- the definition's names

names_put : (state : State) (w : List ℕ) (b : Bound) (q : List ℕ) → get (insert state.names w b) q ≡ put (names_in state) w b q
names_put state w b q =
    get-insert nat_list_cmp_total state.names w b q ∙ ap (λ t. cond t (Some b) (get state.names q)) (is_eq-slice_cmp q w ∙ nat_list_eq_equiv.symm q w)

same_names : {A : Roots} {B : Roots} (m n k l : Names) → ((w : List ℕ) → m w ≡ k w) → ((w : List ℕ) → n w ≡ l w) → Stands A B k l → Stands A B m n
same_names {A} {B} m n k l e f s =
    let same_m : k ≡ m = λ i w. sym (e w) i in
    let same_n : l ≡ n = λ i w. sym (f w) i in
    subst (λ (x : Names). Stands A B x n) same_m (subst (λ (x : Names). Stands A B k x) same_n s)

-- ---- a name is bound anew

module _ (A C : Roots) (old new : CodeNames) (state : State) (word : List ℕ) (b : CodeBound) (y : Bound) (r : Represents A (environment old) state)
    (set : (w : List ℕ) → bound_at new w ≡ (if bytes_eq word w then Some b else bound_at old w)) (keeps : Keeps A C new) where
  pub represents_rebound : SameBound (Some (bound_of b)) (Some y) → ((p q : Place) → BoundLinked (bound_of b) y p q → Linked (environment old) (names_in state) p q)
      → ((v : View) → y ≡ array v → IsInside (roots_in state) v) → Represents C (environment new) (rebound_state word y state)
  represents_rebound same linked inside = record {
    sound = λ w v is. ⊎_elim (inside v) (λ h. r.sound w v h) (put_bound (names_in state) word y w v (sym (names_put state word y w) ∙ is));
    stands = same_names (environment new) (get (insert state.names word y)) (put (environment old) word (bound_of b)) (put (names_in state) word y)
        (environment_set old new word b set) (names_put state word y)
        (rebound A (roots_in state) C (roots_in state) (environment old) (names_in state) word (bound_of b) y r.stands same linked here (λ p q link. refl));
  }
    where
      here : (p q : Place) → Linked (put (environment old) word (bound_of b)) (put (names_in state) word y) p q → number_at C p ≡ number_at A p
      here p q link =
          let p_at = view_at new link.name link.a (environment_set old new word b set link.name ∙ link.here) in
          number_kept A C link.a.root p link.both.first_root (ap C (ap (λ (v : View). v.root) (sym p_at.2)) ∙ keeps link.name p_at.0 p_at.1 ∙ ap A (ap (λ (v : View). v.root) p_at.2))

-- ---- a name is bound to a new root

slice_get-behind : {X : Type 0} (xs : List X) (x : X) → slice_get (xs ++ x ∷ []) (length xs) ≡ Some x
slice_get-behind [] x = refl
slice_get-behind (y ∷ xs) x = slice_get-behind xs x

slice_get-before : {X : Type 0} (xs ys : List X) (i : ℕ) (x : X) → slice_get xs i ≡ Some x → slice_get (xs ++ ys) i ≡ Some x
slice_get-before [] ys i x e = cc
slice_get-before (y ∷ xs) ys zero x e = e
slice_get-before (y ∷ xs) ys (suc i) x e = slice_get-before xs ys i x e

-- the root that a view is the whole of, and the memory with it
abbrev made_root : View → List ℤ → Root
made_root v numbers = record { dtype = v.kind.dtype; shape = v.kind.shape; numbers = numbers }

abbrev grown : State → View → List ℤ → Memory
grown state v numbers = state.memory ++ (made_root v numbers ∷ [])

abbrev newest : State → View → View
newest state v = whole_view (length state.memory) v.kind

inside_grown : (state : State) (v : View) (numbers : List ℤ) (w : View) → IsInside (roots_in state) w → IsInside (slice_get (grown state v numbers)) w
inside_grown state v numbers w h = record {
  root = h.root;
  held = slice_get-before state.memory (made_root v numbers ∷ []) w.root h.root h.held;
  dtype = h.dtype;
  places = h.places;
}

inside_newest : (state : State) (v : View) (numbers : List ℤ) (w : View) → length numbers ≡ size_of v.kind.shape → array (newest state v) ≡ array w
    → IsInside (slice_get (grown state v numbers)) w
inside_newest state v numbers w size e =
    let same : newest state v ≡ w = cc in
    subst (IsInside (slice_get (grown state v numbers))) same (record {
      root = made_root v numbers;
      held = slice_get-behind state.memory (made_root v numbers);
      dtype = refl;
      places = λ i place at.
          let is : place ≡ i = range_place (size_of v.kind.shape) i place at in
          omega (arith, slice_get_within (range_with_len 0 (size_of v.kind.shape)) i place at, length-range_with_len 0 (size_of v.kind.shape), size);
    })

-- the newest root shows its numbers
shown_newest : (state : State) (v : View) (numbers : List ℤ) → length numbers ≡ size_of v.kind.shape → shown_in (slice_get (grown state v numbers)) (newest state v) ≡ numbers
shown_newest state v numbers size =
    ap (λ (o : Option Root). map (λ place. get_or (numbers_of o) place (pos 0)) (range_with_len 0 (size_of v.kind.shape))) (slice_get-behind state.memory (made_root v numbers))
    ∙ ap (λ n. map (λ place. get_or numbers place (pos 0)) (range_with_len 0 n)) (sym size)
    ∙ sym (fill_by_all (λ place. get_or numbers place (pos 0)) numbers (length numbers) (pos 0) refl (λ i h. refl))

-- the roots that there were hold what they held
number_grown : (state : State) (v : View) (numbers : List ℤ) (q : Place) (root : Root) → roots_in state q.0 ≡ Some root
    → number_at (slice_get (grown state v numbers)) q ≡ number_at (roots_in state) q
number_grown state v numbers q root is =
    ap (λ (o : Option Root). get_or (numbers_of o) q.1 (pos 0)) (slice_get-before state.memory (made_root v numbers ∷ []) q.0 root is ∙ sym is)

module _ (A C : Roots) (old new : CodeNames) (state : State) (word : List ℕ) (view : CodeView) (root : Root) (r : Represents A (environment old) state)
    (held : AreHeld A old) (free : A view.root ≡ None) (now : C view.root ≡ Some root) (whole : IsWholeOf view root)
    (set : (w : List ℕ) → bound_at new w ≡ (if bytes_eq word w then Some (Array view) else bound_at old w))
    (keeps : (w : List ℕ) (other : CodeView) → bound_at new w ≡ Some (Array other) → (view.root ≡ other.root → ⊥) → C other.root ≡ A other.root) where
  size : length root.numbers ≡ size_of (view_of view).kind.shape
  size = whole.of_root.full ∙ ap size_of (sym whole.shape)

  places : (view_of view).places ≡ range_with_len 0 (size_of (view_of view).kind.shape)
  places = whole.places ∙ ap (λ s. range_with_len 0 (size_of s)) (sym whole.shape)

  here : (p q : Place) → Linked (put (environment old) word (array (view_of view))) (put (names_in state) word (array (newest state (view_of view)))) p q
      → (view.root ≡ p.0 → ⊥) → number_at C p ≡ number_at A p
  here p q link apart =
      let p_at = view_at new link.name link.a (environment_set old new word (Array view) set link.name ∙ link.here) in
      let same : p_at.0.root ≡ link.a.root = ap (λ (v : View). v.root) p_at.2 in
      number_kept A C link.a.root p link.both.first_root
      (ap C (sym same) ∙ keeps link.name p_at.0 p_at.1 (λ e. apart (e ∙ same ∙ link.both.first_root)) ∙ ap A same)

  there : (p q : Place) → Linked (put (environment old) word (array (view_of view))) (put (names_in state) word (array (newest state (view_of view)))) p q
      → (length state.memory ≡ q.0 → ⊥) → number_at (slice_get (grown state (view_of view) root.numbers)) q ≡ number_at (roots_in state) q
  there p q link apart =
      ⊎_elim
      (λ x. absurd (apart (ap (λ (v : View). v.root) (newest_is x.b x.there) ∙ x.both.second_root)))
      (λ x. let held = linked_there (roots_in state) (environment old) (names_in state) p q r.sound x in
      number_grown state (view_of view) root.numbers q held.0 held.1)
      (put_linked (environment old) (names_in state) word (array (view_of view)) (array (newest state (view_of view))) p q link)
    where
      newest_is : (v : View) → array (newest state (view_of view)) ≡ array v → newest state (view_of view) ≡ v
      newest_is v e = cc

  pub represents_new : Represents C (environment new) (newly_bound word (view_of view).kind root.numbers state)
  represents_new = record {
    sound = λ w v is. ⊎_elim (inside_newest state (view_of view) root.numbers v size) (λ h. inside_grown state (view_of view) root.numbers v (r.sound w v h))
        (put_bound (names_in state) word (array (newest state (view_of view))) w v (sym (names_put state word (array (newest state (view_of view))) w) ∙ is));
    stands = same_names (environment new) (get (insert state.names word (array (newest state (view_of view))))) (put (environment old) word (array (view_of view)))
        (put (names_in state) word (array (newest state (view_of view))))
        (environment_set old new word (Array view) set) (names_put state word (array (newest state (view_of view))))
        (freshly_bound A (roots_in state) C (slice_get (grown state (view_of view) root.numbers)) (environment old) (names_in state) word (view_of view) (newest state (view_of view)) r.stands
        (inside_code A old held) r.sound free (slice_get_past state.memory (length state.memory) (omega arith))
        (record { kind = refl; count = ap length places }) (subst NoRepeat (sym places) (range_no_repeat (size_of (view_of view).kind.shape))) (range_no_repeat (size_of (view_of view).kind.shape))
        (shown_whole C view root now whole ∙ sym (shown_newest state (view_of view) root.numbers size)) here there);
  }

-- ---- what an assignment binds

bound_by : (w : List ℕ) (e : Tree) (s : Static) (state : State) (o : Option View) → shared_view e state.names ≡ o
    → bound_to w e s state ≡ bound_as w o s (evaluated e state.memory state.names).numbers state
bound_by w e s state o is = ap (λ v. bound_as w v s (evaluated e state.memory state.names).numbers state) is

pub bound_weak : (w : List ℕ) (e : Tree) (x : weak.Weak) (state : State) → shared_view e state.names ≡ None → bound_to w e (weak_value x) state ≡ rebound_state w (memory.weak x) state
bound_weak w e x state none = bound_by w e (weak_value x) state None none

pub bound_shown : (w : List ℕ) (e : Tree) (s : Static) (state : State) (b : View) → shared_view e state.names ≡ Some b → bound_to w e s state ≡ rebound_state w (array b) state
bound_shown w e s state b is = bound_by w e s state (Some b) is

pub bound_fresh : (w : List ℕ) (e : Tree) (k : ArrayKind) (state : State) → shared_view e state.names ≡ None
    → bound_to w e (array_value k) state ≡ newly_bound w k (evaluated e state.memory state.names).numbers state
bound_fresh w e k state none = bound_by w e (array_value k) state None none
