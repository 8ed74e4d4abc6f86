-- The value of each form from the values of its parts.
use Rattle.std.proofs.Common.{◌≡◌, ℕ, Bool, true, false, List, [], map, Option, None, Some, Result, Ok, Err, refl, sym, ap, ◌∙◌, option_map, pos, if◌then◌else◌}
use Rattle.std.proofs.lemmas.Simd.{map-map}
use Rattle.lg_elem.specs.declared.dtype.DType.{DType}
use Rattle.lg_elem.specs.declared.dtype.DType.TheVariants.{Int64}
use Rattle.lg_elem.specs.declared.kinds.Compare.{Compare}
use Rattle.lg_elem.specs.declared.kinds.Binary.TheVariants as binary
use Rattle.lg_tree.specs.declared.kinds.Arith.{Arith}
use Rattle.lg_tree.specs.Tree.{Tree, name, arith, compare, full, zeros, ones, arange, array, minimum, maximum, choose, MaybeTree, no_tree, some_tree, ShapeTree, ListTree}
use Rattle.lg_meaning.specs.declared.fault.FaultKind.{FaultKind}
use Rattle.lg_meaning.specs.declared.fault.FaultKind.TheVariants.{TypeKind}
use Rattle.lg_meaning.specs.Faults.{from_part, from_both}
use Rattle.lg_meaning.specs.Weak as weak
use Rattle.lg_meaning.specs.Weak.{number_of}
use Rattle.lg_meaning.specs.Memory as memory
use Rattle.lg_meaning.specs.Memory.{ArrayKind, State}
use Rattle.lg_meaning.specs.Static.{Static, array_value, integers, integer_of, weak_of as weak_part, weaks}
use Rattle.lg_meaning.specs.Operators.{arith_static, compare_static, binary_static, choose_static, operation, binary_value, compare_value, choose_value}
use Rattle.lg_meaning.specs.Creation.{full_static, shaped, arange_static, array_static, type_or, list_type, list_shape, filled, counted, listed}
use Rattle.lg_meaning.specs.Expressions.{list_static, shape_static, maybe_static, static_of, named, evaluated, first_bound, list_numbers}
use Rattle.lg_meaning.specs.Sharing.{named_view, shared_view}
use Rattle.lg_meaning.specs.Value as meaning
use Rattle.lg_meaning.specs.Value.{valued, shown, only}
use Rattle.lg_store.specs.declared.view.View.{View as CodeView}
use Rattle.lg_operations.specs.Operations.{weak_of}
use Rattle.lg_operations.specs.Views.{view_of}
use Rattle.lg_session.specs.Names.{bound_of, bound_at, environment}
use Rattle.lg_session.specs.Roots.{contents}
use Rattle.lg_session.specs.Standing.{StandsFor, roots_in, names_in}
use Rattle.lg_session.specs.Values.{value_static, value_in, IsComputed, Means, IsOutcome, IsFirstBound}
use Rattle.lg_session.specs.Lists.{gathered, joined, Gathers}
use Rattle.lg_session.proofs.Links.{named_there, named_shown, shown_alike}
use Rattle.lg_session.specs.declared.lists.Members.{Members}
use Rattle.lg_session.specs.declared.names.Bound.TheVariants.{Array}
use Rattle.lg_operations.specs.declared.end.EvaluateEnd.{EvaluateEnd}
use Rattle.lg_operations.specs.declared.end.EvaluateEnd.TheVariants.{Fault, NoMemory}
use Rattle.lg_session.specs.declared.session.Session.{Session}
use Rattle.lg_session.specs.declared.value.Value.{Value}
use Rattle.lg_session.specs.declared.value.Value.TheVariants.{Weak, Shown, Fresh}

-- ---- parts without a fault

part_ok : {A B : Type 0} (a : Result A FaultKind) (x : A) (f : A → Result B FaultKind) → a ≡ Ok x → from_part a f ≡ f x
part_ok a x f h = ap (λ s. from_part s f) h

both_ok : {A B C : Type 0} (a : Result A FaultKind) (b : Result B FaultKind) (x : A) (y : B) (f : A → B → Result C FaultKind)
    → a ≡ Ok x → b ≡ Ok y → from_both a b f ≡ f x y
both_ok a b x y f h k = ap (λ s. from_both s b f) h ∙ ap (λ s. from_part s (f x)) k

-- the array of these numbers, of a type that may be written
abbrev written : Option (List ℕ) → Option DType → List weak.Weak → Result Static FaultKind
written shape t ws = array_static shape ws (type_or t (list_type ws))

module _ (state : State) (session : Session) where
  -- the value of a form that is no name, from its kind and its value
  computed : (e : Tree) → shared_view e state.names ≡ None → (S : Result Static FaultKind) (V : ArrayKind → meaning.Value) → static_of e state.names ≡ S
      → evaluated e state.memory state.names ≡ valued S V → (answer : Result Value EvaluateEnd) → IsComputed S V answer → IsOutcome e state session answer
  computed e anew S V kind value (Ok (Weak w)) h = record { kind = kind ∙ h; same = value ∙ ap (λ s. valued s V) h; source = anew }
  computed e anew S V kind value (Ok (Shown view)) h = absurd h
  computed e anew S V kind value (Ok (Fresh fresh)) h = record { kind = kind ∙ h.kind; same = value ∙ ap (λ s. valued s V) h.kind ∙ sym h.same; source = anew }
  computed e anew S V kind value (Err (Fault fault)) h = kind ∙ h
  computed e anew S V kind value (Err NoMemory) h = tt

  module _ (answer : Result Value EvaluateEnd) (a b : Tree) (p q : Value) (ma : Means a state session p) (mb : Means b state session q) where
    pub arith_outcome : (op : Arith)
        → IsComputed (arith_static op (value_static p) (value_static q)) (binary_value (operation op) (value_in (contents session.roots) p) (value_in (contents session.roots) q)) answer
        → IsOutcome (arith op a b) state session answer
    arith_outcome op h =
        let kind = both_ok (static_of a state.names) (static_of b state.names) _ _ (arith_static op) ma.kind mb.kind in
        computed (arith op a b) refl _ _ kind (λ i. valued (kind i) (binary_value (operation op) (ma.same i) (mb.same i))) answer h

    pub compare_outcome : (op : Compare)
        → IsComputed (compare_static op (value_static p) (value_static q)) (compare_value op (value_in (contents session.roots) p) (value_in (contents session.roots) q)) answer
        → IsOutcome (compare op a b) state session answer
    compare_outcome op h =
        let kind = both_ok (static_of a state.names) (static_of b state.names) _ _ (compare_static op) ma.kind mb.kind in
        computed (compare op a b) refl _ _ kind (λ i. valued (kind i) (compare_value op (ma.same i) (mb.same i))) answer h

    pub minimum_outcome : IsComputed (binary_static binary.Min (value_static p) (value_static q)) (binary_value binary.Min (value_in (contents session.roots) p) (value_in (contents session.roots) q)) answer
        → IsOutcome (minimum a b) state session answer
    minimum_outcome h =
        let kind = both_ok (static_of a state.names) (static_of b state.names) _ _ (binary_static binary.Min) ma.kind mb.kind in
        computed (minimum a b) refl _ _ kind (λ i. valued (kind i) (binary_value binary.Min (ma.same i) (mb.same i))) answer h

    pub maximum_outcome : IsComputed (binary_static binary.Max (value_static p) (value_static q)) (binary_value binary.Max (value_in (contents session.roots) p) (value_in (contents session.roots) q)) answer
        → IsOutcome (maximum a b) state session answer
    maximum_outcome h =
        let kind = both_ok (static_of a state.names) (static_of b state.names) _ _ (binary_static binary.Max) ma.kind mb.kind in
        computed (maximum a b) refl _ _ kind (λ i. valued (kind i) (binary_value binary.Max (ma.same i) (mb.same i))) answer h

    pub choose_outcome : (c : Tree) (k : Value) → Means c state session k
        → IsComputed (choose_static (value_static k) (value_static p) (value_static q))
        (choose_value (value_in (contents session.roots) k) (value_in (contents session.roots) p) (value_in (contents session.roots) q)) answer
        → IsOutcome (choose c a b) state session answer
    choose_outcome c k mc h =
        let kind : static_of (choose c a b) state.names ≡ choose_static (value_static k) (value_static p) (value_static q) =
        both_ok (static_of c state.names) (static_of a state.names) _ _ (λ s x. from_part (static_of b state.names) (choose_static s x)) mc.kind ma.kind
        ∙ part_ok (static_of b state.names) _ (choose_static (value_static k) (value_static p)) mb.kind in
        computed (choose c a b) refl _ _ kind (λ i. valued (kind i) (choose_value (mc.same i) (ma.same i) (mb.same i))) answer h

  module _ (answer : Result Value EvaluateEnd) (s : ShapeTree) (ps : List Value) (ms : shape_static s state.names ≡ Ok (map value_static ps)) (t : Option DType) where
    pub full_outcome : (x : Tree) (q : Value) → Means x state session q
        → IsComputed (from_both (integers (map value_static ps)) (weak_part (value_static q)) (λ xs w. full_static xs w t)) (filled (only (value_in (contents session.roots) q))) answer
        → IsOutcome (full s x t) state session answer
    full_outcome x q mx h =
        let kind = both_ok (shape_static s state.names) (static_of x state.names) _ _ (λ parts v. from_both (integers parts) (weak_part v) (λ xs w. full_static xs w t))
        ms mx.kind in
        computed (full s x t) refl _ _ kind (λ i. valued (kind i) (filled (only (mx.same i)))) answer h

    pub zeros_outcome : IsComputed (from_part (integers (map value_static ps)) (shaped (type_or t Int64))) (filled (pos 0)) answer
        → IsOutcome (zeros s t) state session answer
    zeros_outcome h =
        let kind = part_ok (shape_static s state.names) _ (λ parts. from_part (integers parts) (shaped (type_or t Int64))) ms in
        computed (zeros s t) refl _ _ kind (λ i. valued (kind i) (filled (pos 0))) answer h

    pub ones_outcome : IsComputed (from_part (integers (map value_static ps)) (shaped (type_or t Int64))) (filled (pos 1)) answer
        → IsOutcome (ones s t) state session answer
    ones_outcome h =
        let kind = part_ok (shape_static s state.names) _ (λ parts. from_part (integers parts) (shaped (type_or t Int64))) ms in
        computed (ones s t) refl _ _ kind (λ i. valued (kind i) (filled (pos 1))) answer h

  -- the bound from which `arange` counts
  bound_kind : (m : MaybeTree) (p : Value) → IsFirstBound m state session (Ok p) → maybe_static m state.names ≡ Ok (value_static p)
  bound_kind no_tree p h = ap (λ v. Ok (value_static v)) (sym h)
  bound_kind (some_tree e) p m = m.kind

  bound_value : (m : MaybeTree) (p : Value) → IsFirstBound m state session (Ok p) → first_bound m state.memory state.names ≡ only (value_in (contents session.roots) p)
  bound_value no_tree p h = ap (λ v. only (value_in (contents session.roots) v)) (sym h)
  bound_value (some_tree e) p m = ap only m.same

  pub arange_outcome : (answer : Result Value EvaluateEnd) (m : MaybeTree) (b : Tree) (p q : Value) (t : Option DType) → IsFirstBound m state session (Ok p) → Means b state session q
      → IsComputed (from_both (integer_of (value_static p)) (integer_of (value_static q)) (λ x y. arange_static x y (type_or t Int64))) (counted (only (value_in (contents session.roots) p))) answer
      → IsOutcome (arange m b t) state session answer
  arange_outcome answer m b p q t mp mq h =
      let kind = both_ok (maybe_static m state.names) (static_of b state.names) _ _ (λ p q. from_both (integer_of p) (integer_of q) (λ x y. arange_static x y (type_or t Int64)))
      (bound_kind m p mp) mq.kind in
      computed (arange m b t) refl _ _ kind (λ i. valued (kind i) (counted (bound_value m p mp i))) answer h

  -- a fault of the second bound
  pub arange_end : (end : EvaluateEnd) (m : MaybeTree) (b : Tree) (p : Value) (t : Option DType) → IsFirstBound m state session (Ok p) → IsOutcome b state session (Err end)
      → IsOutcome (arange m b t) state session (Err end)
  arange_end (Fault kind) m b p t mp h =
      let f : Static → Static → Result Static FaultKind = λ p q. from_both (integer_of p) (integer_of q) (λ x y. arange_static x y (type_or t Int64)) in
      ap (λ s. from_both s (static_of b state.names) f) (bound_kind m p mp) ∙ ap (λ s. from_part s (f (value_static p))) h
  arange_end NoMemory m b p t mp h = tt

  -- ---- lists

  joined-nothing : (r : Result (List weak.Weak) FaultKind) → joined (Ok []) r ≡ r
  joined-nothing (Ok ws) = refl
  joined-nothing (Err kind) = refl

  pub array_outcome : (answer : Result Value EvaluateEnd) (l : ListTree) (t : Option DType) (none members : Members) (shape : Option (List ℕ)) → gathered none ≡ Ok []
      → Gathers l state none members → shape ≡ list_shape l
      → IsComputed (from_part (gathered members) (written shape t)) (listed (map (λ w. number_of (weak_of w)) members.weaks.items)) answer
      → IsOutcome (array l t) state session answer
  array_outcome answer l t none members shape empty g is h =
      computed (array l t) refl _ _ kind (ap (λ r. valued r (listed (list_numbers l state.memory state.names))) kind ∙ by_flag members.has_array refl) answer h
    where
      found : weaks g.parts ≡ gathered members
      found = sym (joined-nothing (weaks g.parts)) ∙ ap (λ r. joined r (weaks g.parts)) (sym empty) ∙ sym g.more

      kind : static_of (array l t) state.names ≡ from_part (gathered members) (written shape t)
      kind =
          part_ok (list_static l state.names) g.parts (λ parts. from_part (weaks parts) (written (list_shape l) t)) g.kind
          ∙ ap (λ s. from_part (weaks g.parts) (written s t)) (sym is) ∙ ap (λ r. from_part r (written shape t)) found

      by_flag : (b : Bool) → members.has_array ≡ b
          → valued (from_part (gathered members) (written shape t)) (listed (list_numbers l state.memory state.names))
          ≡ valued (from_part (gathered members) (written shape t)) (listed (map (λ w. number_of (weak_of w)) members.weaks.items))
      by_flag true e =
          let none : gathered members ≡ Err TypeKind = ap (λ b. if b then Err TypeKind else Ok (map weak_of members.weaks.items)) e in
          ap (λ r. valued (from_part r (written shape t)) (listed (list_numbers l state.memory state.names))) none
          ∙ sym (ap (λ r. valued (from_part r (written shape t)) (listed (map (λ w. number_of (weak_of w)) members.weaks.items))) none)
      by_flag false e =
          let all : gathered members ≡ Ok (map weak_of members.weaks.items) = ap (λ b. if b then Err TypeKind else Ok (map weak_of members.weaks.items)) e in
          ap (λ xs. valued (from_part (gathered members) (written shape t)) (listed xs))
          (g.same (map weak_of members.weaks.items) (found ∙ all) ∙ map-map number_of weak_of members.weaks.items)

  -- ---- names

  pub named_means : (word : List ℕ) (view : CodeView) → StandsFor session state → bound_at session.names word ≡ Some (Array view) → Means (name word) state session (Shown view)
  named_means word view r bound =
      let A = contents session.roots in
      let m = environment session.names in
      let here : m word ≡ Some (memory.array (view_of view)) = ap (option_map bound_of) bound in
      let b = named_there A (roots_in state) m (names_in state) word (view_of view) r.stands here in
      let s = named_shown A (roots_in state) m (names_in state) word (view_of view) b.0 r.stands here b.1 in
      let kind : static_of (name word) state.names ≡ Ok (array_value (view_of view).kind) = ap named b.1 ∙ ap (λ k. Ok (array_value k)) (sym s.kind.kind) in
      record {
        kind = kind;
        same = ap (λ r. valued r (shown state.memory (names_in state word))) kind
            ∙ ap (λ o. shown state.memory o (view_of view).kind) b.1
            ∙ ap (meaning.plain (view_of view).kind.shape) (sym (shown_alike A (roots_in state) m (names_in state) (view_of view) b.0 r.stands s));
        source = record { there = b.0; is = ap named_view b.1; inside = r.sound word b.0 b.1; shown = s };
      }
