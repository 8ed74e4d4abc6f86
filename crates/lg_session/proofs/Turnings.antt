-- The value of a transpose.
use Rattle.std.proofs.Common.{◌≡◌, ℕ, ◌<◌, false, List, [], length, take, map, Option, None, Some, option_map, option_and_then, slice_get, Result, Ok, refl, sym, ap, subst, ◌∙◌, arith}
use Rattle.std.specs.List.{range_with_len}
use Rattle.std.specs.List.Sorted.{IsPermutation}
use Rattle.std.proofs.lemmas.List.{take_all}
use Rattle.std.proofs.lemmas.Simd.{map-map}
use Rattle.std.proofs.lemmas.List.FromFn.{length-range_with_len}
use Rattle.std.proofs.lemmas.List.Sorted.{length_permutation}
use Rattle.std.proofs.lemmas.Option.{slice_get-map, same_Some}
use Rattle.lg_space.proofs.Places.{place-below, stands_once}
use Rattle.lg_shape.specs.Shapes.{whole, places, place_of, size_of}
use Rattle.lg_shape.specs.Views.{place_at, shape_after, index_before}
use Rattle.lg_shape.specs.declared.step.Step.TheVariants.{Transpose}
use Rattle.lg_xform.proofs.Befores.{stays_inside}
use Rattle.lg_tree.specs.Tree.{Tree, transpose, MaybeShape}
use Rattle.lg_meaning.specs.declared.fault.FaultKind.{FaultKind}
use Rattle.lg_meaning.specs.Faults.{from_part, from_both, known_or}
use Rattle.lg_meaning.specs.Memory.{ArrayKind, View, State}
use Rattle.lg_meaning.specs.Static.{Static, array_value, as_array, array_result, type_alone}
use Rattle.lg_meaning.specs.Expressions.{static_of, optional_shape_static, evaluated, written_axes, transpose_by}
use Rattle.lg_meaning.specs.Sharing.{shared_view, formed}
use Rattle.lg_meaning.specs.Value as meaning
use Rattle.lg_meaning.specs.Value.{valued}
use Rattle.lg_meaning.specs.Views.{transpose_axes, transpose_kind, transpose_static, transposed, optional_integers, picked, view_kind}
use Rattle.lg_session.specs.Names.{environment}
use Rattle.lg_session.specs.Roots.{contents}
use Rattle.lg_session.specs.Values.{value_static, value_in, ComesFrom, Means, IsOutcome}
use Rattle.lg_session.specs.Viewed.{Form, Copies, IsViewed, picked_by}
use Rattle.lg_session.specs.Worlds.{Roots}
use Rattle.lg_operations.specs.declared.end.EvaluateEnd.{EvaluateEnd}
use Rattle.lg_session.specs.declared.session.Session.{Session}
use Rattle.lg_session.specs.declared.value.Value.{Value}
use Rattle.lg_session.specs.declared.value.Value.TheVariants.{Weak, Shown, Fresh}
use Rattle.lg_session.proofs.AxesLemmas.{axes_once}
use Rattle.lg_session.proofs.IndexLemmas.{array_back}
use Rattle.lg_session.proofs.ViewedLemmas.{Picks, shared_by, part_before, array_type, array_shape, viewed}

-- ---- which members it picks

turned_picks : (shape order : List ℕ) → IsPermutation (range_with_len 0 (length shape)) order → Picks (transposed order) shape
turned_picks shape order moves = record {
  indices = map (index_before (Transpose order)) (places (shape_after (Transpose order) shape));
  places = λ layout same.
      ap (λ s. map (λ index. place_at layout (index_before (Transpose order) index)) (places (shape_after (Transpose order) s))) same
      ∙ sym (map-map (place_at layout) (index_before (Transpose order)) (places (shape_after (Transpose order) shape)));
  among = λ k index at. by_index k index at (slice_get (places (shape_after (Transpose order) shape)) k) refl;
}
  where
    all : take (length shape) order ≡ order
    all = take_all (length shape) order (omega (arith, length_permutation (range_with_len 0 (length shape)) order moves, length-range_with_len 0 (length shape)))

    by_index : (k : ℕ) (index : List ℕ) → slice_get (map (index_before (Transpose order)) (places (shape_after (Transpose order) shape))) k ≡ Some index
        → (o : Option (List ℕ)) → slice_get (places (shape_after (Transpose order) shape)) k ≡ o → place_of shape index < size_of shape
    by_index k index at None e = absurd (none_some (ap (option_map (index_before (Transpose order))) (sym e) ∙ sym (slice_get-map (index_before (Transpose order)) (places (shape_after (Transpose order) shape)) k) ∙ at))
      where
        none_some : None ≡ Some index → ⊥
        none_some x = cc
    by_index k index at (Some new) e =
        let stands = stands_once (whole (shape_after (Transpose order) shape)) k new e in
        let same : index_before (Transpose order) new ≡ index =
        same_Some _ _ (ap (option_map (index_before (Transpose order))) (sym e) ∙ sym (slice_get-map (index_before (Transpose order)) (places (shape_after (Transpose order) shape)) k) ∙ at) in
        let inside = stays_inside (Transpose order) shape new (subst (IsPermutation (range_with_len 0 (length shape))) (sym all) moves) stands.0 in
        subst (λ i. place_of shape i < size_of shape) same (place-below (whole shape) (index_before (Transpose order) new) inside)

-- ---- where there is no fault

-- the axes of an array without a fault
record IsOrdered (roots : Roots) (old : Value) (parts : Option (List Static)) (k : ArrayKind) : Type 0 where
  order : List ℕ
  written : from_part (optional_integers parts) (transpose_axes (length (value_in roots old).shape)) ≡ Ok order
  moves : IsPermutation (range_with_len 0 (length (value_in roots old).shape)) order
  dtype : k.dtype ≡ type_alone (value_static old)

ordered : (roots : Roots) (old : Value) (parts : Option (List Static)) (k : ArrayKind) → transpose_static (value_static old) parts ≡ Ok (array_value k) → IsOrdered roots old parts k
ordered roots old parts k e =
    let numbers = part_before (optional_integers parts) (λ xs. from_part (as_array (value_static old)) (λ kind. array_result (transpose_kind kind xs))) (array_value k) e in
    let xs = numbers.0 in
    let array = part_before (as_array (value_static old)) (λ kind. array_result (transpose_kind kind xs)) (array_value k) numbers.2 in
    let kind = array.0 in
    let axes = part_before (transpose_axes (length kind.shape) xs) (λ order. Ok (view_kind kind (shape_after (Transpose order) kind.shape))) k (array_back (transpose_kind kind xs) k array.2) in
    let made : view_kind kind (shape_after (Transpose axes.0) kind.shape) ≡ k = same_kind _ _ axes.2 in
    let written : transpose_axes (length (value_in roots old).shape) xs ≡ Ok axes.0 = ap (λ s. transpose_axes (length s) xs) (array_shape roots old kind array.1) ∙ axes.1 in
    record {
      order = axes.0;
      written = ap (λ r. from_part r (transpose_axes (length (value_in roots old).shape))) numbers.1 ∙ written;
      moves = axes_once (length (value_in roots old).shape) xs axes.0 written;
      dtype = ap (λ (m : ArrayKind). m.dtype) (sym made) ∙ array_type (value_static old) kind array.1;
    }
  where
    same_kind : (m n : ArrayKind) → ◌≡◌ {A = Result ArrayKind FaultKind} (Ok m) (Ok n) → m ≡ n
    same_kind m n x = cc

-- ---- a transpose of parts that are evaluated

-- the order of so many axes
abbrev order_of : Option (List Static) → ℕ → List ℕ
order_of parts count = known_or [] (from_part (optional_integers parts) (transpose_axes count))

abbrev turned_form : Option (List Static) → ℕ → Form
turned_form parts count kind = transposed (order_of parts count)

abbrev never : Copies
never shape = false

module _ (state : State) (session : Session) (a : Tree) (s : MaybeShape) (old : Value) (means : Means a state session old) where
  module _ (parts : Option (List Static)) (read : optional_shape_static s state.names ≡ Ok parts) where
    abbrev roots : Roots
    roots = contents session.roots

    abbrev static : Result Static FaultKind
    static = transpose_static (value_static old) parts

    kind : static_of (transpose a s) state.names ≡ static
    kind = ap (λ r. from_both r (optional_shape_static s state.names) transpose_static) means.kind ∙ ap (λ r. from_part r (transpose_static (value_static old))) read

    written : (count : ℕ) → written_axes s count state.names ≡ order_of parts count
    written count = ap (λ r. known_or [] (from_part r (λ ps. from_part (optional_integers ps) (transpose_axes count)))) read

    value : evaluated (transpose a s) state.memory state.names ≡ valued static (picked_by (turned_form parts (length (value_in roots old).shape)) (evaluated a state.memory state.names))
    value =
        let v = evaluated a state.memory state.names in
        ap (λ r. valued r (transpose_by s state.names v)) kind
        ∙ ap (λ order. valued static (picked (transposed order) v)) (written (length v.shape) ∙ ap (λ (w : meaning.Value). order_of parts (length w.shape)) means.same)

    source : shared_view (transpose a s) state.names ≡ option_and_then (shared_by never static (turned_form parts (length (value_in roots old).shape))) (shared_view a state.names)
    source = by_value old means.source kind
      where
        asked : View → Option View
        asked view = formed (static_of (transpose a s) state.names) (λ kind. transposed (written_axes s (length view.kind.shape) state.names)) view

        by_value : (v : Value) → ComesFrom a state (environment session.names) v → static_of (transpose a s) state.names ≡ static
            → option_and_then asked (shared_view a state.names) ≡ option_and_then (shared_by never static (turned_form parts (length (value_in roots v).shape))) (shared_view a state.names)
        by_value (Weak w) none k = ap (option_and_then asked) none ∙ sym (ap (option_and_then (shared_by never static (turned_form parts (length (value_in roots (Weak w)).shape)))) none)
        by_value (Fresh fresh) none k = ap (option_and_then asked) none ∙ sym (ap (option_and_then (shared_by never static (turned_form parts (length (value_in roots (Fresh fresh)).shape)))) none)
        by_value (Shown view) shared k =
            let there = shared.there in
            let count : length there.kind.shape ≡ length (value_in roots (Shown view)).shape = ap (λ (m : ArrayKind). length m.shape) (sym shared.shown.kind.kind) in
            ap (option_and_then asked) shared.is
            ∙ ap (λ r. formed r (λ kind. transposed (written_axes s (length there.kind.shape) state.names)) there) k
            ∙ ap (λ order. formed static (λ kind. transposed order) there) (written (length there.kind.shape) ∙ ap (order_of parts) count)
            ∙ sym (ap (option_and_then (shared_by never static (turned_form parts (length (value_in roots (Shown view)).shape)))) shared.is)

    picks : (k : ArrayKind) → static ≡ Ok (array_value k) → Picks (turned_form parts (length (value_in roots old).shape) k) (value_in roots old).shape
    picks k e =
        let o = ordered roots old parts k e in
        subst (λ order. Picks (transposed order) (value_in roots old).shape) (sym (ap (known_or []) o.written)) (turned_picks (value_in roots old).shape o.order o.moves)

    pub transpose_outcome : (answer : Result Value EvaluateEnd)
        → IsViewed (transpose_static (value_static old) parts)
        (λ kind. transposed (known_or [] (from_part (optional_integers parts) (transpose_axes (length (value_in (contents session.roots) old).shape))))) (λ shape. false)
        (contents session.roots) old answer
        → IsOutcome (transpose a s) state session answer
    transpose_outcome answer h =
        viewed state session (transpose a s) a old means static (turned_form parts (length (value_in roots old).shape)) never kind value source picks
        (λ k e. (ordered roots old parts k e).dtype) answer h
