-- Values that are repeated to another shape.
use Rattle.std.proofs.Common.{◌≡◌, ℕ, ◌==◌, ◌<◌, Bool, true, false, ◌||◌, ◌&&◌, List, [], ◌∷◌, ◌++◌, map, reverse, Option, None, Some, option_map, Result, Ok, Err, slice_get, refl, sym, ap, subst, ◌∙◌, arith, ℤ}
use Rattle.std.specs.Prelude.{unsigned_abs, option_and_then}
use Rattle.std.specs.Option.{unwrap_or}
use Rattle.std.specs.Result.{result_ok}
use Rattle.std.proofs.lemmas.List.{reverse-append}
use Rattle.std.proofs.lemmas.Option.{slice_get-map, same_Some}
use Rattle.std.proofs.lemmas.Simd.{map-map}
use Rattle.lg_space.proofs.Places.{place-below, stands_once}
use Rattle.lg_shape.specs.Shapes.{whole, places, aligned, place_of, size_of}
use Rattle.lg_shape.specs.Views.{place_at}
use Rattle.lg_tree.specs.Tree.{Tree, ShapeTree, broadcast_to}
use Rattle.lg_meaning.specs.declared.fault.FaultKind.{FaultKind}
use Rattle.lg_meaning.specs.declared.fault.FaultKind.TheVariants.{Shape, Limit}
use Rattle.lg_meaning.specs.Faults.{from_part, from_both, needing}
use Rattle.lg_meaning.specs.Memory.{ArrayKind, State}
use Rattle.lg_meaning.specs.Static.{Static, array_value, weak_value, as_array, array_result, integers, is_within}
use Rattle.lg_meaning.specs.Creation.{is_shape, extents}
use Rattle.lg_meaning.specs.Expressions.{static_of, shape_static, evaluated}
use Rattle.lg_meaning.specs.Sharing.{shared_view, formed}
use Rattle.lg_meaning.specs.Value as meaning
use Rattle.lg_meaning.specs.Value.{valued}
use Rattle.lg_meaning.specs.Views.{broadcasts_to, broadcast_kind, broadcast_static, repeated, repeated_kind}
use Rattle.lg_operations.specs.Operations.{fresh_kind, fresh_value, IsMade, IsArrayOf}
use Rattle.lg_operations.specs.Repeating.{repeats_axes}
use Rattle.lg_operations.proofs.Exactly.{joined_exactly}
use Rattle.lg_session.specs.Roots.{contents}
use Rattle.lg_session.specs.Values.{value_static, value_in, Means, IsOutcome}
use Rattle.lg_session.specs.Viewed.{Form, IsViewed, picked_by}
use Rattle.lg_xform.proofs.Repeats.{repeats, aligned_inside}
use Rattle.lg_operations.proofs.Statics.{needing_ok}
use Rattle.lg_session.proofs.ViewedLemmas.{Picks, viewed, part_before, array_shape, array_type}
use Rattle.lg_operations.specs.declared.end.EvaluateEnd.{EvaluateEnd}
use Rattle.lg_operations.specs.declared.values.Fresh.{Fresh}
use Rattle.lg_session.specs.declared.session.Session.{Session}
use Rattle.lg_session.specs.declared.value.Value.{Value}

-- ---- which shapes a value is repeated to

extents-append : (xs ys : List ℤ) → extents (xs ++ ys) ≡ extents xs ++ extents ys
extents-append [] ys = refl
extents-append (x ∷ xs) ys = ap (unsigned_abs x ∷◌) (extents-append xs ys)

-- one more axis in front of those that were looked at
pub repeats_last : (shape front : List ℕ) (own : ℕ) (written back : List ℤ) (extent : ℤ) (axis rest : Bool) → shape ≡ front ++ own ∷ [] → written ≡ back ++ extent ∷ []
    → axis ≡ (own == 1 || own == unsigned_abs extent) → rest ≡ repeats_axes (reverse front) (reverse (extents back))
    → (axis && rest) ≡ repeats_axes (reverse shape) (reverse (extents written))
repeats_last shape front own written back extent axis rest first second here others =
    let own_last : reverse shape ≡ own ∷ reverse front = ap reverse first ∙ reverse-append front (own ∷ []) in
    let last : reverse (extents written) ≡ unsigned_abs extent ∷ reverse (extents back) =
    ap (λ l. reverse (extents l)) second ∙ ap reverse (extents-append back (extent ∷ [])) ∙ reverse-append (extents back) (unsigned_abs extent ∷ []) in
    (λ i. here i && others i) ∙ (λ i. repeats_axes (sym own_last i) (sym last i))

-- ---- the kind of what is repeated

-- the shape that is written, or its first fault
abbrev pub written_rule : List ℕ → List ℤ → Result (List ℕ) FaultKind
written_rule shape xs = needing (is_shape xs && broadcasts_to shape (extents xs)) Shape (needing (is_within (extents xs)) Limit (Ok (extents xs)))

pub kind_by_rule : (kind : ArrayKind) (xs : List ℤ) → broadcast_kind kind xs ≡ from_part (written_rule kind.shape xs) (λ to. Ok (repeated_kind kind to))
kind_by_rule kind xs = by (is_shape xs && broadcasts_to kind.shape (extents xs)) (is_within (extents xs))
  where
    by : (shape within : Bool) → needing shape Shape (needing within Limit (Ok (repeated_kind kind (extents xs))))
        ≡ from_part (needing shape Shape (needing within Limit (Ok (extents xs)))) (λ to. Ok (repeated_kind kind to))
    by true true = refl
    by true false = refl
    by false within = refl

pub kind_repeated : (kind : ArrayKind) (xs : List ℤ) (to : List ℕ) → Ok to ≡ written_rule kind.shape xs → broadcast_kind kind xs ≡ Ok (repeated_kind kind to)
kind_repeated kind xs to rule = kind_by_rule kind xs ∙ ap (λ r. from_part r (λ to. Ok (repeated_kind kind to))) (sym rule)

abbrev kind_in : Static → ArrayKind → ArrayKind
kind_in (array_value k) kind = k
kind_in (weak_value w) kind = kind

the_kind : (k m : ArrayKind) → ◌≡◌ {A = Result Static FaultKind} (Ok (array_value k)) (Ok (array_value m)) → k ≡ m
the_kind k m e = ap (λ r. kind_in (unwrap_or (result_ok r) (array_value k)) k) e

-- what is made of a weak number is what is made of its scalar
pub scalar_made : (w : Result ArrayKind FaultKind) (v : meaning.Value) (f : ArrayKind → Result Static FaultKind) (form : Form) (fresh : Fresh) (result : Result Fresh EvaluateEnd)
    → IsArrayOf (array_result w) (λ kind. v) fresh → IsMade (f (fresh_kind fresh)) (picked_by form (fresh_value fresh)) result → IsMade (from_part w f) (picked_by form v) result
scalar_made (Ok kind) v f form fresh result is made =
    let same : kind ≡ fresh_kind fresh = the_kind kind (fresh_kind fresh) is.kind in
    subst (λ k. IsMade (f k) (picked_by form v) result) (sym same) (subst (λ x. IsMade (f (fresh_kind fresh)) (picked_by form x) result) is.same made)
scalar_made (Err kind) v f form fresh result is made = absurd (none is.kind)
  where
    none : ◌≡◌ {A = Result Static FaultKind} (Err kind) (Ok (array_value (fresh_kind fresh))) → ⊥
    none e = cc

-- ---- what is picked

-- each place of the repeated view is one of the value's, at the index that is aligned
pub repeated_picks : (shape to : List ℕ) → broadcasts_to shape to ≡ true → Picks (repeated to) shape
repeated_picks shape to is = record {
  indices = map (aligned shape) (places to);
  places = λ layout same.
      ap (λ s. map (λ index. place_at layout (aligned s index)) (places to)) same ∙ sym (map-map (place_at layout) (aligned shape) (places to));
  among = λ k index at. by_index k index at (slice_get (places to) k) refl;
}
  where
    by_index : (k : ℕ) (index : List ℕ) → slice_get (map (aligned shape) (places to)) k ≡ Some index → (o : Option (List ℕ)) → slice_get (places to) k ≡ o
        → place_of shape index < size_of shape
    by_index k index at None e = absurd (none_some (sym (ap (option_map (aligned shape)) e) ∙ sym (slice_get-map (aligned shape) (places to) k) ∙ at))
      where
        none_some : None ≡ Some index → ⊥
        none_some x = cc
    by_index k index at (Some i) e =
        let same : aligned shape i ≡ index = same_Some _ _ (sym (ap (option_map (aligned shape)) e) ∙ sym (slice_get-map (aligned shape) (places to) k) ∙ at) in
        let inside = aligned_inside shape to i (repeats shape to (joined_exactly shape to is)) (stands_once (whole to) k i e).0 in
        omega (arith, ap (place_of shape) same, place-below (whole shape) (aligned shape i) inside)

-- the value as an array broadcasts to the shape of the whole, which has its type
record IsRepeated (a : Static) (kind : ArrayKind) : Type 0 where
  old : ArrayKind
  is : as_array a ≡ Ok old
  broadcasts : broadcasts_to old.shape kind.shape ≡ true
  dtype : kind.dtype ≡ old.dtype

repeated_ok : (a : Static) (parts : List Static) (kind : ArrayKind) → broadcast_static a parts ≡ Ok (array_value kind) → IsRepeated a kind
repeated_ok a parts kind e =
    let p = part_before (integers parts) (λ xs. from_part (as_array a) (λ old. array_result (broadcast_kind old xs))) (array_value kind) e in
    let q = part_before (as_array a) (λ old. array_result (broadcast_kind old p.0)) (array_value kind) p.2 in
    let r = part_before (broadcast_kind q.0 p.0) (λ k. Ok (array_value k)) (array_value kind) q.2 in
    let to = extents p.0 in
    let shape = needing_ok (is_shape p.0 && broadcasts_to q.0.shape to) Shape (needing (is_within to) Limit (Ok (repeated_kind q.0 to))) r.0 r.1 in
    let within = needing_ok (is_within to) Limit (Ok (repeated_kind q.0 to)) r.0 shape.1 in
    let same : repeated_kind q.0 to ≡ kind = ap (λ o. unwrap_or (result_ok o) r.0) within.1 ∙ the_kind r.0 kind r.2 in
    record {
      old = q.0;
      is = q.1;
      broadcasts = ap (λ (k : ArrayKind). broadcasts_to q.0.shape k.shape) (sym same) ∙ second (is_shape p.0) (broadcasts_to q.0.shape to) shape.0;
      dtype = ap (λ (k : ArrayKind). k.dtype) (sym same);
    }
  where
    second : (x y : Bool) → (x && y) ≡ true → y ≡ true
    second true y e = e
    second false y e = cc

-- ---- the outcome

pub broadcast_outcome : (state : State) (session : Session) (answer : Result Value EvaluateEnd) (a : Tree) (s : ShapeTree) (old : Value) (ps : List Value) → Means a state session old
    → shape_static s state.names ≡ Ok (map value_static ps)
    → IsViewed (broadcast_static (value_static old) (map value_static ps)) (λ kind. repeated kind.shape) (λ shape. false) (contents session.roots) old answer
    → IsOutcome (broadcast_to a s) state session answer
broadcast_outcome state session answer a s old ps means parts h =
    let static = broadcast_static (value_static old) (map value_static ps) in
    let kind : static_of (broadcast_to a s) state.names ≡ static =
    ap (λ r. from_both r (shape_static s state.names) broadcast_static) means.kind ∙ ap (λ r. from_part r (broadcast_static (value_static old))) parts in
    viewed state session (broadcast_to a s) a old means static (λ kind. repeated kind.shape) (λ shape. false) kind
    (ap (λ r. valued r (picked_by (λ kind. repeated kind.shape) (evaluated a state.memory state.names))) kind)
    (ap (λ r. option_and_then (formed r (λ kind. repeated kind.shape)) (shared_view a state.names)) kind)
    (λ k e. let r = repeated_ok (value_static old) (map value_static ps) k e in
    repeated_picks (value_in (contents session.roots) old).shape k.shape (ap (λ shape. broadcasts_to shape k.shape) (array_shape (contents session.roots) old r.old r.is) ∙ r.broadcasts))
    (λ k e. let r = repeated_ok (value_static old) (map value_static ps) k e in r.dtype ∙ array_type (value_static old) r.old r.is)
    answer h
