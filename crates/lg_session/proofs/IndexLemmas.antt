-- What an index picks of a value.
use Rattle.std.proofs.Common.{◌≡◌, ℕ, Bool, true, false, List, [], map, get_or, Option, None, Some, IsSomeAnd, option_map, Result, Ok, Err, refl, sym, ap, subst, ◌∙◌, arith, pos}
use Rattle.std.proofs.lemmas.Option.{same_Some}
use Rattle.lg_store.specs.declared.view.View.{View as CodeView}
use Rattle.lg_store.specs.declared.view.Right.{Right}
use Rattle.lg_shape.specs.Shapes.{whole}
use Rattle.lg_shape.specs.Views.{Layout, place_at}
use Rattle.lg_shape.specs.Indexing.{index_fault, indexed, indexed_shape}
use Rattle.lg_shape.specs.declared.index.IndexItem.{IndexItem}
use Rattle.lg_shape.specs.declared.index.IndexFault.{IndexFault}
use Rattle.lg_xform.specs.Chains.{shape_of, layout_of}
use Rattle.lg_xform.proofs.Picks.{all_places}
use Rattle.lg_tile.specs.declared.any_tile.AnyTile.{AnyTile}
use Rattle.lg_tile.specs.Tiles.{dtype_of, rect_of, numbers}
use Rattle.lg_meaning.specs.declared.fault.FaultKind.{FaultKind}
use Rattle.lg_meaning.specs.Faults.{from_part}
use Rattle.lg_meaning.specs.Memory.{ArrayKind, Root, scalar}
use Rattle.lg_meaning.specs.Static.{Static, array_value, as_array, array_result, type_alone}
use Rattle.lg_meaning.specs.Indices.{index_kind, index_form, index_fault_kind, is_element, picked_kind, unless_faulty}
use Rattle.lg_meaning.specs.Value as meaning
use Rattle.lg_meaning.specs.Value.{plain}
use Rattle.lg_meaning.specs.Views.{picked, view_right}
use Rattle.lg_operations.specs.Operations.{right_for, fresh_kind, fresh_value, extents_of, IsArrayOf, IsMade}
use Rattle.lg_session.specs.Worlds.{Roots, shown_in}
use Rattle.lg_operations.specs.Views.{view_of}
use Rattle.lg_session.specs.Roots.{root_of}
use Rattle.lg_session.specs.Stored.{IsViewOf, IsViewOfSome, IsHeld}
use Rattle.lg_session.specs.Values.{value_static, value_in}
use Rattle.lg_session.specs.Viewed.{IsViewMade}
use Rattle.lg_operations.specs.declared.end.EvaluateEnd.{EvaluateEnd}
use Rattle.lg_operations.specs.declared.values.Fresh.{Fresh}
use Rattle.lg_session.specs.declared.value.Value.{Value}
use Rattle.lg_session.proofs.HeldLemmas.{gathered_kind, gathered_value, gathered_whole}
use Rattle.lg_session.proofs.Picked.{IsPicked, AreAmong, picked_numbers}
use Rattle.lg_session.proofs.ViewLemmas.{index_among, picked_indices, element_shape}
use Rattle.lg_session.proofs.ViewedLemmas.{Picks, part_before, array_type, array_shape}

-- ---- its static rule

abbrev pub index_rule : List IndexItem → Static → Result Static FaultKind
index_rule items a = from_part (as_array a) (λ kind. array_result (index_kind kind items))

-- an array that is there
pub array_back : (r : Result ArrayKind FaultKind) (k : ArrayKind) → array_result r ≡ Ok (array_value k) → r ≡ Ok k
array_back (Ok m) k e = let same : m ≡ k = cc in ap Ok same
array_back (Err kind) k e = cc

pub array_fault : {A : Type 0} (r : Result ArrayKind FaultKind) (f : ArrayKind → Result A FaultKind) (kind : FaultKind) → array_result r ≡ Err kind → from_part r f ≡ Err kind
array_fault (Ok k) f kind e = cc
array_fault (Err fault) f kind e = let same : fault ≡ kind = cc in ap Err same

-- without a fault the index has none
faultless : (fault : Option IndexFault) (m k : ArrayKind) → unless_faulty fault m ≡ Ok k → (fault ≡ None) × (m ≡ k)
faultless None m k e = let same : m ≡ k = cc in (refl, same)
faultless (Some fault) m k e = cc

picked_type : (element : Bool) (kind : ArrayKind) (shape : List ℕ) → (picked_kind element kind shape).dtype ≡ kind.dtype
picked_type true kind shape = refl
picked_type false kind shape = refl

-- what is picked is of the type of the whole
pub index_type : (items : List IndexItem) (a : Static) (k : ArrayKind) → index_rule items a ≡ Ok (array_value k) → k.dtype ≡ type_alone a
index_type items a k e =
    let before = part_before (as_array a) (λ kind. array_result (index_kind kind items)) (array_value k) e in
    let kind = before.0 in
    let found = faultless (index_fault kind.shape items) _ k (array_back (index_kind kind items) k before.2) in
    ap (λ (x : ArrayKind). x.dtype) (sym found.1) ∙ picked_type (is_element kind.shape items) kind (indexed_shape kind.shape items) ∙ array_type a kind before.1

-- ---- which members it picks

pub index_picks : (shape : List ℕ) (items : List IndexItem) → index_fault shape items ≡ None → Picks (index_form items) shape
index_picks shape items none = record {
  indices = picked_indices shape items;
  places = λ layout same. ap (λ s. map (place_at layout) (picked_indices s items)) same;
  among = index_among shape items none;
}

pub index_value_picks : (roots : Roots) (old : Value) (items : List IndexItem) (k : ArrayKind) → index_rule items (value_static old) ≡ Ok (array_value k)
    → Picks (index_form items) (value_in roots old).shape
index_value_picks roots old items k e =
    let before = part_before (as_array (value_static old)) (λ kind. array_result (index_kind kind items)) (array_value k) e in
    let found = faultless (index_fault before.0.shape items) _ k (array_back (index_kind before.0 items) k before.2) in
    index_picks (value_in roots old).shape items (ap (λ s. index_fault s items) (array_shape roots old before.0 before.1) ∙ found.0)

-- the index of an answer has no fault, or this one
pub fault_none : (fault : Option IndexFault) → None ≡ option_map index_fault_kind fault → fault ≡ None
fault_none None e = refl
fault_none (Some fault) e = cc

pub fault_some : (fault : Option IndexFault) (m : ArrayKind) (kind : FaultKind) → Some kind ≡ option_map index_fault_kind fault → array_result (unless_faulty fault m) ≡ Err kind
fault_some None m kind e = cc
fault_some (Some fault) m kind e = let same : index_fault_kind fault ≡ kind = same_Some _ _ (sym e) in ap Err same

-- ---- a weak number

-- what is picked of an array that the value counts as
pub index_counted : (items : List IndexItem) (s : Static) (v : meaning.Value) (f : Fresh) (answer : Result Fresh EvaluateEnd) → IsArrayOf (array_result (as_array s)) (λ kind. v) f
    → IsMade (array_result (index_kind (fresh_kind f) items)) (picked (index_form items) (fresh_value f)) answer
    → IsMade (index_rule items s) (picked (index_form items) v) answer
index_counted items s v f answer array h =
    let rule : index_rule items s ≡ array_result (index_kind (fresh_kind f) items) =
    ap (λ r. from_part r (λ kind. array_result (index_kind kind items))) (array_back (as_array s) (fresh_kind f) array.kind) in
    subst (λ r. IsMade r (picked (index_form items) v) answer) (sym rule)
    (subst (λ (x : meaning.Value). IsMade (array_result (index_kind (fresh_kind f) items)) (picked (index_form items) x) answer) array.same h)

-- ---- a view

-- what is held of one view is held of another one of its root
pub held_of : (A : Roots) (view new : CodeView) → new.root ≡ view.root → ((root : Root) → IsViewOf view root → IsViewOf new root) → IsHeld A view → IsHeld A new
held_of A view new same of held = subst (λ root. IsSomeAnd (A root) (IsViewOf new)) (sym same) (by_root (A view.root) held)
  where
    by_root : (o : Option Root) → IsSomeAnd o (IsViewOf view) → IsSomeAnd o (IsViewOf new)
    by_root None h = absurd h
    by_root (Some root) h = of root h

pub held_some : (A : Roots) (view : CodeView) → IsHeld A view → IsViewOfSome view
held_some A view held = by_root (A view.root) held
  where
    by_root : (o : Option Root) → IsSomeAnd o (IsViewOf view) → IsViewOfSome view
    by_root None h = absurd h
    by_root (Some root) h = record { root = root; of_root = h }

module _ (A : Roots) (view new : CodeView) (items : List IndexItem) (none : index_fault (shape_of view.chain) items ≡ None) (root : new.root ≡ view.root)
    (dtype : new.dtype ≡ view.dtype) (layout : layout_of new.chain ≡ indexed (layout_of view.chain) items) where
  shape : shape_of new.chain ≡ indexed_shape (shape_of view.chain) items
  shape = ap (λ (l : Layout). l.shape) layout

  abbrev old_kind : ArrayKind
  old_kind = (view_of view).kind

  kind_is : (b : Bool) → is_element (shape_of view.chain) items ≡ b
      → array_result (index_kind old_kind items) ≡ Ok (array_value (picked_kind b old_kind (indexed_shape (shape_of view.chain) items)))
  kind_is b is =
      ap (λ f. array_result (unless_faulty f (picked_kind (is_element (shape_of view.chain) items) old_kind (indexed_shape (shape_of view.chain) items)))) none
      ∙ ap (λ t. Ok (array_value (picked_kind t old_kind (indexed_shape (shape_of view.chain) items)))) is

  -- the view is the one that the index picks
  pub index_made : right_for new.right ≡ view_right (right_for view.right) → is_element (shape_of view.chain) items ≡ false
      → IsViewMade (array_result (index_kind old_kind items)) (λ kind. index_form items) view new
  index_made right is = record {
    kind = kind_is false is ∙ ap (λ k. Ok (array_value k)) (λ i. record { dtype = sym dtype i; shape = sym shape i; right = sym right i });
    is = λ i. record { root = root i; kind = (view_of new).kind; places = (layout i).places };
  }

  -- its numbers, gathered, are those that the index picks
  pub index_copied : (tile out : AnyTile) (right : Right) → is_element (shape_of view.chain) items ≡ true → right_for right ≡ scalar → A new.root ≡ Some (root_of tile) → IsHeld A new
      → dtype_of out ≡ dtype_of tile → rect_of out ≡ whole (shape_of new.chain) → numbers out ≡ map (λ place. get_or (numbers tile) place (pos 0)) (layout_of new.chain).places
      → IsArrayOf (array_result (index_kind old_kind items)) (picked (index_form items) (plain old_kind.shape (shown_in A (view_of view)))) (record { tile = out; right = right; fault = None })
  index_copied tile out right is last at held dtype_out rect_out numbers_out =
      let new_kind = gathered_kind A new tile out at held dtype_out rect_out numbers_out in
      let value = gathered_value A new tile out at held dtype_out rect_out numbers_out in
      let axes : extents_of out ≡ [] = ap (λ (v : meaning.Value). v.shape) value ∙ shape ∙ element_shape (shape_of view.chain) items is in
      let type : dtype_of out ≡ view.dtype = ap (λ (k : ArrayKind). k.dtype) new_kind ∙ dtype in
      let shown : numbers out ≡ shown_in A (view_of new) = ap (λ (v : meaning.Value). v.numbers) value in
      let picks : IsPicked (view_of view) (view_of new) (picked_indices (shape_of view.chain) items) = record { root = root; places = ap (λ (l : Layout). l.places) layout } in
      let among : AreAmong (picked_indices (shape_of view.chain) items) (view_of view) =
      λ k index there. omega (arith, index_among (shape_of view.chain) items none k index there, all_places view.chain) in
      let same = shown ∙ picked_numbers A (view_of view) (view_of new) (picked_indices (shape_of view.chain) items) picks among (all_places view.chain) in
      record {
        kind = kind_is true is ∙ ap (λ k. Ok (array_value k)) (λ i. record { dtype = sym type i; shape = sym axes i; right = sym last i });
        same = λ i. record { shape = extents_of out; numbers = same i; fault = None };
        whole = gathered_whole A new tile out at held dtype_out rect_out numbers_out;
      }
