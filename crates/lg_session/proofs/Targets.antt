-- The part of an array that an index picks as a target.
use Rattle.std.proofs.Common.{◌≡◌, ℕ, List, map, Option, None, Some, Result, Err, option_map, refl, sym, ap, ◌∙◌, arith}
use Rattle.lg_store.specs.declared.view.View.{View as CodeView}
use Rattle.lg_shape.specs.Shapes.{place_of}
use Rattle.lg_shape.specs.Views.{Layout, place_at}
use Rattle.lg_shape.specs.Indexing.{index_fault, indexed, indexed_shape}
use Rattle.lg_shape.specs.declared.index.IndexItem.{IndexItem}
use Rattle.lg_shape.specs.declared.index.IndexFault.{IndexFault}
use Rattle.lg_xform.specs.Chains.{shape_of, layout_of}
use Rattle.lg_xform.proofs.Picks.{all_places}
use Rattle.lg_tree.specs.Tree.{ItemTrees}
use Rattle.lg_meaning.specs.declared.fault.FaultKind.{FaultKind}
use Rattle.lg_meaning.specs.declared.fault.FaultKind.TheVariants.{TypeKind}
use Rattle.lg_meaning.specs.Assignments.{array_named, part_of, target_of}
use Rattle.lg_meaning.specs.Expressions.{items_of}
use Rattle.lg_meaning.specs.Faults.{from_part, from_both}
use Rattle.lg_meaning.specs.Indices.{index_items, index_form, index_fault_kind, unless_faulty}
use Rattle.lg_meaning.specs.Memory.{ArrayKind, View, Bound, State}
use Rattle.lg_meaning.specs.Views.{layout_in, view_by, view_kind, view_right}
use Rattle.lg_operations.specs.Views.{view_of}
use Rattle.lg_session.specs.Names.{environment}
use Rattle.lg_operations.specs.Operations.{right_for}
use Rattle.lg_session.specs.Parts.{AreItems, AreItemsRead}
use Rattle.lg_session.specs.Standing.{roots_in, names_in}
use Rattle.lg_session.specs.Writing.{ShowsTarget, IsTarget}
use Rattle.lg_session.proofs.Picked.{IsPicked, AreAmong, picked_shown, inside_picked}
use Rattle.lg_session.proofs.ViewLemmas.{index_among, picked_indices}
use Rattle.lg_operations.specs.declared.end.EvaluateEnd.{EvaluateEnd}
use Rattle.lg_operations.specs.declared.end.EvaluateEnd.TheVariants.{Fault, NoMemory}
use Rattle.lg_session.specs.declared.session.Session.{Session}

-- ---- a target's faults

-- the name has one
pub name_end : (b : Option Bound) (is : Result (List IndexItem) FaultKind) (state : State) (session : Session) (end : EvaluateEnd) → IsTarget (array_named b) state session (Err end)
    → IsTarget (target_of b is) state session (Err end)
name_end b is state session (Fault kind) h = ap (λ r. from_both r is part_of) h
name_end b is state session NoMemory h = tt

module _ (b : Option Bound) (is : ItemTrees) (state : State) (session : Session) (view : CodeView) (t : ShowsTarget (array_named b) state session view) where
  -- the items have one
  pub items_end : (end : EvaluateEnd) → AreItems is state (Err end) → IsTarget (target_of b (items_of is state.names)) state session (Err end)
  items_end (Fault kind) h = ap (λ r. from_both r (items_of is state.names) part_of) t.is ∙ ap (λ r. from_part (from_part r index_items) (part_of t.there)) h
  items_end NoMemory h = tt

  pub items_untyped : AreItemsRead is state None → target_of b (items_of is state.names) ≡ Err TypeKind
  items_untyped read =
      ap (λ r. from_both r (items_of is state.names) part_of) t.is ∙ ap (λ r. from_part (from_part r index_items) (part_of t.there)) read.kind
      ∙ ap (λ r. from_part r (part_of t.there)) read.same

  module _ (items : List IndexItem) (read : AreItemsRead is state (Some items)) where
    -- the part of the definition's array
    picked_part : target_of b (items_of is state.names) ≡ part_of t.there items
    picked_part =
        ap (λ r. from_both r (items_of is state.names) part_of) t.is ∙ ap (λ r. from_part (from_part r index_items) (part_of t.there)) read.kind
        ∙ ap (λ r. from_part r (part_of t.there)) read.same

    alike : t.there.kind.shape ≡ shape_of view.chain
    alike = ap (λ (k : ArrayKind). k.shape) (sym t.shown.kind.kind)

    abbrev part_there : View
    part_there = view_by (index_form items) t.there (view_kind t.there.kind (indexed_shape t.there.kind.shape items))

    -- the index has a fault
    pub part_fault : (kind : FaultKind) → Some kind ≡ option_map index_fault_kind (index_fault (shape_of view.chain) items) → target_of b (items_of is state.names) ≡ Err kind
    part_fault kind is_so = picked_part ∙ ap (λ s. unless_faulty (index_fault s items) part_there) alike ∙ by (index_fault (shape_of view.chain) items) is_so
      where
        by : (f : Option IndexFault) → Some kind ≡ option_map index_fault_kind f → unless_faulty f part_there ≡ Err kind
        by None e = cc
        by (Some f) e = let same : index_fault_kind f ≡ kind = cc in ap Err same

    module _ (new : CodeView) (none : index_fault (shape_of view.chain) items ≡ None) (root : new.root ≡ view.root) (dtype : new.dtype ≡ view.dtype)
        (layout : layout_of new.chain ≡ indexed (layout_of view.chain) items) (right : right_for new.right ≡ view_right (right_for view.right)) where
      abbrev indices : List (List ℕ)
      indices = picked_indices (shape_of view.chain) items

      first : IsPicked (view_of view) (view_of new) indices
      first = record { root = root; places = ap (λ (l : Layout). l.places) layout }

      second : IsPicked t.there part_there indices
      second = record { root = refl; places = ap (λ s. map (place_at (layout_in t.there)) (picked_indices s items)) alike }

      among : AreAmong indices (view_of view)
      among k index at = omega (arith, index_among (shape_of view.chain) items none k index at, all_places view.chain)

      among_there : AreAmong indices t.there
      among_there k index at = omega (arith, among k index at, ap (λ s. place_of s index) alike, t.shown.kind.count)

      kind : (view_of new).kind ≡ part_there.kind
      kind =
          let own : (view_of new).kind ≡ view_kind (view_of view).kind (indexed_shape (shape_of view.chain) items) =
          λ i. record { dtype = dtype i; shape = (layout i).shape; right = right i } in
          own ∙ ap (λ (k : ArrayKind). view_kind k (indexed_shape k.shape items)) t.shown.kind.kind

      -- the view that the index picks shows what the definition's part shows
      pub part_target : ShowsTarget (target_of b (items_of is state.names)) state session new
      part_target = record {
        there = part_there;
        is = picked_part ∙ ap (λ s. unless_faulty (index_fault s items) part_there) alike ∙ ap (λ f. unless_faulty f part_there) none;
        inside = inside_picked (roots_in state) t.there part_there indices t.inside second among_there refl;
        shown = picked_shown (environment session.names) (names_in state) (view_of view) t.there (view_of new) part_there indices t.shown first second kind among;
      }
