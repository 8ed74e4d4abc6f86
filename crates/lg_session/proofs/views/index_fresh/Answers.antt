use Rattle.std.proofs.Common.{◌≡◌, ℕ, None, Ok, length, map, get_or, pos, refl, sym, ap, ◌∙◌, arith}
use Rattle.lg_space.specs.Rectangle.{volume_of}
use Rattle.lg_shape.specs.Shapes.{size_of, whole}
use Rattle.lg_shape.specs.Views.{Layout, whole_layout}
use Rattle.lg_shape.specs.Indexing.{index_fault, indexed, indexed_shape}
use Rattle.lg_tile.specs.Tiles.{numbers}
use Rattle.lg_xform.specs.Chains.{shape_of, layout_of}
use Rattle.lg_meaning.specs.Memory.{ArrayKind}
use Rattle.lg_meaning.specs.Static.{array_value, array_result}
use Rattle.lg_meaning.specs.Indices.{is_element, picked_kind, unless_faulty}
use Rattle.lg_operations.specs.Operations.{extents_of, fresh_kind}
use Rattle.lg_session.proofs.HeldLemmas.{extents_back}
use Rattle.lg_session.proofs.ViewLemmas.{size-indexed, element_shape, kind_picked}
use Rattle.lg_session.proofs.views.index_fresh.Goals as goal

pub gather-requires-clause-small : goal.gather-requires-clause-small
gather-requires-clause-small c =
    let whole_shape : shape_of c.whole.result ≡ extents_of c.args.fresh.now.tile = c.whole.ensures.shape ∙ c.shape_in-shape.ensures in
    let none : index_fault (shape_of c.whole.result) c.args.items.now ≡ None = sym c.in-Ok.ensures.fault in
    let shape : shape_of c.in-Ok.chain ≡ indexed_shape (shape_of c.whole.result) c.args.items.now = ap (λ (l : Layout). l.shape) c.in-Ok.ensures.layout in
    omega (
      arith,
      ap size_of shape,
      size-indexed (shape_of c.whole.result) c.args.items.now none,
      ap size_of whole_shape,
      c.ranges-limits.ensures.storable.volume,
      ap volume_of c.rect.ensures.value,
      ap volume_of c.requires.whole,
    )

pub returns-in_ok-gather-in-Ok : goal.returns-in_ok-gather-in-Ok
returns-in_ok-gather-in-Ok c =
    let items = c.args.items.now in
    let tile = c.args.fresh.now.tile in
    let own = extents_of tile in
    let old = fresh_kind c.args.fresh.now in
    let e = c.in_ok-gather-in-Ok.ensures in
    let element = c.is_element.result in
    let shape_is : c.shape_in-shape.result ≡ own = c.shape_in-shape.ensures in
    let none : index_fault own items ≡ None = ap (λ s. index_fault s items) (sym (c.whole.ensures.shape ∙ shape_is)) ∙ sym c.in-Ok.ensures.fault in
    let layout : layout_of c.in-Ok.chain ≡ indexed (whole_layout own) items =
    c.in-Ok.ensures.layout ∙ ap (λ l. indexed l items) (c.whole.ensures.layout ∙ ap whole_layout shape_is) in
    let shape : shape_of c.in-Ok.chain ≡ indexed_shape own items = ap (λ (l : Layout). l.shape) layout in
    let extents : extents_of c.in_ok-gather-in-Ok.field-0 ≡ shape_of c.in-Ok.chain = ap (map (λ (range : ℕ × ℕ). range.1)) e.rect ∙ extents_back (shape_of c.in-Ok.chain) in
    let asked : element ≡ is_element own items = c.is_element.ensures own (ap length (sym (c.extents.ensures.value ∙ shape_is))) in
    let kind = kind_picked element old (indexed_shape own items) _ _ _ e.dtype (extents ∙ shape) (λ yes'. element_shape own items (sym asked ∙ yes')) (c.right_of_index.ensures old (indexed_shape own items) refl) in
    record {
      kind = ap (λ f. array_result (unless_faulty f (picked_kind (is_element own items) old (indexed_shape own items)))) none
          ∙ ap (λ b. Ok (array_value (picked_kind b old (indexed_shape own items)))) (sym asked)
          ∙ ap (λ (k : ArrayKind). Ok (array_value k)) (sym kind);
      same = λ i. record {
        shape = extents_of c.in_ok-gather-in-Ok.field-0;
        numbers = (e.numbers ∙ ap (λ (l : Layout). map (λ place. get_or (numbers tile) place (pos 0)) l.places) layout) i;
        fault = c.args.fresh.now.fault;
      };
      whole = e.rect ∙ ap whole (sym extents);
    }
