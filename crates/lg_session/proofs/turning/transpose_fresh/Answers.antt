use Rattle.std.proofs.Common.{◌≡◌, ℕ, [], length, map, get_or, pos, Ok, option_copied, sym, ap, subst, ◌∙◌}
use Rattle.lg_shape.specs.Shapes.{whole}
use Rattle.lg_shape.specs.Views.{Layout, whole_layout}
use Rattle.lg_tile.specs.Tiles.{numbers}
use Rattle.lg_xform.specs.Chains.{shape_of, layout_of}
use Rattle.lg_meaning.specs.Faults.{known_or}
use Rattle.lg_meaning.specs.Views.{transpose_axes, transposed}
use Rattle.lg_operations.specs.Operations.{extents_of, fresh_kind}
use Rattle.lg_session.proofs.AxesLemmas.{turned_kind}
use Rattle.lg_session.proofs.HeldLemmas.{extents_back}
use Rattle.lg_session.proofs.turning.transpose_fresh.Goals as goal

pub returns : goal.returns
returns c =
    let tile = c.args.fresh.now.tile in
    let own = extents_of tile in
    let xs = option_copied c.args.axes in
    let t = c.in_ok-chain.ensures in
    let new = c.in_ok-chain.chain in
    let e = c.in_ok-gather.ensures in
    let whole_shape : shape_of c.whole.result ≡ own = c.whole.ensures.shape ∙ c.shape_in.ensures in
    let written : transpose_axes (length own) xs ≡ Ok t.order = subst (λ s. transpose_axes (length s) xs ≡ Ok t.order) whole_shape t.written in
    let turned : layout_of new ≡ transposed t.order (whole_layout own) = t.layout ∙ ap (transposed t.order) (c.whole.ensures.layout ∙ ap whole_layout c.shape_in.ensures) in
    let layout : layout_of new ≡ transposed (known_or [] (transpose_axes (length own) xs)) (whole_layout own) =
    turned ∙ ap (λ order. transposed order (whole_layout own)) (sym (ap (known_or []) written)) in
    let extents : extents_of c.in_ok-gather.field-0 ≡ shape_of new = ap (map (λ (range : ℕ × ℕ). range.1)) e.rect ∙ extents_back (shape_of new) in
    record {
      kind = turned_kind (fresh_kind c.args.fresh.now) xs t.order _ (extents_of c.in_ok-gather.field-0) _ written e.dtype (extents ∙ ap (λ (l : Layout). l.shape) turned) c.right_of_view.ensures;
      same = λ i. record {
        shape = extents_of c.in_ok-gather.field-0;
        numbers = (e.numbers ∙ ap (λ (l : Layout). map (λ place. get_or (numbers tile) place (pos 0)) l.places) layout) i;
        fault = c.args.fresh.now.fault;
      };
      whole = e.rect ∙ ap whole (sym extents);
    }
