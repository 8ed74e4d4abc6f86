use Rattle.std.proofs.Common.{◌≡◌, ℕ, Ok, map, get_or, pos, sym, ap, ◌∙◌}
use Rattle.lg_shape.specs.Shapes.{whole}
use Rattle.lg_shape.specs.Views.{Layout, whole_layout}
use Rattle.lg_tile.specs.Tiles.{numbers}
use Rattle.lg_xform.specs.Chains.{shape_of, layout_of}
use Rattle.lg_meaning.specs.Memory.{read_only}
use Rattle.lg_meaning.specs.Static.{array_value, array_result}
use Rattle.lg_meaning.specs.Views.{repeated}
use Rattle.lg_operations.specs.Operations.{extents_of, fresh_kind}
use Rattle.lg_session.proofs.HeldLemmas.{extents_back}
use Rattle.lg_session.proofs.Repeatings.{written_rule, kind_repeated}
use Rattle.lg_session.proofs.repeating.repeat_fresh.Goals as goal

pub returns : goal.returns
returns c =
    let tile = c.args.fresh.now.tile in
    let own = extents_of tile in
    let old = fresh_kind c.args.fresh.now in
    let out = c.in_ok-gather.field-0 in
    let to = c.in_ok-to.to in
    let e = c.in_ok-gather.ensures in
    let shape_is : c.shape_in-shape.result ≡ own = c.shape_in-shape.ensures in
    let extents : extents_of out ≡ to = ap (map (λ (range : ℕ × ℕ). range.1)) e.rect ∙ extents_back (shape_of c.broadcast-chain.result) ∙ c.broadcast-chain.ensures.shape in
    let layout : layout_of c.broadcast-chain.result ≡ repeated (extents_of out) (whole_layout own) =
    c.broadcast-chain.ensures.layout ∙ (λ i. repeated (sym extents i) ((c.whole.ensures.layout ∙ ap whole_layout shape_is) i)) in
    let rule : Ok to ≡ written_rule own c.args.written.now = c.in_ok-to.ensures.rule ∙ ap (λ s. written_rule s c.args.written.now) shape_is in
    record {
      kind = ap array_result (kind_repeated old c.args.written.now to rule)
          ∙ (λ i. Ok (array_value (record { dtype = sym e.dtype i; shape = sym extents i; right = read_only })));
      same = λ i. record {
        shape = extents_of out;
        numbers = (e.numbers ∙ ap (λ (l : Layout). map (λ place. get_or (numbers tile) place (pos 0)) l.places) layout) i;
        fault = c.args.fresh.now.fault;
      };
      whole = e.rect ∙ ap whole (sym (ap (map (λ (range : ℕ × ℕ). range.1)) e.rect ∙ extents_back (shape_of c.broadcast-chain.result)));
    }
