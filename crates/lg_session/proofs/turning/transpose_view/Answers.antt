use Rattle.std.proofs.Common.{◌≡◌, [], length, option_copied, sym, ap, subst, ◌∙◌, arith, refl}
use Rattle.lg_shape.specs.Shapes.{size_of}
use Rattle.lg_shape.specs.Views.{Layout}
use Rattle.lg_xform.specs.Chains.{shape_of, layout_of}
use Rattle.lg_xform.proofs.Picks.{all_places}
use Rattle.lg_meaning.specs.Faults.{known_or}
use Rattle.lg_meaning.specs.Views.{transpose_axes, transposed}
use Rattle.lg_operations.specs.Views.{view_of}
use Rattle.lg_operations.specs.Operations.{right_for}
use Rattle.lg_session.specs.Worlds.{NoRepeat}
use Rattle.lg_session.proofs.AxesLemmas.{axes_once, turned_kind}
use Rattle.lg_session.proofs.HeldLemmas.{places_inside}
use Rattle.lg_session.proofs.Onces.{once_turned, writable_before}
use Rattle.lg_session.proofs.turning.transpose_view.Goals as goal

pub returns : goal.returns
returns c =
    let view = c.args.view.now in
    let xs = option_copied c.args.axes in
    let t = c.in_ok-chain.ensures in
    let new = c.in_ok-chain.chain in
    let count = length (shape_of view.chain) in
    let layout : layout_of new ≡ transposed (known_or [] (transpose_axes count xs)) (layout_of view.chain) =
    t.layout ∙ ap (λ order. transposed order (layout_of view.chain)) (sym (ap (known_or []) t.written)) in
    record {
      made = record {
        kind = turned_kind (view_of view).kind xs t.order view.dtype (shape_of new) _ t.written refl (ap (λ (l : Layout). l.shape) t.layout) c.right_of_view.ensures;
        is = λ i. record {
          root = view.root;
          kind = record { dtype = view.dtype; shape = shape_of new; right = right_for c.right_of_view.result };
          places = (ap (λ (l : Layout). l.places) layout) i;
        };
      };
      root = refl;
      held = λ root held. record {
        dtype = held.dtype;
        shape = t.root ∙ held.shape;
        full = held.full;
        small = omega (arith, t.size, held.small);
        unsplit = t.unsplit held.unsplit;
        inside = places_inside new _ (held.full ∙ ap size_of (sym (t.root ∙ held.shape))) c.root-root.ensures.inside;
        once = λ is. subst (λ (l : Layout). NoRepeat l.places) (sym t.layout)
            (once_turned (layout_of view.chain) (all_places view.chain) (held.once (writable_before view.right c.right_of_view.result c.right_of_view.ensures is)) t.order
            (axes_once count xs t.order t.written));
      };
    }
