use Rattle.std.proofs.Common.{◌≡◌, None, sym, ap, subst, ◌∙◌, arith}
use Rattle.lg_shape.specs.Shapes.{size_of}
use Rattle.lg_shape.specs.Views.{Layout}
use Rattle.lg_shape.specs.Indexing.{index_fault, indexed_shape}
use Rattle.lg_xform.specs.Chains.{shape_of, layout_of}
use Rattle.lg_xform.proofs.Picks.{all_places}
use Rattle.lg_session.specs.Worlds.{NoRepeat}
use Rattle.lg_session.proofs.HeldLemmas.{places_inside}
use Rattle.lg_session.proofs.ViewLemmas.{size-indexed}
use Rattle.lg_session.proofs.Onces.{once_indexed, writable_before}
use Rattle.lg_session.proofs.views.index_view.Goals as goal

pub returns-in-Ok-clause-held : goal.returns-in-Ok-clause-held
returns-in-Ok-clause-held c = λ root held.
    let old = c.args.view.now.chain in
    let e = c.in-Ok.ensures in
    let none : index_fault (shape_of old) c.args.items.now ≡ None = sym e.fault in
    let shape : shape_of c.in-Ok.chain ≡ indexed_shape (shape_of old) c.args.items.now = ap (λ (l : Layout). l.shape) e.layout in
    record {
      dtype = held.dtype;
      shape = e.root ∙ held.shape;
      full = held.full;
      small = omega (arith, ap size_of shape, size-indexed (shape_of old) c.args.items.now none, held.small);
      unsplit = e.unsplit;
      inside = places_inside c.in-Ok.chain _ (held.full ∙ ap size_of (sym (e.root ∙ held.shape))) c.root-root.ensures.inside;
      once = λ is. subst (λ (l : Layout). NoRepeat l.places) (sym e.layout)
          (once_indexed (layout_of old) (all_places old) (held.once (writable_before c.args.view.now.right c.right_of_view.result c.right_of_view.ensures is)) c.args.items.now none);
    }
