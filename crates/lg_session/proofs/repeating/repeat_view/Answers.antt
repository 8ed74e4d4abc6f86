use Rattle.std.proofs.Common.{sym, ap, ◌∙◌, arith}
use Rattle.lg_shape.specs.Shapes.{size_of}
use Rattle.lg_session.proofs.HeldLemmas.{places_inside}
use Rattle.lg_session.proofs.Onces.{not_writable}
use Rattle.lg_session.proofs.repeating.repeat_view.Goals as goal

pub returns-clause-held : goal.returns-clause-held
returns-clause-held c = λ root held.
    let e = c.broadcast-chain.ensures in
    record {
      dtype = held.dtype;
      shape = e.root ∙ held.shape;
      full = held.full;
      small = omega (arith, ap size_of e.shape, c.in_ok-to.ensures.small);
      unsplit = e.unsplit held.unsplit;
      inside = places_inside c.broadcast-chain.result _ (held.full ∙ ap size_of (sym (e.root ∙ held.shape))) c.root-root.ensures.inside;
      once = λ is. absurd (not_writable is);
    }
