use Rattle.std.proofs.Common.{Some, sym, ap, ◌∙◌, subst}
use Rattle.std.proofs.lemmas.Option.{slice_get-get_or}
use Rattle.lg_space.specs.Rectangle.{IsIn}
use Rattle.lg_copy.proofs.tests.checking.is_held.Goals as goal

pub returns-then-contains : goal.returns-then-contains
returns-then-contains c = λ yes.
    let part = c.part-item.result in
    let k = c.loop-part.part-index in (
      k,
      part,
      slice_get-get_or c.args.parts.now k part c.loop-part-test.true ∙ ap Some (sym c.part-item.is),
      subst (λ r. IsIn r c.args.at.now) c.rect.ensures.value (c.if-contains.ensures.0 yes),
    )
