use Rattle.std.proofs.Common.{List, subst}
use Rattle.std.specs.List.{All}
use Rattle.std.proofs.lemmas.List.Elements.{All-head, All-tail}
use Rattle.lg_shape.specs.declared.step.Step.{Step}
use Rattle.lg_xform.specs.Footprints.{IsDenseStep}
use Rattle.lg_xform.proofs.chain.Chain.+apply_all.Goals as goal

pub returns-clause-dense : goal.returns-clause-dense
returns-clause-dense t c = λ full all.
    let both = subst (λ (l : List Step). All IsDenseStep l) c.in-Some.ensures.cases.0 all in
    c.apply_all.ensures.dense (c.apply.ensures.dense full (All-head IsDenseStep c.in-Some.step.now c.in-Some.steps.now both))
    (All-tail IsDenseStep c.in-Some.step.now c.in-Some.steps.now both)
