use Rattle.std.proofs.Common.{◌∙◌, List, ap, subst, sym}
use Rattle.lg_shape.specs.Indexing.{Picks}
use Rattle.lg_shape.specs.Steps.{AreStepsOf, AreIndexSteps}
use Rattle.lg_shape.specs.Views.{all_stepped}
use Rattle.lg_shape.specs.declared.step.Step.{Step}
use Rattle.lg_xform.specs.Chains.{root_of, inner_of, layout_of, IsUnsplit, AreChainSteps, all_inner}
use Rattle.lg_xform.proofs.Picks.{may_be_taken, still_unsplit, no_holes, all_places}
use Rattle.lg_xform.proofs.chain.Chain.index.Goals as goal

pub apply_all-requires : goal.apply_all-requires
apply_all-requires c =
    let self = c.args.self.now in
    let steps = c.in_ok-steps.steps.items in
    let allowed = subst (AreStepsOf steps) c.shape.ensures.value c.in_ok-steps.ensures.allowed in
    subst (λ (l : List Step). AreChainSteps l (root_of self) (layout_of self) (inner_of self)) (sym c.as_slice.ensures)
    (may_be_taken steps (root_of self) (layout_of self) (inner_of self) allowed c.in_ok-steps.ensures.plain c.requires.unsplit)

pub returns-clause-layout : goal.returns-clause-layout
returns-clause-layout c =
    let self = c.args.self.now in
    let steps = c.in_ok-steps.steps.items in
    let items = c.args.items.now in
    let picks = subst (λ (shape : List _). Picks shape items steps) c.shape.ensures.value c.in_ok-steps.ensures.picks in
    c.apply_all.ensures.layout ∙ ap (λ (l : List Step). all_stepped l (layout_of self)) c.as_slice.ensures
    ∙ picks (layout_of self).places (all_places self)

pub returns-clause-unsplit : goal.returns-clause-unsplit
returns-clause-unsplit c =
    let self = c.args.self.now in
    let steps = c.in_ok-steps.steps.items in
    let inner = c.apply_all.ensures.inner ∙ ap (λ (l : List Step). all_inner l (inner_of self)) c.as_slice.ensures in
    subst IsUnsplit (sym inner) (still_unsplit steps (inner_of self) c.in_ok-steps.ensures.plain c.requires.unsplit)

pub returns-clause-dense : goal.returns-clause-dense
returns-clause-dense c = λ dense.
    let steps = c.in_ok-steps.steps.items in
    let plain = subst AreIndexSteps (sym c.as_slice.ensures) c.in_ok-steps.ensures.plain in
    c.apply_all.ensures.dense dense (no_holes c.as_slice.result.now plain)
