use Rattle.std.proofs.Common.{ℕ, ◌+◌, ◌++◌, List, sym, subst}
use Rattle.smallvec.specs.SmallVec.{SmallVec}
use Rattle.lg_shape.specs.IndexSteps.{promote_steps}
use Rattle.lg_shape.specs.declared.step.Step.{Step}
use Rattle.lg_shape.proofs.Counting.{front_item}
use Rattle.lg_shape.proofs.Promoting.{Promoting, promoting_integer, promoting_slice, promoting_new_axis, promoting_ellipsis}
use Rattle.lg_shape.proofs.indexing.add_promotes.Goals as goal
use Rattle.lg_shape.proofs.indexing.add_promotes.Goals.{in-At, in-Slice, in-NewAxis, in-Ellipsis}

pub loop-item-preserved : goal.loop-item-preserved
loop-item-preserved c =
    let items = c.args.items.now in
    let index = c.loop-item.item-index in
    let within = c.loop-item-test.true in
    let capacity = c.args.steps.now.capacity in
    let all = c.args.steps.now.items ++ promote_steps 0 c.args.missing items in
    let P : ℕ → List Step → ℕ → Type 0 = λ axis steps room. Promoting items c.args.missing capacity all (index + 1) axis steps room in
    let S : ℕ → SmallVec Step → Type 0 = λ axis steps. P axis steps.items steps.capacity in
    let known = c.loop-item.invariant in
    elim c.match-item.branch [
      | in-At w ↦
          (let next = promoting_integer items c.args.missing capacity all index _ _ _ known w.in-At.field-0 (front_item items index _ _ within w.in-At.is) in
          subst (λ axis. S axis c.match-item.steps) (sym w.axis-is) (subst (S _) (sym w.steps-is) next))
      | in-Slice w ↦
          (let next = promoting_slice items c.args.missing capacity all index _ _ _ known w.in-Slice.start w.in-Slice.stop w.in-Slice.step (front_item items index _ _ within w.in-Slice.is) in
          subst (λ axis. S axis c.match-item.steps) (sym w.axis-is) (subst (S _) (sym w.steps-is) next))
      | in-NewAxis w ↦
          (let next = promoting_new_axis items c.args.missing capacity all index _ _ _ known (front_item items index _ _ within w.in-NewAxis.is) in
          let pushed = subst (P _ _) (sym w.push_reserved.ensures.capacity) (subst (λ steps. P _ steps _) (sym w.push_reserved.ensures.items) next) in
          subst (λ axis. S axis c.match-item.steps) (sym w.axis-is) (subst (S _) (sym w.steps-is) pushed))
      | in-Ellipsis w ↦
          (let next = promoting_ellipsis items c.args.missing capacity all index _ _ _ known (front_item items index _ _ within w.in-Ellipsis.is) in
          subst (λ axis. S axis c.match-item.steps) (sym w.axis-is) (subst (S _) (sym w.steps-is) next))
    ]
