use Rattle.std.proofs.Common.{◌++◌, [], ◌∷◌, pos, sym, ap, ◌∙◌, rules}
use mir.Val.{SFits}
use mir.Syntax.{w128}
use Rattle.std.proofs.lemmas.Int.{to_z-of_z}
use Rattle.lg_shape.specs.Indexing.{item_fault}
use Rattle.lg_shape.specs.IndexSteps.{cut_steps}
use Rattle.lg_shape.specs.declared.step.Step.TheVariants.{Project, Slice}
use Rattle.lg_shape.proofs.Counting.{front_item}
use Rattle.lg_shape.proofs.Cutting.{cutting_integer, cutting_slice, cutting_new_axis, cutting_ellipsis, cutting_along, some_of_choice, behind}
use Rattle.lg_shape.proofs.indexing.add_cuts.Goals as goal
use Rattle.lg_shape.proofs.indexing.add_cuts.Goals.{in-At+in-Some, in-Slice+else-not-is_one, in-NewAxis, in-Ellipsis}

pub loop-place-preserved : goal.loop-place-preserved
loop-place-preserved c =
    let items = c.args.items.now in
    let index = c.loop-place.place in
    let within = c.loop-place-test.true in
    let missing = c.args.missing in
    let capacity = c.args.steps.now.capacity in
    let all = c.args.steps.now.items ++ cut_steps 0 missing c.args.extents.now items in
    let fault = item_fault 0 missing c.args.extents.now items in
    let axis = c.loop-place.axis in
    let rest = c.loop-place.rest.now in
    let steps = c.loop-place.steps.items in
    let room = c.loop-place.steps.capacity in
    let known = c.loop-place.invariant in
    elim c.match-item.branch [
      | in-At+in-Some w ↦
          (let front = front_item items index _ _ within w.in-At.is in
          let small : SFits w128 w.in-At.k = search rules in
          let choice = some_of_choice _ _ _ w.in-Some.ensures in
          let found = simp to_z-of_z at choice in
          let next = cutting_integer items missing capacity all fault index axis rest steps room w.in-At.k known front found.0 in
          let pushed = w.push_reserved.ensures.items ∙ ap (λ at. steps ++ Project axis at ∷ []) found.1 in
          cutting_along items missing capacity all fault _ _ _ _ _ _ _ _ _ w.axis-is (ap (λ r. r.now) w.rest-is ∙ behind 1 rest) (ap (λ s. s.items) w.steps-is ∙ pushed)
          (ap (λ s. s.capacity) w.steps-is ∙ w.push_reserved.ensures.capacity) next)
      | in-Slice+else-not-is_one w ↦
          (let front = front_item items index _ _ within w.in-Slice.is in
          let low = w.bound_of-low.result in
          let next = cutting_slice items missing capacity all fault index axis rest steps room w.in-Slice.start w.in-Slice.stop w.in-Slice.step low w.bound_of-high.result known front
          (sym w.if-not-is_one.ensures) w.bound_of-low.ensures w.bound_of-high.ensures in
          let pushed = w.push_reserved-in-Slice.ensures.items ∙ ap (λ len. steps ++ Slice axis low len (pos 1) ∷ []) w.saturating_sub.ensures in
          cutting_along items missing capacity all fault _ _ _ _ _ _ _ _ _ w.axis-is (ap (λ r. r.now) w.rest-is ∙ behind 1 rest) (ap (λ s. s.items) w.steps-is ∙ pushed)
          (ap (λ s. s.capacity) w.steps-is ∙ w.push_reserved-in-Slice.ensures.capacity) next)
      | in-NewAxis w ↦
          cutting_along items missing capacity all fault _ _ _ _ _ _ _ _ _ w.axis-is (ap (λ r. r.now) w.rest-is) (ap (λ s. s.items) w.steps-is) (ap (λ s. s.capacity) w.steps-is)
          (cutting_new_axis items missing capacity all fault index axis rest steps room known (front_item items index _ _ within w.in-NewAxis.is))
      | in-Ellipsis w ↦
          cutting_along items missing capacity all fault _ _ _ _ _ _ _ _ _ w.axis-is (ap (λ r. r.now) w.rest-is ∙ behind missing rest) (ap (λ s. s.items) w.steps-is) (ap (λ s. s.capacity) w.steps-is)
          (cutting_ellipsis items missing capacity all fault index axis rest steps room known (front_item items index _ _ within w.in-Ellipsis.is))
    ]
