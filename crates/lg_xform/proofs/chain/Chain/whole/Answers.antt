use Rattle.std.proofs.Common.{◌≡◌, ◌≤◌, ℕ, List, length, take, map, ap, sym, subst, ◌∙◌, arith}
use Rattle.lg_space.specs.Rectangle.{IsIn}
use Rattle.lg_shape.specs.Shapes.{whole}
use Rattle.lg_xform.specs.Footprints.{HasNoHoles}
use Rattle.lg_space.specs.declared.point.TheConstants.{MAX_AXES}
use Rattle.lg_xform.proofs.Wholes.{whole_view, whole_moved, laid_whole, full_whole, axes_all, extents-axes_from, inner-axes_from, origin}
use Rattle.lg_xform.specs.Moves.{extents_of, moved}
use Rattle.lg_xform.specs.declared.axis.ViewAxis.{ViewAxis}
use Rattle.lg_xform.proofs.Insides.{in_whole_axes}
use Rattle.lg_xform.proofs.chain.Chain.whole.Goals as goal

pub invariant_of-result : goal.invariant_of-result
invariant_of-result c =
    let shape = c.args.shape.now in
    let e = c.extents-extents.ensures.value in
    let all = axes_all shape c.extents-extents.result.now c.loop-axis.axes c.loop-axis.axis e c.loop-axis-test.false c.loop-axis.auto.axis-end c.loop-axis.invariant.so_far in
    let v = whole_view shape _ c.extents-extents.ensures.shape all in
    let few : length c.extents-extents.result.now ≤ MAX_AXES = omega (arith, ap length e, c.extents-extents.ensures.shape.axes) in
    record {
      few = few;
      rooted = v.rooted;
      shape = v.shape;
      root_shape = c.extents-extents.ensures.shape;
      held = v.held;
      filled = v.filled;
    }

pub returns-clause-shape : goal.returns-clause-shape
returns-clause-shape c =
    let all = axes_all c.args.shape.now c.extents-extents.result.now c.loop-axis.axes c.loop-axis.axis c.extents-extents.ensures.value c.loop-axis-test.false c.loop-axis.auto.axis-end c.loop-axis.invariant.so_far in
    ap extents_of all ∙ extents-axes_from 0 c.args.shape.now

pub returns-clause-mapped : goal.returns-clause-mapped
returns-clause-mapped c = λ index in'.
    let shape = c.args.shape.now in
    let all = axes_all shape c.extents-extents.result.now c.loop-axis.axes c.loop-axis.axis c.extents-extents.ensures.value c.loop-axis-test.false c.loop-axis.auto.axis-end c.loop-axis.invariant.so_far in
    ap (λ axes. take (length shape) (moved origin axes index)) all ∙ whole_moved shape index c.extents-extents.ensures.shape.axes (in_whole_axes shape index in')

pub returns-clause-layout : goal.returns-clause-layout
returns-clause-layout c =
    let all = axes_all c.args.shape.now c.extents-extents.result.now c.loop-axis.axes c.loop-axis.axis c.extents-extents.ensures.value c.loop-axis-test.false c.loop-axis.auto.axis-end c.loop-axis.invariant.so_far in
    laid_whole c.args.shape.now _ c.extents-extents.ensures.shape.axes all

pub returns-clause-inner : goal.returns-clause-inner
returns-clause-inner c =
    let all = axes_all c.args.shape.now c.extents-extents.result.now c.loop-axis.axes c.loop-axis.axis c.extents-extents.ensures.value c.loop-axis-test.false c.loop-axis.auto.axis-end c.loop-axis.invariant.so_far in
    ap (map (λ (axis : ViewAxis). axis.inner)) all ∙ inner-axes_from 0 c.args.shape.now

pub returns-clause-dense : goal.returns-clause-dense
returns-clause-dense c =
    let shape = c.args.shape.now in
    let axes = take (length c.extents-extents.result.now) c.loop-axis.axes in
    let all = axes_all shape c.extents-extents.result.now c.loop-axis.axes c.loop-axis.axis c.extents-extents.ensures.value c.loop-axis-test.false c.loop-axis.auto.axis-end c.loop-axis.invariant.so_far in
    let extents = ap extents_of all ∙ extents-axes_from 0 shape in
    let lead = λ (index : List ℕ). take (length shape) (moved origin axes index) in
    let same : (index : List ℕ) → IsIn (whole shape) index → lead index ≡ index = λ index in'.
    ap (λ a. take (length shape) (moved origin a index)) all ∙ whole_moved shape index c.extents-extents.ensures.shape.axes (in_whole_axes shape index in') in
    let full = full_whole shape (map (λ (axis : ViewAxis). axis.inner) axes) lead same in
    subst (λ s. HasNoHoles s (map (λ (axis : ViewAxis). axis.inner) axes) lead) (sym extents) full
