use Rattle.std.proofs.Common.{◌≡◌, ◌-◌, ◌*◌, ◌<◌, ◌≤◌, length, get_or, refl, ap, arith, rules}
use Rattle.lg_space.specs.declared.point.TheConstants.{MAX_AXES}
use Rattle.lg_xform.proofs.Sums.{add_at_set}
use Rattle.lg_xform.proofs.Edits.{none, read_at, axis_rooted, axis_small, length-shape_of, length-axes_of, project_within, projected_view, projected}
use Rattle.lg_xform.proofs.chain.Chain.project.Goals as goal

pub overflow_mul-from : goal.overflow_mul-from
overflow_mul-from c =
    let old = c.args.self.now in
    let long : length old.axes ≡ 4 = search rules in
    let wide : length old.from ≡ 4 = search rules in
    let below : c.args.axis < old.count = omega (arith, c.requires.step_of.0, length-shape_of old, length-axes_of old long) in
    let read = read_at old c.args.axis long below in
    let within = project_within old c.args.axis c.args.index (c.steps.result * (get_or old.axes c.args.axis none).stride) (get_or old.axes c.args.axis none) long wide c.requires read
    (ap (λ n. n * (get_or old.axes c.args.axis none).stride) c.steps.ensures) in
    omega (arith, within, axis_small old c.args.axis long below)

pub overflow_add-from : goal.overflow_add-from
overflow_add-from c =
    let old = c.args.self.now in
    let long : length old.axes ≡ 4 = search rules in
    let wide : length old.from ≡ 4 = search rules in
    let below : c.args.axis < old.count = omega (arith, c.requires.step_of.0, length-shape_of old, length-axes_of old long) in
    let read = read_at old c.args.axis long below in
    let within = project_within old c.args.axis c.args.index (c.steps.result * (get_or old.axes c.args.axis none).stride) (get_or old.axes c.args.axis none) long wide c.requires read
    (ap (λ n. n * (get_or old.axes c.args.axis none).stride) c.steps.ensures) in
    omega (arith, within, axis_small old c.args.axis long below)

pub bounds-from-old : goal.bounds-from-old
bounds-from-old c =
    let old = c.args.self.now in
    let long : length old.axes ≡ 4 = search rules in
    let wide : length old.from ≡ 4 = search rules in
    let below : c.args.axis < old.count = omega (arith, c.requires.step_of.0, length-shape_of old, length-axes_of old long) in
    let read = read_at old c.args.axis long below in
    axis_rooted old c.args.axis long below

pub bounds-from-old-2 : goal.bounds-from-old-2
bounds-from-old-2 c =
    let old = c.args.self.now in
    let long : length old.axes ≡ 4 = search rules in
    let wide : length old.from ≡ 4 = search rules in
    let below : c.args.axis < old.count = omega (arith, c.requires.step_of.0, length-shape_of old, length-axes_of old long) in
    let read = read_at old c.args.axis long below in
    axis_rooted old c.args.axis long below

pub offset_bounds-from-old : goal.offset_bounds-from-old
offset_bounds-from-old c =
    let old = c.args.self.now in
    let long : length old.axes ≡ 4 = search rules in
    let wide : length old.from ≡ 4 = search rules in
    let below : c.args.axis < old.count = omega (arith, c.requires.step_of.0, length-shape_of old, length-axes_of old long) in
    let read = read_at old c.args.axis long below in
    omega (arith, axis_rooted old c.args.axis long below)

pub invariant_of-result : goal.invariant_of-result
invariant_of-result c =
    let old = c.args.self.now in
    let long : length old.axes ≡ 4 = search rules in
    let wide : length old.from ≡ 4 = search rules in
    let below : c.args.axis < old.count = omega (arith, c.requires.step_of.0, length-shape_of old, length-axes_of old long) in
    let read = read_at old c.args.axis long below in
    let grown = add_at_set old.from (get_or old.axes c.args.axis none).root (c.steps.result * (get_or old.axes c.args.axis none).stride)
    (omega (arith, axis_rooted old c.args.axis long below, wide)) in
    let v = projected_view old c.args.axis c.args.index (c.steps.result * (get_or old.axes c.args.axis none).stride) (get_or old.axes c.args.axis none) long wide c.requires read
    (ap (λ n. n * (get_or old.axes c.args.axis none).stride) c.steps.ensures) _ _ grown c.without_axis.ensures in
    let few : old.count ≤ MAX_AXES = old.few in
    let fewer : old.count - 1 ≤ MAX_AXES = omega arith in
    record {
      few = fewer;
      rooted = v.rooted;
      shape = v.shape;
      root_shape = old.root_shape;
      held = v.held;
      filled = v.filled;
    }

pub returns : goal.returns
returns c =
    let old = c.args.self.now in
    let long : length old.axes ≡ 4 = search rules in
    let wide : length old.from ≡ 4 = search rules in
    let below : c.args.axis < old.count = omega (arith, c.requires.step_of.0, length-shape_of old, length-axes_of old long) in
    let read = read_at old c.args.axis long below in
    let grown = add_at_set old.from (get_or old.axes c.args.axis none).root (c.steps.result * (get_or old.axes c.args.axis none).stride)
    (omega (arith, axis_rooted old c.args.axis long below, wide)) in
    projected old c.args.axis c.args.index (c.steps.result * (get_or old.axes c.args.axis none).stride) (get_or old.axes c.args.axis none) long wide c.requires read
    (ap (λ n. n * (get_or old.axes c.args.axis none).stride) c.steps.ensures) _ refl grown c.without_axis.ensures
