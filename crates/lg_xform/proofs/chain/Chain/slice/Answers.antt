use Rattle.std.proofs.Common.{◌≡◌, ◌<◌, length, get_or, refl, subst, arith, rules, w64}
use Rattle.std.proofs.lemmas.Int.{to_z-of_z}
use Rattle.lg_xform.specs.Slices.{IsSliced}
use Rattle.lg_xform.proofs.Sums.{add_at_set}
use Rattle.lg_xform.proofs.Edits.{none, read_at, axis_rooted, axis_small, length-shape_of, length-axes_of, take-set_in, sliced_view, sliced_map}
use Rattle.lg_xform.proofs.chain.Chain.slice.Goals as goal

pub sliced-ahead-requires-clause-reach : goal.sliced-ahead-requires-clause-reach
sliced-ahead-requires-clause-reach c =
    let old = c.args.self.now in
    let long : length old.axes ≡ 4 = search rules in
    let wide : length old.from ≡ 4 = search rules in
    let below : c.args.axis < old.count = omega (arith, c.requires.step_of.0, length-shape_of old, length-axes_of old long) in
    let axis = get_or old.axes c.args.axis none in
    omega (arith, axis_small old c.args.axis long below)

pub bounds-from-old : goal.bounds-from-old
bounds-from-old c =
    let old = c.args.self.now in
    let long : length old.axes ≡ 4 = search rules in
    let wide : length old.from ≡ 4 = search rules in
    let below : c.args.axis < old.count = omega (arith, c.requires.step_of.0, length-shape_of old, length-axes_of old long) in
    let axis = get_or old.axes c.args.axis none in
    axis_rooted old c.args.axis long below

pub bounds-from-old-2 : goal.bounds-from-old-2
bounds-from-old-2 c =
    let old = c.args.self.now in
    let long : length old.axes ≡ 4 = search rules in
    let wide : length old.from ≡ 4 = search rules in
    let below : c.args.axis < old.count = omega (arith, c.requires.step_of.0, length-shape_of old, length-axes_of old long) in
    let axis = get_or old.axes c.args.axis none in
    axis_rooted old c.args.axis long below

pub offset_bounds-from-old : goal.offset_bounds-from-old
offset_bounds-from-old c =
    let old = c.args.self.now in
    let long : length old.axes ≡ 4 = search rules in
    let wide : length old.from ≡ 4 = search rules in
    let below : c.args.axis < old.count = omega (arith, c.requires.step_of.0, length-shape_of old, length-axes_of old long) in
    let axis = get_or old.axes c.args.axis none in
    omega (arith, axis_rooted old c.args.axis long below)

pub overflow_add-from : goal.overflow_add-from
overflow_add-from c =
    let old = c.args.self.now in
    let long : length old.axes ≡ 4 = search rules in
    let wide : length old.from ≡ 4 = search rules in
    let below : c.args.axis < old.count = omega (arith, c.requires.step_of.0, length-shape_of old, length-axes_of old long) in
    let axis = get_or old.axes c.args.axis none in
    let read = read_at old c.args.axis long below in
    let sliced : IsSliced c.args.start c.args.len c.args.step axis c.sliced-ahead.result.0 c.sliced-ahead.result.1 =
    subst (λ s. IsSliced c.args.start c.args.len s axis c.sliced-ahead.result.0 c.sliced-ahead.result.1) (to_z-of_z w64 c.args.step c.ranges.step) c.sliced-ahead.ensures in
    omega (arith, sliced.reaches, axis_small old c.args.axis long below)

pub invariant_of-result : goal.invariant_of-result
invariant_of-result c =
    let old = c.args.self.now in
    let long : length old.axes ≡ 4 = search rules in
    let wide : length old.from ≡ 4 = search rules in
    let below : c.args.axis < old.count = omega (arith, c.requires.step_of.0, length-shape_of old, length-axes_of old long) in
    let axis = get_or old.axes c.args.axis none in
    let read = read_at old c.args.axis long below in
    let sliced : IsSliced c.args.start c.args.len c.args.step axis c.sliced-ahead.result.0 c.sliced-ahead.result.1 =
    subst (λ s. IsSliced c.args.start c.args.len s axis c.sliced-ahead.result.0 c.sliced-ahead.result.1) (to_z-of_z w64 c.args.step c.ranges.step) c.sliced-ahead.ensures in
    let grown = add_at_set old.from axis.root c.sliced-ahead.result.0 (omega (arith, axis_rooted old c.args.axis long below, wide)) in
    let put = take-set_in old.count old.axes c.args.axis c.sliced-ahead.result.1 below in
    let v = sliced_view old c.args.axis c.args.start c.args.len c.args.step c.sliced-ahead.result.0 axis c.sliced-ahead.result.1 long c.requires read sliced _ _ grown put in
    record {
      few = old.few;
      rooted = v.rooted;
      shape = v.shape;
      root_shape = old.root_shape;
      held = v.held;
      filled = v.filled;
    }

pub returns : goal.returns
returns c =
    let old = c.args.self.now in
    let long : length old.axes ≡ 4 = search rules in
    let wide : length old.from ≡ 4 = search rules in
    let below : c.args.axis < old.count = omega (arith, c.requires.step_of.0, length-shape_of old, length-axes_of old long) in
    let axis = get_or old.axes c.args.axis none in
    let read = read_at old c.args.axis long below in
    let sliced : IsSliced c.args.start c.args.len c.args.step axis c.sliced-ahead.result.0 c.sliced-ahead.result.1 =
    subst (λ s. IsSliced c.args.start c.args.len s axis c.sliced-ahead.result.0 c.sliced-ahead.result.1) (to_z-of_z w64 c.args.step c.ranges.step) c.sliced-ahead.ensures in
    let grown = add_at_set old.from axis.root c.sliced-ahead.result.0 (omega (arith, axis_rooted old c.args.axis long below, wide)) in
    let put = take-set_in old.count old.axes c.args.axis c.sliced-ahead.result.1 below in
    sliced_map old c.args.axis c.args.start c.args.len c.args.step c.sliced-ahead.result.0 axis c.sliced-ahead.result.1 long c.requires read sliced _ refl grown put
