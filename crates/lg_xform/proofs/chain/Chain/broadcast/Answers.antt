use Rattle.std.proofs.Common.{◌≡◌, ◌≤◌, ◌<◌, ◌-◌, length, get_or, ap, ◌∙◌, arith, rules}
use Rattle.std.proofs.lemmas.List.{length-set}
use Rattle.lg_space.specs.declared.point.TheConstants.{MAX_AXES}
use Rattle.lg_xform.specs.Chains.{axes_of, shape_of}
use Rattle.lg_xform.proofs.Repeats.{repeats, few_axes, stretched_axes, kept_axis, freed_axis, axis_ahead, axes_more, axes_all, repeated_view, repeated_shape, repeated_layout, repeated_unsplit}
use Rattle.lg_xform.proofs.chain.Chain.broadcast.Goals as goal
use Rattle.lg_xform.proofs.chain.Chain.broadcast.Goals.{in-Some, in_default, in_default-via-in-Some+else-self-old, in_default-via-in_default}

pub overflow_sub-ahead : goal.overflow_sub-ahead
overflow_sub-ahead c =
    let long : length c.args.self.now.axes ≡ 4 = search rules in
    few_axes c.args.self.now c.args.to.now c.extents-extents.result.now long c.requires c.extents-extents.ensures.value

pub loop-k-preserved : goal.loop-k-preserved
loop-k-preserved c =
    let old = c.args.self.now in
    let to = c.extents-extents.result.now in
    let k = c.loop-k.k in
    let new = c.match-checked_sub.axes in
    let long : length old.axes ≡ 4 = search rules in
    let few = few_axes old c.args.to.now to long c.requires c.extents-extents.ensures.value in
    let lt = c.loop-k-test.true in
    let is : new ≡ get_or (stretched_axes (length to - old.count) (axes_of old) to) k new = elim c.match-checked_sub.branch [
      | in-Some w ↦ kept_axis old to long few k new lt w.in-Some.old w.in-Some.ensures.0 w.in-Some.ensures.1 w.if-self-old.true w.axes-is
      | in_default w ↦ elim w.in_default.branch [
        | in_default-via-in-Some+else-self-old v ↦ freed_axis old to long few k new lt v.in-Some.old v.in-Some.ensures.0 v.in-Some.ensures.1 v.if-self-old.false w.axes-is
        | in_default-via-in_default v ↦ axis_ahead old to long few k new lt (let past = v.in_default.ensures in omega arith) w.axes-is
      ]
    ] in
    let room : k < length c.loop-k.axes = omega (arith, c.loop-k.invariant.room, lt, ap length c.extents-extents.ensures.value, c.extents-extents.ensures.shape.axes) in
    record {
      room = length-set c.loop-k.axes k _ ∙ c.loop-k.invariant.room;
      so_far = axes_more old to long few k new lt c.loop-k.axes room c.loop-k.invariant.so_far is;
    }

pub invariant_of-result : goal.invariant_of-result
invariant_of-result c =
    let old = c.args.self.now in
    let to = c.args.to.now in
    let long : length old.axes ≡ 4 = search rules in
    let h = repeats (shape_of old) to c.requires in
    let e = c.extents-extents.ensures.value in
    let all = axes_all old to c.extents-extents.result.now c.loop-k.axes c.loop-k.k long c.requires e c.loop-k-test.false c.loop-k.auto.k-end c.loop-k.invariant.so_far in
    let v = repeated_view old to h _ all c.extents-extents.ensures.shape in
    let count : length c.extents-extents.result.now ≤ MAX_AXES = omega (arith, ap length e, c.extents-extents.ensures.shape.axes) in
    record {
      few = count;
      rooted = v.rooted;
      shape = v.shape;
      root_shape = old.root_shape;
      held = v.held;
      filled = v.filled;
    }

pub returns-clause-shape : goal.returns-clause-shape
returns-clause-shape c =
    let old = c.args.self.now in
    let to = c.args.to.now in
    let long : length old.axes ≡ 4 = search rules in
    let h = repeats (shape_of old) to c.requires in
    let e = c.extents-extents.ensures.value in
    let all = axes_all old to c.extents-extents.result.now c.loop-k.axes c.loop-k.k long c.requires e c.loop-k-test.false c.loop-k.auto.k-end c.loop-k.invariant.so_far in
    repeated_shape old to h _ all

pub returns-clause-layout : goal.returns-clause-layout
returns-clause-layout c =
    let old = c.args.self.now in
    let to = c.args.to.now in
    let long : length old.axes ≡ 4 = search rules in
    let h = repeats (shape_of old) to c.requires in
    let e = c.extents-extents.ensures.value in
    let all = axes_all old to c.extents-extents.result.now c.loop-k.axes c.loop-k.k long c.requires e c.loop-k-test.false c.loop-k.auto.k-end c.loop-k.invariant.so_far in
    repeated_layout old to h _ all

pub returns-clause-unsplit : goal.returns-clause-unsplit
returns-clause-unsplit c =
    let old = c.args.self.now in
    let to = c.args.to.now in
    let long : length old.axes ≡ 4 = search rules in
    let h = repeats (shape_of old) to c.requires in
    let e = c.extents-extents.ensures.value in
    let all = axes_all old to c.extents-extents.result.now c.loop-k.axes c.loop-k.k long c.requires e c.loop-k-test.false c.loop-k.auto.k-end c.loop-k.invariant.so_far in
    repeated_unsplit old to h _ all
