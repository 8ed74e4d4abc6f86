use Rattle.std.proofs.Common.{◌≡◌, ◌≤◌, length, take, get_or, pos, to_z, of_z, w64, rules, sym, ap, subst, ◌∙◌, arith}
use Rattle.std.proofs.lemmas.List.{length-set}
use Rattle.std.specs.List.{All}
use Rattle.lg_space.specs.Stored.{MAX_END}
use Rattle.lg_copy.specs.Copying.{AreSmall}
use Rattle.lg_copy.proofs.Bridge.{over_next, over_all, over_small}
use Rattle.lg_copy.proofs.through.axes_of.Goals as goal

pub loop-axis-preserved : goal.loop-axis-preserved
loop-axis-preserved c =
    let k = c.loop-axis.axis in
    let rect = c.ranges-ranges.result.now in
    let few : length rect ≤ 4 = omega (arith, c.ranges-ranges.ensures.storable.axes, ap length c.ranges-ranges.ensures.value) in
    let long : length c.args.from.now ≡ 4 = search rules in
    let wide : length c.args.to.now ≡ 4 = search rules in
    let read : to_z w64 (of_z w64 (get_or c.args.from.now k (pos 0))) ≡ get_or c.args.from.now k (pos 0) = search rules in
    let write : to_z w64 (of_z w64 (get_or c.args.to.now k (pos 0))) ≡ get_or c.args.to.now k (pos 0) = search rules in
    record {
      room = length-set c.loop-axis.axes k _ ∙ c.loop-axis.invariant.room;
      so_far = over_next rect c.args.from.now c.args.to.now c.loop-axis.axes k _ _ c.loop-axis-test.true (omega (arith, few, long, c.loop-axis-test.true)) (omega (arith, few, wide, c.loop-axis-test.true))
          (omega (arith, few, c.loop-axis.invariant.room, c.loop-axis-test.true)) read write c.loop-axis.invariant.so_far;
    }

pub returns-clause-small : goal.returns-clause-small
returns-clause-small c =
    let rect = c.ranges-ranges.result.now in
    let is = over_all rect c.args.from.now c.args.to.now c.loop-axis.axes c.loop-axis.axis (omega (arith, c.loop-axis-test.false)) (omega (arith, c.loop-axis.auto.axis-end)) c.loop-axis.invariant.so_far in
    let ends : All (λ range. range.1 ≤ MAX_END) rect = subst (All (λ range. range.1 ≤ MAX_END)) (sym c.ranges-ranges.ensures.value) c.ranges-ranges.ensures.storable.ends in
    subst (λ n. AreSmall (take n c.loop-axis.axes)) (ap length c.ranges-ranges.ensures.value)
    (subst AreSmall (sym is) (over_small rect c.args.from.now c.args.to.now ends))
