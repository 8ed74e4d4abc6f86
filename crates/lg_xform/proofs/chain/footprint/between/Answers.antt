use Rattle.std.proofs.Common.{◌∙◌, ℕ, ◌+◌, ◌<◌, ◌≤◌, length, get_or, sym, ap, subst, arith}
use Rattle.std.proofs.lemmas.List.{length-set}
use Rattle.std.proofs.lemmas.List.Elements.{All-get_or}
use Rattle.lg_space.specs.Stored.{MAX_END, IsStorable}
use Rattle.lg_xform.specs.Corners.{boxed}
use Rattle.lg_xform.proofs.Corners.{length-boxed, get_or-boxed, boxed_more, boxed_all}
use Rattle.lg_xform.proofs.chain.footprint.between.Goals as goal

pub overflow_add-ranges : goal.overflow_add-ranges
overflow_add-ranges c =
    let low = c.args.low.now in
    let high = c.args.high.now in
    let axis = c.loop-axis.axis in
    let lt : axis < length low = omega (arith, c.loop-axis-test.true, ap length c.coordinates-lows.ensures.value) in
    let end = All-get_or (λ (range : ℕ × ℕ). range.1 ≤ MAX_END) (boxed low high) axis (0, 0) (omega (arith, length-boxed low high c.requires.same, lt)) c.requires.storable.ends in
    let is = get_or-boxed low high axis (0, 0) lt c.requires.same in
    let small : get_or high axis 0 + 1 ≤ MAX_END = subst (λ (range : ℕ × ℕ). range.1 ≤ MAX_END) is end in
    omega (arith, small, ap (λ l. get_or l axis 0) c.coordinates-highs.ensures.value)

pub loop-axis-preserved : goal.loop-axis-preserved
loop-axis-preserved c =
    let low = c.args.low.now in
    let high = c.args.high.now in
    let axis = c.loop-axis.axis in
    let lt : axis < length low = omega (arith, c.loop-axis-test.true, ap length c.coordinates-lows.ensures.value) in
    record {
      room = length-set c.loop-axis.ranges axis _ ∙ c.loop-axis.invariant.room;
      so_far = boxed_more low high c.loop-axis.ranges axis _ _ lt c.requires.same (omega (arith, lt, c.coordinates-lows.ensures.few, c.loop-axis.invariant.room))
          (ap (λ l. get_or l axis 0) c.coordinates-lows.ensures.value) (ap (λ l. get_or l axis 0) c.coordinates-highs.ensures.value) c.loop-axis.invariant.so_far;
    }

pub new-requires : goal.new-requires
new-requires c =
    let all = boxed_all c.args.low.now c.args.high.now c.coordinates-lows.result.now c.loop-axis.ranges c.loop-axis.axis c.coordinates-lows.ensures.value c.requires.same
    c.loop-axis-test.false c.loop-axis.auto.axis-end c.loop-axis.invariant.so_far in
    subst IsStorable (sym all) c.requires.storable

pub returns : goal.returns
returns c =
    c.new.ensures ∙ boxed_all c.args.low.now c.args.high.now c.coordinates-lows.result.now c.loop-axis.ranges c.loop-axis.axis c.coordinates-lows.ensures.value c.requires.same
    c.loop-axis-test.false c.loop-axis.auto.axis-end c.loop-axis.invariant.so_far
