use Rattle.std.proofs.Common.{◌≡◌, ◌+◌, ◌*◌, ◌<◌, ◌≤◌, min, drop, refl, ap, ◌∙◌, arith}
use Rattle.std.proofs.lemmas.List.{length-set}
use Rattle.lg_shape.specs.Shapes.{size_of}
use Rattle.lg_xform.proofs.Splits.{rows_all, rows_more, size_behind, stride_some, stride_none, slice_behind}
use Rattle.lg_xform.proofs.chain.steps.rows.Goals as goal
use Rattle.lg_xform.proofs.chain.steps.rows.Goals.{then-some, else-some}

pub size-requires : goal.size-requires
size-requires c =
    let sizes = c.args.sizes.now in
    let some : 0 < size_of sizes = omega (arith, c.if-some.true, c.size-some.ensures) in
    let behind = size_behind sizes (c.loop-axis.axis + 1) some in
    let same = ap size_of (slice_behind sizes (c.loop-axis.axis + 1)) in
    omega (arith, behind, same, c.requires.small)

pub loop-axis-preserved : goal.loop-axis-preserved
loop-axis-preserved c =
    let sizes = c.args.sizes.now in
    let unit = min 1 (size_of sizes) in
    let k = c.loop-axis.axis + 1 in
    let stride : c.if-some.axes ≡ unit * size_of (drop k sizes) = elim c.if-some.branch [
      | then-some w ↦ (let some : 0 < size_of sizes = omega (arith, w.if-some.true, c.size-some.ensures) in
          w.axes-is ∙ stride_some sizes _ k w.size.result some (slice_behind sizes k) w.size.ensures)
      | else-some w ↦ (let none : size_of sizes ≤ 0 = omega (arith, w.if-some.false, c.size-some.ensures) in
          w.axes-is ∙ stride_none sizes k none)
    ] in
    record {
      room = length-set c.loop-axis.axes c.loop-axis.axis _ ∙ c.loop-axis.invariant.room;
      so_far = rows_more sizes c.loop-axis.axes c.loop-axis.axis unit c.if-some.axes _ c.loop-axis-test.true
          (omega (arith, c.loop-axis-test.true, c.requires.few, c.loop-axis.invariant.room)) c.loop-axis.invariant.so_far stride refl;
    }

pub returns : goal.returns
returns c = rows_all c.args.sizes.now c.loop-axis.axes c.loop-axis.axis (min 1 (size_of c.args.sizes.now)) c.loop-axis-test.false c.loop-axis.auto.axis-end c.loop-axis.invariant.so_far
