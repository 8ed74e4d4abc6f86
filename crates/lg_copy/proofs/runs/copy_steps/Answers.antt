use Rattle.std.proofs.Common.{◌<◌, length, refl, arith}
use Rattle.lg_copy.proofs.Along.{along_next, along_all, first_read, first_write, read_at, write_at}
use Rattle.lg_copy.proofs.runs.copy_steps.Goals as goal

pub places-here-requires-clause-small : goal.places-here-requires-clause-small
places-here-requires-clause-small g c =
    let axis = c.args.axis.now in
    let fits = c.requires.fits in
    let some : 0 < axis.count = omega (arith, c.loop-k-test.true) in
    let source = length c.args.source.now in
    let target = length c.args.target.now in (
      omega (arith, first_read c.args.from c.args.to axis.count axis.from axis.to source target fits some, c.requires.source),
      omega (arith, first_write c.args.from c.args.to axis.count axis.from axis.to source target fits some, c.requires.target),
      omega (arith, c.loop-k-test.true, c.requires.count),
    )

pub loop-k-preserved : goal.loop-k-preserved
loop-k-preserved g c =
    let axis = c.args.axis.now in
    let from = c.args.from in
    let to = c.args.to in
    let k = c.loop-k.k in
    let x = c.index-source-here.result in
    let here = c.places-here.ensures.from in
    let there = c.places-here.ensures.to in
    let inside = read_at from to axis.count axis.from axis.to (length c.args.source.now) (length c.args.target.now) c.requires.fits k c.places-here.result.0 c.loop-k-test.true here in
    let within = write_at from to axis.count axis.from axis.to (length c.args.source.now) (length c.args.target.now) c.requires.fits k c.places-here.result.1 c.loop-k-test.true there in
    along_next c.args.source.now c.args.target.now c.loop-k.target _ from to k c.places-here.result.0 c.places-here.result.1 axis.from axis.to x x here there
    inside (omega (arith, within, c.loop-k.invariant.same_length)) c.index-source-here.is refl c.loop-k.invariant

pub returns : goal.returns
returns g c =
    along_all c.args.source.now c.args.target.now c.loop-k.target c.args.from c.args.to c.loop-k.k c.args.axis.now.count c.args.axis.now.from c.args.axis.now.to (omega (arith, c.loop-k-test.false, c.loop-k.auto.k-end)) c.loop-k.invariant
