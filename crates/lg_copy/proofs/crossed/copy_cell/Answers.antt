use Rattle.std.proofs.Common.{length, [], ◌∷◌, sym, subst, arith}
use Rattle.lg_copy.specs.Copying.{FitsAlong}
use Rattle.lg_copy.proofs.Inward.{step_small, inner_fits, last_fits, goes_along, goes_next, goes_all}
use Rattle.lg_copy.proofs.crossed.copy_cell.Goals as goal

pub places-here-requires-clause-small : goal.places-here-requires-clause-small
places-here-requires-clause-small g c =
    (step_small c.args.from c.args.to (length c.args.source.now) (length c.args.target.now) c.args.outer.now (c.args.inner.now ∷ []) c.loop-k.k c.requires.fits c.requires.source c.requires.target c.requires.axes c.loop-k-test.true).0

pub places-here-requires-clause-reads : goal.places-here-requires-clause-reads
places-here-requires-clause-reads g c =
    (step_small c.args.from c.args.to (length c.args.source.now) (length c.args.target.now) c.args.outer.now (c.args.inner.now ∷ []) c.loop-k.k c.requires.fits c.requires.source c.requires.target c.requires.axes c.loop-k-test.true).1

pub places-here-requires-clause-writes : goal.places-here-requires-clause-writes
places-here-requires-clause-writes g c =
    (step_small c.args.from c.args.to (length c.args.source.now) (length c.args.target.now) c.args.outer.now (c.args.inner.now ∷ []) c.loop-k.k c.requires.fits c.requires.source c.requires.target c.requires.axes c.loop-k-test.true).2

pub copy_run-requires-clause-fits : goal.copy_run-requires-clause-fits
copy_run-requires-clause-fits g c =
    let here = c.places-here.result.0 in
    let there = c.places-here.result.1 in
    let fits = inner_fits c.args.from c.args.to (length c.args.source.now) (length c.args.target.now) c.args.outer.now (c.args.inner.now ∷ []) c.loop-k.k here there c.requires.fits c.loop-k-test.true
    c.places-here.ensures.from c.places-here.ensures.to in
    subst (FitsAlong here there c.args.inner.now.count c.args.inner.now.from c.args.inner.now.to (length c.args.source.now)) (sym c.loop-k.invariant.same_length)
    (last_fits here there (length c.args.source.now) (length c.args.target.now) c.args.inner.now fits)

pub loop-k-preserved : goal.loop-k-preserved
loop-k-preserved g c =
    let here = c.places-here.result.0 in
    let there = c.places-here.result.1 in
    goes_next c.args.source.now c.args.outer.now (c.args.inner.now ∷ []) c.args.from c.args.to c.loop-k.k here there c.args.target.now c.loop-k.target c.copy_run.new.target
    c.places-here.ensures.from c.places-here.ensures.to c.loop-k.invariant (goes_along c.args.source.now c.args.inner.now here there c.loop-k.target c.copy_run.new.target c.copy_run.ensures)

pub returns : goal.returns
returns g c =
    goes_all c.args.source.now c.args.outer.now (c.args.inner.now ∷ []) c.args.from c.args.to c.loop-k.k c.args.target.now c.loop-k.target (omega (arith, c.loop-k-test.false, c.loop-k.auto.k-end)) c.loop-k.invariant
