use Rattle.std.proofs.Common.{◌+◌, ◌<◌, ◌≤◌, length, [], ◌∷◌, refl, sym, subst, arith}
use Rattle.lg_space.specs.Stored.{MAX_VOLUME}
use Rattle.lg_copy.specs.Copying.{AreSmall, Copied, Fits, Goes}
use Rattle.lg_copy.proofs.Inward.{step_small, part_fits, goes_none, goes_more, goes_all}
use Rattle.lg_copy.proofs.crossed.copy_plane.Goals as goal

pub loop-done-init : goal.loop-done-init
loop-done-init g c = record { within = omega arith; copied = goes_none c.args.source.now _ (c.args.inner.now ∷ []) c.args.from c.args.to c.args.target.now refl }

pub places-here-requires-clause-small : goal.places-here-requires-clause-small
places-here-requires-clause-small g c =
    (step_small c.args.from c.args.to (length c.args.source.now) (length c.args.target.now) c.args.outer.now (c.args.inner.now ∷ []) c.loop-done.done c.requires.fits c.requires.source c.requires.target c.requires.axes c.loop-done-test.true).0

pub places-here-requires-clause-reads : goal.places-here-requires-clause-reads
places-here-requires-clause-reads g c =
    (step_small c.args.from c.args.to (length c.args.source.now) (length c.args.target.now) c.args.outer.now (c.args.inner.now ∷ []) c.loop-done.done c.requires.fits c.requires.source c.requires.target c.requires.axes c.loop-done-test.true).1

pub places-here-requires-clause-writes : goal.places-here-requires-clause-writes
places-here-requires-clause-writes g c =
    (step_small c.args.from c.args.to (length c.args.source.now) (length c.args.target.now) c.args.outer.now (c.args.inner.now ∷ []) c.loop-done.done c.requires.fits c.requires.source c.requires.target c.requires.axes c.loop-done-test.true).2

pub copy_band-requires-clause-axes : goal.copy_band-requires-clause-axes
copy_band-requires-clause-axes g c =
    let is = sym c.with_count-band.ensures in
    let count = c.min-count.result in
    let few : count ≤ MAX_VOLUME = omega (arith, c.min-count.ensures, c.loop-done-test.true) in
    subst (λ a. AreSmall (a ∷ c.args.inner.now ∷ [])) is (few, c.requires.axes.1)

pub copy_band-requires-clause-fits : goal.copy_band-requires-clause-fits
copy_band-requires-clause-fits g c =
    let here = c.places-here.result.0 in
    let there = c.places-here.result.1 in
    let count = c.min-count.result in
    let within : c.loop-done.done + count ≤ c.args.outer.now.count = omega (arith, c.min-count.ensures, c.loop-done-test.true) in
    let some : 0 < count = omega (arith, c.min-count.ensures, c.loop-done-test.true) in
    let is = sym c.with_count-band.ensures in
    subst (Fits here there (c.with_count-band.result ∷ c.args.inner.now ∷ []) (length c.args.source.now)) (sym c.loop-done.invariant.copied.same_length)
    (subst (λ a. Fits here there (a ∷ c.args.inner.now ∷ []) (length c.args.source.now) (length c.args.target.now)) is
    (part_fits c.args.outer.now (c.args.inner.now ∷ []) c.args.from c.args.to c.loop-done.done count here there c.places-here.ensures.from c.places-here.ensures.to
    (length c.args.source.now) (length c.args.target.now) c.requires.fits within some))

pub loop-done-preserved : goal.loop-done-preserved
loop-done-preserved g c =
    let here = c.places-here.result.0 in
    let there = c.places-here.result.1 in
    let count = c.min-count.result in
    record {
      within = omega (arith, c.min-count.ensures, c.loop-done-test.true);
      copied = goes_more c.args.outer.now (c.args.inner.now ∷ []) c.args.from c.args.to c.loop-done.done count here there c.places-here.ensures.from c.places-here.ensures.to
          c.args.source.now c.args.target.now c.loop-done.target c.copy_band.new.target c.loop-done.invariant.copied (subst (λ a. Copied c.args.source.now c.loop-done.target c.copy_band.new.target (λ s q. Goes here there (a ∷ c.args.inner.now ∷ []) s q)) c.with_count-band.ensures c.copy_band.ensures);
    }

pub returns : goal.returns
returns g c = goes_all c.args.source.now c.args.outer.now (c.args.inner.now ∷ []) c.args.from c.args.to c.loop-done.done c.args.target.now c.loop-done.target (omega (arith, c.loop-done-test.false, c.loop-done.invariant.within)) c.loop-done.invariant.copied
