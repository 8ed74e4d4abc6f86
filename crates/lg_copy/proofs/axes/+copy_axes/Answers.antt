use Rattle.std.proofs.Common.{◌≡◌, ◌<◌, length, set, ◌∷◌, pos, rules, refl, sym, ap, subst, ◌∙◌, arith}
use Rattle.lg_copy.specs.declared.axis.Axis.{Axis}
use Rattle.lg_copy.specs.Copying.{Copied, Goes, Fits, AreSome, AreSmall}
use Rattle.lg_copy.proofs.Inward.{no_axes, only_axis, first_fits, step_small, inner_fits, last_fits, goes_none, goes_one, goes_along, goes_next, goes_all, first_along, goes_single}
use Rattle.lg_copy.proofs.axes.+copy_axes.Goals as goal

pub offset_bounds-source-from : goal.offset_bounds-source-from
offset_bounds-source-from g t c = omega (arith, (first_fits c.args.from c.args.to (length c.args.source.now) (length c.args.target.now) c.args.axes.now c.requires.fits).0)

pub bounds-source-from : goal.bounds-source-from
bounds-source-from g t c = (first_fits c.args.from c.args.to (length c.args.source.now) (length c.args.target.now) c.args.axes.now c.requires.fits).0

pub offset_bounds-target-to : goal.offset_bounds-target-to
offset_bounds-target-to g t c =
    let inside : c.args.to < length c.args.target.now = (first_fits c.args.from c.args.to (length c.args.source.now) (length c.args.target.now) c.args.axes.now c.requires.fits).1 in
    search rules

pub bounds-target-to : goal.bounds-target-to
bounds-target-to g t c = (first_fits c.args.from c.args.to (length c.args.source.now) (length c.args.target.now) c.args.axes.now c.requires.fits).1

pub returns-in_default : goal.returns-in_default
returns-in_default g t c =
    let places = first_fits c.args.from c.args.to (length c.args.source.now) (length c.args.target.now) c.args.axes.now c.requires.fits in
    let x = c.index-source-from.result in
    subst (λ axes. Copied c.args.source.now c.args.target.now (set c.args.target.now c.args.to x) (λ s q. Goes c.args.from c.args.to axes s q)) (sym (no_axes c.args.axes.now c.in_default.ensures.cases))
    (goes_one c.args.source.now c.args.from c.args.to c.args.target.now (set c.args.target.now c.args.to x) x x places.0 places.1 c.index-source-from.is refl)

pub copy_run-requires-clause-some : goal.copy_run-requires-clause-some
copy_run-requires-clause-some g t c = (subst AreSome c.in-Some.ensures.cases.0 c.requires.fits.some).0

pub copy_run-requires-clause-count : goal.copy_run-requires-clause-count
copy_run-requires-clause-count g t c = (subst AreSmall c.in-Some.ensures.cases.0 c.requires.axes).0

pub copy_run-requires-clause-fits : goal.copy_run-requires-clause-fits
copy_run-requires-clause-fits g t c =
    let none : length c.in-Some.inner.now ≡ 0 = grind arith in
    let is = c.in-Some.ensures.cases.0 ∙ ap (λ axes. c.in-Some.axis.now ∷ axes) (no_axes c.in-Some.inner.now none) in
    last_fits c.args.from c.args.to (length c.args.source.now) (length c.args.target.now) c.in-Some.axis.now
    (subst (λ axes. Fits c.args.from c.args.to axes (length c.args.source.now) (length c.args.target.now)) is c.requires.fits)

pub returns-then-is_empty : goal.returns-then-is_empty
returns-then-is_empty g t c =
    let none : length c.in-Some.inner.now ≡ 0 = grind arith in
    let is = c.in-Some.ensures.cases.0 ∙ ap (λ axes. c.in-Some.axis.now ∷ axes) (no_axes c.in-Some.inner.now none) in
    subst (λ axes. Copied c.args.source.now c.args.target.now c.copy_run.new.target (λ s q. Goes c.args.from c.args.to axes s q)) (sym is)
    (goes_along c.args.source.now c.in-Some.axis.now c.args.from c.args.to c.args.target.now c.copy_run.new.target c.copy_run.ensures)

pub copy_run-requires-then-is_single-clause-some : goal.copy_run-requires-then-is_single-clause-some
copy_run-requires-then-is_single-clause-some g t c = (subst AreSome c.in-Some.ensures.cases.0 c.requires.fits.some).0

pub copy_run-requires-then-is_single-clause-count : goal.copy_run-requires-then-is_single-clause-count
copy_run-requires-then-is_single-clause-count g t c = (subst AreSmall c.in-Some.ensures.cases.0 c.requires.axes).0

pub copy_run-requires-then-is_single-clause-fits : goal.copy_run-requires-then-is_single-clause-fits
copy_run-requires-then-is_single-clause-fits g t c =
    first_along c.in-Some.axis.now c.in-Some.inner.now c.args.from c.args.to (length c.args.source.now) (length c.args.target.now)
    (subst (λ axes. Fits c.args.from c.args.to axes (length c.args.source.now) (length c.args.target.now)) c.in-Some.ensures.cases.0 c.requires.fits)

pub returns-then-is_single : goal.returns-then-is_single
returns-then-is_single g t c =
    subst (λ axes. Copied c.args.source.now c.args.target.now c.copy_run-then-is_single.new.target (λ s q. Goes c.args.from c.args.to axes s q)) (sym c.in-Some.ensures.cases.0)
    (goes_single c.args.source.now c.in-Some.axis.now c.in-Some.inner.now c.args.from c.args.to c.args.target.now c.copy_run-then-is_single.new.target (c.is_single.ensures c.if-is_single.true)
    c.copy_run-then-is_single.ensures)

pub copy_crossed-requires-clause-axes : goal.copy_crossed-requires-clause-axes
copy_crossed-requires-clause-axes g t c =
    let none : Axis = record { count = 0; from = pos 0; to = pos 0 } in
    let one : length c.in-Some.inner.now ≡ 1 = grind arith in
    let is = c.in-Some.ensures.cases.0 ∙ ap (λ axes. c.in-Some.axis.now ∷ axes) (only_axis c.in-Some.inner.now none one) in
    subst AreSmall is c.requires.axes

pub copy_crossed-requires-clause-fits : goal.copy_crossed-requires-clause-fits
copy_crossed-requires-clause-fits g t c =
    let none : Axis = record { count = 0; from = pos 0; to = pos 0 } in
    let one : length c.in-Some.inner.now ≡ 1 = grind arith in
    let is = c.in-Some.ensures.cases.0 ∙ ap (λ axes. c.in-Some.axis.now ∷ axes) (only_axis c.in-Some.inner.now none one) in
    subst (λ axes. Fits c.args.from c.args.to axes (length c.args.source.now) (length c.args.target.now)) is c.requires.fits

pub returns-then-is_crossed : goal.returns-then-is_crossed
returns-then-is_crossed g t c =
    let none : Axis = record { count = 0; from = pos 0; to = pos 0 } in
    let one : length c.in-Some.inner.now ≡ 1 = grind arith in
    let is = c.in-Some.ensures.cases.0 ∙ ap (λ axes. c.in-Some.axis.now ∷ axes) (only_axis c.in-Some.inner.now none one) in
    subst (λ axes. Copied c.args.source.now c.args.target.now c.copy_crossed.new.target (λ s q. Goes c.args.from c.args.to axes s q)) (sym is) c.copy_crossed.ensures

pub loop-k-init : goal.loop-k-init
loop-k-init g t c = goes_none c.args.source.now _ c.in-Some.inner.now c.args.from c.args.to c.args.target.now refl

pub places-here-requires-clause-small : goal.places-here-requires-clause-small
places-here-requires-clause-small g t c =
    (step_small c.args.from c.args.to (length c.args.source.now) (length c.args.target.now) c.in-Some.axis.now c.in-Some.inner.now c.loop-k.k
    (subst (λ axes. Fits c.args.from c.args.to axes (length c.args.source.now) (length c.args.target.now)) c.in-Some.ensures.cases.0 c.requires.fits)
    c.requires.source c.requires.target (subst AreSmall c.in-Some.ensures.cases.0 c.requires.axes) c.loop-k-test.true).0

pub places-here-requires-clause-reads : goal.places-here-requires-clause-reads
places-here-requires-clause-reads g t c =
    (step_small c.args.from c.args.to (length c.args.source.now) (length c.args.target.now) c.in-Some.axis.now c.in-Some.inner.now c.loop-k.k
    (subst (λ axes. Fits c.args.from c.args.to axes (length c.args.source.now) (length c.args.target.now)) c.in-Some.ensures.cases.0 c.requires.fits)
    c.requires.source c.requires.target (subst AreSmall c.in-Some.ensures.cases.0 c.requires.axes) c.loop-k-test.true).1

pub places-here-requires-clause-writes : goal.places-here-requires-clause-writes
places-here-requires-clause-writes g t c =
    (step_small c.args.from c.args.to (length c.args.source.now) (length c.args.target.now) c.in-Some.axis.now c.in-Some.inner.now c.loop-k.k
    (subst (λ axes. Fits c.args.from c.args.to axes (length c.args.source.now) (length c.args.target.now)) c.in-Some.ensures.cases.0 c.requires.fits)
    c.requires.source c.requires.target (subst AreSmall c.in-Some.ensures.cases.0 c.requires.axes) c.loop-k-test.true).2

pub copy_axes-requires : goal.copy_axes-requires
copy_axes-requires g t c κs within =
    let axis = c.in-Some.axis.now in
    let inner = c.in-Some.inner.now in
    let source = length c.args.source.now in
    let here = c.places-here.result.0 in
    let there = c.places-here.result.1 in
    let fits : Fits here there inner source (length c.args.target.now) =
    inner_fits c.args.from c.args.to source (length c.args.target.now) axis inner c.loop-k.k here there
    (subst (λ axes. Fits c.args.from c.args.to axes source (length c.args.target.now)) c.in-Some.ensures.cases.0 c.requires.fits) c.loop-k-test.true
    c.places-here.ensures.from c.places-here.ensures.to in (
      search rules,
      (
        search rules,
        (
          (subst AreSmall c.in-Some.ensures.cases.0 c.requires.axes).1,
          (
            c.requires.source,
            (
              omega (arith, c.loop-k.invariant.same_length, c.requires.target),
              subst (Fits here there inner source) (sym c.loop-k.invariant.same_length) fits,
            ),
          ),
        ),
      ),
    )

pub loop-k-preserved : goal.loop-k-preserved
loop-k-preserved g t c =
    goes_next c.args.source.now c.in-Some.axis.now c.in-Some.inner.now c.args.from c.args.to c.loop-k.k c.places-here.result.0 c.places-here.result.1 c.args.target.now c.loop-k.target
    c.copy_axes.new.target c.places-here.ensures.from c.places-here.ensures.to c.loop-k.invariant c.copy_axes.ensures

pub returns : goal.returns
returns g t c =
    subst (λ axes. Copied c.args.source.now c.args.target.now c.loop-k.target (λ s q. Goes c.args.from c.args.to axes s q)) (sym c.in-Some.ensures.cases.0)
    (goes_all c.args.source.now c.in-Some.axis.now c.in-Some.inner.now c.args.from c.args.to c.loop-k.k c.args.target.now c.loop-k.target (omega (arith, c.loop-k-test.false, c.loop-k.auto.k-end)) c.loop-k.invariant)
