use Rattle.std.proofs.Common.{◌≡◌, length, pos, to_z, of_z, w64, rules, sym, ap, ◌∙◌}
use Rattle.lg_copy.proofs.Along.{along_same, fits_same, run_within}
use Rattle.lg_copy.proofs.runs.copy_run.Goals as goal

pub copy_block-requires-clause-source : goal.copy_block-requires-clause-source
copy_block-requires-clause-source g c =
    let axis = c.args.axis.now in
    let kept : axis.from ≡ to_z w64 (of_z w64 axis.from) = search rules in
    let one : axis.from ≡ pos 1 = kept ∙ ap (to_z w64) c.if-axis-eq1.true in
    run_within c.args.from axis.count (length c.args.source.now) axis.from one c.requires.some c.requires.fits.reads

pub copy_block-requires-clause-target : goal.copy_block-requires-clause-target
copy_block-requires-clause-target g c =
    let axis = c.args.axis.now in
    let kept : axis.to ≡ to_z w64 (of_z w64 axis.to) = search rules in
    let one : axis.to ≡ pos 1 = kept ∙ ap (to_z w64) c.if-axis-ne1.false in
    run_within c.args.to axis.count (length c.args.target.now) axis.to one c.requires.some c.requires.fits.writes

pub returns-then-axis-eq1 : goal.returns-then-axis-eq1
returns-then-axis-eq1 g c =
    let axis = c.args.axis.now in
    let kept_from : to_z w64 (of_z w64 axis.from) ≡ axis.from = search rules in
    let kept_to : to_z w64 (of_z w64 axis.to) ≡ axis.to = search rules in
    let from : pos 1 ≡ axis.from = sym (ap (to_z w64) c.if-axis-eq1.true) ∙ kept_from in
    let to : pos 1 ≡ axis.to = sym (ap (to_z w64) c.if-axis-ne1.false) ∙ kept_to in
    along_same c.args.source.now c.args.target.now c.copy_block.new.target c.args.from c.args.to axis.count (pos 1) (pos 1) axis.from axis.to from to c.copy_block.ensures

pub copy_same-requires-clause-fits : goal.copy_same-requires-clause-fits
copy_same-requires-clause-fits g c =
    let axis = c.args.axis.now in
    let kept_from : axis.from ≡ to_z w64 (of_z w64 axis.from) = search rules in
    let kept_to : axis.to ≡ to_z w64 (of_z w64 axis.to) = search rules in
    let from : axis.from ≡ pos 0 = kept_from ∙ ap (to_z w64) c.if-axis-eq0.true in
    let to : axis.to ≡ pos 1 = kept_to ∙ ap (to_z w64) c.if-axis-ne1.false in
    fits_same c.args.from c.args.to axis.count axis.from axis.to (pos 0) (pos 1) (length c.args.source.now) (length c.args.target.now) from to c.requires.fits

pub returns-then-axis-eq0 : goal.returns-then-axis-eq0
returns-then-axis-eq0 g c =
    let axis = c.args.axis.now in
    let kept_from : to_z w64 (of_z w64 axis.from) ≡ axis.from = search rules in
    let kept_to : to_z w64 (of_z w64 axis.to) ≡ axis.to = search rules in
    let from : pos 0 ≡ axis.from = sym (ap (to_z w64) c.if-axis-eq0.true) ∙ kept_from in
    let to : pos 1 ≡ axis.to = sym (ap (to_z w64) c.if-axis-ne1.false) ∙ kept_to in
    along_same c.args.source.now c.args.target.now c.copy_same.new.target c.args.from c.args.to axis.count (pos 0) (pos 1) axis.from axis.to from to c.copy_same.ensures

pub copy_apart-requires-clause-fits : goal.copy_apart-requires-clause-fits
copy_apart-requires-clause-fits g c =
    let axis = c.args.axis.now in
    let kept_from : axis.from ≡ to_z w64 (of_z w64 axis.from) = search rules in
    let kept_to : axis.to ≡ to_z w64 (of_z w64 axis.to) = search rules in
    let to : axis.to ≡ pos 1 = kept_to ∙ ap (to_z w64) c.if-axis-ne1.false in
    fits_same c.args.from c.args.to axis.count axis.from axis.to (to_z w64 (of_z w64 axis.from)) (pos 1) (length c.args.source.now) (length c.args.target.now) kept_from to c.requires.fits

pub returns : goal.returns
returns g c =
    let axis = c.args.axis.now in
    let kept_from : to_z w64 (of_z w64 axis.from) ≡ axis.from = search rules in
    let kept_to : to_z w64 (of_z w64 axis.to) ≡ axis.to = search rules in
    let to : pos 1 ≡ axis.to = sym (ap (to_z w64) c.if-axis-ne1.false) ∙ kept_to in
    along_same c.args.source.now c.args.target.now c.copy_apart.new.target c.args.from c.args.to axis.count (to_z w64 (of_z w64 axis.from)) (pos 1) axis.from axis.to kept_from to c.copy_apart.ensures
