use Rattle.std.proofs.Common.{get_or, pos, sym, ap, subst, ◌∙◌}
use Rattle.lg_space.specs.Rectangle.{IsIn, place_in}
use Rattle.lg_tile.specs.Tiles.{numbers, rect_of}
use Rattle.lg_xform.specs.Chains.{mapped}
use Rattle.lg_xform.specs.Footprints.{LeadsTo}
use Rattle.lg_copy.specs.Leading.{LeadsInto, RepeatsNone}
use Rattle.lg_copy.proofs.Landing.{IsSame, place_same, lands, stays, same_number}
use Rattle.lg_copy.proofs.scattering.scatter.Goals as goal

pub returns-clause-written : goal.returns-clause-written
returns-clause-written c = λ index inside.
    let rect = c.rect.result.now in
    let first = c.identity.result in
    let chain = c.args.chain.now in
    let source = rect_of c.args.tile.now in
    let target = rect_of c.args.root.now in
    let new = numbers c.copy_any.new.target in
    let old = numbers c.args.root.now in
    let xs = numbers c.args.tile.now in
    let here = subst (λ r. IsIn r index) (sym c.rect.ensures.value) inside in
    let same : IsSame first rect = record { mapped = c.identity.ensures.mapped } in
    let writes : LeadsInto chain rect target = subst (λ r. LeadsInto chain r target) (sym c.rect.ensures.value) c.requires.leads in
    let once : RepeatsNone (mapped chain) rect = subst (RepeatsNone (mapped chain)) (sym c.rect.ensures.value) c.requires.once in
    ap (λ r. get_or new (place_in r (mapped chain index)) (pos 0)) c.copy_any.ensures.rect
    ∙ same_number new xs (place_in target (mapped chain index)) (place_in source (mapped first index)) (lands source target rect first chain writes once xs old new c.copy_any.ensures.copied.copied index here)
    ∙ ap (λ k. get_or xs k (pos 0)) (place_same first rect same source index here)

pub returns-clause-kept : goal.returns-clause-kept
returns-clause-kept c = λ at inside none.
    let rect = c.rect.result.now in
    let first = c.identity.result in
    let chain = c.args.chain.now in
    let source = rect_of c.args.tile.now in
    let target = rect_of c.args.root.now in
    let new = numbers c.copy_any.new.target in
    let old = numbers c.args.root.now in
    let xs = numbers c.args.tile.now in
    let writes : LeadsInto chain rect target = subst (λ r. LeadsInto chain r target) (sym c.rect.ensures.value) c.requires.leads in
    ap (λ r. get_or new (place_in r at) (pos 0)) c.copy_any.ensures.rect
    ∙ same_number new old (place_in target at) (place_in target at)
    (stays source target rect first chain writes xs old new c.copy_any.ensures.copied.copied at inside (λ leads. none (subst (λ r. LeadsTo (mapped chain) r at) c.rect.ensures.value leads)))
