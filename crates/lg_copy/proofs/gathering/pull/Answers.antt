use Rattle.std.proofs.Common.{get_or, pos, sym, ap, subst, ◌∙◌}
use Rattle.lg_space.specs.Rectangle.{IsIn, place_in}
use Rattle.lg_tile.specs.Tiles.{numbers, rect_of}
use Rattle.lg_xform.specs.Chains.{mapped}
use Rattle.lg_copy.proofs.Landing.{IsSame, same_leads, same_once, place_same, lands, same_number}
use Rattle.lg_copy.proofs.gathering.pull.Goals as goal

pub returns-clause-numbers : goal.returns-clause-numbers
returns-clause-numbers c = λ index inside.
    let rect = c.rect.result.now in
    let second = c.identity.result in
    let chain = c.args.chain.now in
    let source = rect_of c.args.root.now in
    let target = rect_of c.args.tile.now in
    let new = numbers c.copy_any.new.target in
    let old = numbers c.args.tile.now in
    let xs = numbers c.args.root.now in
    let here = subst (λ r. IsIn r index) (sym c.rect.ensures.value) inside in
    let same : IsSame second rect = record { mapped = c.identity.ensures.mapped } in
    let writes = same_leads second rect same target c.identity.ensures.within (λ at in_rect. subst (λ r. IsIn r at) c.rect.ensures.value in_rect) in
    ap (λ r. get_or new (place_in r index) (pos 0)) c.copy_any.ensures.rect
    ∙ ap (λ k. get_or new k (pos 0)) (sym (place_same second rect same target index here))
    ∙ same_number new xs (place_in target (mapped second index)) (place_in source (mapped chain index))
    (lands source target rect chain second writes (same_once second rect same) xs old new c.copy_any.ensures.copied.copied index here)
