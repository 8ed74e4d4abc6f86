use Rattle.std.proofs.Common.{slice_get, sym, ap, subst, ◌∙◌}
use Rattle.lg_space.specs.Rectangle.{IsIn, place_in}
use Rattle.lg_tile.specs.Tile.{tile_items, tile_rect}
use Rattle.lg_copy.proofs.Landing.{IsSame, same_leads, same_once, place_same, lands, stays}
use Rattle.lg_copy.proofs.rectangle.copy_rect.Goals as goal

pub returns-clause-copied : goal.returns-clause-copied
returns-clause-copied g c = λ index inside.
    let rect = c.args.rect.now in
    let chain = c.identity-same.result in
    let source = tile_rect c.args.from.now in
    let target = tile_rect c.args.to.now in
    let new = tile_items c.copy_through.new.target in
    let old = tile_items c.args.to.now in
    let xs = tile_items c.args.from.now in
    let same : IsSame chain rect = record { mapped = c.identity-same.ensures.mapped } in
    let writes = same_leads chain rect same target c.identity-same.ensures.within c.requires.to in
    ap (λ r. slice_get new (place_in r index)) c.copy_through.ensures.rect
    ∙ ap (slice_get new) (sym (place_same chain rect same target index inside))
    ∙ lands source target rect chain chain writes (same_once chain rect same) xs old new c.copy_through.ensures.copied index inside
    ∙ ap (slice_get xs) (place_same chain rect same source index inside)

pub returns-clause-kept : goal.returns-clause-kept
returns-clause-kept g c = λ index inside outside.
    let rect = c.args.rect.now in
    let chain = c.identity-same.result in
    let source = tile_rect c.args.from.now in
    let target = tile_rect c.args.to.now in
    let new = tile_items c.copy_through.new.target in
    let old = tile_items c.args.to.now in
    let xs = tile_items c.args.from.now in
    let same : IsSame chain rect = record { mapped = c.identity-same.ensures.mapped } in
    let writes = same_leads chain rect same target c.identity-same.ensures.within c.requires.to in
    ap (λ r. slice_get new (place_in r index)) c.copy_through.ensures.rect
    ∙ stays source target rect chain chain writes xs old new c.copy_through.ensures.copied index inside
    (λ leads. outside (subst (IsIn rect) (sym (c.identity-same.ensures.mapped leads.0 leads.1) ∙ leads.2) leads.1))
