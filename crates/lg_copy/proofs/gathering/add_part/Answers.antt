use Rattle.std.proofs.Common.{length, get_or, pos, sym, ap, subst, ◌∙◌}
use Rattle.lg_space.specs.Rectangle.{IsIn, place_in}
use Rattle.lg_tile.specs.Tiles.{numbers, rect_of}
use Rattle.lg_xform.specs.Chains.{mapped}
use Rattle.lg_copy.proofs.Landing.{IsSame, same_leads, same_once, place_same, lands, stays, same_number}
use Rattle.lg_copy.proofs.Shares.{no_common}
use Rattle.lg_copy.proofs.gathering.add_part.Goals as goal

pub returns-then-axes-clause-copied : goal.returns-then-axes-clause-copied
returns-then-axes-clause-copied c = λ index in_joined in_part.
    absurd (no_common (rect_of c.args.joined.now) (rect_of c.args.part.now) index
    (λ e. c.if-axes.true (c.axes.ensures ∙ ap length c.rect-2.ensures.value ∙ sym e ∙ sym (ap length c.rect.ensures.value) ∙ sym c.axes-2.ensures)) in_joined in_part)

pub returns-clause-copied : goal.returns-clause-copied
returns-clause-copied c = λ index in_joined in_part.
    let rect = c.intersect-common.result in
    let chain = c.identity-same.result in
    let source = rect_of c.args.part.now in
    let target = rect_of c.args.joined.now in
    let new = numbers c.copy_any.new.target in
    let old = numbers c.args.joined.now in
    let xs = numbers c.args.part.now in
    let both = c.intersect-common.ensures.both in
    let here : IsIn rect index =
    (both index).1 (subst (λ r. IsIn r index) (sym c.rect-3.ensures.value) in_part, subst (λ r. IsIn r index) (sym c.rect.ensures.value) in_joined) in
    let same : IsSame chain rect = record { mapped = c.identity-same.ensures.mapped } in
    let writes = same_leads chain rect same target c.identity-same.ensures.within (λ at h. subst (λ r. IsIn r at) c.rect.ensures.value ((both at).0 h).1) in
    ap (λ r. get_or new (place_in r index) (pos 0)) c.copy_any.ensures.rect
    ∙ ap (λ k. get_or new k (pos 0)) (sym (place_same chain rect same target index here))
    ∙ same_number new xs (place_in target (mapped chain index)) (place_in source (mapped chain index))
    (lands source target rect chain chain writes (same_once chain rect same) xs old new c.copy_any.ensures.copied.copied index here)
    ∙ ap (λ k. get_or xs k (pos 0)) (place_same chain rect same source index here)

pub returns-clause-kept : goal.returns-clause-kept
returns-clause-kept c = λ index in_joined out.
    let rect = c.intersect-common.result in
    let chain = c.identity-same.result in
    let source = rect_of c.args.part.now in
    let target = rect_of c.args.joined.now in
    let new = numbers c.copy_any.new.target in
    let old = numbers c.args.joined.now in
    let xs = numbers c.args.part.now in
    let both = c.intersect-common.ensures.both in
    let same : IsSame chain rect = record { mapped = c.identity-same.ensures.mapped } in
    let writes = same_leads chain rect same target c.identity-same.ensures.within (λ at h. subst (λ r. IsIn r at) c.rect.ensures.value ((both at).0 h).1) in
    ap (λ r. get_or new (place_in r index) (pos 0)) c.copy_any.ensures.rect
    ∙ same_number new old (place_in target index) (place_in target index)
    (stays source target rect chain chain writes xs old new c.copy_any.ensures.copied.copied index in_joined
    (λ leads. out (subst (λ r. IsIn r index) c.rect-3.ensures.value ((both index).0 (subst (IsIn rect) (sym (c.identity-same.ensures.mapped leads.0 leads.1) ∙ leads.2) leads.1)).0)))
