use Rattle.std.proofs.Common.{◌≡◌, ℕ, List, length, map, get_or, pos, OnOk, sym, ap, subst, ◌∙◌, arith}
use Rattle.std.proofs.lemmas.Result.{on_ok_weaker}
use Rattle.lg_space.specs.Rectangle.{IsIn, volume_of, place_in}
use Rattle.lg_shape.specs.Shapes.{size_of}
use Rattle.lg_operations.specs.Gathering.{AllLie, IsGathered, number_through}
use Rattle.lg_operations.proofs.Windows.{IsStrided, no_index, sizes_volume, strides_lie, window_count, window_numbers}
use Rattle.lg_operations.proofs.gathering.append_part.Goals as goal

pub returns-then-volume-eq0-clause-numbers : goal.returns-then-volume-eq0-clause-numbers
returns-then-volume-eq0-clause-numbers g c = λ index inside. absurd (no_index c.args.rect.now index inside (sym c.volume.ensures.value ∙ c.if-volume-eq0.true))

pub append_all-requires-clause-some : goal.append_all-requires-clause-some
append_all-requires-clause-some g c =
    omega (arith, ap size_of (c.extents.ensures.value ∙ c.sizes_of.ensures.value), sizes_volume c.args.rect.now, c.volume.ensures.value, c.if-volume-eq0.false)

pub append_all-requires-clause-lie : goal.append_all-requires-clause-lie
append_all-requires-clause-lie g c =
    let chain = c.args.chain.now in
    let tile = c.rect-2.result.now in
    let strides = c.strides-strides.result in
    let h : IsStrided chain tile c.args.rect.now strides.base strides.axes = record {
      root = c.rect-2.ensures.value ∙ c.requires.root;
      within = c.requires.within;
      inside = c.root-root.ensures.inside;
      places = c.strides-strides.ensures.places;
    } in
    let full : length c.items.result.now ≡ volume_of tile = c.items.ensures.full ∙ ap volume_of (sym c.rect-2.ensures.value) in
    subst (λ es. AllLie strides.base strides.axes es (length c.items.result.now)) (sym (c.extents.ensures.value ∙ c.sizes_of.ensures.value))
    (strides_lie chain tile c.args.rect.now strides.base strides.axes h (length c.items.result.now) full)

pub returns-clause-count : goal.returns-clause-count
returns-clause-count g c =
    let chain = c.args.chain.now in
    let tile = c.rect-2.result.now in
    let strides = c.strides-strides.result in
    let h : IsStrided chain tile c.args.rect.now strides.base strides.axes = record {
      root = c.rect-2.ensures.value ∙ c.requires.root;
      within = c.requires.within;
      inside = c.root-root.ensures.inside;
      places = c.strides-strides.ensures.places;
    } in
    on_ok_weaker c.append_all.result (λ gathered. window_count chain tile c.args.rect.now strides.base strides.axes h c.items.result.now c.args.out.now.items c.append_all.new.out.items c.requires.none
    (subst (λ es. IsGathered c.items.result.now strides.base strides.axes es c.args.out.now.items c.append_all.new.out.items) (c.extents.ensures.value ∙ c.sizes_of.ensures.value) gathered)) c.append_all.ensures

pub returns-clause-numbers : goal.returns-clause-numbers
returns-clause-numbers g c =
    let chain = c.args.chain.now in
    let rect = c.args.rect.now in
    let tile = c.rect-2.result.now in
    let strides = c.strides-strides.result in
    let h : IsStrided chain tile rect strides.base strides.axes = record {
      root = c.rect-2.ensures.value ∙ c.requires.root;
      within = c.requires.within;
      inside = c.root-root.ensures.inside;
      places = c.strides-strides.ensures.places;
    } in
    let full : length c.items.result.now ≡ volume_of tile = c.items.ensures.full ∙ ap volume_of (sym c.rect-2.ensures.value) in
    subst (λ (source : List g.row.T.Denot). OnOk c.append_all.result ((index : List ℕ) → IsIn rect index
    → get_or (map g.T.Elem.number c.append_all.new.out.items) (place_in rect index) (pos 0) ≡ number_through (map g.T.Elem.number source) chain index)) c.items.ensures.value
    (on_ok_weaker c.append_all.result (λ gathered. window_numbers chain tile rect strides.base strides.axes h g.T.Elem.number c.items.result.now c.args.out.now.items c.append_all.new.out.items full c.requires.none
    (subst (λ es. IsGathered c.items.result.now strides.base strides.axes es c.args.out.now.items c.append_all.new.out.items) (c.extents.ensures.value ∙ c.sizes_of.ensures.value) gathered)) c.append_all.ensures)
