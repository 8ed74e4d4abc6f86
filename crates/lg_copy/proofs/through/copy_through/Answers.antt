use Rattle.std.proofs.Common.{◌≡◌, length, take, pos, sym, ap, subst, ◌∙◌, arith}
use Rattle.lg_space.specs.Rectangle.{place_in}
use Rattle.lg_tile.specs.Tile.{tile_items, tile_rect}
use Rattle.lg_xform.specs.Chains.{mapped}
use Rattle.lg_copy.specs.Copying.{Copied, Fits, Goes}
use Rattle.lg_copy.specs.Leading.{LeadsBoth}
use Rattle.lg_copy.proofs.Bridge.{AreStrides, rect_fits, rect_copied, rect_none, refilled}
use Rattle.lg_copy.proofs.through.copy_through.Goals as goal

pub returns-then-volume-eq0-clause-copied : goal.returns-then-volume-eq0-clause-copied
returns-then-volume-eq0-clause-copied g c =
    rect_none c.args.rect.now (tile_rect c.args.source.now) (tile_rect c.args.target.now) c.args.first.now c.args.second.now (tile_items c.args.source.now) (tile_items c.args.target.now)
    (sym c.volume.ensures.value ∙ c.if-volume-eq0.true)

pub copy_axes-requires-clause-fits : goal.copy_axes-requires-clause-fits
copy_axes-requires-clause-fits g c =
    let rect = c.args.rect.now in
    let source = tile_rect c.args.source.now in
    let target = tile_rect c.args.target.now in
    let reads = c.strides-from.result.axes in
    let writes = c.strides-to.result.axes in
    let r : AreStrides source c.args.first.now rect c.strides-from.result.base reads = record {
      long = omega (arith, c.axes_of-axes.ensures.long.0, c.axes_of-axes.ensures.few);
      inside = c.requires.reads.inside;
      places = λ index h. ap (λ t. pos (place_in t (mapped c.args.first.now index))) (sym c.rect-3.ensures.value) ∙ c.strides-from.ensures.places index h;
    } in
    let w : AreStrides target c.args.second.now rect c.strides-to.result.base writes = record {
      long = omega (arith, c.axes_of-axes.ensures.long.1, c.axes_of-axes.ensures.few);
      inside = c.requires.writes.inside;
      places = λ index h. ap (λ t. pos (place_in t (mapped c.args.second.now index))) (sym c.rect-4.ensures.value) ∙ c.strides-to.ensures.places index h;
    } in
    let axes = ap (λ n. take n c.axes_of-axes.result) c.axes.ensures ∙ c.axes_of-axes.ensures.axes in
    subst (λ list. Fits c.strides-from.result.base c.strides-to.result.base list (length c.items.result.now) (length c.items_mut.result.now)) (sym axes)
    (rect_fits rect source target c.args.first.now c.args.second.now c.strides-from.result.base c.strides-to.result.base reads writes r w (length c.items.result.now) (length c.items_mut.result.now)
    (omega (arith, c.volume.ensures.value, c.if-volume-eq0.false)) c.items.ensures.full c.items_mut.ensures.full)

pub returns-clause-copied : goal.returns-clause-copied
returns-clause-copied g c =
    let rect = c.args.rect.now in
    let source = tile_rect c.args.source.now in
    let target = tile_rect c.args.target.now in
    let reads = c.strides-from.result.axes in
    let writes = c.strides-to.result.axes in
    let r : AreStrides source c.args.first.now rect c.strides-from.result.base reads = record {
      long = omega (arith, c.axes_of-axes.ensures.long.0, c.axes_of-axes.ensures.few);
      inside = c.requires.reads.inside;
      places = λ index h. ap (λ t. pos (place_in t (mapped c.args.first.now index))) (sym c.rect-3.ensures.value) ∙ c.strides-from.ensures.places index h;
    } in
    let w : AreStrides target c.args.second.now rect c.strides-to.result.base writes = record {
      long = omega (arith, c.axes_of-axes.ensures.long.1, c.axes_of-axes.ensures.few);
      inside = c.requires.writes.inside;
      places = λ index h. ap (λ t. pos (place_in t (mapped c.args.second.now index))) (sym c.rect-4.ensures.value) ∙ c.strides-to.ensures.places index h;
    } in
    let axes = ap (λ n. take n c.axes_of-axes.result) c.axes.ensures ∙ c.axes_of-axes.ensures.axes in
    let xs = tile_items c.args.source.now in
    let old = tile_items c.args.target.now in
    let new = c.copy_axes.new.target in
    let full = c.args.target.now.items.ok.0 in
    let same : length new ≡ length old = c.copy_axes.ensures.same_length ∙ ap length c.items_mut.ensures.value in
    subst (λ items. Copied xs old items (λ s q. LeadsBoth source c.args.first.now target c.args.second.now rect s q))
    (sym (refilled c.args.target.now.items.len new old full same))
    (rect_copied rect source target c.args.first.now c.args.second.now c.strides-from.result.base c.strides-to.result.base reads writes r w xs old new
    (subst (λ list. Copied xs old new (λ s q. Goes c.strides-from.result.base c.strides-to.result.base list s q)) axes
    (subst (λ was. Copied xs was new (λ s q. Goes c.strides-from.result.base c.strides-to.result.base (take c.axes.result c.axes_of-axes.result) s q)) c.items_mut.ensures.value
    (subst (λ items. Copied items c.items_mut.result.now new (λ s q. Goes c.strides-from.result.base c.strides-to.result.base (take c.axes.result c.axes_of-axes.result) s q)) c.items.ensures.value
    c.copy_axes.ensures))))
