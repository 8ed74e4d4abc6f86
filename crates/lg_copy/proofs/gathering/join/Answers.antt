use Rattle.std.proofs.Common.{◌≡◌, Some, slice_get, sym, ap, ◌∙◌}
use Rattle.std.proofs.lemmas.Option.{slice_get-get_or}
use Rattle.lg_copy.proofs.Shares.{of_type, still_of_type, parts_none, parts_more}
use Rattle.lg_copy.proofs.gathering.join.Goals as goal

pub loop-part-init : goal.loop-part-init
loop-part-init c =
    let first = c.index-parts-0.result in
    let at : slice_get c.args.parts.now 0 ≡ Some first = slice_get-get_or c.args.parts.now 0 first c.requires.some ∙ ap Some (sym c.index-parts-0.is) in
    record {
      dtype = of_type c.args.parts.now 0 first c.in_ok-joined.joined c.requires.dtype at (c.in_ok-joined.ensures.dtype ∙ c.dtype.ensures);
      rect = c.in_ok-joined.ensures.rect;
      so_far = parts_none c.args.parts.now c.in_ok-joined.joined;
    }

pub add_part-requires : goal.add_part-requires
add_part-requires c =
    let part = c.part-item.result in
    let k = c.loop-part.part-index in
    sym (c.loop-part.invariant.dtype k part (slice_get-get_or c.args.parts.now k part c.loop-part-test.true ∙ ap Some (sym c.part-item.is)))

pub loop-part-preserved : goal.loop-part-preserved
loop-part-preserved c =
    let parts = c.args.parts.now in
    let part = c.part-item.result in
    let k = c.loop-part.part-index in
    let old = c.loop-part.joined in
    let new = c.add_part.new.joined in
    let at : slice_get parts k ≡ Some part = slice_get-get_or parts k part c.loop-part-test.true ∙ ap Some (sym c.part-item.is) in
    record {
      dtype = still_of_type parts old new c.loop-part.invariant.dtype c.add_part.ensures.dtype;
      rect = c.add_part.ensures.rect ∙ c.loop-part.invariant.rect;
      so_far = parts_more parts k part old new c.requires.disjoint at c.add_part.ensures.rect c.add_part.ensures.copied c.add_part.ensures.kept c.loop-part.invariant.so_far;
    }
