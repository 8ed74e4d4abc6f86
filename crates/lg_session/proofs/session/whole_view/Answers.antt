use Rattle.std.proofs.Common.{◌≡◌, length, sym, ap, subst, ◌∙◌, arith}
use Rattle.std.specs.List.{range_with_len}
use Rattle.lg_space.specs.Rectangle.{volume_of}
use Rattle.lg_shape.specs.Shapes.{size_of}
use Rattle.lg_tile.specs.Tiles.{numbers}
use Rattle.lg_tile.proofs.NumberLemmas.{numbers_full}
use Rattle.lg_xform.specs.Chains.{shape_of, root_of, layout_of}
use Rattle.lg_shape.specs.Views.{Layout}
use Rattle.lg_operations.specs.Operations.{extents_of}
use Rattle.lg_session.specs.Worlds.{NoRepeat}
use Rattle.lg_session.proofs.HeldLemmas.{places_inside, unsplit_whole}
use Rattle.lg_session.proofs.Onces.{once_range}
use Rattle.lg_session.proofs.session.whole_view.Goals as goal

pub returns-clause-whole : goal.returns-clause-whole
returns-clause-whole c =
    let tile = c.args.tile.now in
    let chain = c.whole-chain.result in
    let w = c.whole-chain.ensures in
    let root : root_of chain ≡ extents_of tile = w.root ∙ c.shape_in.ensures in
    let shape : shape_of chain ≡ extents_of tile = w.shape ∙ c.shape_in.ensures in
    let places : (layout_of chain).places ≡ range_with_len 0 (size_of (extents_of tile)) =
    ap (λ (l : Layout). l.places) w.layout ∙ ap (λ s. range_with_len 0 (size_of s)) c.shape_in.ensures in
    let full : length (numbers tile) ≡ size_of (extents_of tile) = numbers_full tile ∙ ap volume_of c.requires in
    record {
      of_root = record {
        dtype = sym c.dtype.ensures;
        shape = root;
        full = full;
        small = omega (arith, c.ranges-limits.ensures.storable.volume, ap volume_of c.rect.ensures.value, ap volume_of c.requires, ap size_of shape);
        unsplit = unsplit_whole _ _ w.inner;
        inside = places_inside chain (length (numbers tile)) (full ∙ ap size_of (sym root)) c.root-root.ensures.inside;
        once = λ is. subst NoRepeat (sym places) (once_range 0 (size_of (extents_of tile)));
      };
      shape = shape;
      places = places;
    }
