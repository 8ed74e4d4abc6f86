use Rattle.std.proofs.Common.{rules, ◌≡◌, Some, slice_get, sym, ap, ◌∙◌}
use Rattle.std.proofs.lemmas.Option.{slice_get-get_or}
use Rattle.lg_instance.proofs.Roots.{root_below, tile_stored, root_written}
use Rattle.lg_instance.proofs.instances.Instances.store.Goals as goal

pub returns : goal.returns
returns c =
    let tiles = c.args.self.now.tiles.items in
    let view = c.args.view.now in
    let tile = c.args.tile.now in
    let kept = c.unwrap-whole.result.now in
    let slot : c.index_mut.result.now ≡ Some kept = search rules in
    let at : slice_get tiles view.root ≡ Some (Some kept) =
    slice_get-get_or tiles view.root c.index_mut.result.now (root_below tiles view.root c.requires.held.root c.requires.held.there) ∙ ap Some (sym c.index_mut.ensures.value ∙ slot) in
    tile_stored tiles view tile kept _ at
    (root_written view tile kept.tile c.scatter.new.root kept.whole c.scatter.ensures.dtype c.scatter.ensures.rect c.scatter.ensures.written c.scatter.ensures.kept)
