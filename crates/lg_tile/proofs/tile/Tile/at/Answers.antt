use Rattle.lg_tile.proofs.TileLemmas.{element_read}
use Rattle.lg_tile.proofs.tile.Tile.at.Goals as goal

pub returns : goal.returns
returns g c = element_read c.args.self.now c.args.p.now c.items.result.now c.ravel-place.result c.index-items-place.result c.requires c.ravel-place.ensures.value c.items.ensures.value c.index-items-place.is
