use Rattle.std.proofs.Common.{ap, sym, ◌∙◌, length}
use Rattle.lg_space.specs.Rectangle.{combinations}
use Rattle.lg_part.proofs.Grids.{count_tiles}
use Rattle.lg_part.proofs.grid.Grid.count.Goals as goal

pub returns : goal.returns
returns c =
    let g = c.self.inside in
    c.volume.ensures.counted ∙ sym (count_tiles g.shape g.sizes g.colors c.self.invariant.cut) ∙ ap (λ axes. length (combinations axes)) c.self.view_is
