use Rattle.std.proofs.Common.{◌++◌, ◌∷◌, [], sym, ap, ◌∙◌}
use Rattle.lg_space.specs.Rectangle.{combinations}
use Rattle.lg_part.proofs.Grids.{take_one_more}
use Rattle.lg_part.proofs.grid.tiles.Goals as goal

pub loop-color-preserved : goal.loop-color-preserved
loop-color-preserved c =
    c.in_ok-push.ensures.items ∙ ap (λ xs. xs ++ c.tile.result ∷ []) c.loop-color.invariant ∙ sym (take_one_more (combinations c.args.grid.now) c.loop-color.color c.tile.result c.tile.ensures)
