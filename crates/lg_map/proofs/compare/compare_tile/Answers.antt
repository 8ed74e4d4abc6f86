use Rattle.std.proofs.Common.{sym, ◌∙◌}
use Rattle.lg_space.specs.Rectangle.{indices}
use Rattle.lg_map.proofs.FlagLemmas.{no_flags}
use Rattle.lg_map.proofs.compare.compare_tile.Goals as goal

pub returns : goal.returns
returns c = (
  c.any.ensures.0,
  c.any.ensures.1 ∙ c.in_ok-tile.ensures.0,
  c.any.ensures.2 ∙ c.in_ok-tile.ensures.1,
  sym (no_flags (indices c.args.rect.now)),
)
