use Rattle.std.proofs.Common.{ℕ, List, map, sym, ap, ◌∙◌}
use Rattle.lg_elem.specs.Operations.{unary_of}
use Rattle.lg_elem.specs.Types.{wrap}
use Rattle.lg_space.specs.Rectangle.{indices}
use Rattle.lg_map.specs.Mapping.{operand_at}
use Rattle.lg_map.proofs.FlagLemmas.{no_flags}
use Rattle.lg_map.proofs.MapLemmas.{by_indices}
use Rattle.lg_map.proofs.unary.unary_tile.Goals as goal

pub returns : goal.returns
returns g c =
    let t = g.T.Elem.DTYPE in
    let rect = c.args.rect.now in
    let x = λ (index : List ℕ). operand_at (map (λ input. input.now) c.args.inputs.now) c.args.x.now index in (
      c.any.ensures.0,
      c.any.ensures.1 ∙ c.in_ok-tile.ensures.rect,
      c.any.ensures.2 ∙ c.in_ok-tile.ensures.items
          ∙ by_indices rect _ (λ index. unary_of c.args.op t (wrap t (x index))) (λ place below. ap (unary_of c.args.op t) (c.in_ok-x.ensures.1 place below)),
      sym (no_flags (indices rect)),
    )
