use Rattle.std.proofs.Common.{ℕ, List, map, sym, ◌∙◌}
use Rattle.std.specs.Prelude.{if◌then◌else◌}
use Rattle.lg_elem.specs.Operations.{is_zero}
use Rattle.lg_elem.specs.Types.{wrap}
use Rattle.lg_space.specs.Rectangle.{indices}
use Rattle.lg_map.specs.Columns.{index_in}
use Rattle.lg_map.specs.Mapping.{operand_at}
use Rattle.lg_map.proofs.FlagLemmas.{no_flags}
use Rattle.lg_map.proofs.MapLemmas.{by_indices, same_choice, chosen_same}
use Rattle.lg_map.proofs.select.select_tile.Goals as goal

pub returns : goal.returns
returns g c =
    let t = g.T.Elem.DTYPE in
    let rect = c.args.rect.now in
    let tiles = map (λ input. input.now) c.args.inputs.now in
    let choice = λ (index : List ℕ). operand_at tiles c.args.choice.now index in
    let x = λ (index : List ℕ). operand_at tiles c.args.x.now index in
    let y = λ (index : List ℕ). operand_at tiles c.args.y.now index in (
      c.any.ensures.0,
      c.any.ensures.1 ∙ c.in_ok-tile.ensures.rect,
      c.any.ensures.2 ∙ c.in_ok-tile.ensures.items
          ∙ by_indices rect _ (λ index. if is_zero (choice index) then wrap t (y index) else wrap t (x index))
          (λ place below. chosen_same (same_choice _ (choice (index_in rect place)) (c.in_ok-choice.ensures.1 place below)) (c.in_ok-y.ensures.1 place below) (c.in_ok-x.ensures.1 place below)),
      sym (no_flags (indices rect)),
    )
