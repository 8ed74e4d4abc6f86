use Rattle.std.proofs.Common.{ℕ, List, map, ap, ◌∙◌}
use Rattle.lg_elem.specs.Operations.{flag_of, value_of}
use Rattle.lg_elem.specs.Types.{wrap}
use Rattle.lg_space.specs.Rectangle.{indices}
use Rattle.lg_map.specs.Columns.{index_in, listed, number_in}
use Rattle.lg_map.specs.Mapping.{first_flag, operand_at}
use Rattle.lg_tile.proofs.SectionLemmas.{map-map}
use Rattle.lg_map.proofs.MapLemmas.{by_indices}
use Rattle.lg_map.proofs.binary.binary_tile.Goals as goal

pub returns : goal.returns
returns g c =
    let t = g.T.Elem.DTYPE in
    let op = c.args.op in
    let rect = c.args.rect.now in
    let x = λ (index : List ℕ). operand_at (map (λ input. input.now) c.args.inputs.now) c.args.x.now index in
    let y = λ (index : List ℕ). operand_at (map (λ input. input.now) c.args.inputs.now) c.args.y.now index in
    let second = λ (place : ℕ). wrap t (number_in g.T.Elem.number c.in_ok-y.y place) in (
      c.any.ensures.0,
      c.any.ensures.1 ∙ c.in_ok-tile.ensures.rect,
      c.any.ensures.2 ∙ c.in_ok-tile.ensures.items
          ∙ by_indices rect _ (λ index. value_of op t (wrap t (x index)) (wrap t (y index))) (λ place below.
          ap (λ n. value_of op t n (second place)) (c.in_ok-x.ensures.1 place below)
          ∙ ap (value_of op t (wrap t (x (index_in rect place)))) (c.in_ok-y.ensures.1 place below)),
      c.fault-flag.ensures ∙ ap (λ n. first_flag (map (flag_of op) (listed second n))) c.volume.ensures.value
          ∙ ap (λ l. first_flag (map (flag_of op) l)) (by_indices rect second (λ index. wrap t (y index)) c.in_ok-y.ensures.1)
          ∙ ap first_flag (map-map (flag_of op) (λ index. wrap t (y index)) (indices rect)),
    )
