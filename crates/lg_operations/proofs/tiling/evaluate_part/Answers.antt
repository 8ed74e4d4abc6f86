use Rattle.std.proofs.lemmas.Result.{IfOk-weaker}
use Rattle.lg_operations.specs.Pieces.{part_tile}
use Rattle.lg_operations.proofs.Pieces.{takes_map, evaluates}
use Rattle.lg_operations.proofs.tiling.evaluate_part.Goals as goal

pub map_parts-answer-requires : goal.map_parts-answer-requires
map_parts-answer-requires c =
    takes_map c.args.rect.now c.args.inputs.now (part_tile c.in_ok-first.first) (part_tile c.in_ok-second.second) (part_tile c.in_ok-third.third)
    c.in_ok-first.ensures c.in_ok-second.ensures c.in_ok-third.ensures c.args.op.now c.args.t c.requires.takes

pub returns : goal.returns
returns c =
    IfOk-weaker c.map_parts-answer.result _ _
    (λ answer maps. evaluates c.args.rect.now c.args.inputs.now (part_tile c.in_ok-first.first) (part_tile c.in_ok-second.second) (part_tile c.in_ok-third.third)
    c.in_ok-first.ensures c.in_ok-second.ensures c.in_ok-third.ensures c.args.op.now c.args.t answer c.requires.takes maps) c.map_parts-answer.ensures
