use Rattle.std.proofs.Common.{map, ap, ◌∙◌, arith}
use Rattle.lg_operations.specs.Lending.{lent_value, lent_flag}
use Rattle.lg_operations.proofs.Pieces.{lents_narrower, takes_narrower}
use Rattle.lg_operations.proofs.Tilings.{rows_more, rows_all, rows_full}
use Rattle.lg_operations.proofs.tiling.in_rows.Goals as goal

pub append_tile-requires-clause-lent : goal.append_tile-requires-clause-lent
append_tile-requires-clause-lent g c =
    lents_narrower c.args.inputs.now c.args.all.now c.tile.result (λ index inside. c.requires.cut.within c.loop-color.color c.tile.result index c.tile.ensures inside) c.requires.lent

pub append_tile-requires-clause-takes : goal.append_tile-requires-clause-takes
append_tile-requires-clause-takes g c =
    takes_narrower c.args.op.now c.args.inputs.now c.args.all.now c.tile.result g.T.Elem.DTYPE
    (λ index inside. c.requires.cut.within c.loop-color.color c.tile.result index c.tile.ensures inside)
    (c.requires.cut.axes c.loop-color.color c.tile.result c.tile.ensures) c.requires.takes

pub loop-color-preserved : goal.loop-color-preserved
loop-color-preserved g c =
    rows_more (lent_value c.args.op.now g.T.Elem.DTYPE c.args.inputs.now) (lent_flag c.args.op.now g.T.Elem.DTYPE c.args.inputs.now) g.T.Elem.number
    _ _ _ c.in_ok-next.next c.first-flag.result _ c.loop-color.color c.tile.result c.loop-color.invariant c.tile.ensures
    c.in_ok-next.ensures.numbers c.in_ok-next.ensures.flag c.first-flag.ensures

pub new-requires : goal.new-requires
new-requires g c =
    let value = lent_value c.args.op.now g.T.Elem.DTYPE c.args.inputs.now in
    let flag = lent_flag c.args.op.now g.T.Elem.DTYPE c.args.inputs.now in
    rows_full value flag g.T.Elem.number _ c.args.all.now
    (rows_all value flag g.T.Elem.number _ _ _ c.args.all.now c.loop-color.color (omega arith) c.requires.cut.order c.loop-color.invariant).0

pub returns : goal.returns
returns g c =
    let value = lent_value c.args.op.now g.T.Elem.DTYPE c.args.inputs.now in
    let flag = lent_flag c.args.op.now g.T.Elem.DTYPE c.args.inputs.now in
    let end = rows_all value flag g.T.Elem.number _ _ _ c.args.all.now c.loop-color.color (omega arith) c.requires.cut.order c.loop-color.invariant in
    (c.any.ensures.0, c.any.ensures.1 ∙ c.new.ensures.rect, c.any.ensures.2 ∙ ap (map g.T.Elem.number) c.new.ensures.items ∙ end.0, end.1)
