use Rattle.std.proofs.Common.{◌≡◌, map, refl, sym, ap, subst, ◌∙◌}
use Rattle.lg_shape.specs.Shapes.{whole, size_of}
use Rattle.lg_tile.specs.Tiles.{numbers}
use Rattle.lg_elem.specs.Types.{wrap}
use Rattle.lg_map.specs.declared.operation.MapOp.TheVariants as ops
use Rattle.lg_meaning.specs.Copies.{as_type_static, as_type_value}
use Rattle.lg_meaning.specs.Memory.{writable}
use Rattle.lg_operations.specs.Operations.{operand_static, operand_value}
use Rattle.lg_operations.specs.Lending.{Evaluates, SpreadsTo, Takes, operand_in}
use Rattle.lg_operations.proofs.Joins.{same_spreads}
use Rattle.lg_operations.proofs.Lendings.{operand_full}
use Rattle.lg_operations.proofs.Spreadings.{inputs_of, nothing, nothing_over, reads, cast_same, spread_self}
use Rattle.lg_operations.proofs.Made.{array_made, value_of_parts}
use Rattle.lg_operations.proofs.elementwise.as_type.Goals as goal

pub lend-first-requires-clause-spreads : goal.lend-first-requires-clause-spreads
lend-first-requires-clause-spreads c = subst (λ s. SpreadsTo s c.in_ok-t.shape) c.in_ok-t.ensures.same (same_spreads c.in_ok-t.shape)

pub evaluate-requires-clause-lent : goal.evaluate-requires-clause-lent
evaluate-requires-clause-lent c = record {
  first = c.lend-first.ensures.lends.over;
  second = nothing_over (whole c.in_ok-t.shape);
  third = nothing_over (whole c.in_ok-t.shape);
}

pub evaluate-requires-clause-takes : goal.evaluate-requires-clause-takes
evaluate-requires-clause-takes c =
    let x = c.lend-first.result in
    let rect = whole c.in_ok-t.shape in
    let inputs = inputs_of x nothing nothing in
    let same : ops.Cast (operand_in x 0) ≡ ops.Cast c.operand.result = λ i. ops.Cast (sym c.operand.ensures i) in
    subst (λ op. Takes op inputs rect c.in_ok-t.t) same (reads inputs rect x 0 refl c.lend-first.ensures.lends.over).is

pub returns : goal.returns
returns c =
    let t = c.in_ok-t.t in
    let shape = c.in_ok-t.shape in
    let x = c.lend-first.result in
    let a = operand_value c.args.a.now in
    let inputs = inputs_of x nothing nothing in
    let lends_x = c.lend-first.ensures.lends in
    let reads_x = reads inputs (whole shape) x 0 refl lends_x.over in
    let same : ops.Cast c.operand.result ≡ ops.Cast (operand_in x 0) = λ i. ops.Cast (c.operand.ensures i) in
    let given = subst (λ op. Evaluates op t inputs (whole shape) (c.in_ok-tile.tile, c.in_ok-tile.field-0-1)) same c.in_ok-tile.ensures in
    let self = operand_full c.args.a.now c.requires.ready in
    let values : numbers c.in_ok-tile.tile ≡ map (wrap t) a.numbers =
    given.2 ∙ cast_same inputs shape t a x lends_x reads_x
    ∙ ap (map (wrap t)) (spread_self a shape (self.0 ∙ sym c.in_ok-t.ensures.same) (self.1 ∙ ap size_of (sym c.in_ok-t.ensures.same))) in
    array_made (as_type_static (operand_static c.args.a.now) c.args.t) (as_type_value a) _ t shape writable c.in_ok-t.ensures.rule given.0 given.1 refl
    (λ i. value_of_parts shape (values i) (c.fault.ensures i))
