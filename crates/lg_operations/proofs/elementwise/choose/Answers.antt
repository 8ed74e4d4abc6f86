use Rattle.std.proofs.Common.{◌≡◌, ℕ, List, [], ◌∷◌, refl, sym, ap, subst, ◌∙◌, arith}
use Rattle.lg_shape.specs.Shapes.{whole}
use Rattle.lg_tile.specs.Tiles.{dtype_of, numbers, rect_of}
use Rattle.lg_map.specs.declared.operation.MapOp.TheVariants as ops
use Rattle.lg_meaning.specs.Faults.{first_fault}
use Rattle.lg_meaning.specs.Static.{right_of}
use Rattle.lg_meaning.specs.Operators.{choose_static, choose_value}
use Rattle.lg_operations.specs.Operations.{operand_static, operand_value}
use Rattle.lg_operations.specs.Lending.{Evaluates, Takes, spread_at, operand_in}
use Rattle.lg_operations.proofs.Statics.{choose_ok, fits_common, kind_with}
use Rattle.lg_operations.proofs.Spreadings.{inputs_of, reads, choose_same}
use Rattle.lg_operations.proofs.Made.{array_made, value_of_parts}
use Rattle.lg_operations.proofs.elementwise.choose.Goals as goal

pub lend-first-requires-clause-spreads : goal.lend-first-requires-clause-spreads
lend-first-requires-clause-spreads c = (choose_ok (operand_static c.args.c.now) (operand_static c.args.a.now) (operand_static c.args.b.now) c.in_ok-t.t c.in_ok-t.shape c.in_ok-t.ensures).spreads_c

pub lend-second-requires-clause-spreads : goal.lend-second-requires-clause-spreads
lend-second-requires-clause-spreads c = (choose_ok (operand_static c.args.c.now) (operand_static c.args.a.now) (operand_static c.args.b.now) c.in_ok-t.t c.in_ok-t.shape c.in_ok-t.ensures).spreads_a

pub lend-third-requires-clause-spreads : goal.lend-third-requires-clause-spreads
lend-third-requires-clause-spreads c = (choose_ok (operand_static c.args.c.now) (operand_static c.args.a.now) (operand_static c.args.b.now) c.in_ok-t.t c.in_ok-t.shape c.in_ok-t.ensures).spreads_b

pub evaluate-requires-clause-small : goal.evaluate-requires-clause-small
evaluate-requires-clause-small c = omega (arith, (choose_ok (operand_static c.args.c.now) (operand_static c.args.a.now) (operand_static c.args.b.now) c.in_ok-t.t c.in_ok-t.shape c.in_ok-t.ensures).small)

pub evaluate-requires-clause-lent : goal.evaluate-requires-clause-lent
evaluate-requires-clause-lent c = record {
  first = c.lend-first.ensures.lends.over;
  second = c.lend-second.ensures.lends.over;
  third = c.lend-third.ensures.lends.over;
}

pub evaluate-requires-clause-takes : goal.evaluate-requires-clause-takes
evaluate-requires-clause-takes c =
    let w = c.lend-first.result in
    let x = c.lend-second.result in
    let y = c.lend-third.result in
    let rect = whole c.in_ok-t.shape in
    let inputs = inputs_of w x y in
    let same : ops.Select (operand_in w 0) (operand_in x 1) (operand_in y 2) ≡ ops.Select c.operand.result c.operand-2.result c.operand-3.result
    = λ i. ops.Select (sym c.operand.ensures i) (sym c.operand-2.ensures i) (sym c.operand-3.ensures i) in
    subst (λ op. Takes op inputs rect c.in_ok-t.t) same (
      (reads inputs rect w 0 refl c.lend-first.ensures.lends.over).is,
      (reads inputs rect x 1 refl c.lend-second.ensures.lends.over).is,
      (reads inputs rect y 2 refl c.lend-third.ensures.lends.over).is,
    )

pub returns : goal.returns
returns c =
    let ok = choose_ok (operand_static c.args.c.now) (operand_static c.args.a.now) (operand_static c.args.b.now) c.in_ok-t.t c.in_ok-t.shape c.in_ok-t.ensures in
    let t = c.in_ok-t.t in
    let shape = c.in_ok-t.shape in
    let w = c.lend-first.result in
    let x = c.lend-second.result in
    let y = c.lend-third.result in
    let k = operand_value c.args.c.now in
    let a = operand_value c.args.a.now in
    let b = operand_value c.args.b.now in
    let inputs = inputs_of w x y in
    let holds = fits_common (operand_static c.args.a.now) (operand_static c.args.b.now) t c.common_is_least.ensures.both ok.common_is ok.fitting in
    let fits_a = λ (index : List ℕ). holds.0 (spread_at a index) (c.lend-second.ensures.fits index) in
    let fits_b = λ (index : List ℕ). holds.1 (spread_at b index) (c.lend-third.ensures.fits index) in
    let lends_w = c.lend-first.ensures.lends in
    let lends_x = c.lend-second.ensures.lends in
    let lends_y = c.lend-third.ensures.lends in
    let reads_w = reads inputs (whole shape) w 0 refl lends_w.over in
    let reads_x = reads inputs (whole shape) x 1 refl lends_x.over in
    let reads_y = reads inputs (whole shape) y 2 refl lends_y.over in
    let same : ops.Select c.operand.result c.operand-2.result c.operand-3.result ≡ ops.Select (operand_in w 0) (operand_in x 1) (operand_in y 2)
    = λ i. ops.Select (c.operand.ensures i) (c.operand-2.ensures i) (c.operand-3.ensures i) in
    let given = subst (λ op. Evaluates op t inputs (whole shape) (c.in_ok-tile.tile, c.in_ok-tile.field-0-1)) same c.in_ok-tile.ensures in
    let f = c.result_of.result in
    let values : numbers f.tile ≡ (choose_value k a b (kind_with t shape (right_of shape))).numbers =
    ap numbers c.result_of.ensures.tile ∙ given.2 ∙ choose_same inputs shape t k a b w x y lends_w lends_x lends_y reads_w reads_x reads_y fits_a fits_b in
    let faults : f.fault ≡ (choose_value k a b (kind_with t shape (right_of shape))).fault =
    c.result_of.ensures.fault ∙ c.first_fault.ensures ∙ ap (λ last. first_fault (k.fault ∷ a.fault ∷ last ∷ [])) c.fault.ensures in
    array_made (choose_static (operand_static c.args.c.now) (operand_static c.args.a.now) (operand_static c.args.b.now)) (choose_value k a b) f t shape (right_of shape) c.in_ok-t.ensures
    (ap dtype_of c.result_of.ensures.tile ∙ given.0) (ap rect_of c.result_of.ensures.tile ∙ given.1) c.result_of.ensures.right (λ i. value_of_parts shape (values i) (faults i))
