use Rattle.std.proofs.Common.{[], length, None, sym, ap, subst, ◌∙◌}
use mir.Val.{to_z, of_z}
use mir.Syntax.{w128}
use Rattle.lg_shape.specs.Shapes.{whole}
use Rattle.lg_map.specs.declared.operation.MapOp.TheVariants as ops
use Rattle.lg_map.specs.Mapping.{IsConstant, map_values}
use Rattle.lg_meaning.specs.Creation.{arange_static, counted as counted_from}
use Rattle.lg_operations.proofs.Lendings.{kept}
use Rattle.lg_operations.proofs.Made.{value_of_parts}
use Rattle.lg_operations.proofs.Literals.{counted_ok, counted_same, new_answer}
use Rattle.lg_operations.proofs.making.counted.Goals as goal

pub evaluate_new-requires-clause-small : goal.evaluate_new-requires-clause-small
evaluate_new-requires-clause-small c = c.in_ok-t.ensures.small

pub evaluate_new-requires-clause-map : goal.evaluate_new-requires-clause-map
evaluate_new-requires-clause-map c =
    let rule = c.in_ok-t.ensures.rule ∙ (λ i. arange_static (kept c.args.from c.requires.first i) (kept c.args.to c.requires.second i) c.args.dtype) in
    let ok = counted_ok c.args.from c.args.to c.args.dtype c.in_ok-t.t c.in_ok-t.shape rule in
    (subst IsConstant (sym (kept c.args.from c.requires.first)) c.requires.first, ap (λ s. length (whole s)) ok.row)

pub returns : goal.returns
returns c =
    let x = to_z w128 (of_z w128 c.args.from) in
    let t = c.in_ok-t.t in
    let shape = c.in_ok-t.shape in
    let rule = c.in_ok-t.ensures.rule ∙ (λ i. arange_static (kept c.args.from c.requires.first i) (kept c.args.to c.requires.second i) c.args.dtype) in
    let ok = counted_ok c.args.from c.args.to c.args.dtype t shape rule in
    let numbers = ap (λ y. map_values (ops.Count y) t [] (whole shape)) (kept c.args.from c.requires.first) ∙ counted_same c.args.from t shape ok in
    new_answer (arange_static c.args.from c.args.to c.args.dtype) (counted_from c.args.from) (ops.Count x) t shape c.evaluate_new.result
    c.evaluate_new.ensures rule (λ i. value_of_parts shape (numbers i) None)
