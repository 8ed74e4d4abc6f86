use Rattle.std.proofs.Common.{◌≡◌, replicate, None, sym, ap, subst, ◌∙◌}
use mir.Val.{to_z, of_z}
use mir.Syntax.{w128}
use Rattle.lg_elem.specs.Types.{wrap}
use Rattle.lg_shape.specs.Shapes.{size_of}
use Rattle.lg_map.specs.declared.operation.MapOp.TheVariants as ops
use Rattle.lg_map.specs.Mapping.{IsConstant}
use Rattle.lg_meaning.specs.Weak.{number_of}
use Rattle.lg_meaning.specs.Creation.{full_static, filled}
use Rattle.lg_operations.specs.Operations.{weak_of}
use Rattle.lg_operations.proofs.Lendings.{kept}
use Rattle.lg_operations.proofs.Made.{value_of_parts}
use Rattle.lg_operations.proofs.Literals.{filled_same, new_answer}
use Rattle.lg_operations.proofs.making.full.Goals as goal

pub evaluate_new-requires-clause-small : goal.evaluate_new-requires-clause-small
evaluate_new-requires-clause-small c = c.in_ok-t.ensures.small

pub evaluate_new-requires-clause-map : goal.evaluate_new-requires-clause-map
evaluate_new-requires-clause-map c =
    let constant : IsConstant c.number.result = subst IsConstant (sym c.number.ensures) c.requires.ranged in
    subst IsConstant (sym (kept c.number.result constant)) constant

pub returns : goal.returns
returns c =
    let constant : IsConstant c.number.result = subst IsConstant (sym c.number.ensures) c.requires.ranged in
    let x = to_z w128 (of_z w128 c.number.result) in
    let same : x ≡ number_of (weak_of c.args.x) = kept c.number.result constant ∙ c.number.ensures in
    let t = c.in_ok-t.t in
    let shape = c.in_ok-t.shape in
    let numbers = filled_same x t shape ∙ ap (λ y. replicate (size_of shape) (wrap t y)) same in
    new_answer (full_static c.args.extents.now (weak_of c.args.x) c.args.dtype) (filled (number_of (weak_of c.args.x))) (ops.Fill x) t shape c.evaluate_new.result
    c.evaluate_new.ensures c.in_ok-t.ensures.rule (λ i. value_of_parts shape (numbers i) None)
