use Rattle.std.proofs.Common.{◌≡◌, [], length, map, None, sym, ap, subst, ◌∙◌}
use Rattle.std.specs.Option.{option_copied}
use Rattle.std.proofs.lemmas.List.{length-map}
use Rattle.lg_shape.specs.Shapes.{whole, size_of}
use Rattle.lg_map.specs.declared.operation.MapOp.TheVariants as ops
use Rattle.lg_map.specs.Mapping.{IsMap, map_values}
use Rattle.lg_meaning.specs.Weak.{number_of}
use Rattle.lg_meaning.specs.Creation.{type_or, array_static, list_type, listed as listed_as}
use Rattle.lg_operations.specs.Operations.{weak_of}
use Rattle.lg_operations.proofs.Made.{value_of_parts}
use Rattle.lg_operations.proofs.Literals.{listed_same, new_answer, weak_constants, listed_full}
use Rattle.lg_operations.proofs.making.listed.Goals as goal

pub evaluate_new-requires-clause-map : goal.evaluate_new-requires-clause-map
evaluate_new-requires-clause-map c =
    let list = map (λ w. number_of (weak_of w)) c.args.weaks.now in
    let same : list ≡ c.from_vec-numbers.result = sym (c.from_vec-numbers.ensures ∙ c.in_ok-numbers_of.ensures) in
    let full : length list ≡ size_of c.in_ok-t.shape =
    length-map c.args.weaks.now (λ w. number_of (weak_of w)) ∙ listed_full c.args.shape (length c.args.weaks.now) c.in_ok-t.shape c.requires.full c.in_ok-t.ensures.given in
    subst (λ l. IsMap (ops.List c.in_ok-t.shape l) [] (whole c.in_ok-t.shape) c.in_ok-t.t) same
    (full, c.in_ok-t.ensures.small, (λ index inside. inside), weak_constants c.args.weaks.now c.requires.ranged)

pub returns : goal.returns
returns c =
    let list = map (λ w. number_of (weak_of w)) c.args.weaks.now in
    let made = c.from_vec-numbers.result in
    let same : made ≡ list = c.from_vec-numbers.ensures ∙ c.in_ok-numbers_of.ensures in
    let t = c.in_ok-t.t in
    let shape = c.in_ok-t.shape in
    let full : length list ≡ size_of shape =
    length-map c.args.weaks.now (λ w. number_of (weak_of w)) ∙ listed_full c.args.shape (length c.args.weaks.now) shape c.requires.full c.in_ok-t.ensures.given in
    let numbers = ap (λ l. map_values (ops.List shape l) t [] (whole shape)) same ∙ listed_same t shape list full in
    new_answer (array_static (option_copied c.args.shape) (map weak_of c.args.weaks.now) (type_or c.args.dtype (list_type (map weak_of c.args.weaks.now)))) (listed_as list)
    (ops.List shape made) t shape c.evaluate_new.result c.evaluate_new.ensures c.in_ok-t.ensures.rule (λ i. value_of_parts shape (numbers i) None)
