use Rattle.std.proofs.Common.{◌≡◌, ap, ◌∙◌, arith}
use Rattle.std.proofs.lemmas.Int.{ints}
use mir.Val.{to_z, of_z}
use mir.Syntax.{w128}
use Rattle.lg_meaning.specs.Creation.{is_literal}
use Rattle.lg_operations.proofs.Literals.{literals_more}
use Rattle.lg_operations.proofs.written.are_literals.Goals as goal

pub loop-w-preserved : goal.loop-w-preserved
loop-w-preserved c =
    let small = c.number.type_inv in
    let same : to_z w128 (of_z w128 c.number.result) ≡ c.number.result = omega (arith, ints) in
    literals_more c.args.t c.args.weaks.now c.loop-w.w-index _ c.loop-w.all c.is_literal-all.result c.loop-w-test.true c.loop-w.invariant
    (c.is_literal-all.ensures ∙ ap (is_literal c.args.t) (same ∙ c.number.ensures))
