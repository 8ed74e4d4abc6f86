use Rattle.std.proofs.Common.{ap, ◌∙◌}
use Rattle.std.proofs.lemmas.Int.{to_z-of_z}
use Rattle.std.specs.Int.{w128}
use Rattle.lg_elem.specs.Types.{wrap}
use Rattle.lg_elem.proofs.Powers.{power_from}
use Rattle.lg_elem.proofs.power.power_of_number.Goals as goal

pub returns : goal.returns
returns g c =
    let base = c.wrap.ensures ∙ ap (wrap g.T.Elem.DTYPE) (to_z-of_z w128 c.args.base c.ranges.base) in
    let answer = to_z-of_z w128 c.value.result (record { sfits = c.value.type_inv }) ∙ c.value.ensures.value in
    answer ∙ (c.power.ensures ∙ power_from g.T.Elem.DTYPE c.args.base (g.T.Elem.number c.wrap.result) c.args.exponent base)
