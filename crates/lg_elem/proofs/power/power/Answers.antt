use Rattle.std.proofs.Common.{◌≡◌, ◌*ℤ◌, sym, ap, ◌∙◌, arith}
use Rattle.std.proofs.lemmas.Int.{to_z-of_z}
use Rattle.std.specs.Int.{w128}
use Rattle.lg_elem.specs.Types.{wrap}
use Rattle.lg_elem.specs.Operations.{power_of}
use Rattle.lg_elem.proofs.Powers.{step, end}
use Rattle.lg_elem.proofs.power.power.Goals as goal

pub loop-left-preserved : goal.loop-left-preserved
loop-left-preserved g c = rw (c.apply-power.ensures, c.apply-base.ensures, c.factor.ensures) (step g.T.Elem.DTYPE (g.T.Elem.number c.loop-left.power) (g.T.Elem.number c.loop-left.base) c.loop-left.left ∙ c.loop-left.invariant)

pub returns : goal.returns
returns g c =
    let t = g.T.Elem.DTYPE in
    let p = g.T.Elem.number c.loop-left.power in
    let b = g.T.Elem.number c.loop-left.base in
    let over : c.loop-left.left ≡ 0 = omega arith in
    let whole = ap (wrap t) (to_z-of_z w128 c.value.result (record { sfits = c.value.type_inv }) ∙ c.value.ensures.value) in
    let last = sym (end t p b) ∙ ap (λ n. wrap t (p *ℤ power_of b n)) (sym over) in
    (c.wrap.ensures ∙ whole) ∙ (last ∙ c.loop-left.invariant)
