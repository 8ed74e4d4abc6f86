use Rattle.std.proofs.Common.{sym, ◌∙◌}
use Rattle.lg_elem.proofs.Shifts.{shifted_left}
use Rattle.lg_elem.proofs.kernels.ShlKernel.apply.Goals as goal

pub returns-then-is_place : goal.returns-then-is_place
returns-then-is_place g c =
    let shift = sym c.is_place.ensures ∙ c.if-is_place.true in
    c.wrap-shifted.ensures ∙ shifted_left g.T.Elem.DTYPE c.value.result (g.T.Elem.number c.args.x) (g.T.Elem.number c.args.y) c.place.result c.value.ensures.fits c.value.ensures.value shift (c.place.ensures.same shift) c.place.ensures.few
