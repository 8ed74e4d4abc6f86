use Rattle.std.proofs.Common.{subst, ◌∙◌}
use Rattle.std.specs.Int.{w32, w64}
use Rattle.lg_elem.proofs.Divided.{Holds, Operands, Answer, holds_32, holds_64, remainder_wrapped}
use Rattle.lg_elem.proofs.kernels.RemKernel.apply.Goals as goal

pub returns-in-Int64 : goal.returns-in-Int64
returns-in-Int64 g c =
    let o : Operands g.T.Elem.DTYPE c.value-x.result c.value-y.result (g.T.Elem.number c.args.x) (g.T.Elem.number c.args.y) = record { left = c.value-x.ensures.fits; right = c.value-y.ensures.fits; is_left = c.value-x.ensures.value; is_right = c.value-y.ensures.value } in
    let n : Answer w64 c.remainder_i64.result c.from-in-Int64.result = record { narrow = record { sfits = c.remainder_i64.type_inv }; wide = record { sfits = c.from-in-Int64.type_inv }; same = c.from-in-Int64.ensures } in
    c.wrap-in-Int64.ensures ∙ remainder_wrapped w64 g.T.Elem.DTYPE c.value-x.result c.value-y.result (g.T.Elem.number c.args.x) (g.T.Elem.number c.args.y) c.remainder_i64.result c.from-in-Int64.result (subst (Holds w64) c.DTYPE.ensures (holds_64 c.DTYPE.result c.in-Int64.is)) o n c.remainder_i64.ensures

pub returns-in_default : goal.returns-in_default
returns-in_default g c =
    let o : Operands g.T.Elem.DTYPE c.value-x.result c.value-y.result (g.T.Elem.number c.args.x) (g.T.Elem.number c.args.y) = record { left = c.value-x.ensures.fits; right = c.value-y.ensures.fits; is_left = c.value-x.ensures.value; is_right = c.value-y.ensures.value } in
    let n : Answer w32 c.remainder_i32.result c.from-in_default.result = record { narrow = record { sfits = c.remainder_i32.type_inv }; wide = record { sfits = c.from-in_default.type_inv }; same = c.from-in_default.ensures } in
    c.wrap-in_default.ensures ∙ remainder_wrapped w32 g.T.Elem.DTYPE c.value-x.result c.value-y.result (g.T.Elem.number c.args.x) (g.T.Elem.number c.args.y) c.remainder_i32.result c.from-in_default.result (subst (Holds w32) c.DTYPE.ensures (holds_32 c.DTYPE.result c.in_default.not-Int64 c.in_default.not-UInt32 c.in_default.not-UInt64)) o n c.remainder_i32.ensures
