use Rattle.std.proofs.Common.{ap, ◌∙◌, arith}
use Rattle.std.proofs.lemmas.Int.{ints}
use Rattle.lg_elem.specs.Operations.{floor_div}
use Rattle.lg_divide.proofs.Remainders.{Parts, product_fits, difference_fits, rest_is}
use Rattle.lg_divide.proofs.divisor.Divisor.remainder.Goals as goal

pub overflow_mul-value : goal.overflow_mul-value
overflow_mul-value g c =
    let number = g.T.Elem.number in
    let x = number c.args.x in
    let d = c.args.self.now in
    let quotient = c.floor_quotient.ensures ∙ ap (floor_div x) d.same in
    let parts : Parts g.T.Elem.DTYPE x (number d.number) (number c.floor_quotient.result) c.value.result c.value-2.result c.value-quotient.result =
    record { above = omega (arith, ints, d.same, d.by.is.some); quotient = quotient; left_fits = c.value.ensures.fits; left_is = c.value.ensures.value; right_fits = c.value-2.ensures.fits; right_is = c.value-2.ensures.value; whole_fits = c.value-quotient.ensures.fits; whole_is = c.value-quotient.ensures.value } in
    product_fits g.T.Elem.DTYPE x (number d.number) (number c.floor_quotient.result) c.value.result c.value-2.result c.value-quotient.result parts

pub overflow_sub-value : goal.overflow_sub-value
overflow_sub-value g c =
    let number = g.T.Elem.number in
    let x = number c.args.x in
    let d = c.args.self.now in
    let quotient = c.floor_quotient.ensures ∙ ap (floor_div x) d.same in
    let parts : Parts g.T.Elem.DTYPE x (number d.number) (number c.floor_quotient.result) c.value.result c.value-2.result c.value-quotient.result =
    record { above = omega (arith, ints, d.same, d.by.is.some); quotient = quotient; left_fits = c.value.ensures.fits; left_is = c.value.ensures.value; right_fits = c.value-2.ensures.fits; right_is = c.value-2.ensures.value; whole_fits = c.value-quotient.ensures.fits; whole_is = c.value-quotient.ensures.value } in
    difference_fits g.T.Elem.DTYPE x (number d.number) (number c.floor_quotient.result) c.value.result c.value-2.result c.value-quotient.result parts

pub returns : goal.returns
returns g c =
    let number = g.T.Elem.number in
    let x = number c.args.x in
    let d = c.args.self.now in
    let quotient = c.floor_quotient.ensures ∙ ap (floor_div x) d.same in
    let parts : Parts g.T.Elem.DTYPE x (number d.number) (number c.floor_quotient.result) c.value.result c.value-2.result c.value-quotient.result =
    record { above = omega (arith, ints, d.same, d.by.is.some); quotient = quotient; left_fits = c.value.ensures.fits; left_is = c.value.ensures.value; right_fits = c.value-2.ensures.fits; right_is = c.value-2.ensures.value; whole_fits = c.value-quotient.ensures.fits; whole_is = c.value-quotient.ensures.value } in
    c.wrap.ensures ∙ rest_is g.T.Elem.DTYPE x (number d.number) (number c.floor_quotient.result) c.value.result c.value-2.result c.value-quotient.result parts
