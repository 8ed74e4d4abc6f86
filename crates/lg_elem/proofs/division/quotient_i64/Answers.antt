use Rattle.std.proofs.Common.{arith}
use Rattle.std.specs.Int.{w64}
use Rattle.lg_elem.proofs.Machine.{Rest, quotient_exact, quotient_less, exact_below, exact_above, less_below, less_above}
use Rattle.lg_elem.proofs.division.quotient_i64.Goals as goal

pub returns-then-rest-gt0 : goal.returns-then-rest-gt0
returns-then-rest-gt0 c =
    let h : Rest w64 c.args.x c.args.y c.wrapping_rem-rest.result = record { left = c.ranges.x; right = c.ranges.y; fits = record { sfits = c.wrapping_rem-rest.type_inv }; nonzero = c.if-y-eq0.false; rest = c.wrapping_rem-rest.ensures } in
    quotient_less w64 c.args.x c.args.y c.wrapping_div-quotient.result c.wrapping_rem-rest.result h (record { sfits = c.wrapping_div-quotient.type_inv }) (record { sfits = omega arith }) c.wrapping_div-quotient.ensures (less_below w64 c.args.x c.args.y c.wrapping_rem-rest.result h c.if-y-lt0.true c.if-rest-gt0.true)

pub returns-else-rest-gt0 : goal.returns-else-rest-gt0
returns-else-rest-gt0 c =
    let h : Rest w64 c.args.x c.args.y c.wrapping_rem-rest.result = record { left = c.ranges.x; right = c.ranges.y; fits = record { sfits = c.wrapping_rem-rest.type_inv }; nonzero = c.if-y-eq0.false; rest = c.wrapping_rem-rest.ensures } in
    quotient_exact w64 c.args.x c.args.y c.wrapping_div-quotient.result c.wrapping_rem-rest.result h (record { sfits = c.wrapping_div-quotient.type_inv }) c.wrapping_div-quotient.ensures (exact_below w64 c.args.x c.args.y c.wrapping_rem-rest.result h c.if-y-lt0.true c.if-rest-gt0.false)

pub returns-then-rest-lt0 : goal.returns-then-rest-lt0
returns-then-rest-lt0 c =
    let h : Rest w64 c.args.x c.args.y c.wrapping_rem-rest.result = record { left = c.ranges.x; right = c.ranges.y; fits = record { sfits = c.wrapping_rem-rest.type_inv }; nonzero = c.if-y-eq0.false; rest = c.wrapping_rem-rest.ensures } in
    quotient_less w64 c.args.x c.args.y c.wrapping_div-quotient.result c.wrapping_rem-rest.result h (record { sfits = c.wrapping_div-quotient.type_inv }) (record { sfits = omega arith }) c.wrapping_div-quotient.ensures (less_above w64 c.args.x c.args.y c.wrapping_rem-rest.result h c.if-y-lt0.false c.if-rest-lt0.true)

pub returns-else-rest-lt0 : goal.returns-else-rest-lt0
returns-else-rest-lt0 c =
    let h : Rest w64 c.args.x c.args.y c.wrapping_rem-rest.result = record { left = c.ranges.x; right = c.ranges.y; fits = record { sfits = c.wrapping_rem-rest.type_inv }; nonzero = c.if-y-eq0.false; rest = c.wrapping_rem-rest.ensures } in
    quotient_exact w64 c.args.x c.args.y c.wrapping_div-quotient.result c.wrapping_rem-rest.result h (record { sfits = c.wrapping_div-quotient.type_inv }) c.wrapping_div-quotient.ensures (exact_above w64 c.args.x c.args.y c.wrapping_rem-rest.result h c.if-y-lt0.false c.if-rest-lt0.false)
