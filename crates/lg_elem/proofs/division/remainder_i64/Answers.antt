use Rattle.std.specs.Int.{w64}
use Rattle.lg_elem.proofs.Machine.{Rest, remainder_exact, remainder_less, exact_below, exact_above, less_below, less_above}
use Rattle.lg_elem.proofs.division.remainder_i64.Goals as goal

pub returns-then-rest-gt0 : goal.returns-then-rest-gt0
returns-then-rest-gt0 c =
    let h : Rest w64 c.args.x c.args.y c.wrapping_rem-rest.result = record { left = c.ranges.x; right = c.ranges.y; fits = record { sfits = c.wrapping_rem-rest.type_inv }; nonzero = c.if-y-eq0.false; rest = c.wrapping_rem-rest.ensures } in
    remainder_less w64 c.args.x c.args.y c.wrapping_rem-rest.result h (less_below w64 c.args.x c.args.y c.wrapping_rem-rest.result h c.if-y-lt0.true c.if-rest-gt0.true)

pub returns-else-rest-gt0 : goal.returns-else-rest-gt0
returns-else-rest-gt0 c =
    let h : Rest w64 c.args.x c.args.y c.wrapping_rem-rest.result = record { left = c.ranges.x; right = c.ranges.y; fits = record { sfits = c.wrapping_rem-rest.type_inv }; nonzero = c.if-y-eq0.false; rest = c.wrapping_rem-rest.ensures } in
    remainder_exact w64 c.args.x c.args.y c.wrapping_rem-rest.result h (exact_below w64 c.args.x c.args.y c.wrapping_rem-rest.result h c.if-y-lt0.true c.if-rest-gt0.false)

pub returns-then-rest-lt0 : goal.returns-then-rest-lt0
returns-then-rest-lt0 c =
    let h : Rest w64 c.args.x c.args.y c.wrapping_rem-rest.result = record { left = c.ranges.x; right = c.ranges.y; fits = record { sfits = c.wrapping_rem-rest.type_inv }; nonzero = c.if-y-eq0.false; rest = c.wrapping_rem-rest.ensures } in
    remainder_less w64 c.args.x c.args.y c.wrapping_rem-rest.result h (less_above w64 c.args.x c.args.y c.wrapping_rem-rest.result h c.if-y-lt0.false c.if-rest-lt0.true)

pub returns-else-rest-lt0 : goal.returns-else-rest-lt0
returns-else-rest-lt0 c =
    let h : Rest w64 c.args.x c.args.y c.wrapping_rem-rest.result = record { left = c.ranges.x; right = c.ranges.y; fits = record { sfits = c.wrapping_rem-rest.type_inv }; nonzero = c.if-y-eq0.false; rest = c.wrapping_rem-rest.ensures } in
    remainder_exact w64 c.args.x c.args.y c.wrapping_rem-rest.result h (exact_above w64 c.args.x c.args.y c.wrapping_rem-rest.result h c.if-y-lt0.false c.if-rest-lt0.false)
