use Rattle.std.proofs.Common.{◌≡◌, ◌%◌, ◌==◌, ◌&&◌, true, not, rules, sym, ap, ◌∙◌}
use Rattle.lg_operations.proofs.Reshapings.{test_none, test_one, unequal}
use Rattle.lg_operations.proofs.reshaping.is_reshape.Goals as goal

pub returns-in-0 : goal.returns-in-0
returns-in-0 c =
    let bounded : c.are_bounded.result ≡ true = search rules in
    test_none c.args.count c.args.written.now c.if-written-gt-MAX_AXES.false (sym c.are_bounded.ensures ∙ bounded) c.known_size-known.result c.requires
    (sym c.count_open.ensures.value ∙ c.in-0.is) c.known_size-known.ensures

pub returns-then-known-ne0 : goal.returns-then-known-ne0
returns-then-known-ne0 c =
    let bounded : c.are_bounded.result ≡ true = search rules in
    let known = c.known_size-known.result in
    sym (ap (λ b. not b && (c.args.count % known) == 0) (unequal known 0 c.if-known-ne0.true))
    ∙ test_one c.args.count c.args.written.now c.if-written-gt-MAX_AXES.false (sym c.are_bounded.ensures ∙ bounded) known c.requires
    (sym c.count_open.ensures.value ∙ c.in-1.is) c.known_size-known.ensures
