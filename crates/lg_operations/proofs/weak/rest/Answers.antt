use Rattle.std.proofs.Common.{rules, ◌≡◌, neg_ℤ, pos, ◌<ℤ◌, arith, sym, ◌∙◌}
use Rattle.std.proofs.lemmas.Int.{ints}
use Rattle.std.specs.Int.{int_rem_euclid}
use Rattle.lg_operations.proofs.WeakLemmas.{rest_under}
use Rattle.lg_operations.proofs.weak.rest.Goals as goal

pub returns-then-y-lt0 : goal.returns-then-y-lt0
returns-then-y-lt0 c =
    let below : c.args.y <ℤ pos 0 = omega (arith, ints) in
    let value : c.rem_euclid.result ≡ int_rem_euclid (neg_ℤ c.args.x) (neg_ℤ c.args.y) = search rules in
    let small = c.rem_euclid.type_inv in
    omega (arith, ints, value) ∙ sym (rest_under c.args.x c.args.y below)
