use Rattle.std.proofs.Common.{◌≡◌, true, ◌&&◌, pos, ◌-ℤ◌, ◌<ℤ◌, ◌∙◌, sym, arith}
use Rattle.std.specs.Prelude.{unsigned_abs}
use Rattle.std.proofs.lemmas.Int.{ints}
use mir.Val.{to_z, of_z}
use mir.Syntax.{w128}
use Rattle.lg_promote.specs.Literals.{is_number}
use Rattle.lg_operations.specs.Ruling.{ruled_new}
use Rattle.lg_operations.proofs.Lendings.{kept}
use Rattle.lg_operations.proofs.Literals.{counted_row, lt_true}
use Rattle.lg_operations.proofs.written.counted_in.Goals as goal

pub returns-clause-rule : goal.returns-clause-rule
returns-clause-rule c =
    let first : c.args.from ≡ to_z w128 (of_z w128 c.args.from) = sym (kept c.args.from c.requires.first) in
    let second : c.args.to ≡ to_z w128 (of_z w128 c.args.to) = sym (kept c.args.to c.requires.second) in
    let below : c.args.from <ℤ c.args.to = omega (arith, ints) in
    let order = lt_true c.args.from c.args.to below in
    let have : (is_number c.args.t c.args.from && is_number c.args.t (c.args.to -ℤ pos 1)) ≡ true =
    (λ i. is_number c.args.t (first i) && is_number c.args.t (second i -ℤ pos 1)) ∙ sym c.have_both.ensures ∙ c.if-not-have_both.false in
    let size : c.count.result ≡ unsigned_abs (c.args.to -ℤ c.args.from) = c.count.ensures ∙ (λ i. unsigned_abs (sym second i -ℤ sym first i)) in
    counted_row c.args.from c.args.to c.args.t (ruled_new c.row-2.result) c.count.result order have size c.row-2.ensures.rule
