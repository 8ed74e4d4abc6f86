use Rattle.std.proofs.Common.{◌≡◌, true, false, ◌==◌, ◌||◌, refl, ◌∙◌, sym, ap, rules}
use Rattle.std.specs.Prelude.{unsigned_abs}
use mir.Val.{to_z, of_z}
use mir.Syntax.{w128}
use Rattle.lg_session.proofs.Repeatings.{repeats_last}
use Rattle.lg_session.proofs.repeating.+repeats.Goals as goal

pub returns-then-repeats_axis : goal.returns-then-repeats_axis
returns-then-repeats_axis t c =
    let b = c.in-Some-Some in
    let same : to_z w128 (of_z w128 b.extent.now) ≡ b.extent.now = search rules in
    repeats_last c.args.shape.now b.shape.now b.own.now c.args.written.now b.written.now b.extent.now true c.repeats.result b.ensures.cases.0 b.ensures'.cases.0
    (sym c.if-repeats_axis.true ∙ c.repeats_axis.ensures ∙ ap (λ x. b.own.now == 1 || b.own.now == unsigned_abs x) same) c.repeats.ensures

pub returns-else-repeats_axis : goal.returns-else-repeats_axis
returns-else-repeats_axis t c =
    let b = c.in-Some-Some in
    let same : to_z w128 (of_z w128 b.extent.now) ≡ b.extent.now = search rules in
    c.if-repeats_axis.false ∙ repeats_last c.args.shape.now b.shape.now b.own.now c.args.written.now b.written.now b.extent.now false _ b.ensures.cases.0 b.ensures'.cases.0
    (sym c.if-repeats_axis.false ∙ c.repeats_axis.ensures ∙ ap (λ x. b.own.now == 1 || b.own.now == unsigned_abs x) same) refl
