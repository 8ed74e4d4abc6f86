use Rattle.std.proofs.Common.{◌≡◌, rules, sym, ap, ◌∙◌, inl, inr, arith}
use Rattle.lg_space.specs.Rectangle.{place_in}
use Rattle.lg_space.proofs.Places.{place-below}
use Rattle.lg_xform.specs.Chains.{mapped}
use Rattle.lg_copy.proofs.Checks.{up_to, neither_before}
use Rattle.lg_instance.proofs.tests.checking.repeats_none.Goals as goal

pub loop-k-preserved : goal.loop-k-preserved
loop-k-preserved c = λ b inside few same.
    let differ : c.map_point.result ≡ c.map_point-at.result → ⊥ = λ e. search rules in
    elim (up_to c.args.rect.now b c.unravel-in-loop-k.result c.loop-k.k inside c.unravel-in-loop-k.ensures.inside c.unravel-in-loop-k.ensures.value few) [
      | inl before ↦ c.loop-k.invariant b inside before same
      | inr is ↦ differ (c.map_point.ensures.value ∙ ap (mapped c.args.chain.now) (sym is) ∙ same)
    ]

pub loop-j-preserved : goal.loop-j-preserved
loop-j-preserved c = λ a b in_a in_b few before same.
    elim (up_to c.args.rect.now a c.unravel.result c.loop-j.j in_a c.unravel.ensures.inside c.unravel.ensures.value few) [
      | inl earlier ↦ c.loop-j.invariant a b in_a in_b earlier before same
      | inr is ↦
          (let at : place_in c.args.rect.now a ≡ c.loop-j.j = ap (place_in c.args.rect.now) is ∙ c.unravel.ensures.value in
          c.loop-k.invariant b in_b (omega (arith, at, before, c.loop-k-test.false))
          (sym same ∙ ap (mapped c.args.chain.now) is ∙ sym c.map_point-at.ensures.value))
    ]

pub returns : goal.returns
returns c = λ yes a b in_a in_b same.
    neither_before c.args.rect.now a b in_a in_b
    (λ before. c.loop-j.invariant b a in_b in_a (omega (arith, place-below c.args.rect.now b in_b, c.volume-j-end.ensures.value, c.loop-j-test.false)) before (sym same))
    (λ before. c.loop-j.invariant a b in_a in_b (omega (arith, place-below c.args.rect.now a in_a, c.volume-j-end.ensures.value, c.loop-j-test.false)) before same)
