use Rattle.std.proofs.Common.{true, sym, ap, ◌∙◌, subst, inl, inr, refl, arith}
use Rattle.std.specs.Bool.{IsTrue}
use Rattle.lg_space.specs.Rectangle.{IsIn}
use Rattle.lg_space.proofs.Places.{place-below}
use Rattle.lg_xform.specs.Chains.{mapped}
use Rattle.lg_copy.proofs.Checks.{up_to}
use Rattle.lg_copy.proofs.tests.checking.leads_into.Goals as goal

pub loop-k-preserved : goal.loop-k-preserved
loop-k-preserved c = λ index inside few.
    let yes : IsTrue true = refl in
    elim (up_to c.args.rect.now index c.unravel.result c.loop-k.k inside c.unravel.ensures.inside c.unravel.ensures.value few) [
      | inl before ↦ c.loop-k.invariant index inside before
      | inr same ↦
          subst (IsIn c.args.tile.now) (c.map_point.ensures.value ∙ ap (mapped c.args.chain.now) (sym same)) (c.if-not-contains.ensures.0 yes)
    ]

pub returns : goal.returns
returns c = λ yes. record {
  within = c.requires;
  inside = λ index inside. c.loop-k.invariant index inside (omega (arith, place-below c.args.rect.now index inside, c.volume-k-end.ensures.value, c.loop-k-test.false));
}
