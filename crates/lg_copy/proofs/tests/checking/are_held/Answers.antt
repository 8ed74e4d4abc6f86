use Rattle.std.proofs.Common.{true, sym, ap, ◌∙◌, subst, inl, inr, refl, arith}
use Rattle.std.specs.Bool.{IsTrue}
use Rattle.lg_space.specs.Rectangle.{IsIn}
use Rattle.lg_space.proofs.Places.{place-below}
use Rattle.lg_tile.specs.Tiles.{rect_of}
use Rattle.lg_xform.specs.Chains.{mapped}
use Rattle.lg_copy.proofs.Checks.{up_to}
use Rattle.lg_copy.proofs.Shares.{part_rect}
use Rattle.lg_copy.proofs.tests.checking.are_held.Goals as goal

pub loop-k-preserved : goal.loop-k-preserved
loop-k-preserved c = λ index inside few.
    let yes : IsTrue true = refl in
    elim (up_to c.args.rect.now index c.unravel.result c.loop-k.k inside c.unravel.ensures.inside c.unravel.ensures.value few) [
      | inl before ↦ c.loop-k.invariant index inside before
      | inr same ↦
          (let held = c.if-not-is_held.ensures yes in
          (held.0, held.1, held.2, subst (IsIn (rect_of held.1)) (c.map_point.ensures.value ∙ ap (mapped c.args.chain.now) (sym same)) held.3))
    ]

pub returns : goal.returns
returns c = λ yes at leads.
    let parts = c.args.parts.now in
    let held = c.loop-k.invariant leads.0 leads.1 (omega (arith, place-below c.args.rect.now leads.0 leads.1, c.volume-k-end.ensures.value, c.loop-k-test.false)) in
    (held.0, rect_of held.1, part_rect parts held.0 held.1 held.2, subst (IsIn (rect_of held.1)) leads.2 held.3)
