use Rattle.std.proofs.Common.{◌≡◌, Some, map, slice_get, sym, ap, ◌∙◌, subst, inl, inr, arith}
use Rattle.std.proofs.lemmas.Bool.{cases_eq}
use Rattle.std.proofs.lemmas.List.{length-map}
use Rattle.std.proofs.lemmas.Option.{slice_get-get_or, same_Some}
use Rattle.lg_space.specs.Rectangle.{IsIn}
use Rattle.lg_tile.specs.Tiles.{rect_of}
use Rattle.lg_copy.proofs.Checks.{apart}
use Rattle.lg_copy.proofs.Shares.{part_rect}
use Rattle.lg_copy.proofs.tests.checking.are_apart.Goals as goal

pub loop-k-preserved : goal.loop-k-preserved
loop-k-preserved c = λ k a b index few at there in_a in_b.
    let parts = c.args.parts.now in
    let first = c.index-parts-j.result in
    let second = c.index-parts-k.result in
    let j_at : slice_get parts c.loop-j.j ≡ Some first = slice_get-get_or parts c.loop-j.j first c.loop-j-test.true ∙ ap Some (sym c.index-parts-j.is) in
    let k_at : slice_get parts c.loop-k.k ≡ Some second =
    slice_get-get_or parts c.loop-k.k second (omega (arith, c.loop-j-test.true, c.loop-k-test.true)) ∙ ap Some (sym c.index-parts-k.is) in
    elim (cases_eq k c.loop-k.k) [
      | inl e ↦
          (let is_a = same_Some a (rect_of first) (sym at ∙ part_rect parts c.loop-j.j first j_at) ∙ sym c.rect.ensures.value in
          let is_b = same_Some b (rect_of second) (sym there ∙ ap (slice_get (map rect_of parts)) e ∙ part_rect parts c.loop-k.k second k_at) ∙ sym c.rect-in-loop-k.ensures.value in
          c.meet.ensures c.if-meet.false index (subst (λ r. IsIn r index) is_a in_a) (subst (λ r. IsIn r index) is_b in_b))
      | inr ne ↦ c.loop-k.invariant k a b index (omega (arith, few)) at there in_a in_b
    ]

pub loop-j-preserved : goal.loop-j-preserved
loop-j-preserved c = λ j k a b index few before at there in_a in_b.
    elim (cases_eq j c.loop-j.j) [
      | inl e ↦
          c.loop-k.invariant k a b index (omega (arith, e, before, c.loop-k-test.false)) (ap (slice_get (map rect_of c.args.parts.now)) (sym e) ∙ at) there in_a in_b
      | inr ne ↦ c.loop-j.invariant j k a b index (omega (arith, few)) before at there in_a in_b
    ]

pub returns : goal.returns
returns c = λ yes.
    apart (map rect_of c.args.parts.now) c.loop-j.j (omega (arith, c.loop-j-test.false, length-map c.args.parts.now rect_of)) c.loop-j.invariant
