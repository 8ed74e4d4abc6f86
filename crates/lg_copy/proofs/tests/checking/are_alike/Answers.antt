use Rattle.std.proofs.Common.{◌≡◌, Some, slice_get, get_or, rules, sym, ap, ◌∙◌, inl, inr, arith}
use Rattle.std.proofs.lemmas.Bool.{cases_eq}
use Rattle.std.proofs.lemmas.Option.{slice_get-get_or, slice_get_within, same_Some}
use Rattle.lg_tile.specs.Tiles.{dtype_of}
use Rattle.lg_copy.proofs.tests.checking.are_alike.Goals as goal

pub loop-part-preserved : goal.loop-part-preserved
loop-part-preserved c = λ k part first few at there.
    let parts = c.args.parts.now in
    let item = c.part-item.result in
    let head = c.index-parts-0.result in
    let here : slice_get parts c.loop-part.part-index ≡ Some item = slice_get-get_or parts c.loop-part.part-index item c.loop-part-test.true ∙ ap Some (sym c.part-item.is) in
    let some : slice_get parts 0 ≡ Some head = slice_get-get_or parts 0 head (omega (arith, c.loop-part-test.true)) ∙ ap Some (sym c.index-parts-0.is) in
    let same : c.dtype.result ≡ c.dtype-in-loop-part.result = search rules in
    elim (cases_eq k c.loop-part.part-index) [
      | inl e ↦
          ap dtype_of (same_Some part item (sym at ∙ ap (slice_get parts) e ∙ here)) ∙ sym c.dtype.ensures ∙ same ∙ c.dtype-in-loop-part.ensures
          ∙ ap dtype_of (same_Some head first (sym some ∙ there))
      | inr ne ↦ c.loop-part.invariant k part first (omega (arith, few)) at there
    ]

pub returns : goal.returns
returns c = λ yes j k a b at there.
    let parts = c.args.parts.now in
    let lt_j = slice_get_within parts j a at in
    let lt_k = slice_get_within parts k b there in
    let first = get_or parts 0 a in
    let some : slice_get parts 0 ≡ Some first = slice_get-get_or parts 0 a (omega (arith, lt_j)) in
    c.loop-part.invariant j a first (omega (arith, lt_j, c.loop-part-test.false)) at some
    ∙ sym (c.loop-part.invariant k b first (omega (arith, lt_k, c.loop-part-test.false)) there some)
